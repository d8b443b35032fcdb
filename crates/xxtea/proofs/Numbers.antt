-- The numbers and the vectors, computed.
use Rattle.std.proofs.Common.{refl}
use Rattle.xxtea.specs.Xxtea.{rounds_for, sum_in, mix, mix_at, step, pass, round, crypted}
use Rattle.xxtea.specs.Block.{words_of, bytes_of, block_by}
use Rattle.xxtea.specs.Numbers.{vectors, response, Numbers}

pub numbers : Numbers
unfolding rounds_for sum_in mix mix_at step pass round crypted words_of bytes_of block_by vectors response
numbers = record { lengths = refl; rounds = refl; first_sum = refl; published = refl; block = refl }
