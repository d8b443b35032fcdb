-- `round_trip::round_trips` meets its contract, by the two halves of the theorem. Assumes nothing.
use Rattle.std.proofs.Common.{ap, ◌∙◌, arith}
use Rattle.xxtea.proofs.Inverse.{each_undoes_the_other}
use Rattle.xxtea.specs.Claims.{Words}
use Rattle.xxtea.specs.Xxtea.{enciphered, deciphered}
use Rattle.round_trip.proofs.round_trips.Goals as goal

pub returns : goal.returns
returns c =
    let a = c.args in
    let ws = a.words.now in
    let words : Words ws = λ i l. grind arith in
    let there_and_back =
    c.decipher.ensures.words
    ∙ ap (deciphered a.first) c.encipher.ensures.words
    ∙ each_undoes_the_other.deciphering a.first ws words in
    c.encipher-2.ensures.words
    ∙ ap (enciphered a.second) (c.decipher-2.ensures.words ∙ ap (deciphered a.second) there_and_back)
    ∙ each_undoes_the_other.enciphering a.second ws words
