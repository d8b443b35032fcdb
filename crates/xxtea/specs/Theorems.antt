-- All that is proved of the cipher's definitions, in one record; the claims themselves stand in Claims and Numbers.
-- That the code meets the definitions is said by the contracts in src/lib.rt. Assumes nothing.
use Rattle.xxtea.specs.Claims.{EachUndoesTheOther, RefusedUnchanged, SumIsProduct, BlockCipher}
use Rattle.xxtea.specs.Numbers.{Numbers}

pub record Theorems : Type 0 where
  -- demand 2, for every key and every list of words
  pub each_undoes_the_other : EachUndoesTheOther
  -- a refused length
  pub refused_unchanged : RefusedUnchanged
  -- the sum in each round
  pub sum_is_product : SumIsProduct
  -- blocks of 16 bytes
  pub block_cipher : BlockCipher
  -- document 01's numbers, and published vectors
  pub numbers : Numbers
