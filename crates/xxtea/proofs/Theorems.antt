-- All that is proved of the cipher's definitions.
use Rattle.xxtea.specs.Theorems.{Theorems}
use Rattle.xxtea.proofs.Laws.{sum_is_product}
use Rattle.xxtea.proofs.Inverse.{each_undoes_the_other, refused_unchanged}
use Rattle.xxtea.proofs.Block.{block_cipher}
use Rattle.xxtea.proofs.Numbers.{numbers}

pub theorems : Theorems
theorems =
    record {
      each_undoes_the_other = each_undoes_the_other;
      refused_unchanged = refused_unchanged;
      sum_is_product = sum_is_product;
      block_cipher = block_cipher;
      numbers = numbers;
    }
