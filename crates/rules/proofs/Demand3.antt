-- Demand 3, proved: for every cipher and every state with a sound tag.
use mathlib.Core.Path.{◌≡◌, refl}
use mathlib.Core.Bool.{true}
use Rattle.rules.specs.Map.{sound}
use Rattle.rules.specs.State.{Cipher, State}
use Rattle.rules.specs.Demand3.{Demand3}
use Rattle.rules.proofs.Counting.{counting_holds, final-sound}
use Rattle.rules.proofs.Copies.{copies_hold}
use Rattle.rules.proofs.Exchange.{neighbours_hold}

pub demand_3 : (E : Cipher) (s : State) → sound s.tag ≡ true → Demand3 E s
demand_3 E s w =
    record {
      counting = λ cs k j lc l. counting_holds E s cs k j _ w lc l refl;
      copies = λ es h. copies_hold E s es w h;
      neighbours = λ before c d later h. neighbours_hold E s before c d later (final-sound E s before w) h;
    }
