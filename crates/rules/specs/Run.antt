-- A list of commands: document 01, "How tight the answers are": "carried out one after another". Assumes nothing.
use Rattle.std.specs.Prelude.{List, [], ◌∷◌}
use Rattle.rules.specs.State.{Cipher, State}
use Rattle.rules.specs.Command.{Command, after, Reply, reply}

-- the state after the list
unfoldable pub final : Cipher → State → List Command → State
final E s [] = s
final E s (c ∷ cs) = final E (after E s c) cs

-- the answers, in order
unfoldable pub replies : Cipher → State → List Command → List Reply
replies E s [] = []
replies E s (c ∷ cs) = reply E s c ∷ replies E (after E s c) cs
