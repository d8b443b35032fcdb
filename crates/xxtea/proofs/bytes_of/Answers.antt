-- `xxtea::bytes_of` meets its contract: byte i is byte i % 4 of word i / 4. Assumes nothing.
use Rattle.std.proofs.Common.{rules, arith, ap, List, ◌≡◌, ℕ, ◌/◌, ◌%◌, ◌<◌, [], ◌∙◌, get_or, w32}
use Rattle.std.proofs.lemmas.List.FromFn.{fill_by_all}
use Rattle.std.specs.Int.{to_le_bytes}
use Rattle.xxtea.proofs.Block.{bytes_made}
use Rattle.xxtea.proofs.bytes_of.Goals as goal

pub returns : goal.returns
returns c =
    let ws = c.args.words in
    let parts : (i : ℕ) → i < 4 → get_or c.map-parts.result i [] ≡ to_le_bytes w32 (get_or ws i 0) = λ i h. search rules in
    let each : (i : ℕ) → i < 16 → get_or c.from_fn.result i 0 ≡ get_or (get_or c.map-parts.result (i / 4) []) (i % 4) 0 = λ i h. search rules in
    fill_by_all _ c.from_fn.result 16 0 c.from_fn.ensures.items.long
    (λ i h. each i h ∙ ap (λ (bytes : List ℕ). get_or bytes (i % 4) 0) (parts (i / 4) (omega arith)))
    ∙ bytes_made ws (search rules)
