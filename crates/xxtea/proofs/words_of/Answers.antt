-- `xxtea::words_of` meets its contract: word i is that of chunk i. Assumes nothing.
use Rattle.std.proofs.Common.{rules, ◌≡◌, ℕ, ◌<◌, [], ◌∙◌, get_or, w32}
use Rattle.std.proofs.lemmas.List.FromFn.{fill_by_all}
use Rattle.std.specs.Int.{from_le_bytes}
use Rattle.std.specs.Simd.{first_chunks}
use Rattle.xxtea.proofs.Block.{words_made}
use Rattle.xxtea.proofs.words_of.Goals as goal

pub returns : goal.returns
returns c =
    let chunks = c.as_chunks.result.0.now in
    let each : (i : ℕ) → i < 4 → get_or c.from_fn.result i 0 ≡ from_le_bytes w32 (get_or chunks i []) = λ i h. search rules in
    let front : chunks ≡ first_chunks 4 4 c.args.bytes = search rules in
    fill_by_all _ c.from_fn.result 4 0 c.from_fn.ensures.items.long each ∙ words_made c.args.bytes (search rules) chunks front
