-- The text that is printed: the lines of the replies of each part of a run, one part behind another. Assumes nothing.
use Rattle.std.specs.Prelude.{ℕ, zero, suc, ◌-◌, ◌≤◌, ◌≡◌, ◌≢◌, cond, List, [], ◌++◌, length, drop, eqb, Some}
use Rattle.rules.specs.Bytes.{part}
use Rattle.rules.specs.Answers.{code_of}
use Rattle.rules.specs.State.{State}
use Rattle.rules.specs.Log.{run_log}
use Rattle.xxtea.specs.Block.{E}
use Rattle.reply_lines.specs.Lines.{lines_of}

-- of a run with this room, by the rules
abbrev pub text_over : State → (log : List ℕ) (room : ℕ) → List ℕ
text_over s log room = lines_of (run_log E s log room).output

-- the first n characters are the text of a part, which is run into a buffer of 4,096 bytes
pub record PartText (s : State) (log characters : List ℕ) (n : ℕ) : Type 0 where
  pub within : n ≤ length characters
  pub says : part 0 n characters ≡ text_over s log 4096

-- the texts of at most n parts: the next part begins where a 16 stopped the one before
unfoldable pub texts_over : (n : ℕ) → State → (log : List ℕ) → List ℕ
texts_over zero s log = []
texts_over (suc n) s log =
    let x = run_log E s log 4096 in
    text_over s log 4096 ++ cond (eqb (code_of x.stop) 16) (texts_over n x.state (drop x.taken log)) []

-- the text of a run is that of a first part and that of the rest; a run that no 16 stops has the same text with more
-- room; and the texts of the parts are together that of the whole run, in any room that no 16 stops it in
pub record TextInParts (s : State) : Type 0 where
  pub first_and_rest : (log : List ℕ) (room more : ℕ) → (run_log E s log room).stop ≡ Some 16 → room ≤ more
      → let x = run_log E s log room in
      text_over s log more
      ≡ text_over s log room ++ text_over x.state (drop x.taken log) (more - length x.output)
  pub enough : (log : List ℕ) (room more : ℕ) → (run_log E s log room).stop ≢ Some 16 → room ≤ more
      → text_over s log more ≡ text_over s log room
  pub together : (log : List ℕ) (room : ℕ) → (run_log E s log room).stop ≢ Some 16
      → texts_over (suc (length log)) s log ≡ text_over s log room
