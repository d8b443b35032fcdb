-- An answer and a stop are told by their numbers: each can be read back. Assumes nothing.
use Rattle.std.specs.Prelude.{Ok, Err}
use Prim.Native.Nat.{ℕ}
use mathlib.Core.Path.{◌≡◌, refl, sym, ap, ◌∙◌}
use mathlib.Core.Bool.{cond}
use mathlib.Core.List.{List, [], ◌∷◌}
use lib.ListN.{get_or}
use lib.Dec.{eqb}
use Rattle.rules.specs.declared.Refusal.TheVariants.{Unsound, Count, Outside, NeverTaken, Malformed, Forbidden, OtherPin, OtherName, BadRegister, FlagUsed, WrongResponse, NotNext, BadEdit, OtherModel, Unreadable, Repeated, BadInsertion}
use Rattle.rules.specs.declared.Stop.{Stop}
use Rattle.rules.specs.declared.Stop.TheVariants.{End, BadCommand, OutputFull}
use Rattle.rules.specs.Answers.{Answer, refusal_of, stop_number, code_of}
use Rattle.rules.specs.Claims.{AnswersTold}

-- the answers in the order of their numbers; 16 and 17 are none of them
answers : List Answer
answers =
    Ok tt
    ∷ Err Unsound
    ∷ Err Count
    ∷ Err Outside
    ∷ Err NeverTaken
    ∷ Err Malformed
    ∷ Err Forbidden
    ∷ Err OtherPin
    ∷ Err OtherName
    ∷ Err BadRegister
    ∷ Err FlagUsed
    ∷ Err WrongResponse
    ∷ Err NotNext
    ∷ Err BadEdit
    ∷ Err OtherModel
    ∷ Err Unreadable
    ∷ Ok tt
    ∷ Ok tt
    ∷ Err Repeated
    ∷ Err BadInsertion
    ∷ []

read_back : (a : Answer) → get_or answers (code_of (refusal_of a)) (Ok tt) ≡ a
unfolding answers
read_back (Ok tt) = refl
read_back (Err Unsound) = refl
read_back (Err Count) = refl
read_back (Err Outside) = refl
read_back (Err NeverTaken) = refl
read_back (Err Malformed) = refl
read_back (Err Forbidden) = refl
read_back (Err OtherPin) = refl
read_back (Err OtherName) = refl
read_back (Err BadRegister) = refl
read_back (Err FlagUsed) = refl
read_back (Err WrongResponse) = refl
read_back (Err NotNext) = refl
read_back (Err BadEdit) = refl
read_back (Err OtherModel) = refl
read_back (Err Unreadable) = refl
read_back (Err Repeated) = refl
read_back (Err BadInsertion) = refl

stop_by : ℕ → Stop
stop_by n = cond (eqb n 0) End (cond (eqb n 15) BadCommand OutputFull)

stop_back : (x : Stop) → stop_by (code_of (stop_number x)) ≡ x
unfolding stop_by
stop_back End = refl
stop_back BadCommand = refl
stop_back OutputFull = refl

code_told : (a b : Answer) → code_of (refusal_of a) ≡ code_of (refusal_of b) → a ≡ b
code_told a b e = sym (read_back a) ∙ ap (λ n. get_or answers n (Ok tt)) e ∙ read_back b

stop_code_told : (a b : Stop) → code_of (stop_number a) ≡ code_of (stop_number b) → a ≡ b
stop_code_told a b e = sym (stop_back a) ∙ ap stop_by e ∙ stop_back b

pub answers_told : AnswersTold
answers_told =
    record {
      answer_told = λ a b e. code_told a b (ap code_of e);
      stop_told = λ a b e. stop_code_told a b (ap code_of e);
      code_told = code_told;
      stop_code_told = stop_code_told;
    }
