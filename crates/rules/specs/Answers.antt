-- Document 01, "Refusal numbers": the number of each case of the declared answers. Assumes nothing.
use Rattle.std.specs.Prelude.{ℕ, Option, None, Some, Result, Ok, Err}
use Rattle.rules.specs.declared.Refusal.{Refusal}
use Rattle.rules.specs.declared.Refusal.TheVariants.{Unsound, Count, Outside, NeverTaken, Malformed, Forbidden, OtherPin, OtherName, BadRegister, FlagUsed, WrongResponse, NotNext, BadEdit, OtherModel, Unreadable, Repeated, BadInsertion}
use Rattle.rules.specs.declared.Stop.{Stop}
use Rattle.rules.specs.declared.Stop.TheVariants.{End, BadCommand, OutputFull}

abbrev pub number_of : Refusal → ℕ
number_of Unsound = 1
number_of Count = 2
number_of Outside = 3
number_of NeverTaken = 4
number_of Malformed = 5
number_of Forbidden = 6
number_of OtherPin = 7
number_of OtherName = 8
number_of BadRegister = 9
number_of FlagUsed = 10
number_of WrongResponse = 11
number_of NotNext = 12
number_of BadEdit = 13
number_of OtherModel = 14
number_of Unreadable = 15
number_of Repeated = 18
number_of BadInsertion = 19

-- what a command answers, as it is declared
abbrev pub Answer : Type 0
Answer = Result (Unit {0}) Refusal

-- the number of the refusal, where a function refuses: an answer is one case, and a grant may hand back a value
abbrev pub refusal_of : {A : Type 0} → Result A Refusal → Option ℕ
refusal_of (Ok x) = None
refusal_of (Err r) = Some (number_of r)

-- "the stop (end, 15, 16)"
abbrev pub stop_number : Stop → Option ℕ
stop_number End = None
stop_number BadCommand = Some 15
stop_number OutputFull = Some 16

-- a refusal or a stop as C sees it: its number, and 0 where there is none
abbrev pub code_of : Option ℕ → ℕ
code_of None = 0
code_of (Some n) = n
