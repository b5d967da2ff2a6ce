-- The numbers of what the code answers.
--   number_of refusal   the specification's number of a refusal
--   refused answer      0 where the answer is accepted, else its refusal's number
--   counted answer      the number that comes with an accepted answer, a count or a value; 0 where it is refused
use Rattle.std.specs.Prelude.{ℕ, Result, Ok, Err}
use Rattle.refusals.specs.declared.Refusal.{Refusal}
use Rattle.refusals.specs.declared.Refusal.TheVariants.{WrongLength, UnknownKind, NotZero, LateChild, NoSuchAtom, WrongSort, NotATree, WrongSize, WrongCell, NoRoom, StarStands, StarTurns, WrongRules, TooLong, NoSign, NotTheForm}

abbrev pub number_of : Refusal → ℕ
number_of WrongLength = 1
number_of UnknownKind = 2
number_of NotZero = 3
number_of LateChild = 4
number_of NoSuchAtom = 5
number_of WrongSort = 6
number_of NotATree = 7
number_of WrongSize = 8
number_of WrongCell = 9
number_of NoRoom = 10
number_of StarStands = 11
number_of StarTurns = 12
number_of WrongRules = 13
number_of TooLong = 14
number_of NoSign = 18
number_of NotTheForm = 19

abbrev pub refused : {A : Type 0} → Result A Refusal → ℕ
refused (Ok value) = 0
refused (Err refusal) = number_of refusal

abbrev pub counted : Result ℕ Refusal → ℕ
counted (Ok count) = count
counted (Err refusal) = 0
