-- Answers and their numbers: no refusal has the number 0, and a number tells the answer.
use Rattle.std.proofs.Common.{◌≡◌, ℕ, ◌<◌, List, [], ◌∷◌, get_or, refl, ap, sym, ◌∙◌, arith, Result, Ok, Err}
use Rattle.refusals.specs.declared.Refusal.{Refusal}
use Rattle.refusals.specs.declared.Refusal.TheVariants.{WrongLength, UnknownKind, NotZero, LateChild, NoSuchAtom, WrongSort, NotATree, WrongSize, WrongCell, NoRoom, StarStands, StarTurns, WrongRules, TooLong, NoSign, NotTheForm}
use Rattle.refusals.specs.Refused.{number_of, refused, counted}

pub positive : (r : Refusal) → 0 < number_of r
positive WrongLength = omega arith
positive UnknownKind = omega arith
positive NotZero = omega arith
positive LateChild = omega arith
positive NoSuchAtom = omega arith
positive WrongSort = omega arith
positive NotATree = omega arith
positive WrongSize = omega arith
positive WrongCell = omega arith
positive NoRoom = omega arith
positive StarStands = omega arith
positive StarTurns = omega arith
positive WrongRules = omega arith
positive TooLong = omega arith
positive NoSign = omega arith
positive NotTheForm = omega arith

-- ---- a number tells the refusal
numbered : List Refusal
numbered =
    NotTheForm ∷ WrongLength ∷ UnknownKind ∷ NotZero ∷ LateChild ∷ NoSuchAtom ∷ WrongSort ∷ NotATree ∷ WrongSize ∷ WrongCell ∷ NoRoom
    ∷ StarStands ∷ StarTurns ∷ WrongRules ∷ TooLong ∷ NotTheForm ∷ NotTheForm ∷ NotTheForm ∷ NoSign ∷ []

back_again : (r : Refusal) → get_or numbered (number_of r) NotTheForm ≡ r
unfolding numbered
back_again WrongLength = refl
back_again UnknownKind = refl
back_again NotZero = refl
back_again LateChild = refl
back_again NoSuchAtom = refl
back_again WrongSort = refl
back_again NotATree = refl
back_again WrongSize = refl
back_again WrongCell = refl
back_again NoRoom = refl
back_again StarStands = refl
back_again StarTurns = refl
back_again WrongRules = refl
back_again TooLong = refl
back_again NoSign = refl
back_again NotTheForm = refl

pub one_number : (r q : Refusal) → number_of r ≡ number_of q → r ≡ q
one_number r q e = sym (back_again r) ∙ ap (λ n. get_or numbered n NotTheForm) e ∙ back_again q

-- Answers with nothing but a refusal, and answers with a count.
pub one_answer : (x y : Result Unit Refusal) → refused x ≡ refused y → x ≡ y
one_answer (Ok x) (Ok y) e = refl
one_answer (Ok x) (Err q) e = let p = positive q in absurd (omega arith)
one_answer (Err r) (Ok y) e = let p = positive r in absurd (omega arith)
one_answer (Err r) (Err q) e = ap Err (one_number r q e)

pub one_count : (x y : Result ℕ Refusal) → refused x ≡ refused y → counted x ≡ counted y → x ≡ y
one_count (Ok m) (Ok n) e f = ap Ok f
one_count (Ok m) (Err q) e f = let p = positive q in absurd (omega arith)
one_count (Err r) (Ok n) e f = let p = positive r in absurd (omega arith)
one_count (Err r) (Err q) e f = ap Err (one_number r q e)
