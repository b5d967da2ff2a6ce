-- An error that is passed on keeps its number, and two answers with the same four numbers are one.
use Rattle.std.proofs.Common.{◌≡◌, ℕ, List, refl, ap, ◌∙◌, arith, Option, Some, None, Result, Ok, Err}
use Rattle.std.specs.Result.{IsErrAnd}
use Rattle.std.proofs.lemmas.Result.{err_from_is_err_and}
use borrow.Author.Tests.{ne_eqb}
use Rattle.meaning.specs.Run.{cell_of}
use Rattle.meaning.specs.Judge.{verdict}
use Rattle.meaning.specs.Refusal.{first_of, judge_grounds}
use Rattle.meaning.specs.Service.{Judged, judged, judgment, judge_answer}
use Rattle.refusals.specs.declared.Refusal.{Refusal}
use Rattle.refusals.specs.Refused.{number_of, refused}
use Rattle.refusals.proofs.Answered.{positive, one_number}
use Rattle.judge.specs.declared.Failure.{Failure}
use Rattle.judge.specs.Found.{verdict_of, holds_of, rule_of, instant_of}

pub passed_on : {A : Type 0} (answer : Result A Refusal) (refusal : Refusal) → IsErrAnd answer (λ e. e ≡ refusal) → refused answer ≡ number_of refusal
passed_on answer refusal h = let (e, r, q) = err_from_is_err_and answer h in rw (r, q)

-- ---- an answer's four numbers are the specification's
abbrev numbers : Result (Option Failure) Refusal → Judged
numbers answer = judged (refused answer) (holds_of answer) (rule_of answer) (instant_of answer)

module _ (ws : List ℕ) (W L : ℕ) (cells : List ℕ) where
  pub tells_refusal : (answer : Result (Option Failure) Refusal) (refusal : Refusal) → IsErrAnd answer (λ e. e ≡ refusal)
      → number_of refusal ≡ first_of (judge_grounds ws W L cells) → numbers answer ≡ judge_answer ws W L cells
  unfolding judge_answer
  tells_refusal answer refusal h n =
      let (e, r, q) = err_from_is_err_and answer h in
      rw (r, q, ← n, ne_eqb (number_of refusal) 0 (λ z. omega (arith, positive refusal))) refl

  pub tells_found : (found : Option Failure) → 0 ≡ first_of (judge_grounds ws W L cells)
      → verdict_of found ≡ verdict ws L (cell_of W cells) → numbers (Ok found) ≡ judge_answer ws W L cells
  unfolding judge_answer judgment
  tells_found None n e = rw (← n, ← e) refl
  tells_found (Some failure) n e = rw (← n, ← e) refl

-- ---- one answer
abbrev failure : ℕ → ℕ → Failure
failure i k = record { rule = i; instant = k }

one_failure : (f g : Failure) → f.rule ≡ g.rule → f.instant ≡ g.instant → f ≡ g
one_failure f g e d = ap (λ i. failure i f.instant) e ∙ ap (failure g.rule) d

pub one_judgment : (x y : Result (Option Failure) Refusal) → refused x ≡ refused y → holds_of x ≡ holds_of y
    → rule_of x ≡ rule_of y → instant_of x ≡ instant_of y → x ≡ y
one_judgment (Ok None) (Ok None) r h i k = refl
one_judgment (Ok None) (Ok (Some g)) r h i k = absurd (omega arith)
one_judgment (Ok (Some f)) (Ok None) r h i k = absurd (omega arith)
one_judgment (Ok (Some f)) (Ok (Some g)) r h i k = ap (λ z. Ok (Some z)) (one_failure f g i k)
one_judgment (Ok v) (Err q) r h i k = let p = positive q in absurd (omega arith)
one_judgment (Err q) (Ok v) r h i k = let p = positive q in absurd (omega arith)
one_judgment (Err p) (Err q) r h i k = ap Err (one_number p q r)
