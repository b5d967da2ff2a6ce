-- The words of a rule. Row k of the cells ends before row k + 1 begins, so a symbol below 2 + W has its cell in the trace.
-- Of a rule in form, each literal's symbol is below 2 + W.
-- At an instant of its place a rule fails where its body is worth more than its head.
use Prim.Native.Nat.{ℕ, zero, suc, ◌+◌, ◌*◌, ◌-◌, ◌<◌, ◌≤◌, min}
use mathlib.Core.Path.{◌≡◌, refl, ap}
use mathlib.Core.Bool.{Bool, true, false, not}
use mathlib.Core.List.{List}
use mathlib.Core.Logic.{◌↔◌}
use native.Mathlib.Nat.{mul-suc, mul-le-mul_left}
use native.Mathlib.Omega.{arith}
use lib.ListN.{get_or}
use borrow.Author.Tests.{lt-ltb}
use Rattle.std.specs.Result.{IsOk}
use Rattle.std.proofs.Common.{Result, Ok, Err, MatchResult}
use Rattle.meaning.specs.Run.{cell_of}
use Rattle.meaning.specs.Rule.{Rule, symbol_of, symbol_value, literal, body_value, head_value, holds}
use Rattle.meaning.specs.Refusal.{bad_literal, bad_rule}
use Rattle.meaning.proofs.Fails.{tests}
use Rattle.meaning.proofs.Holding.{rule_holds}
use Rattle.refusals.specs.declared.Refusal.{Refusal}
use Rattle.refusals.specs.declared.Refusal.TheVariants.{WrongRules}
use Rattle.judge.specs.Read.{word_in, rule_meant}
use Rattle.judge.specs.declared.rule.Rule as read

-- ---- symbols
pub column : (cell : ℕ → ℕ → ℕ) (symbol k : ℕ) → 2 ≤ symbol → symbol_value cell symbol k ≡ cell k (symbol - 2)
unfolding symbol_value
column cell zero k h = absurd (omega arith)
column cell (suc zero) k h = absurd (omega arith)
column cell (suc (suc i)) k h = ap (cell k) (omega arith)

pub in_row : (W : ℕ) {k L : ℕ} → k < L → W * k + W ≤ W * L
in_row W h = omega (arith, rw mul-suc at (mul-le-mul_left W h))

-- ---- forms
-- The symbol of each literal of a rule in form is that of a constant or a column.
pub may_look : (W : ℕ) (ρ : Rule) → bad_rule W ρ ≡ false
    → let Look : ℕ → Type 0 = λ w. symbol_of w < 2 + W in
    Look ρ.body1 × Look ρ.body2 × Look ρ.head1 × Look ρ.head2 × Look ρ.head3
unfolding bad_rule bad_literal
may_look W ρ f = let e = simp tests at f in (e.0.0.0.0.1.0, e.0.0.0.1.0, e.0.0.1.0, e.0.1.0, e.1.0)

-- So it is with each word of the head that the code reads.
pub head_look : (W : ℕ) (r : read.Rule) → bad_rule W (rule_meant r) ≡ false → (j : ℕ) → j < 3 → symbol_of (word_in r.head j) < 2 + W
head_look W r f zero h = (may_look W _ f).2
head_look W r f (suc zero) h = (may_look W _ f).3
head_look W r f (suc (suc zero)) h = (may_look W _ f).4
head_look W r f (suc (suc (suc j))) h = absurd (omega arith)

-- A place that is none of the four is bad, so the place of a rule in form is one, and the rule was read.
pub bad_place : (W : ℕ) (ρ : Rule) → 3 < ρ.place → bad_rule W ρ ≡ true
unfolding bad_rule
bad_place W ρ h = rw (lt-ltb 3 ρ.place h)

low_place : (W : ℕ) (ρ : Rule) → bad_rule W ρ ≡ false → ρ.place ≤ 3
unfolding bad_rule bad_literal
low_place W ρ e = let h = simp tests at e in omega arith

pub was_read : (W : ℕ) (ρ : Rule) (answer : Result read.Rule Refusal) → bad_rule W ρ ≡ false
    → MatchResult answer (λ r. rule_meant r ≡ ρ) (λ refusal. (refusal ≡ WrongRules) × (3 < ρ.place)) → IsOk answer
was_read W ρ (Ok r) f m = refl
was_read W ρ (Err refusal) f m = absurd (omega (arith, m.1, low_place W ρ f))

-- ---- failing, by the values as the code made them
module _ (r : read.Rule) (W : ℕ) (cells : List ℕ) (low : (i : ℕ) → get_or cells i 0 ≤ 2) (k : ℕ) where
  abbrev value : ℕ → ℕ
  value w = literal (cell_of W cells) w k

  abbrev does_hold : Bool
  does_hold = holds (cell_of W cells) (rule_meant r) k

  by_values : (does_hold ≡ true) ↔ (body_value (cell_of W cells) (rule_meant r) k ≤ head_value (cell_of W cells) (rule_meant r) k)
  by_values = rule_holds (cell_of W cells) (λ k i. low (W * k + i)) (rule_meant r) k

  at_most : body_value (cell_of W cells) (rule_meant r) k ≤ head_value (cell_of W cells) (rule_meant r) k → false ≡ not does_hold
  at_most h = rw (by_values.1 h)

  -- A first body literal of 0 decides.
  pub by_body : {u : ℕ} → u ≡ value (word_in r.body 0) → u ≡ 0 → false ≡ not does_hold
  unfolding body_value
  by_body e z = at_most (omega arith)

  module _ {u v b : ℕ} (eu : u ≡ value (word_in r.body 0)) (ev : v ≡ value (word_in r.body 1)) (eb : b ≡ min u v) where
    -- So does a head literal that the body is at most.
    pub by_head : (j : ℕ) → j < 3 → b ≤ value (word_in r.head j) → false ≡ not does_hold
    unfolding body_value head_value
    by_head zero h l = at_most (omega arith)
    by_head (suc zero) h l = at_most (omega arith)
    by_head (suc (suc zero)) h l = at_most (omega arith)
    by_head (suc (suc (suc j))) h l = absurd (omega arith)

    -- Else the rule fails.
    pub by_all : ((j : ℕ) → j < 3 → value (word_in r.head j) < b) → true ≡ not does_hold
    unfolding body_value head_value
    by_all h = go does_hold refl
      where
        go : (t : Bool) → does_hold ≡ t → true ≡ not t
        go true d = absurd (omega (arith, by_values.0 d, h 0 (omega arith), h 1 (omega arith), h 2 (omega arith)))
        go false d = refl
