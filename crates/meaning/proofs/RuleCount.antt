-- How many rules there are, and words. A record's kind and mode alone say how many rules it has, four at most; so those
-- of all records are the sum, and one more asserts the whole formula.
use Prim.Native.Nat.{ℕ, zero, suc, ◌+◌, ◌*◌, ◌≤◌}
use mathlib.Core.Path.{◌≡◌, refl}
use mathlib.Core.List.{List, [], ◌∷◌, ◌++◌}
use native.Mathlib.Omega.{arith}
use lib.ListN.{length, length-append}
use Rattle.meaning.specs.Run.{each}
use Rattle.meaning.specs.Record.{Kind, count, kind_at, Mode, diamond, box, ahead, back}
use Rattle.meaning.specs.Rule.{Rule, rule_size, words}
use Rattle.meaning.specs.Translation.{join_rules, test_rules, move_rules, rules_of, rules_at, translation, context, rule_number, rule_sum}
use Rattle.meaning.proofs.Cases.{by_kind}

-- ---- one record
rules_few : (K : Kind) (m : Mode) (x a b c i : ℕ) → (length (rules_of K m x a b c i) ≡ rule_number K m) × (rule_number K m ≤ 4)
unfolding rule_number rules_of join_rules test_rules move_rules
rules_few =
    by_kind _ (omega arith) (omega arith) (omega arith) (elim [ ahead ↦ omega arith | back ↦ omega arith ])
    (elim [ diamond ↦ omega arith | box ↦ omega arith ]) (elim [ diamond ↦ omega arith | box ↦ omega arith ]) (omega arith)
    (elim [ diamond ↦ omega arith | box ↦ omega arith ]) (omega arith) (omega arith)

pub rules_counted : (K : Kind) (m : Mode) (x a b c i : ℕ) → length (rules_of K m x a b c i) ≡ rule_number K m
rules_counted K m x a b c i = (rules_few K m x a b c i).0

number_few : (K : Kind) (m : Mode) → rule_number K m ≤ 4
number_few K m = (rules_few K m 0 0 0 0 0).1

record_counted : (s : List ℕ) (A r : ℕ) → length (rules_at s A r) ≡ rule_number (kind_at s r) (context s r).mode
unfolding rules_at
record_counted s A r = rules_counted (kind_at s r) (context s r).mode _ _ _ _ _

pub record_few : (s : List ℕ) (A r : ℕ) → length (rules_at s A r) ≤ 4
record_few s A r = omega (arith, record_counted s A r, number_few (kind_at s r) (context s r).mode)

-- ---- all records
pub sum_few : (s : List ℕ) (r : ℕ) → rule_sum s r ≤ 4 * r
unfolding rule_sum
sum_few s zero = omega arith
sum_few s (suc r) = omega (arith, sum_few s r, number_few (kind_at s r) (context s r).mode)

each_counted : (s : List ℕ) (A r : ℕ) → length (each r (rules_at s A)) ≡ rule_sum s r
unfolding each rule_sum
each_counted s A zero = refl
each_counted s A (suc r) = simp length-append (omega (arith, each_counted s A r, record_counted s A r))

pub translation_counted : (s : List ℕ) (A : ℕ) → length (translation s A) ≡ rule_sum s (count s) + 1
unfolding translation
translation_counted s A = simp length-append (omega (arith, each_counted s A (count s)))

pub few_rules : (s : List ℕ) (A : ℕ) → length (translation s A) ≤ 4 * count s + 1
few_rules s A = omega (arith, translation_counted s A, sum_few s (count s))

-- ---- words
-- Six to a rule.
pub words_length : (ρs : List Rule) → length (words ρs) ≡ rule_size * length ρs
unfolding words
words_length [] = refl
words_length (ρ ∷ ρs) = omega (arith, words_length ρs)

-- Two lists end to end.
pub words_append : (ρs σs : List Rule) → words (ρs ++ σs) ≡ words ρs ++ words σs
unfolding words
words_append [] σs = refl
words_append (ρ ∷ ρs) σs = rw (words_append ρs σs)
