-- Specification, Translation: rules as six words, and when a rule holds.
--   rule place body head    a rule; words that it leaves unused hold 1 in the body and 0 in the head
--   words rules             the six words of each, end to end
--   rule_at ws i            rule i of the words ws
--   placed L place k        whether the place has the instant k, of L
--   literal cell w k        the value of the literal w at instant k; symbol 2 + i is column i, cell k i
--   holds cell ρ k          whether the rule ρ holds at instant k
use Rattle.std.specs.Prelude.{ℕ, zero, suc, pred, ◌+◌, ◌*◌, ◌/◌, ◌%◌, min, max, Bool, true, false, cond, List, [], ◌∷◌, get_or, ltb, eqb}
use Rattle.meaning.specs.Three.{imp, negation}

pub record Rule : Type 0 where
  pub place : ℕ
  pub body1 : ℕ
  pub body2 : ℕ
  pub head1 : ℕ
  pub head2 : ℕ
  pub head3 : ℕ

abbrev pub rule : ℕ → List ℕ → List ℕ → Rule
rule place body head =
    record { place = place; body1 = get_or body 0 1; body2 = get_or body 1 1; head1 = get_or head 0 0; head2 = get_or head 1 0; head3 = get_or head 2 0 }

-- ---- words
abbrev pub rule_size : ℕ
rule_size = 6

unfoldable pub words : List Rule → List ℕ
words [] = []
words (ρ ∷ ρs) = ρ.place ∷ ρ.body1 ∷ ρ.body2 ∷ ρ.head1 ∷ ρ.head2 ∷ ρ.head3 ∷ words ρs

abbrev pub rule_word : List ℕ → ℕ → ℕ → ℕ
rule_word ws i j = get_or ws (rule_size * i + j) 0

unfoldable pub rule_at : List ℕ → ℕ → Rule
rule_at ws i =
    record { place = rule_word ws i 0; body1 = rule_word ws i 1; body2 = rule_word ws i 2; head1 = rule_word ws i 3; head2 = rule_word ws i 4; head3 = rule_word ws i 5 }

-- ---- literals: a symbol, with marks for the previous instant and for negation
abbrev pub previously : ℕ → ℕ
previously symbol = symbol + 16_384

abbrev pub negated : ℕ → ℕ
negated symbol = symbol + 32_768

abbrev pub symbol_of : ℕ → ℕ
symbol_of w = w % 16_384

abbrev pub is_previous : ℕ → Bool
is_previous w = eqb (w / 16_384 % 2) 1

abbrev pub is_negated : ℕ → Bool
is_negated w = eqb (w / 32_768 % 2) 1

-- ---- places: every instant, the first, all but the first, the last
unfoldable pub placed : ℕ → ℕ → ℕ → Bool
placed L place k = get_or (true ∷ eqb k 0 ∷ ltb 0 k ∷ eqb (k + 1) L ∷ []) place false

module _ (cell : ℕ → ℕ → ℕ) where
  unfoldable pub symbol_value : ℕ → ℕ → ℕ
  symbol_value zero k = 0
  symbol_value (suc zero) k = 2
  symbol_value (suc (suc i)) k = cell k i

  unfoldable pub plain : ℕ → ℕ → ℕ
  plain w k = symbol_value (symbol_of w) (cond (is_previous w) (pred k) k)

  unfoldable pub literal : ℕ → ℕ → ℕ
  literal w k = cond (is_negated w) (negation (plain w k)) (plain w k)

  unfoldable pub body_value : Rule → ℕ → ℕ
  body_value ρ k = min (literal ρ.body1 k) (literal ρ.body2 k)

  unfoldable pub head_value : Rule → ℕ → ℕ
  head_value ρ k = max (max (literal ρ.head1 k) (literal ρ.head2 k)) (literal ρ.head3 k)

  unfoldable pub holds : Rule → ℕ → Bool
  holds ρ k = eqb (imp (body_value ρ k) (head_value ρ k)) 2
