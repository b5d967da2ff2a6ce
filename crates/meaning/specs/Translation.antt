-- Specification, Translation: the rules of each record, and of the whole formula.
--   label A r           the symbol of record r's label
--   context s r         what the path record r stands under: the modality's mode, and the record whose label continues it
--   rules_of ..         the rules of one record
--   other_rules s A     all rules but the one that asserts the whole formula
--   translation s A     all rules; the last asserts the whole formula
--   rule_number, rule_sum how many rules come from one record, and from the first n
use Rattle.std.specs.Prelude.{ℕ, zero, suc, pred, ◌+◌, Bool, true, false, cond, List, [], ◌∷◌, ◌++◌, eqb}
use Rattle.meaning.specs.Run.{each}
use Rattle.meaning.specs.Record.{Kind, constant, atom, modal, move, test, choice, sequence, star, shorthand, unknown, Mode, diamond, box, Way, ahead, back, kind_at, field_a, field_b, count, parent}
use Rattle.meaning.specs.Rule.{Rule, rule, previously, negated}

-- ---- symbols
abbrev pub false_symbol : ℕ
false_symbol = 0

abbrev pub true_symbol : ℕ
true_symbol = 1

abbrev pub atom_symbol : ℕ → ℕ
atom_symbol i = 2 + i

abbrev pub label : ℕ → ℕ → ℕ
label A r = 2 + A + r

-- ---- what a path stands under
pub record Context : Type 0 where
  pub mode : Mode
  pub continuation : ℕ

abbrev pub under : Mode → ℕ → Context
under m c = record { mode = m; continuation = c }

-- What a record q with second field b hands to a child that is its first or its second, from what q itself stands under.
unfoldable pub handed : Kind → Bool → ℕ → ℕ → Context → Context
handed (constant v) first b q above = above
handed atom first b q above = above
handed (modal m) first b q above = under m b
handed (move w) first b q above = above
handed test first b q above = above
handed choice first b q above = above
handed sequence true b q above = under above.mode b
handed sequence false b q above = above
handed star first b q above = under above.mode q
handed (shorthand σ) first b q above = above
handed unknown first b q above = above

-- Found by climbing from parent to parent, m times at most.
unfoldable pub context_in : List ℕ → ℕ → ℕ → Context
context_in s zero r = under diamond 0
context_in s (suc m) r =
    let q = parent s r in
    handed (kind_at s q) (eqb (field_a s q) r) (field_b s q) q (context_in s m q)

abbrev pub context : List ℕ → ℕ → Context
context s r = context_in s (count s) r

-- ---- the rules of one record
-- u → v at a place.
abbrev pub arrow : ℕ → ℕ → ℕ → Rule
arrow place u v = rule place (u ∷ []) (v ∷ [])

abbrev pub same_rules : ℕ → ℕ → ℕ → List Rule
same_rules place u v = arrow place u v ∷ arrow place v u ∷ []

-- At the end of the trace in a way, a diamond over a move has the value 0 and a box 2.
unfoldable pub edge_rule : Mode → ℕ → ℕ → Rule
edge_rule diamond place x = rule place (x ∷ []) []
edge_rule box place x = rule place [] (x ∷ [])

-- x is the greater of u and v under a diamond, the smaller under a box.
unfoldable pub join_rules : Mode → ℕ → ℕ → ℕ → List Rule
join_rules diamond x u v = rule 0 (x ∷ []) (u ∷ v ∷ []) ∷ arrow 0 u x ∷ arrow 0 v x ∷ []
join_rules box x u v = arrow 0 x u ∷ arrow 0 x v ∷ rule 0 (u ∷ v ∷ []) (x ∷ []) ∷ []

unfoldable pub test_rules : Mode → ℕ → ℕ → ℕ → List Rule
test_rules diamond x a c = arrow 0 x a ∷ arrow 0 x c ∷ rule 0 (a ∷ c ∷ []) (x ∷ []) ∷ []
test_rules box x a c =
    rule 0 (x ∷ a ∷ []) (c ∷ []) ∷ arrow 0 (negated a) x ∷ arrow 0 c x ∷ rule 0 [] (x ∷ a ∷ negated c ∷ []) ∷ []

unfoldable pub move_rules : Way → Mode → ℕ → ℕ → List Rule
move_rules ahead m x c = same_rules 2 (previously x) c ++ (edge_rule m 3 x ∷ [])
move_rules back m x c = same_rules 2 x (previously c) ++ (edge_rule m 1 x ∷ [])

-- By the record's kind and mode: x is its label, a and b its children's, c its continuation's, i its field a.
unfoldable pub rules_of : Kind → Mode → ℕ → ℕ → ℕ → ℕ → ℕ → List Rule
rules_of (constant v) m x a b c i = same_rules 0 x (cond v true_symbol false_symbol)
rules_of atom m x a b c i = same_rules 0 x (atom_symbol i)
rules_of (modal _) m x a b c i = same_rules 0 x a
rules_of (move w) m x a b c i = move_rules w m x c
rules_of test m x a b c i = test_rules m x a c
rules_of choice m x a b c i = join_rules m x a b
rules_of sequence m x a b c i = same_rules 0 x a
rules_of star m x a b c i = join_rules m x c a
rules_of (shorthand σ) m x a b c i = []
rules_of unknown m x a b c i = []

-- ---- the rules of all records
unfoldable pub rules_at : List ℕ → ℕ → ℕ → List Rule
rules_at s A r =
    rules_of (kind_at s r) (context s r).mode (label A r) (label A (field_a s r)) (label A (field_b s r)) (label A (context s r).continuation) (field_a s r)

-- The whole formula holds at the first instant.
abbrev pub asserted : List ℕ → ℕ → Rule
asserted s A = rule 1 [] (label A (pred (count s)) ∷ [])

-- All other rules.
abbrev pub other_rules : List ℕ → ℕ → List Rule
other_rules s A = each (count s) (rules_at s A)

unfoldable pub translation : List ℕ → ℕ → List Rule
translation s A = other_rules s A ++ (asserted s A ∷ [])

-- ---- how many
-- Two for kinds 0 to 4 and 9, four for a test under a box, three otherwise. The translator takes no other kind.
unfoldable pub rule_number : Kind → Mode → ℕ
rule_number (constant v) m = 2
rule_number atom m = 2
rule_number (modal _) m = 2
rule_number (move w) m = 3
rule_number test diamond = 3
rule_number test box = 4
rule_number choice m = 3
rule_number sequence m = 2
rule_number star m = 3
rule_number (shorthand σ) m = 0
rule_number unknown m = 0

-- The sum over the first n records.
unfoldable pub rule_sum : List ℕ → ℕ → ℕ
rule_sum s zero = 0
rule_sum s (suc r) = rule_sum s r + rule_number (kind_at s r) (context s r).mode
