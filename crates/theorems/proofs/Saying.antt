-- What the rules of a record say of its label, as an equation at each instant: the label is another literal; a join; what is after a test; or
-- the row of a move over the continuation. The judge reads rules from their words; but the words of a list give back its rules, one after the
-- other. So all rules of the words hold exactly if each rule of the list is kept, at each instant. A rule says that one value is at most
-- another, and two such make an equation. The rules of a move compare an instant with the one beside it, and its third rule is for the
-- instant that has none beside it.
use Prim.Native.Nat.{ℕ, zero, suc, ◌+◌, ◌*◌, ◌<◌, pred, ◌≤◌, ◌-◌, min, max}
use mathlib.Core.Path.{◌≡◌, refl, sym, ◌∙◌}
use mathlib.Core.Bool.{true}
use mathlib.Core.List.{List, [], ◌∷◌, ◌++◌}
use mathlib.Core.Logic.Iff
use mathlib.Core.Logic.{◌↔◌, inl, inr}
use native.Mathlib.Nat.{le_of_suc-le-suc}
use native.Mathlib.Omega.{arith}
use lib.ListN.{length}
use Rattle.meaning.specs.Run.{each}
use Rattle.meaning.specs.Rule.{Rule, words, rule_at, placed, holds, literal, body_value, head_value}
use Rattle.meaning.specs.Judge.{rule_count, AllHold}
use Rattle.meaning.specs.Three.{imp}
use Rattle.meaning.specs.Record.{Mode, diamond, box, Way, ahead, back}
use Rattle.meaning.specs.Value.{Row, move_square, modal_row}
use Rattle.meaning.specs.Translation.{same_rules, edge_rule, join_rules, test_rules, move_rules}
use Rattle.meaning.proofs.Runs.{All, all_append, all_each}
use Rattle.meaning.proofs.RuleCount.{words_length}
use Rattle.meaning.proofs.Fails.{eqb_holds, ltb_holds}
use Rattle.meaning.proofs.Implication.{by_comparison, negation_value}
use Rattle.meaning.proofs.Bounds.{le_or_lt}
use Rattle.meaning.proofs.Reach.{Beside}
use Rattle.meaning.proofs.Within.{joined, gate, edge}
use Rattle.meaning.proofs.Modality.{modal_move, modal_edge}
use Rattle.meaning.proofs.Holding.{literal_false, literal_true, literal_previous, literal_negated, literal_low, rule_holds}

-- ---- the words of a list of rules
-- They are the list's.
rule_first : (ρ : Rule) (ρs : List Rule) → rule_at (words (ρ ∷ ρs)) 0 ≡ ρ
unfolding rule_at words
rule_first ρ ρs = refl

rule_next : (ρ : Rule) (ρs : List Rule) (i : ℕ) → rule_at (words (ρ ∷ ρs)) (suc i) ≡ rule_at (words ρs) i
unfolding rule_at words
rule_next ρ ρs i = simp six
  where
    six : (j : ℕ) → 6 * suc i + j ≡ suc (suc (suc (suc (suc (suc (6 * i + j))))))
    six j = omega arith

module _ (P : Rule → Type 0) where
  -- Rule by rule.
  every_listed : (ρs : List Rule) → ((i : ℕ) → i < length ρs → P (rule_at (words ρs) i)) ↔ All P ρs
  every_listed [] = (λ _. tt, λ _ i l. absurd (omega arith))
  every_listed (ρ ∷ ρs) = let r = every_listed ρs in (
    λ h. (rw rule_first at (h 0 (omega arith)), r.0 (λ i l. rw rule_next at (h (suc i) (omega arith)))),
    λ h. elim [ zero ↦ λ l. rw rule_first h.0 | suc i ↦ λ l. rw rule_next (r.1 h.1 i (le_of_suc-le-suc l)) ],
  )

  -- As they are read from the words; there are as many as the list has.
  pub every_word : (ρs : List Rule) → ((i : ℕ) → i < rule_count (words ρs) → P (rule_at (words ρs) i)) ↔ All P ρs
  every_word ρs =
      let count : rule_count (words ρs) ≡ length ρs = omega (arith, words_length ρs) in
      simp count (every_listed ρs)

-- ---- rules that are kept
module _ (L : ℕ) (cell : ℕ → ℕ → ℕ) where
  -- If instant k is one of the rule's, the rule holds there.
  unfoldable pub Kept : Rule → ℕ → Type 0
  Kept ρ k = placed L ρ.place k ≡ true → holds cell ρ k ≡ true

  -- All rules of a list.
  abbrev pub AllKept : List Rule → ℕ → Type 0
  AllKept ρs k = All (λ ρ. Kept ρ k) ρs

  -- All rules at all instants.
  abbrev pub Keeping : List Rule → Type 0
  Keeping ρs = (k : ℕ) → k < L → AllKept ρs k

  -- What the judge asks.
  pub all_hold : (ρs : List Rule) → AllHold (words ρs) L cell ↔ Keeping ρs
  unfolding Kept
  all_hold ρs = (
    λ h k l. (every_word (λ ρ. Kept ρ k) ρs).0 (λ i m. h i k m l),
    λ h i k m l. (every_word (λ ρ. Kept ρ k) ρs).1 (h k l) i m,
  )

  -- Two lists end to end, and many.
  pub append_kept : (ρs σs : List Rule) (k : ℕ) → AllKept (ρs ++ σs) k ↔ (AllKept ρs k × AllKept σs k)
  append_kept ρs σs k = all_append (λ ρ. Kept ρ k) ρs σs

  pub each_keeping : (f : ℕ → List Rule) (n : ℕ) → Keeping (each n f) ↔ ((r : ℕ) → r < n → Keeping (f r))
  each_keeping f n = simp all_each (λ h r l k m. h k m r l, λ h k m r l. h r l k m)

-- ---- what they say
-- The words that a rule leaves unused: 0 in a head, 1, which is worth 2, in a body.
max_zero : (u : ℕ) → max u 0 ≡ u
max_zero u = omega arith

-- The rules of a test under a box leave x the implication of c by a.
test_numbers : (x a c : ℕ) → x ≤ 2 → a ≤ 2 → c ≤ 2
    → ((min x a ≤ c) × ((min (2 - 2 * a) 2 ≤ x) × ((c ≤ x) × ((2 ≤ max (max x a) (2 - 2 * c)) × Unit {0})))) ↔ (x ≡ imp a c)
test_numbers x a c x2 a2 c2 = elim (by_comparison a c) [ inl p ↦ omega arith | inr p ↦ omega arith ]

module _ (L : ℕ) (cell : ℕ → ℕ → ℕ) (low : (k i : ℕ) → cell k i ≤ 2) where
  -- The smaller of a literal's value and 2 is that value.
  min_two : (w k : ℕ) → min (literal cell w k) 2 ≡ literal cell w k
  min_two w k = omega (arith, literal_low cell low w k)

  ruleset unused = (literal_false, literal_true, min_two, max_zero)

  -- A rule, at its instants; and one whose instants are all.
  kept_placed : (ρ : Rule) (k : ℕ)
      → Kept L cell ρ k ↔ (placed L ρ.place k ≡ true → body_value cell ρ k ≤ head_value cell ρ k)
  unfolding Kept
  kept_placed ρ k = simp (rule_holds cell low) (λ h. h, λ h. h)

  kept_always : (ρ : Rule) (k : ℕ) → ρ.place ≡ 0 → Kept L cell ρ k ↔ (body_value cell ρ k ≤ head_value cell ρ k)
  unfolding placed
  kept_always ρ k e = simp kept_placed (rw e (λ h. h refl, λ h _. h))

  module _ (k : ℕ) where
    -- A literal's value at k.
    abbrev at : ℕ → ℕ
    at w = literal cell w k

    -- Two literals are the same at a place.
    same_placed : (p u v : ℕ) → AllKept L cell (same_rules p u v) k ↔ (placed L p k ≡ true → at u ≡ at v)
    unfolding body_value head_value
    same_placed p u v = simp (kept_placed, unused) (
      λ h q. omega (arith, h.0 q, h.1.0 q),
      λ h. (λ q. omega (arith, h q), (λ q. omega (arith, h q), tt)),
    )

    -- At every instant.
    pub same_says : (u v : ℕ) → AllKept L cell (same_rules 0 u v) k ↔ (at u ≡ at v)
    unfolding placed
    same_says u v = Iff.trans (same_placed 0 u v) (λ h. h refl, λ h _. h)

    -- A label is that of a path that leads nowhere.
    pub edge_placed : (m : Mode) (p x : ℕ) → Kept L cell (edge_rule m p x) k ↔ (placed L p k ≡ true → at x ≡ edge m)
    unfolding body_value head_value edge_rule edge
    edge_placed diamond p x = simp (kept_placed, unused) (λ h q. omega (arith, h q), λ h q. omega (arith, h q))
    edge_placed box p x =
        simp (kept_placed, unused) (λ h q. omega (arith, h q, literal_low cell low x k), λ h q. omega (arith, h q))

    -- Choice and star.
    pub join_says : (m : Mode) (x u v : ℕ) → AllKept L cell (join_rules m x u v) k ↔ (at x ≡ joined m (at u) (at v))
    unfolding body_value head_value join_rules joined
    join_says diamond x u v = simp (kept_always, unused) (omega arith)
    join_says box x u v = simp (kept_always, unused) (omega arith)

    -- Test. Under a box the four rules leave the implication alone.
    pub test_says : (m : Mode) (x a c : ℕ) → a < 16_384 → c < 16_384
        → AllKept L cell (test_rules m x a c) k ↔ (at x ≡ gate m (at a) (at c))
    unfolding body_value head_value test_rules gate
    test_says diamond x a c al cl = simp (kept_always, unused) (omega arith)
    test_says box x a c al cl =
        simp (kept_always, unused, literal_negated, negation_value)
        (test_numbers (at x) (at a) (at c) (literal_low cell low x k) (literal_low cell low a k) (literal_low cell low c k))

    -- Two rules and a third.
    beside_placed : (p u v : ℕ) (m : Mode) (q x : ℕ) → AllKept L cell (same_rules p u v ++ (edge_rule m q x ∷ [])) k
        ↔ ((placed L p k ≡ true → at u ≡ at v) × (placed L q k ≡ true → at x ≡ edge m))
    beside_placed p u v m q x = Iff.trans (append_kept L cell (same_rules p u v) (edge_rule m q x ∷ []) k)
        (simp (same_placed, edge_placed) (λ (a, (b, _)). (a, b), λ (a, b). (a, (b, tt))))

  module _ (m : Mode) (x c : ℕ) (xl : x < 16_384) (cl : c < 16_384) where
    -- The row of a move over the continuation: at k what that is at j beside k, and if none is beside k, an edge.
    abbrev row : Way → Row
    row w = modal_row m L (move_square w) (literal cell c)

    -- Where j is beside k.
    row_there : (w : Way) (k j : ℕ) → j < L → Beside w k j → row w k ≡ literal cell c j
    row_there w k j l b = modal_move m L w (literal cell c) k j l (literal_low cell low c j) b

    pub move_says : (w : Way) → Keeping L cell (move_rules w m x c) ↔ ((k : ℕ) → k < L → literal cell x k ≡ row w k)
    unfolding move_rules placed Beside
    move_says ahead = simp (beside_placed, ltb_holds, eqb_holds, literal_previous) (
      λ h k l. elim (le_or_lt (k + 2) L) [
        | inl n ↦ (h (suc k) (omega arith)).0 (omega arith) ∙ sym (row_there ahead k (suc k) (omega arith) (omega arith))
        | inr n ↦ (h k l).1 (omega arith) ∙ sym (modal_edge m L ahead _ k (λ j i b. omega arith))
      ],
      λ h k l. (
        λ z. h (pred k) (omega arith) ∙ row_there ahead (pred k) k l (omega arith),
        λ e. h k l ∙ modal_edge m L ahead _ k (λ j i b. omega arith),
      ),
    )
    move_says back = simp (beside_placed, ltb_holds, eqb_holds, literal_previous) (
      λ h k l. elim (le_or_lt 1 k) [
        | inl z ↦ (h k l).0 z ∙ sym (row_there back k (pred k) (omega arith) (omega arith))
        | inr n ↦ (h k l).1 (omega arith) ∙ sym (modal_edge m L back _ k (λ j i b. omega arith))
      ],
      λ h k l. (
        λ z. h k l ∙ row_there back k (pred k) (omega arith) (omega arith),
        λ e. h k l ∙ modal_edge m L back _ k (λ j i b. omega arith),
      ),
    )
