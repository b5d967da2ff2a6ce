-- The grounds of valuing. After those of the formula, the sizes' among them, stand those of the cells and the room; and where no ground applies, the records are a tree, the cells a trace, and the table has room.
use Prim.Native.Nat.{ℕ, ◌*◌, ◌<◌, ◌≤◌}
use mathlib.Core.Path.{◌≡◌, sym, ◌∙◌}
use mathlib.Core.Bool.{Bool}
use mathlib.Core.List.{List, [], ◌∷◌, ◌++◌}
use native.Mathlib.Omega.{arith}
use borrow.Author.Tests.{lt-ltb, le-ltb, ltb-false}
use Rattle.meaning.specs.Record.{core, most_records, count}
use Rattle.meaning.specs.Refusal.{of_first, Ground, ground, first_of, ground1, ground8, ground8_cells, grounds9, ground10}
use Rattle.meaning.specs.Refusal.{tree_grounds, value_grounds, most_atoms, most_instants}
use Rattle.meaning.proofs.First.{Numbered, none_clear, clear_append, clear_skip, found_stop}
use Rattle.meaning.proofs.First.{numbered_append}
use Rattle.meaning.proofs.Accepted.{ground1_fails, clear_well_formed, tree_numbered}
use Rattle.trace.proofs.Fitting.{size_fits, cells_numbered, cells_low}
use Rattle.valuing.specs.Valuing.{Legal}

module _ (s : List ℕ) (A L : ℕ) (cells : List ℕ) (room : ℕ) where
  abbrev last : List Ground
  last = ground10 (count s * L) room ∷ []

  abbrev all : ℕ
  all = first_of (value_grounds s A L cells room)

  all_numbered : Numbered (value_grounds s A L cells room)
  unfolding value_grounds ground1 ground8_cells ground10
  all_numbered = (
    omega arith,
    (
      omega arith,
      numbered_append (tree_grounds core s A) (grounds9 cells ++ last) (tree_numbered core s A)
          (numbered_append (grounds9 cells) last (cells_numbered cells) (omega arith, tt)),
    ),
  )

  -- What no ground shuts out.
  pub legal : all ≡ 0 → Legal s A L cells room
  unfolding value_grounds ground8 ground10
  legal e =
      let (length-right, (size-right, rest)) = none_clear _ all_numbered e in
      let t = (clear_append (tree_grounds core s A) (grounds9 cells ++ last)).0 rest in
      let c = (clear_append (grounds9 cells) last).0 t.1 in
      let (few, some, short, size) = size_fits most_atoms A L cells size-right in
      record {
        formed = (clear_well_formed core s A).0 (length-right, (le-ltb most_atoms A few, t.0));
        trace = record { some = some; few = short; size = size; low = cells_low cells c.0 };
        enough = ltb-false room (count s * L) c.1.0;
      }

  -- ---- the first that applies, test by test
  -- What is asked of the formula; `wrong` is the test of the sizes as it was made.
  module _ {wrong : Bool} (test : wrong ≡ (ground8_cells most_atoms A L cells).applies) where
    abbrev formula : List Ground
    formula = ground1 s ∷ ground 8 wrong ∷ tree_grounds core s A

    after : all ≡ first_of (formula ++ (grounds9 cells ++ last))
    unfolding value_grounds ground8_cells
    after = rw test

    formula_numbered : Numbered formula
    unfolding ground1
    formula_numbered = (omega arith, (omega arith, tree_numbered core s A))

    pub refused_formula : {x : ℕ} → x ≡ first_of formula → (x ≡ 0 → ⊥) → x ≡ all
    refused_formula e n = e ∙ sym (after ∙ found_stop formula _ (λ z. n (e ∙ z)))

    module _ (taken : first_of formula ≡ 0) where
      -- There are few records, and few instants.
      pub sized : (count s ≤ most_records) × (L ≤ most_instants)
      sized =
          let (right, (fits, _)) = none_clear formula formula_numbered taken in
          let (_, _, few) = (ground1_fails s).0 right in
          let (_, _, short, _) = size_fits most_atoms A L cells (sym test ∙ fits) in
          (few, short)

      celled : all ≡ first_of (grounds9 cells ++ last)
      celled = after ∙ clear_skip formula _ (none_clear formula formula_numbered taken)

      pub refused_cells : {y : ℕ} → y ≡ first_of (grounds9 cells) → (y ≡ 0 → ⊥) → y ≡ all
      refused_cells e n = e ∙ sym (celled ∙ found_stop (grounds9 cells) _ (λ z. n (e ∙ z)))

      module _ (low : first_of (grounds9 cells) ≡ 0) where
        roomed : all ≡ first_of last
        roomed = celled ∙ clear_skip (grounds9 cells) _ (none_clear _ (cells_numbered cells) low)

        pub refused_room : room < count s * L → 10 ≡ all
        unfolding ground10 of_first
        refused_room h = sym (roomed ∙ rw (lt-ltb room (count s * L) h))

        pub not_refused : count s * L ≤ room → 0 ≡ all
        unfolding ground10 of_first
        not_refused h = sym (roomed ∙ rw (le-ltb room (count s * L) h))
