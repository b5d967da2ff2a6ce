-- The grounds of judging. After sizes that fit stand the grounds of the rules, and after those the cells'; and where no
-- ground applies, every rule is in form and each instant has a cell for each column.
use Prim.Native.Nat.{ℕ, ◌*◌, ◌<◌, ◌≤◌}
use mathlib.Core.Path.{◌≡◌, refl, sym, ◌∙◌}
use mathlib.Core.Bool.{true, false}
use mathlib.Core.List.{List, [], ◌∷◌, ◌++◌}
use native.Mathlib.Omega.{arith}
use lib.ListN.{length, get_or}
use Rattle.meaning.specs.Rule.{rule_at}
use Rattle.meaning.specs.Run.{each}
use Rattle.meaning.specs.Judge.{rule_count}
use Rattle.meaning.specs.Refusal.{Ground, first_of, ground8_cells, ground13_length, ground13, grounds9, judge_grounds, bad_rule, most_columns}
use Rattle.meaning.proofs.First.{Numbered, numbered_append, numbered_each, none_clear, clear_append, clear_each, clear_skip}
use Rattle.meaning.proofs.First.{found_stop, stop, pass}
use Rattle.trace.proofs.Fitting.{size_fits, cells_numbered, cells_low}

module _ (ws : List ℕ) (W L : ℕ) (cells : List ℕ) where
  abbrev form_grounds : List Ground
  form_grounds = ground13_length ws ∷ each (rule_count ws) (λ i. ground13 ws W i ∷ [])

  abbrev all : ℕ
  all = first_of (judge_grounds ws W L cells)

  forms_numbered : Numbered form_grounds
  unfolding ground13_length ground13
  forms_numbered = (omega arith, numbered_each _ (rule_count ws) (λ i. (omega arith, tt)))

  all_numbered : Numbered (judge_grounds ws W L cells)
  unfolding judge_grounds ground8_cells
  all_numbered = (omega arith, numbered_append form_grounds (grounds9 cells) forms_numbered (cells_numbered cells))

  -- What no ground shuts out: rules in form, and a filled trace.
  pub record Accepted : Type 0 where
    pub forms : (i : ℕ) → i < rule_count ws → bad_rule W (rule_at ws i) ≡ false
    pub size : length cells ≡ W * L
    pub some : 0 < L
    pub low : (i : ℕ) → get_or cells i 0 ≤ 2

  pub accepted : all ≡ 0 → Accepted
  unfolding judge_grounds ground13
  accepted e =
      let (size-right, rest) = none_clear _ all_numbered e in
      let (forms, cells_clear) = (clear_append form_grounds (grounds9 cells)).0 rest in
      let fits = size_fits most_columns W L cells size-right in
      record {
        forms = λ i h. (clear_each _ (rule_count ws) forms.1 i h).0;
        size = fits.3;
        some = fits.1;
        low = cells_low cells cells_clear;
      }

  -- ---- the first that applies, test by test
  pub refused_8 : (ground8_cells most_columns W L cells).applies ≡ true → 8 ≡ all
  unfolding judge_grounds ground8_cells
  refused_8 e = stop (ground8_cells most_columns W L cells) _ refl refl e

  module _ (fits : (ground8_cells most_columns W L cells).applies ≡ false) where
    formed : all ≡ first_of (form_grounds ++ grounds9 cells)
    unfolding judge_grounds
    formed = pass (ground8_cells most_columns W L cells) _ refl refl fits

    pub refused_13 : {x : ℕ} → x ≡ first_of form_grounds → (x ≡ 0 → ⊥) → x ≡ all
    refused_13 e n = e ∙ sym (formed ∙ found_stop form_grounds _ (λ z. n (e ∙ z)))

    pub cells_decide : {x : ℕ} → first_of form_grounds ≡ 0 → x ≡ first_of (grounds9 cells) → x ≡ all
    cells_decide z e = e ∙ sym (formed ∙ clear_skip form_grounds _ (none_clear _ forms_numbered z))
