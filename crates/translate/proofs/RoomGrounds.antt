-- What the translator answers. Its grounds are those that its first refusal looks at, and after them the room: so a
-- refusal other than 0 is the answer, and at 0 the room alone decides.
use Prim.Native.Nat.{ℕ, ◌*◌, ◌<◌, ◌≤◌}
use mathlib.Core.Path.{◌≡◌, sym, ◌∙◌}
use mathlib.Core.List.{List, [], ◌∷◌}
use native.Mathlib.Omega.{arith}
use lib.ListN.{length}
use borrow.Author.Tests.{ltb-false, lt-ltb, le-ltb}
use Rattle.meaning.specs.Refusal.{of_first, Ground, first_of, ground10, starred_grounds, translate_grounds}
use Rattle.meaning.specs.{Rule.rule_size, Translation.translation, WellFormed.WellFormed, Record.core}
use Rattle.meaning.proofs.First.{clear_none, none_clear, clear_append, numbered_append, clear_skip, found_stop}
use Rattle.meaning.proofs.Accepted.{starred_numbered, starred_formed, starred_clear}

module _ (s : List ℕ) (A room : ℕ) where
  abbrev last : List Ground
  last = ground10 (rule_size * length (translation s A)) room ∷ []

  abbrev whole : ℕ
  whole = first_of (translate_grounds s A room)

  pub refused : {x : ℕ} → x ≡ first_of (starred_grounds s A) → (x ≡ 0 → ⊥) → x ≡ whole
  unfolding translate_grounds
  refused e n = e ∙ sym (found_stop (starred_grounds s A) last (λ z. n (e ∙ z)))

  module _ (e : first_of (starred_grounds s A) ≡ 0) where
    roomed : whole ≡ first_of last
    unfolding translate_grounds
    roomed = clear_skip (starred_grounds s A) last (starred_clear s A e)

    pub refused_room : room < rule_size * length (translation s A) → 10 ≡ whole
    unfolding ground10 of_first
    refused_room h = sym (roomed ∙ rw (lt-ltb room (rule_size * length (translation s A)) h))

    pub not_refused : rule_size * length (translation s A) ≤ room → 0 ≡ whole
    unfolding ground10 of_first
    not_refused h = sym (roomed ∙ rw (le-ltb room (rule_size * length (translation s A)) h))

  -- So at 0 the records are a formula's, and there is room for all rules.
  pub accepted : whole ≡ 0 → WellFormed core s A × (rule_size * length (translation s A) ≤ room)
  unfolding translate_grounds ground10
  accepted e =
      let numbered = numbered_append (starred_grounds s A) last (starred_numbered s A) (omega arith, tt) in
      let (formula, fits) = (clear_append (starred_grounds s A) last).0 (none_clear _ numbered e) in
      (starred_formed s A (clear_none _ formula), ltb-false room _ fits.0)
