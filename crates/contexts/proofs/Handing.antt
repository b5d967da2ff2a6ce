-- Handing contexts down a path. A part stands under what the path's kind hands it, so what is asked of the path is asked
-- of each of its parts. Once the path's own entry is stored and its parts are handed theirs, all under it is entered, and
-- what was entered before still is.
use Prim.Native.Nat.{ℕ, ◌<◌}
use mathlib.Core.Path.{◌≡◌, refl, sym, ap, ◌∙◌}
use mathlib.Core.Bool.{true, false}
use mathlib.Core.List.{List}
use native.Mathlib.Omega.{arith}
use native.Mathlib.Decide.{ℕ_discrete}
use lib.ListN.{length, set, length-set}
use lib.Seq.{get_or-set_same, get_or-set_other}
use Rattle.meaning.specs.Record.{Kind, modal, star, sort_of, most_records, count, kind_at, field_a, field_b, path, child, use_a, use_b, columns_of}
use Rattle.meaning.specs.{Translation.under, Translation.handed, Translation.context, WellFormed.Fits}
use Rattle.meaning.proofs.Climbing.{first_context, second_context}
use Rattle.meaning.proofs.Nodes.{differs}
use Rattle.records.specs.Kinds.{mode_meant, kind_meant}
use Rattle.records.specs.declared.kind.Mode.{Mode}
use Rattle.records.specs.declared.kind.Mode.TheVariants.{Diamond, Box}
use Rattle.records.specs.declared.kind.Kind as kind
use Rattle.records.specs.declared.kind.Kind.TheVariants.{Constant, Atom, Modal, Move, Test, Choice, Sequence, Star, Shorthand, Unknown}
use Rattle.paths.specs.Asking.{Formed}
use Rattle.contexts.specs.declared.Context.{Context}
use Rattle.contexts.specs.Contexts.{mode_named, held, no_context, entry_by, Entered, PathUnder, itself, first, second, Given, Handed}

-- ---- paths with no path among their parts
no_parts : (k : kind.Kind) → sort_of (kind_meant k) ≡ path → (k ≡ Choice → ⊥) → (k ≡ Sequence → ⊥) → (k ≡ Star → ⊥)
    → (use_a (kind_meant k) ≡ child path → ⊥) × (use_b (kind_meant k) ≡ child path → ⊥)
unfolding columns_of
no_parts (Constant b) e c q r = absurd (differs refl e)
no_parts Atom e c q r = absurd (differs refl e)
no_parts (Modal m) e c q r = absurd (differs refl e)
no_parts (Move w) e c q r = (λ u. cc, λ u. cc)
no_parts Test e c q r = (λ u. cc, λ u. cc)
no_parts Choice e c q r = absurd (c refl)
no_parts Sequence e c q r = absurd (q refl)
no_parts Star e c q r = absurd (r refl)
no_parts (Shorthand σ) e c q r = absurd (differs refl e)
no_parts Unknown e c q r = absurd (differs refl e)

-- ---- what parts stand under
-- The children of record q that are paths, by q's kind K.
module _ {s : List ℕ} (f : Formed s) {q : ℕ} (l : q < count s) {K : Kind} (e : kind_at s q ≡ K) (a : use_a K ≡ child path)
    {contexts : List Context} (size : length contexts ≡ most_records) where
  given : {r : ℕ} {own : Context} → Fits s f.atoms q (child path) r → own ≡ held (context s r) → (r < q) × Given s r own contexts
  given (earlier, sorted) o =
      (earlier, record { whole = f; index = omega arith; sorted = sorted; stands = o; size = size })

  first_given : {own : Context} → own ≡ held (handed K true (field_b s q) q (context s q)) → (field_a s q < q) × Given s (field_a s q) own contexts
  first_given o =
      let u : use_a (kind_at s q) ≡ child path = rw e a in
      given (rw u at (f.formed.first q l)) (o ∙ ap held (sym (rw e at (first_context f.formed q l u))))

  second_given : use_b K ≡ child path → {own : Context} → own ≡ held (handed K false (field_b s q) q (context s q))
      → (field_b s q < q) × Given s (field_b s q) own contexts
  second_given b o =
      let u : use_a (kind_at s q) ≡ child path = rw e a in
      let v : use_b (kind_at s q) ≡ child path = rw e b in
      given (rw v at (f.formed.second q l)) (o ∙ ap held (sym (rw e at (second_context f.formed q l u v))))

named_again : (m : Mode) → m ≡ mode_named (mode_meant m)
named_again Diamond = refl
named_again Box = refl

-- The path of a modality.
pub modal_part : {s : List ℕ} → Formed s → {q : ℕ} → q < count s → {m : Mode} → modal (mode_meant m) ≡ kind_at s q → {contexts : List Context}
    → length contexts ≡ most_records → Given s (field_a s q) (record { mode = m; continuation = field_b s q }) contexts
unfolding handed columns_of
modal_part {s} f {q} l {m} e size = (first_given f l (sym e) refl size (ap (λ (n : Mode). record { mode = n; continuation = field_b s q }) (named_again m))).1

module _ {s : List ℕ} {p : ℕ} {own : Context} {contexts : List Context} (g : Given s p own contexts) where
  abbrev with_own : List Context
  with_own = set contexts p own

  own_size : length with_own ≡ most_records
  own_size = length-set contexts p own ∙ g.size

  -- Its mode with another continuation.
  pub continued : {next : Context} {c n : ℕ} → next ≡ record { mode = own.mode; continuation = c } → c ≡ n → next ≡ held (under (context s p).mode n)
  continued e same = e ∙ rw (same, g.stands)

  -- Its first part, once its own entry is stored,
  pub first_part : {t a : ℕ} {K : Kind} {next : Context} → p ≡ t → a ≡ field_a s p → K ≡ kind_at s p → use_a K ≡ child path
      → next ≡ held (handed K true (field_b s p) p (context s p)) → (a < t) × Given s a next with_own
  first_part here same e a o = let (l, part) = first_given g.whole g.index (sym e) a own_size o in (omega arith, rw same part)

  -- and its second, once the first is handed its own.
  pub second_part : {t a b : ℕ} {K : Kind} {before mid : List Context} → Handed s a before mid → p ≡ t → b ≡ field_b s p → K ≡ kind_at s p
      → use_a K ≡ child path → use_b K ≡ child path → own ≡ held (handed K false (field_b s p) p (context s p)) → (b < t) × Given s b own mid
  second_part x here same e a b o = let (l, part) = second_given g.whole g.index (sym e) a x.size b o in (omega arith, rw same part)

  -- ---- what is entered
  own_entered : Entered s with_own p
  unfolding entry_by
  own_entered =
      get_or-set_same contexts p own no_context (omega (arith, g.size, g.index, g.whole.formed.few)) ∙ rw g.sorted g.stands

  own_kept : (r : ℕ) → Entered s contexts r → Entered s with_own r
  own_kept r h = elim (ℕ_discrete r p) [
    | yes e ↦ rw e own_entered
    | no d ↦ get_or-set_other contexts p r own no_context d ∙ h
  ]

  -- With its parts entered too, all of it is.
  all_handed : {after : List Context} → length after ≡ most_records → ((r : ℕ) → Entered s with_own r → Entered s after r)
      → (use_a (kind_at s p) ≡ child path → (r : ℕ) → PathUnder s (field_a s p) r → Entered s after r)
      → (use_b (kind_at s p) ≡ child path → (r : ℕ) → PathUnder s (field_b s p) r → Entered s after r)
      → Handed s p contexts after
  all_handed {after} size kept a b = record { size = size; parts = go; kept = λ r h. kept r (own_kept r h) }
    where
      go : (r : ℕ) → PathUnder s p r → Entered s after r
      go r itself = kept p own_entered
      go r (first e u) = a e r u
      go r (second e u) = b e r u

  -- A path has no part that is a path,
  pub none_handed : (k : kind.Kind) → kind_meant k ≡ kind_at s p → (k ≡ Choice → ⊥) → (k ≡ Sequence → ⊥) → (k ≡ Star → ⊥)
      → Handed s p contexts with_own
  none_handed k e c q r =
      let (a, b) = no_parts k (rw (← e) at g.sorted) c q r in
      all_handed own_size (λ r h. h) (λ u. absurd (a (rw (← e) at u))) (λ u. absurd (b (rw (← e) at u)))

  -- or one,
  pub one_handed : {a : ℕ} {after : List Context} → star ≡ kind_at s p → a ≡ field_a s p → Handed s a with_own after
      → Handed s p contexts after
  unfolding columns_of
  one_handed e same x = let y = rw same at x in all_handed y.size y.kept (λ _. y.parts) (λ u. let v = rw (← e) at u in cc)

  -- or two.
  pub two_handed : {a b : ℕ} {mid after : List Context} → a ≡ field_a s p → b ≡ field_b s p → Handed s a with_own mid → Handed s b mid after
      → Handed s p contexts after
  two_handed same same' x y =
      let x = rw same at x in
      let y = rw same' at y in
      all_handed y.size (λ r h. y.kept r (x.kept r h)) (λ _ r u. y.kept r (x.parts r u)) (λ _. y.parts)
