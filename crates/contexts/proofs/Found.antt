-- The contexts of all paths. The parent of a path is a path of which it is a part, or a modality whose path it is, and
-- parents are later: so every path is under a modality's. Once all under each modality's path is entered, every path is.
use Prim.Native.Nat.{ℕ, zero, suc, ◌+◌, ◌*◌, ◌<◌, ◌≤◌}
use mathlib.Core.Path.{◌≡◌, refl, sym, ap, ◌∙◌}
use mathlib.Core.Bool.{true}
use mathlib.Core.Logic.{inl, inr}
use mathlib.Core.List.{List, [], ◌∷◌}
use native.Mathlib.Omega.{arith}
use lib.ListN.{length, replicate, get_or-eq_default}
use borrow.Author.Count.{below_more}
use lib.Seq.{ext_get_or}
use Rattle.meaning.specs.Record.{core, Kind, Mode, modal, known, most_records, record_size, count, kind_at, kind_of, kinds, field_a, formula, path, sort_of}
use Rattle.meaning.specs.Record.{child, use_a, use_b, parent, columns_of}
use Rattle.meaning.specs.{WellFormed.WellFormed, Translation.context}
use Rattle.meaning.proofs.{Bounds.le_or_lt, Runs.length_each, Runs.get_d_each, Nodes.either_sort, Nodes.differs, Cases.by_kind}
use Rattle.meaning.proofs.{Parents.used_in, Parents.has_parent, Parents.child_earlier, Climbing.path_before, Climbing.continuation_record}
use Rattle.records.specs.Kinds.{kind_meant}
use Rattle.records.specs.declared.kind.Mode as mode
use Rattle.records.specs.declared.kind.Kind as kind
use Rattle.records.proofs.Ranges.{again}
use Rattle.paths.specs.Asking.{Formed}
use Rattle.contexts.specs.declared.Context.{Context}
use Rattle.contexts.specs.Contexts.{held, no_context, entry_by, contexts_of, Entered, PathUnder, itself, first, second, Handed}

-- ---- formulas with a path among their children
-- As its first it is a modality's,
first_modal : (K : Kind) → known core K ≡ true → sort_of K ≡ formula → use_a K ≡ child path → (m : Mode) × (K ≡ modal m)
unfolding known columns_of
first_modal =
    by_kind _ (λ v k e c. absurd cc) (λ k e c. absurd cc) (λ m k e c. (m, refl)) (λ w k e c. absurd cc) (λ k e c. absurd cc) (λ k e c. absurd cc)
    (λ k e c. absurd cc) (λ k e c. absurd cc) (λ σ k e c. absurd cc) (λ k e c. absurd cc)

-- and as its second no formula's.
none_second : (K : Kind) → known core K ≡ true → sort_of K ≡ formula → use_b K ≡ child path → ⊥
unfolding known columns_of
none_second =
    by_kind _ (λ v k e c. cc) (λ k e c. cc) (λ m k e c. cc) (λ w k e c. cc) (λ k e c. cc) (λ k e c. cc) (λ k e c. cc) (λ k e c. cc)
    (λ σ k e c. cc) (λ k e c. cc)

-- ---- a path's entry is no formula's
pub told_apart : {s : List ℕ} → Formed s → (r : ℕ) → r < count s → sort_of (kind_at s r) ≡ path → held (context s r) ≡ no_context → ⊥
told_apart {s} f r l e h =
    let w = f.formed in
    let less = continuation_record w r (path_before w r l e) in
    let same : (context s r).continuation ≡ most_records = ap (λ (u : Context). u.continuation) h in
    absurd (omega (arith, less, same, w.few))

-- ---- record after record
-- Only the code's modality is one.
no_modal : (k : kind.Kind) → ((x : mode.Mode) → k ≡ kind.TheVariants.Modal x → ⊥) → (m : Mode) → kind_meant k ≡ modal m → ⊥
no_modal (kind.TheVariants.Modal x) o m e = o x refl
no_modal (kind.TheVariants.Constant b) o m e = cc
no_modal kind.TheVariants.Atom o m e = cc
no_modal (kind.TheVariants.Move w) o m e = cc
no_modal kind.TheVariants.Test o m e = cc
no_modal kind.TheVariants.Choice o m e = cc
no_modal kind.TheVariants.Sequence o m e = cc
no_modal kind.TheVariants.Star o m e = cc
no_modal (kind.TheVariants.Shorthand σ) o m e = cc
no_modal kind.TheVariants.Unknown o m e = cc

-- All under the path of record j is entered, if j is a modality.
abbrev PathDone : List ℕ → List Context → ℕ → Type 0
PathDone s contexts j = (m : Mode) → kind_at s j ≡ modal m → (r : ℕ) → PathUnder s (field_a s j) r → Entered s contexts r

-- That is so of the first q records; and each formula has its entry.
pub record DoneBefore (s : List ℕ) (q : ℕ) (contexts : List Context) : Type 0 where
  pub size : length contexts ≡ most_records
  pub formulas : (r : ℕ) → sort_of (kind_at s r) ≡ formula → Entered s contexts r
  pub done : (j : ℕ) → j < q → PathDone s contexts j

pub done_none : (s : List ℕ) → DoneBefore s 0 (replicate most_records no_context)
unfolding entry_by
done_none s = record { size = refl; formulas = λ r e. rw e (again most_records r no_context); done = λ j l. absurd (omega arith) }

module _ {s : List ℕ} {contexts : List Context} {q : ℕ} (h : DoneBefore s q contexts) where
  -- A record that is no modality changes nothing,
  pub done_pass : (k : kind.Kind) → kind_meant k ≡ kind_at s q → ((x : mode.Mode) → k ≡ kind.TheVariants.Modal x → ⊥)
      → DoneBefore s (q + 1) contexts
  done_pass k same o = record {
    size = h.size;
    formulas = h.formulas;
    done = below_more (PathDone s contexts) q h.done (λ m e. absurd (no_modal k o m (same ∙ e)));
  }

  -- and a modality hands all under its path its own.
  pub done_more : {after : List Context} → Handed s (field_a s q) contexts after → DoneBefore s (q + 1) after
  done_more {after} x = record {
    size = x.size;
    formulas = λ r e. x.kept r (h.formulas r e);
    done = below_more (PathDone s after) q (λ j l m e r u. x.kept r (h.done j l m e r u)) (λ m e. x.parts);
  }

-- ---- all records
-- A place after the last record counts as a formula.
outside : {s : List ℕ} {A : ℕ} → WellFormed core s A → (r : ℕ) → count s ≤ r → sort_of (kind_at s r) ≡ formula
unfolding kind_of kinds columns_of
outside {s} w r h = rw (get_or-eq_default s 0 {n = record_size * r} (omega (arith, w.whole)))

module _ {s : List ℕ} {contexts : List Context} (f : Formed s) (h : DoneBefore s (count s) contexts) where
  -- All under a path is entered: climbing to its modality, by m steps at most.
  entered_under : (m r t : ℕ) → r < count s → sort_of (kind_at s r) ≡ path → count s ≤ r + m → PathUnder s r t → Entered s contexts t
  entered_under zero r t l e k v = absurd (omega arith)
  entered_under (suc m) r t l e k v =
      let w = f.formed in
      let q = parent s r in
      let (b, u) = has_parent w r (path_before w r l e) in
      let later = child_earlier w r q b u in
      elim (used_in s r q u) [
        | inl (σ, a, z) ↦
            let (_, o) = rw a at (w.first q b) in
            let c : use_a (kind_at s q) ≡ child path = cc in
            elim (either_sort (sort_of (kind_at s q))) [
              | inl i ↦ let (m, n) = first_modal (kind_at s q) (w.kinds q b) i c in h.done q b m n t (rw z v)
              | inr i ↦ entered_under m q t b i (omega arith) (first c (rw z v))
            ]
        | inr (σ, a, z) ↦
            let (_, o) = rw a at (w.second q b) in
            let c : use_b (kind_at s q) ≡ child path = cc in
            elim (either_sort (sort_of (kind_at s q))) [
              | inl i ↦ absurd (none_second (kind_at s q) (w.kinds q b) i c)
              | inr i ↦ entered_under m q t b i (omega arith) (second c (rw z v))
            ]
      ]

  entered : (r : ℕ) → Entered s contexts r
  entered r = elim (either_sort (sort_of (kind_at s r))) [
    | inl e ↦ h.formulas r e
    | inr e ↦ elim (le_or_lt (count s) r) [
      | inl m ↦ absurd (differs (outside f.formed r m) e)
      | inr m ↦ entered_under (count s) r r m e (omega arith) itself
    ]
  ]

  pub done_all : contexts ≡ contexts_of s
  unfolding contexts_of
  done_all =
      let entry = λ (r : ℕ). entry_by (sort_of (kind_at s r)) (held (context s r)) ∷ [] in
      ext_get_or no_context contexts (contexts_of s) (h.size ∙ sym (length_each 1 entry (λ r. refl) most_records))
      (λ r l.
      let e : 1 * r + 0 ≡ r = omega arith in
      entered r ∙ sym (rw e at (get_d_each 1 entry (λ r. refl) no_context 0 (omega arith) most_records r (omega (arith, h.size)))))
