-- The rules of one record, and of all. For a formula's kind neither the mode nor the continuation matters, so what is
-- known of the path records is enough for all.
use Prim.Native.Nat.{ℕ, zero, suc, pred, ◌+◌, ◌*◌, ◌/◌, ◌<◌, ◌≤◌}
use mathlib.Core.Path.{◌≡◌, refl, sym, ap, ◌∙◌}
use mathlib.Core.Logic.{inl, inr}
use mathlib.Core.List.{List, [], ◌∷◌, ◌++◌}
use native.Mathlib.Nat.{le_refl}
use native.Mathlib.Omega.{arith}
use lib.ListN.{length, get_or, take, length-append}
use Rattle.meaning.specs.Record.{core, Kind, columns_of, Mode}
use Rattle.meaning.specs.Record.{diamond, box, formula, path, sort_of, most_records, count, kind_at, field_a, field_b, Use, unused, atomNumber, child, use_a}
use Rattle.std.specs.List.{flat_map}
use Rattle.std.proofs.lemmas.List.{take_more, append-nil}
use Rattle.std.proofs.lemmas.List.Concat.{flat_map-append}
use Rattle.meaning.specs.Translation.{label, context, rules_of, rules_at, asserted, translation, rule_number}
use Rattle.meaning.specs.{Run.each, Run.written, Rule.Rule, Rule.rule, Rule.rule_size, Rule.words, WellFormed.WellFormed, WellFormed.Fits}
use Rattle.meaning.proofs.{Bounds.le_or_lt, Nodes.either_sort, Cases.by_kind}
use Rattle.meaning.proofs.{RuleCount.record_few, RuleCount.rules_counted, RuleCount.words_length, RuleCount.words_append, Runs.each_more, Runs.get_d_each}
use Rattle.records.specs.Kinds.{mode_meant}
use Rattle.paths.specs.Asking.{Formed}
use Rattle.contexts.specs.declared.Context.{Context}
use Rattle.records.specs.declared.kind.Mode.TheVariants.{Diamond}
use Rattle.contexts.specs.Contexts.{mode_named, held, entry_by, contexts_of}
use Rattle.rulings.specs.Rows.{row_of, rows_of}
use Rattle.copying.specs.Appended.{Appended}
use Rattle.copying.proofs.Appending.{append_length, append_more, append_written}

-- ---- by the kind
formula_same : (m n : Mode) (x a b c d i : ℕ) (K : Kind) → sort_of K ≡ formula → rules_of K m x a b c i ≡ rules_of K n x a b d i
unfolding columns_of rules_of
formula_same m n x a b c d i =
    by_kind _ (λ v e. refl) (λ e. refl) (λ k e. refl) (λ w e. absurd cc) (λ e. absurd cc) (λ e. absurd cc) (λ e. absurd cc) (λ e. absurd cc)
    (λ σ e. refl) (λ e. refl)

mode_again : (m : Mode) → mode_meant (mode_named m) ≡ m
mode_again diamond = refl
mode_again box = refl

-- What the goals name for a place beyond the array; none is read.
abbrev beyond : Context
beyond = record { mode = Diamond; continuation = 0 }

-- ---- by the record
pub record_counted : (s : List ℕ) (A r : ℕ) → length (rules_at s A r) ≡ rule_number (kind_at s r) (context s r).mode
unfolding rules_at
record_counted s A r = rules_counted (kind_at s r) (context s r).mode _ _ _ _ _

module _ {s : List ℕ} {A : ℕ} (w : WellFormed core s A) {r : ℕ} (l : r < count s) where
  field_small : (u : Use) (v : ℕ) → Fits s A r u v → v < 255
  field_small unused v h = omega arith
  field_small atomNumber v h = omega (arith, w.atoms)
  field_small (child σ) v h = omega (arith, h.0, w.few)

  pub first_small : field_a s r < 255
  first_small = field_small (use_a (kind_at s r)) _ (w.first r l)

  -- What a path's entry holds.
  entry_of : sort_of (kind_at s r) ≡ path → get_or (contexts_of s) r beyond ≡ held (context s r)
  unfolding contexts_of entry_by
  entry_of e =
      let i : 1 * r + 0 ≡ r = omega arith in
      rw i at (get_d_each 1 (λ q. entry_by (sort_of (kind_at s q)) (held (context s q)) ∷ []) (λ q. refl) beyond 0 (omega arith) most_records r (omega (arith, w.few)))
      ∙ rw e

  module _ {contexts : List Context} (found : contexts ≡ contexts_of s) where
    -- The rules as the code asks for them.
    pub record_rules :
        let u = get_or contexts r beyond in
        rules_of (kind_at s r) (mode_meant u.mode) (label A r) (label A (field_a s r)) (label A (field_b s r))
        (label A u.continuation) (field_a s r) ≡ rules_at s A r
    unfolding rules_at
    record_rules = rw found (elim (either_sort (sort_of (kind_at s r))) [
      | inl e ↦ formula_same _ _ _ _ _ _ _ _ (kind_at s r) e
      | inr e ↦ rw (entry_of e, mode_again)
    ])

-- They are as many as the code counts.
pub rules_number : {s : List ℕ} {r : ℕ} {contexts : List Context} → Formed s × (contexts ≡ contexts_of s) × (r < count s)
    → rule_number (kind_at s r) (mode_meant (get_or contexts r beyond).mode) ≡ rule_number (kind_at s r) (context s r).mode
rules_number {s} {r} (f, found, l) =
    sym (rules_counted (kind_at s r) _ _ _ _ _ _) ∙ ap length (record_rules {A = f.atoms} f.formed l found) ∙ record_counted s f.atoms r

pub rules_few : (s : List ℕ) (r : ℕ) → rule_number (kind_at s r) (context s r).mode ≤ 4
rules_few s r = omega (arith, record_few s 0 r, record_counted s 0 r)

-- ---- rows
-- One more.
pub row_more : (rows : List (List ℕ)) (i : ℕ) → i < length rows
    → flat_map (λ row. row) (take (i + 1) rows) ≡ flat_map (λ row. row) (take i rows) ++ get_or rows i []
row_more rows i l = rw (take_more rows i [] l, flat_map-append, append-nil (get_or rows i []))

-- As many rows as there are rules hold their words.
rows_words : (ρs : List Rule) → length ρs ≤ 4 → flat_map (λ x. x) (take (length ρs) (rows_of ρs)) ≡ words ρs
unfolding words
rows_words [] h = refl
rows_words (ρ ∷ []) h = refl
rows_words (ρ ∷ σ ∷ []) h = refl
rows_words (ρ ∷ σ ∷ τ ∷ []) h = refl
rows_words (ρ ∷ σ ∷ τ ∷ υ ∷ []) h = refl
rows_words (ρ ∷ σ ∷ τ ∷ υ ∷ φ ∷ ρs) h = absurd (omega arith)

pub record_words : (s : List ℕ) (A r : ℕ) {rows : List (List ℕ)} {n : ℕ} → rows ≡ rows_of (rules_at s A r)
    → n ≡ rule_number (kind_at s r) (context s r).mode → flat_map (λ x. x) (take n rows) ≡ words (rules_at s A r)
record_words s A r rows n = rw (rows, n, ← record_counted s A r) (rows_words (rules_at s A r) (record_few s A r))

-- ---- all records
each_words : (f : ℕ → List Rule) (n : ℕ) → words (each n f) ≡ each n (λ r. words (f r))
unfolding each words
each_words f zero = refl
each_words f (suc n) = words_append (each n f) (f n) ∙ rw (each_words f n)

each_grows : (f : ℕ → List ℕ) (m n : ℕ) → m ≤ n → length (each m f) ≤ length (each n f)
unfolding each
each_grows f m zero h = let e : m ≡ zero = omega arith in rw e (le_refl _)
each_grows f m (suc n) h = elim (le_or_lt m n) [
  | inl l ↦ omega (arith, each_grows f m n l, length-append (each n f) (f n))
  | inr l ↦ let e : m ≡ suc n = omega arith in rw e (le_refl _)
]

-- The words of record r's rules.
abbrev pub words_at : List ℕ → ℕ → ℕ → List ℕ
words_at s A r = words (rules_at s A r)

module _ (s : List ℕ) (A : ℕ) where
  -- Those of all records, and of the last rule.
  translation_words : words (translation s A) ≡ each (count s) (words_at s A) ++ words (asserted s A ∷ [])
  unfolding translation
  translation_words = words_append (each (count s) (rules_at s A)) _ ∙ rw each_words

  total : rule_size * length (translation s A) ≡ length (each (count s) (words_at s A)) + rule_size
  unfolding words
  total =
      let all = ap length translation_words ∙ length-append (each (count s) (words_at s A)) _ in
      omega (arith, words_length (translation s A))

  module _ {old mid : List ℕ} {at : ℕ} (fits : rule_size * length (translation s A) ≤ length old) where
    -- There is room for the rules of record r after those before,
    pub room_next : (r : ℕ) → r < count s → Appended old 0 (each r (words_at s A)) at mid
        → at + rule_size * rule_number (kind_at s r) (context s r).mode ≤ length mid
    room_next r l p =
        let grown = each_grows (words_at s A) (r + 1) (count s) (omega arith) in
        let one = rw (each_more (words_at s A) r, length-append) at grown in
        omega (arith, total, append_length p, p.place, words_length (rules_at s A r), record_counted s A r)

    module _ {r : ℕ} (end : r ≡ count s) (p : Appended old 0 (each r (words_at s A)) at mid) where
      -- and for the last rule.
      pub room_last : at + rule_size ≤ length mid
      room_last = let p = rw end at p in omega (arith, total, append_length p, p.place)

      -- With it, all are written.
      pub all_written : {row new : List ℕ} {e x : ℕ} → x ≡ label A (pred (count s)) → row ≡ row_of (rule 1 [] (x ∷ [])) → Appended mid at row e new
          → (e / rule_size ≡ length (translation s A)) × (new ≡ written (words (translation s A)) old)
      unfolding each words
      all_written {x = x} last row q =
          let whole = rw (← translation_words) at (append_more (rw end at p) (rw (row, last) at q)) in
          let (e, n) = append_written whole (omega (arith, whole.place, words_length (translation s A))) in
          (omega (arith, words_length (translation s A)), n)
