-- The answers of both services. Their grounds are those of what they are given, and after these those of what comes out; what comes out is
-- in a buffer, from which it is copied where there is room.
use Prim.Native.Nat.{ℕ, zero, suc, ◌+◌, ◌*◌, ◌<◌, ◌≤◌}
use mathlib.Core.Path.{◌≡◌, refl, sym, ◌∙◌}
use mathlib.Core.Bool.{true}
use mathlib.Core.List.{List, [], ◌∷◌, ◌++◌, append_assoc}
use native.Mathlib.Nat.{le_refl}
use native.Mathlib.Omega.{arith}
use lib.ListN.{length, get_or, take, drop, get_or-append}
use lib.Seq.{sets}
use borrow.Author.Tests.{lt-ltb, le-ltb, ltb-false, eq-eqb, ne_eqb, not-false}
use Rattle.meaning.specs.Run.{each, written}
use Rattle.meaning.specs.Record.{core, record_size, most_records}
use Rattle.meaning.specs.Formula.{Form, form_atoms}
use Rattle.meaning.specs.Tree.{form_size, postorder}
use Rattle.meaning.specs.Text.{whole_text, most_text, read, is_read, form_in}
use Rattle.meaning.specs.Refusal.{Ground, of_first, first_of, ground5, ground8, ground10, ground14, ground14_text, ground19, check_grounds, back_grounds, atom_grounds, records_grounds, form_grounds, write_grounds, read_grounds}
use Rattle.meaning.specs.Service.{accepted, write_answer, write_after, read_answer, read_after}
use Rattle.meaning.proofs.First.{Clear, Numbered, none_clear, clear_skip, found_stop, clear_append, numbered_append, numbered_each}
use Rattle.meaning.proofs.Stores.{sets_written, front_copied}
use Rattle.meaning.proofs.Postorder.{form_part}
use Rattle.text.specs.Texting.{text_grounds, Sized, Came}

-- ---- grounds of what is given, and of what comes out
module _ (gs ks : List Ground) {x : ℕ} where
  pub refused_first : x ≡ first_of gs → (x ≡ 0 → ⊥) → x ≡ first_of (gs ++ ks)
  refused_first e n = e ∙ sym (found_stop gs ks (λ z. n (e ∙ z)))

  pub refused_after : Clear gs → x ≡ first_of ks → x ≡ first_of (gs ++ ks)
  refused_after c e = e ∙ sym (clear_skip gs ks c)

-- ---- bytes that come out
pub room_short : (n room : ℕ) → room < n → 10 ≡ first_of (ground10 n room ∷ [])
unfolding of_first ground10
room_short n room l = rw (lt-ltb room n l)

pub has_room : (n room : ℕ) → n ≤ room → 0 ≡ first_of (ground10 n room ∷ [])
unfolding of_first ground10
has_room n room l = rw (le-ltb room n l)

pub sized_refused : (new out : List ℕ) → length out < length new → Sized new (length new) out 10 0 out
sized_refused new out l = record { sized = room_short (length new) (length out) l; counted = refl; stored = refl }

pub sized_stored : (new old out : List ℕ) (n : ℕ) (after : List ℕ) → n ≡ length new → length new ≤ length old → n ≤ length out
    → after ≡ sets out 0 (take n (sets old 0 new)) → Sized new (length new) out 0 n after
sized_stored new old out n after e l room a = record {
  sized = has_room (length new) (length out) (omega arith);
  counted = e;
  stored = a ∙ rw e (front_copied new old out l (omega arith));
}

-- ---- records that come out
-- A buffer is read where something was stored from its start on.
front_read : (e l : List ℕ) → length e ≤ length l → (i : ℕ) → i < length e → get_or (sets l 0 e) i 0 ≡ get_or e i 0
unfolding written
front_read e l h i b = rw (sets_written e l h) (get_or-append e (drop (length e) l) 0 i b)

pub records_long : (F : Form) → length (postorder F) ≡ record_size * form_size F
records_long F = (form_part core (postorder F) (form_atoms F) F 0 (le_refl _)).whole

module _ (F : Form) (l : List ℕ) {buffer : List ℕ} {n : ℕ} (few : form_size F ≤ most_records) (size : length l ≡ record_size * most_records)
    (made : buffer ≡ sets l 0 (postorder F)) (counts : n ≡ form_size F) where
  abbrev e : List ℕ
  e = postorder F

  same_atoms : (A r : ℕ) → r < form_size F → ground5 buffer A r ≡ ground5 e A r
  unfolding ground5
  same_atoms A r b =
      let at : (i : ℕ) → i < record_size * r + record_size → get_or buffer i 0 ≡ get_or e i 0 = λ i h.
      rw made (front_read e l (omega (arith, records_long F)) i (omega (arith, records_long F))) in
      rw (
        at (record_size * r) (omega arith),
        at (record_size * r + 2) (omega arith),
        at (record_size * r + 2 + 1) (omega arith),
        at (record_size * r + 4) (omega arith),
        at (record_size * r + 4 + 1) (omega arith),
      )

  same_grounds : (A m : ℕ) → m ≤ form_size F → atom_grounds buffer m A ≡ atom_grounds e m A
  unfolding each
  same_grounds A zero h = refl
  same_grounds A (suc m) h = rw (same_grounds A m (omega arith), same_atoms A m h)

  module _ (A : ℕ) (out : List ℕ) {x : ℕ} (test : x ≡ first_of (records_grounds buffer n A (length out))) where
    tested : x ≡ first_of (records_grounds e (form_size F) A (length out))
    tested = test ∙ rw (counts, same_grounds A (form_size F) (le_refl _))

    pub records_refused : (x ≡ 0 → ⊥) → Came F A out x 0 out
    records_refused d = let other = ne_eqb x 0 d in record { refused = tested; counted = rw other; stored = rw other }

    module _ (z : x ≡ 0) where
      pub records_room : record_size * n ≤ length out
      unfolding ground5 ground10
      records_room =
          let ends : Numbered (ground10 (record_size * form_size F) (length out) ∷ []) = omega arith in
          let all = none_clear _ (numbered_append (atom_grounds e (form_size F) A) _ (numbered_each _ _ (λ r. omega arith)) ends) (sym tested ∙ z) in
          rw counts (ltb-false (length out) _ ((clear_append (atom_grounds e (form_size F) A) _).0 all).1.0)

      pub records_stored : {after : List ℕ} → after ≡ sets out 0 (take (record_size * n) buffer) → Came F A out x n after
      records_stored a =
          let given = eq-eqb x 0 z in
          let copied = rw (records_long F) at (front_copied e l out (omega (arith, records_long F)) (omega (arith, records_long F, records_room))) in
          record { refused = tested; counted = rw given counts; stored = rw given (a ∙ rw (counts, made) copied) }

-- ---- the whole answers
-- Of any service that gives a number and writes bytes, or refuses.
module _ (gs ks : List Ground) (size : ℕ) (new out : List ℕ) (x : ℕ) where
  abbrev Answers : ℕ → List ℕ → Type 0
  Answers n after =
      let refusal = first_of (gs ++ ks) in
      (x ≡ refusal) × ((n ≡ accepted refusal size 0) × (after ≡ accepted refusal (written new out) out))

  answers_refused : x ≡ first_of gs → (x ≡ 0 → ⊥) → Answers 0 out
  answers_refused e d =
      let all = refused_first gs ks e d in
      let other = ne_eqb x 0 d in
      (all, (rw (← all, other), rw (← all, other)))

  answers_passed : (n : ℕ) (after : List ℕ) → Clear gs → x ≡ first_of ks → n ≡ accepted x size 0 → after ≡ accepted x (written new out) out
      → Answers n after
  answers_passed n after c e size bytes = let all = refused_after gs ks c e in (all, (rw all at size, rw all at bytes))

module _ (s : List ℕ) (A : ℕ) (out : List ℕ) (x : ℕ) where
  abbrev Wrote : ℕ → List ℕ → Type 0
  Wrote n after =
      (x ≡ (write_answer s A (length out)).refusal) × ((n ≡ (write_answer s A (length out)).count) × (after ≡ write_after s A out))

  abbrev text : List ℕ
  text = whole_text s

  abbrev given : List Ground
  given = check_grounds s A ++ back_grounds s

  pub write_refused : x ≡ first_of given → (x ≡ 0 → ⊥) → Wrote 0 out
  unfolding write_answer write_after write_grounds
  write_refused e d = rw append_assoc at (answers_refused given (ground10 (length text) (length out) ∷ []) (length text) text out x e d)

  pub write_passed : (n : ℕ) (after : List ℕ) → Clear given → Sized text (length text) out x n after → Wrote n after
  unfolding write_answer write_after write_grounds
  write_passed n after c a =
      rw append_assoc at (answers_passed given (ground10 (length text) (length out) ∷ []) (length text) text out x n after c a.sized a.counted a.stored)

module _ (t : List ℕ) (A : ℕ) (out : List ℕ) (x : ℕ) where
  abbrev Read : ℕ → List ℕ → Type 0
  Read n after = (x ≡ (read_answer t A (length out)).refusal) × ((n ≡ (read_answer t A (length out)).count) × (after ≡ read_after t A out))

  abbrev rest : List Ground
  rest = records_grounds (postorder (form_in t)) (form_size (form_in t)) A (length out)

  pub read_refused : x ≡ first_of (text_grounds t A) → (x ≡ 0 → ⊥) → Read 0 out
  unfolding read_answer read_after read_grounds
  read_refused e d =
      answers_refused (form_grounds t A) rest (form_size (form_in t)) (postorder (form_in t)) out x
      (refused_first (text_grounds t A) (ground14 (form_size (form_in t)) ∷ []) e d) d

  pub read_passed : (n : ℕ) (after : List ℕ) → Clear (text_grounds t A) → form_size (form_in t) ≤ most_records → Came (form_in t) A out x n after → Read n after
  unfolding read_answer read_after read_grounds ground14
  read_passed n after c l a =
      answers_passed (form_grounds t A) rest (form_size (form_in t)) (postorder (form_in t)) out x n after
      ((clear_append (text_grounds t A) (ground14 (form_size (form_in t)) ∷ [])).1 (c, (le-ltb most_records _ l, tt))) a.refused a.counted a.stored

-- Too many records.
pub read_long : (t : List ℕ) (A : ℕ) (out : List ℕ) → Clear (text_grounds t A) → most_records < form_size (form_in t)
    → (14 ≡ (read_answer t A (length out)).refusal) × ((0 ≡ (read_answer t A (length out)).count) × (out ≡ read_after t A out))
unfolding read_answer read_after read_grounds ground14 of_first
read_long t A out c l =
    let long : 14 ≡ first_of (ground14 (form_size (form_in t)) ∷ []) = rw (lt-ltb most_records _ l) in
    answers_refused (form_grounds t A) (records_grounds (postorder (form_in t)) (form_size (form_in t)) A (length out)) (form_size (form_in t)) (postorder (form_in t)) out 14
    (refused_after (text_grounds t A) (ground14 (form_size (form_in t)) ∷ []) c long) (omega arith)

pub text_numbered : (t : List ℕ) (A : ℕ) → Numbered (text_grounds t A)
unfolding ground8 ground14_text ground19
text_numbered t A = (omega arith, (omega arith, (omega arith, tt)))

pub text_clear : (t : List ℕ) (A : ℕ) → Clear (text_grounds t A) → (length t ≤ most_text) × (is_read (read t) ≡ true)
unfolding ground8 ground14_text ground19
text_clear t A (_, (l, (r, _))) = (ltb-false most_text (length t) l, not-false _ r)
