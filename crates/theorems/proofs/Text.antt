-- Writing and reading undo each other. Where records are written, none is a back step, so the whole formula is read from its text, and its
-- records in postorder are as many and name the same atoms. Where a text is read, it is its formula's text, and the formula's records
-- in postorder are a formula again, none of them a back step.
use Prim.Native.Nat.{ℕ, pred, ◌*◌, ◌<◌, ◌≤◌}
use mathlib.Core.Path.{◌≡◌, refl, sym, ◌∙◌}
use mathlib.Core.Bool.{true, false, true≢false}
use mathlib.Core.List.{List}
use mathlib.Core.Option.{Option, none, some}
use native.Mathlib.Nat.{le_refl}
use native.Mathlib.Omega.{arith}
use lib.ListN.{length}
use borrow.Author.Tests.{leb-false}
use Rattle.meaning.specs.Run.{each, written}
use Rattle.meaning.specs.Record.{core, record_size, count, kind_at, field_a, field_b, Use, unused, atomNumber, child, use_a, use_b}
use Rattle.meaning.specs.Formula.{Form, form_atoms}
use Rattle.meaning.specs.Tree.{form_at, form_size, postorder}
use Rattle.meaning.specs.Text.{spell, whole_text, text_atoms, Spells, read, is_read, or_false, form_in}
use Rattle.meaning.specs.Refusal.{most_atoms, beyond, ground5, record_grounds, tree_grounds}
use Rattle.meaning.specs.WellFormed.{Fits, WellFormed}
use Rattle.meaning.specs.Service.{write_answer, write_after, read_answer, read_after}
use Rattle.meaning.proofs.Fails.{or_fails}
use Rattle.meaning.proofs.First.{none_clear, clear_none, clear_append, clear_each}
use Rattle.meaning.proofs.Accepted.{clear_well_formed, check_accepts}
use Rattle.meaning.proofs.Atoms.{form_atoms_at}
use Rattle.meaning.proofs.Sizes.{whole_size}
use Rattle.meaning.proofs.Lengths.{spell_long, whole_fits}
use Rattle.meaning.proofs.Refusing.{write_ordered, read_ordered}
use Rattle.meaning.proofs.Spelling.{reads, spelled, spell_once}
use Rattle.meaning.proofs.Texting.{Writes, Takes, write_clear, read_clear, whole_spells, records_onward}
use Rattle.meaning.proofs.Examples.{texts}
use Rattle.theorems.specs.Text.{given, WrittenIsRead, ReadIsWritten, Text}
use Rattle.theorems.proofs.Expander.{written_formed, written_count, written_tree}

-- ---- what acceptance gives, and what is answered then
writes : (s : List ℕ) (A room : ℕ) → (write_answer s A room).refusal ≡ 0 → Writes s A room
unfolding write_answer
writes s A room e = (write_clear s A room).0 (none_clear _ (write_ordered s A room).numbered e)

writes_answer : (s : List ℕ) (A room : ℕ) → Writes s A room → write_answer s A room ≡ given (length (whole_text s))
unfolding write_answer
writes_answer s A room w = rw (clear_none _ ((write_clear s A room).1 w))

writes_after : (s : List ℕ) (A : ℕ) (out : List ℕ) → Writes s A (length out) → write_after s A out ≡ written (whole_text s) out
unfolding write_after
writes_after s A out w = rw (writes_answer s A (length out) w)

takes : (t : List ℕ) (A room : ℕ) → (read_answer t A room).refusal ≡ 0 → Takes t A room
unfolding read_answer
takes t A room e = (read_clear t A room).0 (none_clear _ (read_ordered t A room).numbered e)

takes_answer : (t : List ℕ) (A room : ℕ) → Takes t A room → read_answer t A room ≡ given (form_size (form_in t))
unfolding read_answer
takes_answer t A room w = rw (clear_none _ ((read_clear t A room).1 w))

takes_after : (t : List ℕ) (A : ℕ) (out : List ℕ) → Takes t A (length out) → read_after t A out ≡ written (postorder (form_in t)) out
unfolding read_after
takes_after t A out w = rw (takes_answer t A (length out) w)

-- ---- the formula of a text
form_read : (t : List ℕ) (F : Form) → read t ≡ some F → (form_in t ≡ F) × (is_read (read t) ≡ true)
unfolding form_in or_false is_read
form_read t F e = rw e (refl, refl)

text_is : (t : List ℕ) → is_read (read t) ≡ true → Spells (form_in t) t
unfolding form_in is_read or_false
text_is t h = go (read t) refl h
  where
    go : (x : Option Form) → read t ≡ x → is_read x ≡ true → Spells (or_false x) t
    go none e h = absurd (true≢false (sym h))
    go (some F) e h = reads t F e

-- Atoms of records in form are known.
atoms_known : (e : List ℕ) (A : ℕ) → WellFormed core e A → (r : ℕ) → r < count e → (ground5 e A r).applies ≡ false
unfolding tree_grounds record_grounds
atoms_known e A w r l =
    let records = ((clear_append (each (count e) (record_grounds core e A)) _).0 ((clear_well_formed core e A).1 w).1.1).0 in
    (clear_each _ (count e) records r l).1.1.1.0

-- And records in form over B atoms, none of them beyond A, are in form over A.
fits_fewer : (e : List ℕ) (B A r : ℕ) (u : Use) (v : ℕ) → Fits e B r u v → beyond u v A ≡ false → Fits e A r u v
unfolding beyond
fits_fewer e B A r unused v f h = f
fits_fewer e B A r atomNumber v f h = leb-false A v h
fits_fewer e B A r (child σ) v f h = f

fewer_atoms : (e : List ℕ) (B A : ℕ) → WellFormed core e B → A ≤ most_atoms → ((r : ℕ) → r < count e → (ground5 e A r).applies ≡ false) → WellFormed core e A
unfolding ground5
fewer_atoms e B A w few known = record {
  whole = w.whole;
  some = w.some;
  few = w.few;
  atoms = few;
  kinds = w.kinds;
  zeros = w.zeros;
  first = λ r l. fits_fewer e B A r (use_a (kind_at e r)) (field_a e r) (w.first r l) (none_beyond r l).0;
  second = λ r l. fits_fewer e B A r (use_b (kind_at e r)) (field_b e r) (w.second r l) (none_beyond r l).1;
  last = w.last;
  once = w.once;
}
  where
    none_beyond : (r : ℕ) → r < count e
        → (beyond (use_a (kind_at e r)) (field_a e r) A ≡ false) × (beyond (use_b (kind_at e r)) (field_b e r) A ≡ false)
    none_beyond r l = (or_fails (beyond (use_a (kind_at e r)) (field_a e r) A) _).0 (known r l)

-- ---- reading what was written
module _ (s : List ℕ) (A room : ℕ) (accepted : (write_answer s A room).refusal ≡ 0) where
  abbrev F : Form
  F = form_at s (pred (count s))

  wrote : Writes s A room
  wrote = writes s A room accepted

  found : read (spell F) ≡ some F
  found = spelled (spell F) F (whole_spells wrote.formed wrote.onward)

  again : form_in (spell F) ≡ F
  again = (form_read (spell F) F found).0

  low : form_atoms F ≤ A
  low = form_atoms_at wrote.formed (pred (count s)) (omega (arith, wrote.formed.some))

  size : form_size F ≡ count s
  size = whole_size wrote.formed

  read_takes : (n : ℕ) → record_size * count s ≤ n → Takes (spell F) A n
  read_takes n l =
      let w = written_formed core F A low wrote.formed.atoms (omega (arith, size, wrote.formed.few)) in
      record {
        atoms = wrote.formed.atoms;
        short = whole_fits wrote.formed;
        formed = (form_read (spell F) F found).1;
        few = rw again (omega (arith, size, wrote.formed.few));
        known_atoms = rw again (λ r h. atoms_known (postorder F) A w r (omega (arith, written_count core F A low)));
        enough = rw again (omega (arith, size));
      }

  written_is_read : WrittenIsRead s A
  written_is_read = record {
    output = λ buffer l. writes_after s A buffer (record { formed = wrote.formed; onward = wrote.onward; enough = l });
    same_tree = again;
    answer = λ buffer l. takes_answer (spell F) A (length buffer) (read_takes (length buffer) l) ∙ rw (again, size);
    records = λ buffer l. takes_after (spell F) A buffer (read_takes (length buffer) l) ∙ rw again;
  }

-- ---- writing what was read
module _ (t : List ℕ) (A room : ℕ) (accepted : (read_answer t A room).refusal ≡ 0) where
  abbrev G : Form
  G = form_in t

  took : Takes t A room
  took = takes t A room accepted

  text : Spells G t
  text = text_is t took.formed

  -- In form over the atoms that text may name, and so over A of them, since there is none beyond.
  formed : WellFormed core (postorder G) A
  formed =
      let w = written_formed core G text_atoms text.few_atoms (le_refl _) took.few in
      fewer_atoms (postorder G) text_atoms A w took.atoms (λ r l. took.known_atoms r (omega (arith, written_count core G text_atoms text.few_atoms)))

  tree : form_at (postorder G) (pred (count (postorder G))) ≡ G
  tree = written_tree core G text_atoms text.few_atoms

  write_writes : (n : ℕ) → length t ≤ n → Writes (postorder G) A n
  write_writes n l = record {
    formed = formed;
    onward = λ r h. records_onward G text.ahead_only r (omega (arith, written_count core G text_atoms text.few_atoms));
    enough = rw (tree, ← text.text) l;
  }

  read_is_written : ReadIsWritten t A
  read_is_written = record {
    output = λ buffer l. takes_after t A buffer (record { atoms = took.atoms; short = took.short; formed = took.formed; few = took.few; known_atoms = took.known_atoms; enough = l });
    answer = λ buffer l. writes_answer (postorder G) A (length buffer) (write_writes (length buffer) l) ∙ rw (tree, ← text.text);
    bytes = λ buffer l. writes_after (postorder G) A buffer (write_writes (length buffer) l) ∙ rw (tree, ← text.text);
  }

pub text_theorem : Text
text_theorem = record {
  reads = λ t F. (reads t F, spelled t F);
  once = spell_once;
  six_each = spell_long;
  short = λ s A e. whole_fits ((check_accepts s A).0 e);
  written_read = written_is_read;
  read_written = read_is_written;
  samples = texts;
}
