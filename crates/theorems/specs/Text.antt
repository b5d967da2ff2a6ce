-- Formulas as text: a text and its formula determine each other, and writing and reading undo each other.
--   given n           the answer that accepts and counts n
--   WrittenIsRead s A    what is read where the records s are written
--   ReadIsWritten t A    what is written where the text t is read
use Rattle.std.specs.Prelude.{ℕ, pred, ◌*◌, ◌≤◌, ◌≡◌, ◌↔◌, List, length}
use Rattle.std.proofs.Math.Option.{some}
use Rattle.meaning.specs.Run.{written}
use Rattle.meaning.specs.Record.{record_size, count}
use Rattle.meaning.specs.Formula.{Form, form_atoms}
use Rattle.meaning.specs.Tree.{form_at, form_size, postorder}
use Rattle.meaning.specs.Text.{spell, whole_text, text_atoms, most_text, Spells, read, form_in}
use Rattle.meaning.specs.Service.{Counted, check_answer, write_answer, write_after, read_answer, read_after}
use Rattle.meaning.specs.Examples.{Texts}

abbrev pub given : ℕ → Counted
given n = record { refusal = 0; count = n }

-- The whole formula of s: wherever there is room, its text is read as the same tree, in postorder.
pub record WrittenIsRead (s : List ℕ) (A : ℕ) : Type 0 where
  pub output : (buffer : List ℕ) → length (whole_text s) ≤ length buffer
      → write_after s A buffer ≡ written (whole_text s) buffer
  pub same_tree : form_in (whole_text s) ≡ form_at s (pred (count s))
  pub answer : (buffer : List ℕ) → record_size * count s ≤ length buffer
      → read_answer (whole_text s) A (length buffer) ≡ given (count s)
  pub records : (buffer : List ℕ) → record_size * count s ≤ length buffer
      → read_after (whole_text s) A buffer ≡ written (postorder (form_at s (pred (count s)))) buffer

-- The records of t's formula: wherever there is room, they are written as the same bytes.
pub record ReadIsWritten (t : List ℕ) (A : ℕ) : Type 0 where
  pub output : (buffer : List ℕ) → record_size * form_size (form_in t) ≤ length buffer → read_after t A buffer ≡ written (postorder (form_in t)) buffer
  pub answer : (buffer : List ℕ) → length t ≤ length buffer → write_answer (postorder (form_in t)) A (length buffer) ≡ given (length t)
  pub bytes : (buffer : List ℕ) → length t ≤ length buffer → write_after (postorder (form_in t)) A buffer ≡ written t buffer

pub record Text : Type 0 where
  -- A text is read as a formula exactly if it is that formula's text, so that only text of this one form is read,
  pub reads : (t : List ℕ) (F : Form) → (read t ≡ some F) ↔ Spells F t
  -- and two formulas with one text are equal.
  pub once : (F G : Form) (t : List ℕ) → Spells F t → Spells G t → F ≡ G
  -- A text has at most six bytes for each record, so that no formula's text is too long to be read.
  pub six_each : (F : Form) → form_atoms F ≤ text_atoms → length (spell F) ≤ 6 * form_size F
  pub short : (s : List ℕ) (A : ℕ) → check_answer s A ≡ 0 → length (whole_text s) ≤ most_text
  -- Reading what was written, and writing what was read.
  pub written_read : (s : List ℕ) (A room : ℕ) → (write_answer s A room).refusal ≡ 0 → WrittenIsRead s A
  pub read_written : (t : List ℕ) (A room : ℕ) → (read_answer t A room).refusal ≡ 0 → ReadIsWritten t A
  -- There are such inputs: the specification's samples, from record bytes to text bytes and back.
  pub samples : Texts
