-- What the parts of writing and reading text ask and leave.
--   Sized new size out x c after     the answer for bytes `new`: 10 or none, their size, and the output `after`
--   text_grounds t A                 8, 14 and 19, of a text
--   Readable t n                     t is the text of a formula of n records, which are not too many
--   Came F A out x c after           the answer for the text of F: 5, 10 or none, the number of records, and the output `after`
use Rattle.std.specs.Prelude.{ℕ, ◌≤◌, ◌≡◌, true, List, [], ◌∷◌, length}
use Rattle.meaning.specs.Run.{written}
use Rattle.meaning.specs.Record.{most_records}
use Rattle.meaning.specs.Formula.{Form}
use Rattle.meaning.specs.Tree.{form_size, postorder}
use Rattle.meaning.specs.Text.{most_text, read, is_read, form_in}
use Rattle.meaning.specs.Refusal.{Ground, first_of, ground8, ground10, ground14_text, ground19, records_grounds}
use Rattle.meaning.specs.Service.{accepted}

abbrev pub text_grounds : List ℕ → ℕ → List Ground
text_grounds t A = ground8 A ∷ ground14_text t ∷ ground19 t ∷ []

pub record Sized (new : List ℕ) (size : ℕ) (out : List ℕ) (refusal n : ℕ) (after : List ℕ) : Type 0 where
  pub sized : refusal ≡ first_of (ground10 size (length out) ∷ [])
  pub counted : n ≡ accepted refusal size 0
  pub stored : after ≡ accepted refusal (written new out) out

pub record Readable (t : List ℕ) (n : ℕ) : Type 0 where
  pub short : length t ≤ most_text
  pub formed : is_read (read t) ≡ true
  pub counts : n ≡ form_size (form_in t)
  pub few : n ≤ most_records

pub record Came (F : Form) (A : ℕ) (out : List ℕ) (refusal n : ℕ) (after : List ℕ) : Type 0 where
  pub refused : refusal ≡ first_of (records_grounds (postorder F) (form_size F) A (length out))
  pub counted : n ≡ accepted refusal (form_size F) 0
  pub stored : after ≡ accepted refusal (written (postorder F) out) out
