-- Specification: the complete outcome of each service, on every input.
--   check_answer ..                  the refusal's number, 0 if accepted
--   expand_answer .., expand_after ..  what the service returns, by the room that it has, and what is in the lent buffer afterwards; so for
--                                   value, translate, and writing and reading text
--   judge_answer ..                  what the judge returns; it lends nothing
-- A refusal returns its number, other numbers 0, and leaves the buffer as it was.
use Rattle.std.specs.Prelude.{ℕ, pred, cond, List, length, eqb}
use Rattle.meaning.specs.Run.{each, tabulate, written, cell_of}
use Rattle.meaning.specs.Record.{count, kind_at, sort_of, Sort, formula, path}
use Rattle.meaning.specs.Tree.{form_at, form_size, postorder}
use Rattle.meaning.specs.Value.{Row, value_of}
use Rattle.meaning.specs.Rule.{words}
use Rattle.meaning.specs.Translation.{translation}
use Rattle.meaning.specs.Judge.{Verdict, verdict}
use Rattle.meaning.specs.Text.{whole_text, form_in}
use Rattle.meaning.specs.Refusal.{first_of, check_grounds, expand_grounds, value_grounds, translate_grounds, write_grounds, read_grounds, judge_grounds, whole_form}

-- What is given where the refusal is 0, and what else.
abbrev pub accepted : {T : Type 0} → ℕ → T → T → T
accepted refusal given refused = cond (eqb refusal 0) given refused

-- ---- check
unfoldable pub check_answer : List ℕ → ℕ → ℕ
check_answer s A = first_of (check_grounds s A)

-- ---- expand
pub record Counted : Type 0 where
  pub refusal : ℕ
  pub count : ℕ

unfoldable pub expand_answer : List ℕ → ℕ → ℕ → Counted
expand_answer s A room =
    let refusal = first_of (expand_grounds s A room) in
    record { refusal = refusal; count = accepted refusal (whole_form s) 0 }

unfoldable pub expand_after : List ℕ → ℕ → List ℕ → List ℕ
expand_after s A out = accepted (expand_answer s A (length out)).refusal (written (postorder (form_at s (pred (count s)))) out) out

-- ---- value
pub record Valued : Type 0 where
  pub refusal : ℕ
  pub value : ℕ

-- Row r of the table: the values of record r; a path's are 0.
unfoldable pub row_by : Sort → Row → Row
row_by formula values = values
row_by path values = λ k. 0

unfoldable pub row_of : List ℕ → ℕ → ℕ → List ℕ → ℕ → Row
row_of s A L cells r = row_by (sort_of (kind_at s r)) (value_of L (cell_of A cells) (form_at s r))

unfoldable pub table : List ℕ → ℕ → ℕ → List ℕ → List ℕ
table s A L cells = each (count s) (λ r. tabulate L (row_of s A L cells r))

unfoldable pub value_answer : List ℕ → ℕ → ℕ → List ℕ → ℕ → Valued
value_answer s A L cells room =
    let refusal = first_of (value_grounds s A L cells room) in
    record { refusal = refusal; value = accepted refusal (value_of L (cell_of A cells) (form_at s (pred (count s))) 0) 0 }

unfoldable pub value_after : List ℕ → ℕ → ℕ → List ℕ → List ℕ → List ℕ
value_after s A L cells out = accepted (value_answer s A L cells (length out)).refusal (written (table s A L cells) out) out

-- ---- translate
unfoldable pub translate_answer : List ℕ → ℕ → ℕ → Counted
translate_answer s A room =
    let refusal = first_of (translate_grounds s A room) in
    record { refusal = refusal; count = accepted refusal (length (translation s A)) 0 }

unfoldable pub translate_after : List ℕ → ℕ → List ℕ → List ℕ
translate_after s A out = accepted (translate_answer s A (length out)).refusal (written (words (translation s A)) out) out

-- ---- text
unfoldable pub write_answer : List ℕ → ℕ → ℕ → Counted
write_answer s A room =
    let refusal = first_of (write_grounds s A room) in
    record { refusal = refusal; count = accepted refusal (length (whole_text s)) 0 }

unfoldable pub write_after : List ℕ → ℕ → List ℕ → List ℕ
write_after s A out = accepted (write_answer s A (length out)).refusal (written (whole_text s) out) out

unfoldable pub read_answer : List ℕ → ℕ → ℕ → Counted
read_answer t A room =
    let refusal = first_of (read_grounds t A room) in
    record { refusal = refusal; count = accepted refusal (form_size (form_in t)) 0 }

unfoldable pub read_after : List ℕ → ℕ → List ℕ → List ℕ
read_after t A out = accepted (read_answer t A (length out)).refusal (written (postorder (form_in t)) out) out

-- ---- judge
pub record Judged : Type 0 where
  pub refusal : ℕ
  pub holds : ℕ
  pub rule : ℕ
  pub instant : ℕ

abbrev pub judged : ℕ → ℕ → ℕ → ℕ → Judged
judged refusal holds rule instant = record { refusal = refusal; holds = holds; rule = rule; instant = instant }

unfoldable pub judgment : Verdict → Judged
judgment Verdict.yes = judged 0 1 0 0
judgment (Verdict.no i k) = judged 0 0 i k

unfoldable pub judge_answer : List ℕ → ℕ → ℕ → List ℕ → Judged
judge_answer ws W L cells =
    let refusal = first_of (judge_grounds ws W L cells) in
    accepted refusal (judgment (verdict ws L (cell_of W cells))) (judged refusal 0 0 0)
