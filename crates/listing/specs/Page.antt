-- What is put on a page, after what stands there.
--   Room p n           the page p has room for n bytes more
--   Puts p t most q    the page q is p with the text t, of at most `most` bytes, put after what stood there
--   line_of rule       the six words of a rule on a line
--   lines_of rules     a line for each
use Rattle.std.specs.Prelude.{ℕ, ◌+◌, ◌≤◌, ◌≡◌, List, [], length, get_or}
use Rattle.meaning.specs.Run.{each}
use Rattle.meaning.specs.Rule.{rule_size}
use Rattle.copying.specs.Appended.{Appended}
use Rattle.listing.specs.Printed.{spelled, gap}
use Rattle.listing.specs.declared.Page.{Page}

abbrev pub Room : Page → ℕ → Type 0
Room p n = p.at + n ≤ length p.out.now

pub record Puts (p : Page) (t : List ℕ) (most : ℕ) (q : Page) : Type 0 where
  pub same : q.out.ghost_name ≡ p.out.ghost_name
  pub text : Appended p.out.now p.at t q.at q.out.now
  pub few : length t ≤ most

unfoldable pub line_of : List ℕ → List ℕ
line_of rule = each rule_size (λ j. spelled (get_or rule j 0) (gap j))

unfoldable pub lines_of : List (List ℕ) → List ℕ
lines_of rules = each (length rules) (λ i. line_of (get_or rules i []))
