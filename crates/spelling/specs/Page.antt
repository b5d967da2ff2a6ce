-- What is put on a page, after what stands there.
--   Puts p t q    the page q is p with the text t put after what stood there
use Rattle.std.specs.Prelude.{ℕ, ◌≡◌, List}
use Rattle.copying.specs.Appended.{Appended}
use Rattle.spelling.specs.declared.sign.Page.{Page}

pub record Puts (p : Page) (t : List ℕ) (q : Page) : Type 0 where
  pub same : q.buffer.ghost_name ≡ p.buffer.ghost_name
  pub text : Appended p.buffer.now p.size t q.size q.buffer.now
