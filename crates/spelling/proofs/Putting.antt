-- What is put after a text follows it, and the two are one text that was put.
use Rattle.std.proofs.Common.{ℕ, ◌∙◌, List, ◌++◌}
use Rattle.copying.proofs.Appending.{append_more}
use Rattle.spelling.specs.declared.sign.Page.{Page}
use Rattle.spelling.specs.Page.{Puts}

pub put_more : {p q r : Page} {t u : List ℕ} → Puts p t q → Puts q u r → Puts p (t ++ u) r
put_more x y = record { same = y.same ∙ x.same; text = append_more x.text y.text }
