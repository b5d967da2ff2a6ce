-- Specification, Records: what each shorthand stands for. F and G are its arguments.
use Rattle.std.specs.Prelude.{true, false}
use Rattle.meaning.specs.Record.{Shorthand, denied, both, either, implies, end, beside, along, until, since, diamond, box, ahead, back}
use Rattle.meaning.specs.Formula.{Form, constant, modal, move, test, choice, sequence, star}

unfoldable pub expansion : Shorthand → Form → Form → Form
expansion denied F G = modal box (test F) (constant false)
expansion both F G = modal diamond (test F) G
expansion either F G = modal diamond (choice (test F) (test G)) (constant true)
expansion implies F G = modal box (test F) G
expansion (end w) F G = modal box (move w) (constant false)
expansion (beside w m) F G = modal m (move w) F
expansion (along w m) F G = modal m (star (move w)) F
expansion until F G = modal diamond (star (sequence (test F) (move ahead))) G
expansion since F G = modal diamond (star (sequence (test F) (move back))) G
