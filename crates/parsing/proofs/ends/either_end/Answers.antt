-- One sign, else the other.
use Rattle.std.proofs.Common.{◌≡◌, rules, Some}
use Rattle.std.specs.Prelude.{MatchOption}
use Rattle.meaning.specs.Text.{after}
use Rattle.parsing.specs.Places.{Ends}
use Rattle.parsing.proofs.Places.{either_ends}
use Rattle.parsing.proofs.ends.either_end.Goals as goal

pub returns : goal.returns
returns c =
    let h : MatchOption c.sign_end.result (Ends c.args.text.now (after c.args.other.now) c.args.at c.or_else.result) (λ x. c.or_else.result ≡ Some x) = search rules in
    either_ends _ _ c.sign_end.ensures h
