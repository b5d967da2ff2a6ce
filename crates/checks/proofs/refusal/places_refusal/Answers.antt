-- The records before the last are refused where one of their counts is not 1.
use Rattle.std.proofs.Common.{◌≡◌, ◌-◌, ◌∷◌, [], pred, eqb, not, cond, take, arith, rules, tests}
use Rattle.std.specs.List.{list_any}
use Rattle.std.proofs.lemmas.Iterator.{YieldsList-from_slice}
use Rattle.std.proofs.lemmas.Iterator.Search.{any_from_yields_List}
use native.Mathlib.Numerals.{sub-one}
use Rattle.meaning.specs.Run.{each}
use Rattle.meaning.specs.Record.{count}
use Rattle.meaning.specs.Refusal.{first_of, ground7}
use Rattle.checks.proofs.Counting.{by_counts}
use Rattle.checks.proofs.refusal.places_refusal.Goals as goal
use Rattle.checks.proofs.refusal.places_refusal.Goals.{After-any}

first : (c : After-any) → cond c.any.result 7 0 ≡ first_of (each (pred (count c.args.s.now)) (λ q. ground7 c.args.s.now q ∷ []))
first c =
    let before = take (c.record_count-last.result - 1) c.args.counts.now in
    let found : c.any.result ≡ list_any (λ x. not (eqb x 1)) before =
    any_from_yields_List (λ x. not (eqb x 1)) _ _ c.any.result c.any.ensures.ran (YieldsList-from_slice before c.iter.ensures.rest)
    (λ x b q k. search (rules, tests)) in
    rw (found, c.record_count-last.ensures, sub-one) (by_counts (pred (count c.args.s.now)) (omega arith) c.requires.2)

pub returns-then-any : goal.returns-then-any
returns-then-any c = rw c.if-any.true at (first (goal.at.returns-then-any c).After-any)

pub returns : goal.returns
returns c = rw c.if-any.false at (first (goal.at.returns c).After-any)
