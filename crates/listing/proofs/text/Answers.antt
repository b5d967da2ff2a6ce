-- The refusal is printed, or the lines of all rules and then their number.
use Rattle.std.proofs.Common.{◌≡◌, length, length-take, length-take-le, sym, ◌∙◌, arith}
use Rattle.meaning.specs.Run.{written}
use Rattle.refusals.proofs.Answered.{positive}
use Rattle.listing.specs.Printed.{printed}
use Rattle.listing.proofs.Answered.{refusal_put, few_rules, rules_put}
use Rattle.listing.proofs.Pages.{put_room, put_more}
use Rattle.listing.proofs.text.Goals as goal
use Rattle.listing.proofs.text.Goals.{in-Ok, in-Err}

-- With no refusal there are not too many rules.
pub slice_bounds-put_rules-end : goal.slice_bounds-put_rules-end
slice_bounds-put_rules-end c =
    let few = few_rules _ c.in-Ok.ensures.refusal c.in-Ok.ensures.count in
    sym (length-take-le _ _ (omega (arith, c.as_chunks.ensures.front_len)))

pub overflow_cast-count : goal.overflow_cast-count
overflow_cast-count c = let few = few_rules _ c.in-Ok.ensures.refusal c.in-Ok.ensures.count in omega arith

pub put_last-requires : goal.put_last-requires
put_last-requires c =
    let few = few_rules _ c.in-Ok.ensures.refusal c.in-Ok.ensures.count in
    put_room c.put_rules.ensures _ (omega (arith, length-take c.in-Ok.count c.as_chunks.result.0.now, c.requires))

all_put : (c : goal.Joined-translate)
    → (c.match-translate.page.at ≡ length (printed c.args.records.now))
    × (c.match-translate.page.out.now ≡ written (printed c.args.records.now) c.args.out.now)
all_put c =
    elim c.match-translate.branch [
      | in-Ok w ↦
          let t = w.in-Ok.ensures in
          let few = few_rules _ t.refusal t.count in
          let put = put_more w.put_rules.ensures w.put_last.ensures in
          let size = length-take w.in-Ok.count w.as_chunks.result.0.now in
          rw w.page-is (rules_put _ t.refusal t.count t.words w.as_chunks.ensures.front (omega arith) put.text
          (omega (arith, put.text.place, put.few, size, c.requires)))
      | in-Err w ↦
          let t = w.in-Err.ensures in
          let put = rw (w.into.ensures, w.from.ensures) at w.put_last-in-Err.ensures in
          let some = positive w.in-Err.refusal in
          rw w.page-is (refusal_put _ t.refusal (λ e. omega arith) put.text (omega (arith, put.text.place, put.few, c.requires)))
    ]

pub returns-clause-size : goal.returns-clause-size
returns-clause-size c = (all_put c).0

pub returns-clause-bytes : goal.returns-clause-bytes
returns-clause-bytes c = (all_put c).1
