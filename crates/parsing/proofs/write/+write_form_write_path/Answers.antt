-- Each part starts later than the whole, and the records of the parts are written before the whole's.
use Rattle.std.proofs.Common.{refl, arith}
use native.Mathlib.Nat.{add-zero}
use Rattle.parsing.specs.Writing.{forms, paths}
use Rattle.parsing.proofs.Numbers.{number_read, number_left}
use Rattle.parsing.proofs.Parts.{byte_of, chosen, form_inside, path_inside, step_passed, atom_leaf, step_leaf, test_part}
use Rattle.parsing.proofs.Writing.{form_long, inside}
use Rattle.parsing.proofs.Writing.{modal_two, join_two, leaf_has, leaf_room, leaf_wrote, one_asks, one_room, one_wrote, two_asks_first, two_inside, two_asks_second, two_room, two_wrote}
use Rattle.parsing.proofs.Stars.{stars_onward, stars_ask, stars_room, stars_wrote}
use Rattle.parsing.proofs.write.+write_form_write_path.Goals as goal

-- ---- write_form
pub write_form-bounds-text-at : goal.write_form-bounds-text-at
write_form-bounds-text-at t c = inside forms _ _ form_inside c.requires

pub write_form-unwrap-atom-requires : goal.write_form-unwrap-atom-requires
write_form-unwrap-atom-requires t c =
    leaf_has forms _ _ (atom_leaf _ c.in-112.is) c.requires (number_read _ c.number_at.ensures)

pub write_form-push-requires : goal.write_form-push-requires
write_form-push-requires t c =
    (leaf_room forms _ _ (atom_leaf _ c.in-112.is) c.requires, (rw c.unwrap-atom.ensures at c.number_at.ensures).small, omega arith)

pub write_form-returns-in-112 : goal.write_form-returns-in-112
write_form-returns-in-112 t c =
    let read = rw c.unwrap-atom.ensures at c.number_at.ensures in (
      leaf_wrote forms _ _ (atom_leaf _ c.in-112.is) c.requires (omega (arith, read.within.0))
          (λ s u h reads. let (there, value) = number_left read s u h reads in (there, refl, value)) (c.push.ensures.0, c.push.ensures.1),
      cc,
    )

pub write_form-write_path-path_end-requires : goal.write_form-write_path-path_end-requires
write_form-write_path-path_end-requires t c =
    let asks = two_asks_first forms _ _ (modal_two (λ e. omega arith) (λ e. omega arith)) c.requires in
    (omega (arith, c.decreases, asks.here.within), asks)

pub write_form-choose-kind-requires : goal.write_form-choose-kind-requires
write_form-choose-kind-requires t c = omega (arith, two_inside forms _ _ (modal_two (λ e. omega arith) (λ e. omega arith)) c.requires c.write_path-path_end.ensures.0)

pub write_form-write_form-form_end-requires : goal.write_form-write_form-form_end-requires
write_form-write_form-form_end-requires t c =
    let asks = two_asks_second forms _ _ (modal_two (λ e. omega arith) (λ e. omega arith)) c.requires c.write_path-path_end.ensures.0 in
    (omega (arith, c.decreases, asks.here.within, c.write_path-path_end.ensures.0.onward), asks)

pub write_form-push-requires-in_default : goal.write_form-push-requires-in_default
write_form-push-requires-in_default t c =
    let (room, _) = two_room forms _ _ (modal_two (λ e. omega arith) (λ e. omega arith)) c.requires c.write_path-path_end.ensures.0 c.write_form-form_end.ensures.0 in
    (room, omega (arith, room, c.write_form-form_end.ensures.0.more), omega (arith, room))

pub write_form-returns-in_default : goal.write_form-returns-in_default
write_form-returns-in_default t c = (
  two_wrote forms _ _ (modal_two (λ e. omega arith) (λ e. omega arith)) c.requires c.write_path-path_end.ensures.0 c.write_form-form_end.ensures.0
      (λ v h. chosen _ _ _ c.choose-kind.ensures (byte_of _ _ v h 2)) (c.push-in_default.ensures.0, c.push-in_default.ensures.1),
  cc,
)

-- ---- write_path
pub write_path-bounds-text-at : goal.write_path-bounds-text-at
write_path-bounds-text-at t c = inside paths _ _ path_inside c.requires

pub write_path-push-requires : goal.write_path-push-requires
write_path-push-requires t c = (leaf_room paths _ _ (step_leaf _ c.in-38.is) c.requires, omega arith, omega arith)

pub write_path-returns-in-38 : goal.write_path-returns-in-38
write_path-returns-in-38 t c = (
  leaf_wrote paths _ _ (step_leaf _ c.in-38.is) c.requires (omega arith)
      (λ s u h reads. (step_passed _ _ s u h reads, refl, refl)) (c.push.ensures.0, c.push.ensures.1),
  cc,
)

pub write_path-write_form-end-requires : goal.write_path-write_form-end-requires
write_path-write_form-end-requires t c =
    let asks = one_asks paths _ _ form_long (test_part _ c.in-63.is) c.requires in
    (omega (arith, c.decreases, asks.here.within), asks)

pub write_path-push-requires-in-63 : goal.write_path-push-requires-in-63
write_path-push-requires-in-63 t c =
    let room = one_room paths _ _ form_long (test_part _ c.in-63.is) c.requires c.write_form-end.ensures.0 in
    (room, omega (arith, room), omega arith)

pub write_path-returns-in-63 : goal.write_path-returns-in-63
write_path-returns-in-63 t c =
    (one_wrote paths _ _ form_long (test_part _ c.in-63.is) c.write_form-end.ensures.0 (c.push-in-63.ensures.0, c.push-in-63.ensures.1), cc)

pub write_path-write_path-end-requires : goal.write_path-write_path-end-requires
write_path-write_path-end-requires t c =
    let stars = c.stars_end-from.ensures in
    (omega (arith, c.decreases, stars.low, stars_onward stars c.in-42.is), stars_ask _ stars c.requires)

pub write_path-push_stars-requires : goal.write_path-push_stars-requires
write_path-push_stars-requires t c =
    let w = c.write_path-end.ensures.0 in
    (omega (arith, w.more), stars_room _ c.stars_end-from.ensures c.requires w)

pub write_path-returns-in-42 : goal.write_path-returns-in-42
write_path-returns-in-42 t c =
    let (count, stores, _) = c.push_stars.ensures in
    (stars_wrote _ c.stars_end-from.ensures c.write_path-end.ensures.0 count stores, cc)

pub write_path-write_path-first_end-requires : goal.write_path-write_path-first_end-requires
write_path-write_path-first_end-requires t c =
    let asks = two_asks_first paths _ _ (join_two (λ e. omega arith) (λ e. omega arith) (λ e. omega arith)) c.requires in
    (omega (arith, c.decreases, asks.here.within), asks)

pub write_path-choose-kind-requires : goal.write_path-choose-kind-requires
write_path-choose-kind-requires t c = omega (arith, two_inside paths _ _ (join_two (λ e. omega arith) (λ e. omega arith) (λ e. omega arith)) c.requires c.write_path-first_end.ensures.0)

pub write_path-write_path-second_end-requires : goal.write_path-write_path-second_end-requires
write_path-write_path-second_end-requires t c =
    let asks = two_asks_second paths _ _ (join_two (λ e. omega arith) (λ e. omega arith) (λ e. omega arith)) c.requires c.write_path-first_end.ensures.0 in
    (omega (arith, c.decreases, asks.here.within, c.write_path-first_end.ensures.0.onward), asks)

pub write_path-push-requires-in_default : goal.write_path-push-requires-in_default
write_path-push-requires-in_default t c =
    let (room, _) = two_room paths _ _ (join_two (λ e. omega arith) (λ e. omega arith) (λ e. omega arith)) c.requires c.write_path-first_end.ensures.0 c.write_path-second_end.ensures.0 in
    (room, omega (arith, room, c.write_path-second_end.ensures.0.more), omega (arith, room))

pub write_path-returns-in_default : goal.write_path-returns-in_default
write_path-returns-in_default t c = (
  two_wrote paths _ _ (join_two (λ e. omega arith) (λ e. omega arith) (λ e. omega arith)) c.requires c.write_path-first_end.ensures.0 c.write_path-second_end.ensures.0
      (λ v h. chosen _ _ _ c.choose-kind.ensures (rw add-zero at (byte_of _ _ v h 0))) (c.push-in_default.ensures.0, c.push-in_default.ensures.1),
  cc,
)
