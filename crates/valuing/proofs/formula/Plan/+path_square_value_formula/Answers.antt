-- A child is an earlier record, so each call is below its caller's measure. Each branch is a kind: its children are asked, and what comes back
-- is put together by the law for that kind.
use Rattle.std.proofs.Common.{ℕ, ◌≡◌, ◌⊎◌, refl, sym, ◌∙◌, inr, arith}
use Rattle.meaning.specs.Record.{path, choice, sequence}
use Rattle.records.specs.Kinds.{kind_meant}
use Rattle.valuing.proofs.Table.{row_end}
use Rattle.valuing.proofs.Children.{Child, ask_first, first_path, test_formula, star_path, part_first, part_second, path_kinds, formula_kinds}
use Rattle.valuing.proofs.Children.{modal_path, modal_formula, child_along, row_within, atom_low}
use Rattle.valuing.proofs.Recursion.{square_part, move_done, test_done, star_done, join_done}
use Rattle.valuing.proofs.Recursion.{constant_done, atom_done, modal_done}
use Rattle.valuing.proofs.Tested.{tested_done}
use Rattle.valuing.proofs.formula.Plan.+path_square_value_formula.Goals.{path_square-In_default-kind, path_square-In_default-kind-2}
use Rattle.valuing.proofs.formula.Plan.+path_square_value_formula.Goals as goal

-- ---- a move
pub path_square-returns-in-Move : goal.path_square-returns-in-Move
path_square-returns-in-Move t c = move_done c.requires c.in-Move.ensures c.move_square.ensures

-- ---- a test
pub path_square-value_formula-requires : goal.path_square-value_formula-requires
path_square-value_formula-requires t c =
    let h = test_formula c.requires.0 c.in-Test.ensures c.field_a-a.ensures in (omega (arith, h.0, c.decreases), h.1)

pub path_square-test_square-requires : goal.path_square-test_square-requires
path_square-test_square-requires t c =
    let h = test_formula c.requires.0 c.in-Test.ensures c.field_a-a.ensures in
    row_within h.1.0 c.row_start.ensures c.value_formula.ensures.steady.size

pub path_square-returns-in-Test : goal.path_square-returns-in-Test
path_square-returns-in-Test t c =
    test_done c.requires c.in-Test.ensures c.field_a-a.ensures c.row_start.ensures c.value_formula.ensures c.test_square.ensures

-- ---- the first part of any other path
first : {t : ℕ} (c : path_square-In_default-kind t) → let plan = c.args.self.now in
    Child plan.records.now plan.atoms plan.instants plan.cells.now c.args.p c.field_a-a.result c.args.table.now path
first c =
    let e = c.kind_of-kind.ensures in
    ask_first c.requires.0 e (first_path c.requires _ e c.in_default.not-Move c.in_default-kind.not-Test) c.field_a-a.ensures

pub path_square-begins_with_test-requires : goal.path_square-begins_with_test-requires
path_square-begins_with_test-requires t c =
    (first (goal.at.path_square-begins_with_test-requires t c).In_default-kind).1.0.index

pub path_square-path_square-s-requires : goal.path_square-path_square-s-requires
path_square-path_square-s-requires t c =
    let h = first (goal.at.path_square-path_square-s-requires t c).In_default-kind in (omega (arith, h.0, c.decreases), h.1)

-- ---- a star
pub path_square-close-requires : goal.path_square-close-requires
path_square-close-requires t c =
    let h = (star_path c.requires.0 c.in-Star.ensures c.field_a-a.ensures).1 in
    record { atoms = _; cells = _; table = _; asked = h.0; sort = h.1; square = c.path_square-s.ensures.1 }

pub path_square-returns-in-Star : goal.path_square-returns-in-Star
path_square-returns-in-Star t c =
    let q = c.path_square-s.ensures in star_done c.requires c.in-Star.ensures c.field_a-a.ensures q.0 q.1 c.close.ensures

-- ---- a choice or a sequence
joins : {t : ℕ} (c : path_square-In_default-kind-2 t)
    → (kind_meant c.kind_of-kind.result ≡ choice) ⊎ (kind_meant c.kind_of-kind.result ≡ sequence)
joins c = path_kinds c.requires _ c.kind_of-kind.ensures c.in_default.not-Move c.in_default-kind.not-Test c.in_default-kind-2.not-Star

pub path_square-path_square-q-requires : goal.path_square-path_square-q-requires
path_square-path_square-q-requires t c =
    let j = joins (goal.at.path_square-path_square-q-requires t c).In_default-kind-2 in
    let h = part_second c.requires.0 j c.kind_of-kind.ensures c.field_b-b.ensures in
    let k = child_along h c.path_square-s.ensures.0.steady.size in (omega (arith, k.0, c.decreases), k.1)

pub path_square-join-requires : goal.path_square-join-requires
path_square-join-requires t c =
    let j = joins (goal.at.path_square-join-requires t c).In_default-kind-2 in
    let g = (part_first c.requires.0 j c.kind_of-kind.ensures c.field_a-a.ensures).1 in
    let h = (part_second c.requires.0 j c.kind_of-kind.ensures c.field_b-b.ensures).1 in
    record {
      index = (g.0.index, h.0.index);
      parts = (square_part g refl c.path_square-s.ensures.1, square_part h refl c.path_square-q.ensures.1);
    }

pub path_square-returns : goal.path_square-returns
path_square-returns t c =
    let j = joins (goal.at.path_square-returns t c).In_default-kind-2 in
    let x = c.path_square-s.ensures in let y = c.path_square-q.ensures in
    join_done c.requires j c.kind_of-kind.ensures c.field_a-a.ensures c.field_b-b.ensures x.0 x.1.cells y.0 y.1.cells c.join.ensures

-- ---- a sequence that begins with a test
pub tested_square-field_a-f-requires : goal.tested_square-field_a-f-requires
tested_square-field_a-f-requires t c =
    let k = c.requires.tested in (part_first c.requires.asked.0 (inr refl) (sym k.0) k.1).1.0.index

pub tested_square-value_formula-requires : goal.tested_square-value_formula-requires
tested_square-value_formula-requires t c =
    let k = c.requires.tested in
    let g = part_first c.requires.asked.0 (inr refl) (sym k.0) k.1 in
    let h = test_formula g.1.0 (sym k.2) c.field_a-f.ensures in (omega (arith, g.0, h.0, c.decreases), h.1)

pub tested_square-path_square-t-requires : goal.tested_square-path_square-t-requires
tested_square-path_square-t-requires t c =
    let h = part_second c.requires.asked.0 (inr refl) (sym c.requires.tested.0) c.field_b.ensures in
    let k = child_along h c.value_formula.ensures.steady.size in (omega (arith, k.0, c.decreases), k.1)

pub tested_square-cap-requires : goal.tested_square-cap-requires
tested_square-cap-requires t c =
    let k = c.requires.tested in
    let g = part_first c.requires.asked.0 (inr refl) (sym k.0) k.1 in
    let h = test_formula g.1.0 (sym k.2) c.field_a-f.ensures in
    row_within h.1.0 c.row_start.ensures (c.path_square-t.ensures.0.steady.size ∙ c.value_formula.ensures.steady.size)

pub tested_square-returns : goal.tested_square-returns
tested_square-returns t c =
    let k = c.requires.tested in let q = c.path_square-t.ensures in
    tested_done c.requires.asked (sym k.0) (sym k.2) k.1 c.field_b.ensures c.field_a-f.ensures c.row_start.ensures
    c.value_formula.ensures q.0 q.1 c.cap.ensures

-- ---- a constant
pub value_formula-returns-in-Constant : goal.value_formula-returns-in-Constant
value_formula-returns-in-Constant t c =
    constant_done c.requires c.row_start-start.ensures c.in-Constant.ensures c.number-n.ensures.same c.from.ensures c.put_constant.ensures

-- ---- an atom
pub value_formula-put_atom-requires : goal.value_formula-put_atom-requires
value_formula-put_atom-requires t c =
    let w = c.requires.0 in let e = c.number-n.ensures.same in (
      rw e (row_within w c.row_start-start.ensures refl),
      rw e w.legal.trace.size,
      atom_low w c.in-Atom.ensures c.field_a-i.ensures,
    )

pub value_formula-returns-in-Atom : goal.value_formula-returns-in-Atom
value_formula-returns-in-Atom t c =
    atom_done c.requires c.row_start-start.ensures c.in-Atom.ensures c.number-n.ensures.same c.field_a-i.ensures c.put_atom.ensures

-- ---- a diamond or a box
pub value_formula-value_formula-requires : goal.value_formula-value_formula-requires
value_formula-value_formula-requires t c =
    let h = modal_formula c.requires.0 c.in-Modal.ensures c.field_b-b.ensures in (omega (arith, h.0, c.decreases), h.1)

pub value_formula-path_square-s-requires : goal.value_formula-path_square-s-requires
value_formula-path_square-s-requires t c =
    let h = modal_path c.requires.0 c.in-Modal.ensures c.field_a.ensures in
    let k = child_along h c.value_formula.ensures.steady.size in (omega (arith, k.0, c.decreases), k.1)

pub value_formula-put_modal-requires : goal.value_formula-put_modal-requires
value_formula-put_modal-requires t c =
    let h = modal_formula c.requires.0 c.in-Modal.ensures c.field_b-b.ensures in
    let end = row_end c.args.self.now.instants h.0 in (
      row_within c.requires.0 c.row_start-start.ensures (c.path_square-s.ensures.0.steady.size ∙ c.value_formula.ensures.steady.size),
      omega (arith, c.row_start-from.ensures, c.row_start-start.ensures),
    )

pub value_formula-returns-in-Modal : goal.value_formula-returns-in-Modal
value_formula-returns-in-Modal t c =
    let q = c.path_square-s.ensures in
    modal_done c.requires c.row_start-start.ensures c.in-Modal.ensures c.field_a.ensures c.field_b-b.ensures c.row_start-from.ensures
    c.value_formula.ensures q.0 q.1 c.put_modal.ensures

-- ---- no other kind
pub value_formula-unreachable-requires : goal.value_formula-unreachable-requires
value_formula-unreachable-requires t c =
    formula_kinds c.requires _ c.kind_of.ensures c.in_default.not-Constant c.in_default.not-Atom c.in_default.not-Modal
