-- No two outcomes fit, since each contract is equations: of the answer or each of its fields, and of each lent buffer. What both equal
-- a third are equal; so outcomes that fit are equal part by part. A refusal's number tells the refusal, and a kind's meaning the kind.
use Prim.Native.Nat.{ℕ, ◌+◌, ◌*◌, ◌-◌, ◌/◌, ◌%◌, ◌<◌, ◌≤◌}
use mathlib.Core.Path.{◌≡◌, sym, ◌∙◌}
use mathlib.Core.List.{List}
use mathlib.Core.Logic.{◌⊎◌, inl, inr}
use native.Mathlib.Decide.{ℕ_discrete}
use native.Mathlib.Omega.{arith}
use lib.ListN.{get_or}
use lib.Seq.{ext_get_or}
use Rattle.meaning.proofs.Bounds.{le_or_lt}
use Rattle.rows.specs.Cells.{width, Put, Rowed, Values}
use Rattle.std.specs.Prelude.{Result}
use Rattle.refusals.specs.declared.Refusal.{Refusal}
use Rattle.refusals.specs.Refused.{refused}
use Rattle.refusals.proofs.Answered.{one_answer, one_count}
use Rattle.judge.proofs.Answered.{one_judgment}
use Rattle.expand.proofs as expand
use Rattle.value.proofs as value
use Rattle.translate.proofs as translate
use Rattle.judge.proofs as judge
use Rattle.text.proofs.writing as writes
use Rattle.text.proofs.reading as reads
use Rattle.pasturequill.proofs as door
use Rattle.outcomes.proofs.Meant.{one_mode, one_way, one_kind, one_language, one_use, one_sort}
use Rattle.outcomes.specs.OneOutcome.{OneFits, OneOutcome}

-- ---- two that equal a third
same : {A : Type 0} {x y z : A} → x ≡ z → y ≡ z → x ≡ y
same p q = p ∙ sym q

-- An answer with no fields, where no buffer is lent.
alone : {A B : Type 0} {x y z : A} {v : B} → x ≡ z → y ≡ z → ◌≡◌ {A = A × B} (x, v) (y, v)
alone {v = v} p q = λ i. (same p q i, v)

-- ---- lists that agree at each place
module _ {x y : List ℕ} where
  put_one : {L start : ℕ} {f : ℕ → ℕ} {old : List ℕ} → Put L start f old x → Put L start f old y → x ≡ y
  put_one {L} {start} p q = ext_get_or 0 x y (same p.size q.size) (λ i _. go i (le_or_lt start i) (le_or_lt (start + L) i))
    where
      go : (i : ℕ) → (start ≤ i) ⊎ (i < start) → (start + L ≤ i) ⊎ (i < start + L) → get_or x i 0 ≡ get_or y i 0
      go i (inr b) _ = same (p.before i b) (q.before i b)
      go i (inl _) (inl c) = same (p.after i c) (q.after i c)
      go i (inl b) (inr c) =
          let e : i ≡ start + (i - start) = omega arith in
          rw e (same (p.here (i - start) (omega arith)) (q.here (i - start) (omega arith)))

  values_one : {f : ℕ → ℕ} → Values f x → Values f y → x ≡ y
  values_one p q =
      ext_get_or 0 x y (same p.size q.size) (λ i h. same (p.cells i (omega arith)) (q.cells i (omega arith)))

  rowed_one : {k : ℕ} {f : ℕ → ℕ} {old : List ℕ} → Rowed k f old x → Rowed k f old y → x ≡ y
  rowed_one {k} p q = ext_get_or 0 x y (same p.size q.size) (λ i _. go i (i / width) (i % width) (ℕ_discrete (i / width) k) (omega arith) (omega arith))
    where
      go : (i r j : ℕ) → Dec (r ≡ k) → i ≡ r * width + j → j < width → get_or x i 0 ≡ get_or y i 0
      go i r j (yes d) e h = rw (e, d) (same (p.row j h) (q.row j h))
      go i r j (no d) e h = rw e (same (p.others r j d h) (q.others r j d h))

-- ---- answers as results
-- A refusal or nothing: no buffer is lent.
answered : {B : Type 0} {x y : Result Unit Refusal} {n : ℕ} {v : B} → refused x ≡ n → refused y ≡ n → ◌≡◌ {A = Result Unit Refusal × B} (x, v) (y, v)
answered {x = x} {y = y} {v = v} p q = λ i. (one_answer x y (same p q) i, v)

-- A refusal, or a number and what was written.
valued : OneFits value.value.Kinds.ps value.value.Kinds.r value.value.Reads.Post
valued κs a o u p q = λ i. (one_count o.0 u.0 (same p.0 q.0) (same p.1.0 q.1.0) i, (tt, (tt, (tt, (tt, (same p.1.1 q.1.1 i, tt))))))

expanded : OneFits expand.expand.Kinds.ps expand.expand.Kinds.r expand.expand.Reads.Post
expanded κs a o u p q = λ i. (one_count o.0 u.0 (same p.0 q.0) (same p.1.0 q.1.0) i, (tt, (tt, (same p.1.1 q.1.1 i, tt))))

translated : OneFits translate.translate.Kinds.ps translate.translate.Kinds.r translate.translate.Reads.Post
translated κs a o u p q = λ i. (one_count o.0 u.0 (same p.0 q.0) (same p.1.0 q.1.0) i, (tt, (tt, (same p.1.1 q.1.1 i, tt))))

wrote : OneFits writes.write_text.Kinds.ps writes.write_text.Kinds.r writes.write_text.Reads.Post
wrote κs a o u p q = λ i. (one_count o.0 u.0 (same p.0 q.0) (same p.1.0 q.1.0) i, (tt, (tt, (same p.1.1 q.1.1 i, tt))))

read : OneFits reads.read_text.Kinds.ps reads.read_text.Kinds.r reads.read_text.Reads.Post
read κs a o u p q = λ i. (one_count o.0 u.0 (same p.0 q.0) (same p.1.0 q.1.0) i, (tt, (tt, (same p.1.1 q.1.1 i, tt))))

judged : OneFits judge.judge.Kinds.ps judge.judge.Kinds.r judge.judge.Reads.Post
judged κs a o u p q = λ i. (one_judgment o.0 u.0 (same p.0 q.0) (same p.1.0 q.1.0) (same p.1.1.0 q.1.1.0) (same p.1.1.1 q.1.1.1) i, o.1)

-- ---- the front door's answers, with fields
-- Two, and the table.
door_valued : OneFits door.pasturequill_value.Kinds.ps door.pasturequill_value.Kinds.r door.pasturequill_value.Reads.Post
door_valued κs a o u p q = λ i. (
  record { refusal = same p.0 q.0 i; value = same p.1.0 q.1.0 i },
  (tt, (tt, (tt, (tt, (same p.1.1 q.1.1 i, tt))))),
)

-- Two, and the records.
door_expanded : OneFits door.pasturequill_expand.Kinds.ps door.pasturequill_expand.Kinds.r door.pasturequill_expand.Reads.Post
door_expanded κs a o u p q = λ i. (
  record { refusal = same p.0 q.0 i; count = same p.1.0 q.1.0 i },
  (tt, (tt, (same p.1.1 q.1.1 i, tt))),
)

-- Two, and the rules.
door_translated : OneFits door.pasturequill_translate.Kinds.ps door.pasturequill_translate.Kinds.r door.pasturequill_translate.Reads.Post
door_translated κs a o u p q = λ i. (
  record { refusal = same p.0 q.0 i; count = same p.1.0 q.1.0 i },
  (tt, (tt, (same p.1.1 q.1.1 i, tt))),
)

-- Two, and the text, or the records that were read.
door_wrote : OneFits door.pasturequill_write_text.Kinds.ps door.pasturequill_write_text.Kinds.r door.pasturequill_write_text.Reads.Post
door_wrote κs a o u p q = λ i. (
  record { refusal = same p.0 q.0 i; count = same p.1.0 q.1.0 i },
  (tt, (tt, (same p.1.1 q.1.1 i, tt))),
)

door_read : OneFits door.pasturequill_read_text.Kinds.ps door.pasturequill_read_text.Kinds.r door.pasturequill_read_text.Reads.Post
door_read κs a o u p q = λ i. (
  record { refusal = same p.0 q.0 i; count = same p.1.0 q.1.0 i },
  (tt, (tt, (same p.1.1 q.1.1 i, tt))),
)

-- Four, and nothing is lent.
door_judged : OneFits door.pasturequill_judge.Kinds.ps door.pasturequill_judge.Kinds.r door.pasturequill_judge.Reads.Post
door_judged κs a o u p q = λ i. (
  record {
    refusal = same p.0 q.0 i;
    holds = same p.1.0 q.1.0 i;
    rule = same p.1.1.0 q.1.1.0 i;
    instant = same p.1.1.1 q.1.1.1 i;
  },
  o.1,
)

-- ---- each function
pub one_outcome : OneOutcome
one_outcome = record {
  lesser = λ κs a o u. alone;
  greater = λ κs a o u. alone;
  imp = λ κs a o u. alone;
  negation = λ κs a o u. alone;
  number = λ κs a o u. alone;
  byte_of_refusal = λ κs a o u. alone;
  counted_of_result = λ κs a o u p q. λ i. (record { refusal = same p.0 q.0 i; count = same p.1 q.1 i }, o.1);
  record_count = λ κs a o u. alone;
  kind_of_byte = λ κs a o u p q. λ i. (one_kind o.0 u.0 (same p q) i, o.1);
  byte_of_kind = λ κs a o u. alone;
  mode_of_byte = λ κs a o u p q. λ i. (one_mode o.0 u.0 (same p q) i, o.1);
  way_of_byte = λ κs a o u p q. λ i. (one_way o.0 u.0 (same p q) i, o.1);
  kind_at = λ κs a o u. alone;
  kind_of = λ κs a o u p q. λ i. (one_kind o.0 u.0 (same p q) i, o.1);
  field_a = λ κs a o u. alone;
  field_b = λ κs a o u. alone;
  zero_at = λ κs a o u. alone;
  put_record = λ κs a o u p q. λ i. (o.0, (same p q i, (tt, (tt, (tt, (tt, tt))))));
  use_a = λ κs a o u p q. λ i. (one_use o.0 u.0 (same p q) i, o.1);
  use_b = λ κs a o u p q. λ i. (one_use o.0 u.0 (same p q) i, o.1);
  sort_of = λ κs a o u p q. λ i. (one_sort o.0 u.0 (same p q) i, o.1);
  language_of_byte = λ κs a o u p q. λ i. (one_language o.0 u.0 (same p q) i, o.1);
  takes = λ κs a o u. alone;
  copy = λ κs a o u p q. λ i. (o.0, (tt, (tt, (same p q i, tt))));
  append = λ T laws copies clone code κs a o u p q. λ i. (same p.place q.place i, (same p.whole q.whole i, (tt, (tt, tt))));
  formula_refusal = λ κs a o u. answered;
  check = λ κs a o u. answered;
  stars_refusal = λ κs a o u. answered;
  find_contexts = λ κs a o u p q. λ i. (o.0, (tt, (same p q i, tt)));
  context_of_word = λ κs a o u p q. λ i. (
    record { mode = one_mode o.0.mode u.0.mode (same p.0 q.0) i; continuation = same p.1 q.1 i },
    o.1,
  );
  mode = λ κs a o u. alone;
  continuation = λ κs a o u p q. λ i. (same p.0 q.0 i, o.1);
  rows_of = λ κs a o u. alone;
  row_count = λ κs a o u. alone;
  assert_row = λ κs a o u. alone;
  rule_count = λ κs a o u. alone;
  write_rules = λ κs a o u p q. λ i. (same p.0 q.0 i, (tt, (tt, (tt, (same p.1 q.1 i, tt)))));
  wrong_size = λ κs a o u. alone;
  cells_refusal = λ κs a o u. answered;
  instants_new = λ κs a o u. alone;
  instants_number = λ κs a o u p q. λ i. (same p.0 q.0 i, o.1);
  part = λ κs a o u p q. λ i. (put_one p q i, o.1);
  row_of = λ κs a o u p q. λ i. (values_one p q i, o.1);
  put_row = λ κs a o u p q. λ i. (o.0, (rowed_one p q i, (tt, (tt, tt))));
  raise = λ κs a o u p q. λ i. (o.0, (values_one p q i, (tt, (tt, tt))));
  move_square = λ κs a o u p q k j h g. same (p.cells k j h g) (q.cells k j h g);
  test_square = λ κs a o u p q k j h g. same (p.cells k j h g) (q.cells k j h g);
  join = λ κs a o u p q k j h g. same (p.cells k j h g) (q.cells k j h g);
  cap = λ κs a o u p q k j h g. same (p.cells k j h g) (q.cells k j h g);
  close = λ κs a o u p q k j h g. same (p.cells k j h g) (q.cells k j h g);
  run_on = λ κs a o u p q k j h g. same (p.cells k j h g) (q.cells k j h g);
  run_back = λ κs a o u p q k j h g. same (p.cells k j h g) (q.cells k j h g);
  row_start = λ κs a o u. alone;
  put_constant = λ κs a o u p q. λ i. (o.0, (put_one p q i, (tt, (tt, (tt, tt)))));
  put_atom = λ κs a o u p q. λ i. (o.0, (put_one p q i, (tt, (tt, (tt, (tt, (tt, tt)))))));
  put_modal = λ κs a o u p q. λ i. (o.0, (tt, (tt, (put_one p q i, (tt, (tt, (tt, tt)))))));
  fill = λ κs a o u p q. λ i. (same p.0 q.0 i, (tt, (tt, (tt, (tt, (same p.1 q.1 i, tt))))));
  is_formula = λ κs a o u. alone;
  size_of = λ κs a o u. alone;
  write_records = λ κs a o u p q. λ i. (o.0, (tt, (same p q i, tt)));
  spell_formula = λ κs a o u p q. λ i. (same p.0 q.0 i, (tt, (same p.1 q.1 i, tt)));
  expand = expanded;
  value = valued;
  valued_of_result = λ κs a o u p q. λ i. (record { refusal = same p.0 q.0 i; value = same p.1 q.1 i }, o.1);
  judged_of_result = λ κs a o u p q. λ i. (
    record { refusal = same p.0 q.0 i; holds = same p.1 q.1 i; rule = same p.2 q.2 i; instant = same p.3 q.3 i },
    o.1,
  );
  judge = judged;
  translate = translated;
  write_text = wrote;
  read_text = read;
  text = λ κs a o u p q. λ i. (same p.0 q.0 i, (tt, (same p.1 q.1 i, tt)));
  pasturequill_check = λ κs a o u. alone;
  pasturequill_expand = door_expanded;
  pasturequill_value = door_valued;
  pasturequill_translate = door_translated;
  pasturequill_judge = door_judged;
  pasturequill_write_text = door_wrote;
  pasturequill_read_text = door_read;
}
