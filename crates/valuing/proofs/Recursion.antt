-- What a record has from its children, kind by kind. Its children were valued one after the other, each leaving right
-- rows right; what stands under the record is the record itself and what stands under its children; and its own row or
-- square is the matching operation on theirs.
use Prim.Native.Nat.{ℕ, ◌+◌, ◌*◌, ◌<◌, ◌≤◌}
use mathlib.Core.Path.{◌≡◌, sym, ap, ◌∙◌}
use mathlib.Core.Bool.{Bool, cond}
use mathlib.Core.Logic.{◌⊎◌}
use mathlib.Core.List.{List}
use native.Mathlib.Omega.{arith}
use mir.Val.{bool_byte}
use lib.Dec.{eqb}
use Rattle.meaning.specs.Run.{cell_of}
use Rattle.meaning.specs.Record.{Kind, constant, atom, modal, move, test, choice, sequence, star, Mode, Way, kind_at, field_a, field_b}
use Rattle.meaning.specs.Record.{Sort, formula, path, sort_of, Use, child, use_a, use_b, columns_of}
use Rattle.meaning.specs.Tree.{path_at}
use Rattle.meaning.specs.Value.{Square, modal_row, move_square, test_square, star_square}
use Rattle.meaning.proofs.Onward.{square_bound}
use Rattle.rows.specs.Cells.{at, row_at, Holds, Put}
use Rattle.joining.specs.Joining.{PathPart, join_of}
use Rattle.valuing.specs.Valuing.{Under, Right, RowsValued, Squared}
use Rattle.meaning.proofs.Nodes.{differs}
use Rattle.valuing.proofs.Meant.{val, sq, value_constant, value_atom, value_modal}
use Rattle.closing.proofs.Closure.{star_again}
use Rattle.valuing.proofs.Meant.{square_move, square_test, square_join, square_star}
use Rattle.rows.proofs.Same.{Agree, holds_same, star_same, modal_same}
use Rattle.joining.proofs.Joined.{joined_same}
use Rattle.valuing.proofs.Table.{under_all, steady_same, steady_lower, steady_then, put_right, put_steady}
use Rattle.valuing.proofs.Children.{AskedAs, test_formula, star_path, part_first, part_second, modal_path, modal_formula}

-- If the record q is a formula, then its row is right.
abbrev Done : List ℕ → ℕ → ℕ → List ℕ → List ℕ → ℕ → Type 0
Done s A L cells new q = sort_of (kind_at s q) ≡ formula → Right s A L cells new q

-- A field of this use has no child.
abbrev Childless : Use → Type 0
Childless u = (σ : Sort) → u ≡ child σ → ⊥

module _ {s : List ℕ} {A L : ℕ} {cells : List ℕ} {r : ℕ} {t : List ℕ} where
  -- ---- formulas
  module _ (w : AskedAs s A L cells r t formula) {start : ℕ} (at_row : start ≡ r * L) where
    -- A formula with no children.
    leaf : {g : ℕ → ℕ} {new : List ℕ} → Put L start g t new → ((k : ℕ) → g k ≡ val w.0 r k)
        → Childless (use_a (kind_at s r)) → Childless (use_b (kind_at s r)) → RowsValued s A L cells r t new
    leaf {g} {new} p e a b =
        let put = rw at_row at p in
        record {
          steady = put_steady put (λ k h. e k) w.1;
          rows = under_all (Done s A L cells new) (λ _. put_right put (λ k h. e k)) (λ σ u. absurd (a σ u)) (λ σ u. absurd (b σ u));
        }

    pub constant_done : {b : Bool} {n x : ℕ} {new : List ℕ} → constant b ≡ kind_at s r → n ≡ L → x ≡ bool_byte b
        → Put n start (λ k. 2 * x) t new → RowsValued s A L cells r t new
    unfolding columns_of
    constant_done {b} e l v p =
        leaf (rw l at p) (λ k. ap (λ (i : ℕ). 2 * i) v ∙ sym (value_constant w.0 b e k))
        (rw (← e) (λ σ u. cc)) (rw (← e) (λ σ u. cc))

    pub atom_done : {a n : ℕ} {new : List ℕ} → atom ≡ kind_at s r → n ≡ L → a ≡ field_a s r
        → Put n start (λ k. cell_of A cells k a) t new → RowsValued s A L cells r t new
    unfolding columns_of
    atom_done e l fa p =
        leaf (rw l at p) (λ k. ap (cell_of A cells k) fa ∙ sym (value_atom w.0 e k)) (rw (← e) (λ σ u. cc)) (rw (← e) (λ σ u. cc))

    pub modal_done : {m : Mode} {a b from : ℕ} {bytes t₁ t₂ new : List ℕ} → modal m ≡ kind_at s r → a ≡ field_a s r → b ≡ field_b s r
        → from ≡ b * L → RowsValued s A L cells b t t₁ → RowsValued s A L cells a t₁ t₂ → Squared s A L cells a bytes
        → Put L start (modal_row m L (at bytes) (row_at t₂ from)) t₂ new → RowsValued s A L cells r t new
    modal_done {m} {a} {b} {from} {bytes} {t₁} {t₂} {new} e fa fb fr v₁ v₂ q p =
        let ha = modal_path w.0 e fa in
        let hb = modal_formula w.0 e fb in
        let right-b : Right s A L cells t₂ b = v₂.steady.right b (v₁.rows b Under.itself hb.1.1) in
        let put : Put L (r * L) (modal_row m L (at bytes) (row_at t₂ from)) t₂ new = rw at_row at p in
        let f : (k : ℕ) → k < L → modal_row m L (at bytes) (row_at t₂ from) k ≡ val w.0 r k =
        λ k h.
        modal_same L m (at bytes) (sq w.0 a) (row_at t₂ from) (val w.0 b) k (λ j i. q.cells k j h i)
        (λ j i. rw fr (right-b.values j i))
        ∙ rw (fa, fb) (sym (value_modal w.0 e k)) in
        let last = put_steady put f w.1 in
        record {
          steady = steady_then (steady_lower hb.0 v₁.steady)
              (steady_then (steady_lower ha.0 v₂.steady) last);
          rows = under_all (Done s A L cells new) (λ _. put_right put f)
              (λ _ _ q u g. last.right q (v₂.rows q (rw fa u) g))
              (λ _ _ q u g. last.right q (v₂.steady.right q (v₁.rows q (rw fb u) g)));
        }

  -- ---- paths
  module _ (w : AskedAs s A L cells r t path) where
    -- What is under a path, from what is under its children.
    path_rows : {new : List ℕ}
        → ((σ : Sort) → use_a (kind_at s r) ≡ child σ → (q : ℕ) → Under s (field_a s r) q → Done s A L cells new q)
        → ((σ : Sort) → use_b (kind_at s r) ≡ child σ → (q : ℕ) → Under s (field_b s r) q → Done s A L cells new q)
        → (q : ℕ) → Under s r q → Done s A L cells new q
    path_rows {new} = under_all (Done s A L cells new) (λ g. absurd (differs g w.1))

    -- With no second child.
    path_one : {new : List ℕ} → Childless (use_b (kind_at s r))
        → ((q : ℕ) → Under s (field_a s r) q → Done s A L cells new q) → (q : ℕ) → Under s r q → Done s A L cells new q
    path_one b a = path_rows (λ _ _. a) (λ σ u. absurd (b σ u))

    pub move_done : {v : Way} {bytes : List ℕ} → move v ≡ kind_at s r → Holds L bytes (move_square v)
        → RowsValued s A L cells r t t × Squared s A L cells r bytes
    unfolding columns_of
    move_done {v} e h = (
      record {
        steady = steady_same;
        rows =
            let a : Childless (use_a (kind_at s r)) = rw (← e) (λ σ u. cc) in
            let b : Childless (use_b (kind_at s r)) = rw (← e) (λ σ u. cc) in
            path_rows (λ σ u. absurd (a σ u)) (λ σ u. absurd (b σ u));
      },
      holds_same h (λ k j _ _. sym (square_move w.0 e k j)),
    )

    -- A test has its formula's rows, and a square from its formula's row.
    pub test_valued : {a : ℕ} {t₁ : List ℕ} → test ≡ kind_at s r → a ≡ field_a s r → RowsValued s A L cells a t t₁
        → RowsValued s A L cells r t t₁
    unfolding columns_of
    test_valued e fa v = record {
      steady = steady_lower (test_formula w.0 e fa).0 v.steady;
      rows = path_one (rw (← e) (λ σ u. cc)) (λ q u g. v.rows q (rw fa u) g);
    }

    pub test_agrees : {a start : ℕ} {t₁ : List ℕ} → test ≡ kind_at s r → a ≡ field_a s r → start ≡ a * L
        → Right s A L cells t₁ a → Agree L (test_square (row_at t₁ start)) (sq w.0 r)
    unfolding test_square
    test_agrees e fa fs right k j m _ =
        ap (λ (x : ℕ). cond (eqb j k) x 0) (rw (fs, ← fa) (right.values k m)) ∙ sym (square_test w.0 e k j)

    pub test_done : {a start : ℕ} {bytes t₁ : List ℕ} → test ≡ kind_at s r → a ≡ field_a s r → start ≡ a * L
        → RowsValued s A L cells a t t₁ → Holds L bytes (test_square (row_at t₁ start))
        → RowsValued s A L cells r t t₁ × Squared s A L cells r bytes
    test_done {a} e fa fs v h =
        let right = v.rows a Under.itself (test_formula w.0 e fa).1.1 in
        (test_valued e fa v, holds_same h (test_agrees e fa fs right))

    -- A path's square has values, which the star's closure asks for.
    pub square_low : (a : ℕ) {bytes : List ℕ} → Squared s A L cells a bytes
        → (k j : ℕ) → k < L → j < L → at bytes k j ≤ 2
    square_low a q k j h l =
        let low = square_bound L (cell_of A cells) (λ k i _. w.0.legal.trace.low (A * k + i)) (path_at s a) k j h in
        omega (arith, q.cells k j h l)

    pub square_part : {K : Kind} {bytes : List ℕ} → K ≡ kind_at s r → Squared s A L cells r bytes → PathPart L K bytes
    square_part e q = record {
      low = square_low r q;
      moves = λ v m k j h l. q.cells k j h l ∙ square_move w.0 (sym m ∙ e) k j;
    }

    -- A star's square is its own star's.
    pub star_closed : {bytes : List ℕ} → star ≡ kind_at s r → Squared s A L cells r bytes → Holds L bytes (star_square L (at bytes))
    star_closed {bytes} e q =
        let body = sq w.0 (field_a s r) in
        let is : Agree L (at bytes) (star_square L body) = λ k j h l. q.cells k j h l ∙ square_star w.0 e k j in
        let low : (k j : ℕ) → k < L → j < L → star_square L body k j ≤ 2 =
        λ k j h l. omega (arith, is k j h l, square_low r q k j h l) in
        record {
          size = q.size;
          cells = λ k j h l. is k j h l ∙ star_again L body low k j h l ∙ sym (star_same L (at bytes) (star_square L body) is k j h l);
        }

    pub star_done : {a : ℕ} {bytes new t₁ : List ℕ} → star ≡ kind_at s r → a ≡ field_a s r → RowsValued s A L cells a t t₁
        → Squared s A L cells a bytes → Holds L new (star_square L (at bytes))
        → RowsValued s A L cells r t t₁ × Squared s A L cells r new
    unfolding columns_of
    star_done {a} {bytes} e fa v q h = (
      record {
        steady = steady_lower (star_path w.0 e fa).0 v.steady;
        rows = path_one (rw (← e) (λ σ u. cc)) (λ q u g. v.rows q (rw fa u) g);
      },
      holds_same h (λ k j m o.
          star_same L (at bytes) (sq w.0 a) q.cells k j m o ∙ rw fa (sym (square_star w.0 e k j))),
    )

    pub join_done : {K : Kind} {a b : ℕ} {x y : Square} {new t₁ t₂ : List ℕ} → (K ≡ choice) ⊎ (K ≡ sequence) → K ≡ kind_at s r
        → a ≡ field_a s r → b ≡ field_b s r
        → RowsValued s A L cells a t t₁ → Agree L x (sq w.0 a) → RowsValued s A L cells b t₁ t₂ → Agree L y (sq w.0 b)
        → Holds L new (join_of K L x y) → RowsValued s A L cells r t t₂ × Squared s A L cells r new
    join_done {K} {a} {b} {x} {y} c e fa fb v₁ qa v₂ qb h =
        let ha = part_first w.0 c e fa in
        let hb = part_second w.0 c e fb in (
          record {
            steady = steady_then (steady_lower ha.0 v₁.steady) (steady_lower hb.0 v₂.steady);
            rows = path_rows (λ _ _ q u g. v₂.steady.right q (v₁.rows q (rw fa u) g))
                (λ _ _ q u g. v₂.rows q (rw fb u) g);
          },
          holds_same h (λ k j o z.
              joined_same L K x (sq w.0 a) y (sq w.0 b) qa qb k j o z ∙ rw (fa, fb) (sym (square_join w.0 c e k j))),
        )
