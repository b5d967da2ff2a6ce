-- What a record is worth from what its children are worth, by its kind. The tree of a well-formed record is its node
-- over its children's trees, and a node's value is the matching operation on theirs.
use Prim.Native.Nat.{ℕ, ◌*◌}
use mathlib.Core.Path.{◌≡◌, sym, ◌∙◌}
use mathlib.Core.Bool.{Bool, true, false}
use mathlib.Core.Logic.{◌⊎◌, inl, inr}
use mathlib.Core.List.{List}
use mir.Val.{bool_byte}
use Rattle.meaning.specs.Run.{cell_of}
use Rattle.meaning.specs.Record.{Kind, constant, atom, modal, move, test, choice, sequence, star, Mode, Way, kind_at, field_a, field_b}
use Rattle.meaning.specs.Tree.{Tree, as_form, as_path, node_of, tree_at, form_at, path_at}
use Rattle.meaning.specs.Value.{Row, Square, value_of, square_of, modal_row, move_square, test_square, star_square}
use Rattle.meaning.proofs.Nodes.{form_node, path_node}
use Rattle.joining.specs.Joining.{join_of}
use Rattle.valuing.specs.Valuing.{Asked}

module _ {s : List ℕ} {A L : ℕ} {cells : List ℕ} {r : ℕ} {t : List ℕ} (w : Asked s A L cells r t) where
  -- What the formula q, and the path q, of the records are worth.
  abbrev pub val : ℕ → Row
  val q = value_of L (cell_of A cells) (form_at s q)

  abbrev pub sq : ℕ → Square
  sq q = square_of L (cell_of A cells) (path_at s q)

  -- ---- nodes
  abbrev node : Kind → Tree
  node K = node_of K (field_a s r) (field_b s r) (tree_at s)

  form_is : {K : Kind} → K ≡ kind_at s r → form_at s r ≡ as_form (node K)
  form_is e = form_node w.legal.formed w.index (sym e)

  path_is : {K : Kind} → K ≡ kind_at s r → path_at s r ≡ as_path (node K)
  path_is e = path_node w.legal.formed w.index (sym e)

  -- ---- formulas
  pub value_constant : (b : Bool) → constant b ≡ kind_at s r → (k : ℕ) → val r k ≡ 2 * bool_byte b
  unfolding node_of as_form value_of
  value_constant true e k = rw (form_is e)
  value_constant false e k = rw (form_is e)

  pub value_atom : atom ≡ kind_at s r → (k : ℕ) → val r k ≡ cell_of A cells k (field_a s r)
  unfolding node_of as_form value_of
  value_atom e k = rw (form_is e)

  pub value_modal : {m : Mode} → modal m ≡ kind_at s r → (k : ℕ)
      → val r k ≡ modal_row m L (sq (field_a s r)) (val (field_b s r)) k
  unfolding node_of as_form value_of
  value_modal e k = rw (form_is e)

  -- ---- paths
  pub square_move : {v : Way} → move v ≡ kind_at s r → (k j : ℕ) → sq r k j ≡ move_square v k j
  unfolding node_of as_path square_of
  square_move e k j = rw (path_is e)

  pub square_test : test ≡ kind_at s r → (k j : ℕ) → sq r k j ≡ test_square (val (field_a s r)) k j
  unfolding node_of as_path square_of
  square_test e k j = rw (path_is e)

  pub square_join : {K : Kind} → (K ≡ choice) ⊎ (K ≡ sequence) → K ≡ kind_at s r → (k j : ℕ)
      → sq r k j ≡ join_of K L (sq (field_a s r)) (sq (field_b s r)) k j
  unfolding node_of as_path square_of join_of
  square_join (inl c) e k j = rw (path_is (sym c ∙ e), c)
  square_join (inr c) e k j = rw (path_is (sym c ∙ e), c)

  pub square_star : star ≡ kind_at s r → (k j : ℕ) → sq r k j ≡ star_square L (sq (field_a s r)) k j
  unfolding node_of as_path square_of
  square_star e k j = rw (path_is e)
