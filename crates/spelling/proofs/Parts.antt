-- A record's text from its parts'. Its fields that are children are its parts, and these are earlier records. With none the text is its
-- sign; one stands after the sign; two stand in brackets, with the sign in between.
use Prim.Native.Nat.{ℕ, ◌+◌, ◌<◌, ◌≤◌}
use mathlib.Core.Path.{◌≡◌, refl, sym, ◌∙◌}
use mathlib.Core.Bool.{true, false, true≢false}
use mathlib.Core.List.{List, ◌++◌}
use native.Mathlib.Omega.{arith}
use lib.ListN.{length, length-append}
use Rattle.meaning.specs.Record.{Sort, core, kind_at, field_a, field_b, known, sort_of, Use, unused, atomNumber, child, use_a, use_b, columns_of}
use Rattle.meaning.specs.Record.{Kind, constant, atom, modal, move, test, choice, sequence, star, shorthand, unknown}
use Rattle.meaning.specs.Tree.{Tree, as_form, as_path, node_of, tree_at}
use Rattle.meaning.specs.Text.{spell, opening, closing, text_atoms, most_text}
use Rattle.meaning.specs.WellFormed.{Fits}
use Rattle.meaning.proofs.Nodes.{tree_of}
use Rattle.shapes.specs.declared.Use as coded
use Rattle.shapes.specs.declared.Sort as sorts
use Rattle.shapes.specs.Uses.{use_meant}
use Rattle.spelling.specs.Spelling.{sign_of, own_sign, text_of, text_at, Spelling}

-- ---- by what the fields hold
abbrev joined : Use → Use → List ℕ → Tree → Tree → List ℕ
joined unused v own x y = own
joined atomNumber v own x y = own
joined (child σ) unused own x y = own ++ text_of σ x
joined (child σ) atomNumber own x y = own ++ text_of σ x
joined (child σ) (child τ) own x y = opening ++ (text_of σ x ++ (own ++ (text_of τ y ++ closing)))

node_text : (K : Kind) (a b : ℕ) (t : ℕ → Tree) → known core K ≡ true
    → text_of (sort_of K) (node_of K a b t) ≡ joined (use_a K) (use_b K) (own_sign K a) (t a) (t b)
unfolding known columns_of node_of as_form as_path spell sign_of own_sign
node_text (constant true) a b t h = refl
node_text (constant false) a b t h = refl
node_text atom a b t h = refl
node_text (modal m) a b t h = refl
node_text (move w) a b t h = refl
node_text test a b t h = refl
node_text choice a b t h = refl
node_text sequence a b t h = refl
node_text star a b t h = refl
node_text (shorthand σ) a b t h = absurd (true≢false (sym h))
node_text unknown a b t h = absurd (true≢false (sym h))

-- A field that is a child has an earlier record's text.
part_of : (s : List ℕ) (A r : ℕ) (u : Use) (q : ℕ) {σ : Sort} → u ≡ child σ → Fits s A r u q → (q < r) × (text_of σ (tree_at s q) ≡ text_at s q)
part_of s A r u q e f = let (earlier, sorted) = (rw e at f) in (earlier, rw sorted)

-- ---- in a formula
pub atom_low : {s : List ℕ} {r at : ℕ} → Spelling s r at → kind_at s r ≡ atom → field_a s r < text_atoms
unfolding columns_of
atom_low {s} {r} g e =
    let w = g.whole.formed in
    let low : field_a s r < g.whole.atoms = rw e at (w.first r g.index) in
    omega (arith, w.atoms)

-- No field that is a record.
abbrev pub Childless : coded.Use → Type 0
Childless u = (σ : sorts.Sort) → u ≡ coded.TheVariants.Child σ → ⊥

-- A record as it was read.
pub record Read (s : List ℕ) (r at : ℕ) (K : Kind) (a b : ℕ) : Type 0 where
  pub asked : Spelling s r at
  pub kind : K ≡ kind_at s r
  pub first : a ≡ field_a s r
  pub second : b ≡ field_b s r

-- Its parts are earlier, and its text fits.
pub record One (s : List ℕ) (r at a : ℕ) (own : List ℕ) : Type 0 where
  pub first : a < r
  pub text : text_at s r ≡ own ++ text_at s a
  pub room : at + (length own + length (text_at s a)) ≤ most_text

pub record Two (s : List ℕ) (r at a b : ℕ) (own : List ℕ) : Type 0 where
  pub first : a < r
  pub second : b < r
  pub text : text_at s r ≡ opening ++ (text_at s a ++ (own ++ (text_at s b ++ closing)))
  pub room : at + (1 + length (text_at s a) + length own + length (text_at s b) + 1) ≤ most_text

module _ {s : List ℕ} {r at a b : ℕ} {K : Kind} (g : Read s r at K a b) where
  text_is : text_at s r ≡ joined (use_a K) (use_b K) (own_sign K a) (tree_at s a) (tree_at s b)
  text_is =
      let w = g.asked.whole.formed in
      let l = g.asked.index in
      rw (g.kind, g.first, g.second, tree_of w r l) (node_text (kind_at s r) _ _ (tree_at s) (w.kinds r l))

  pub low : K ≡ atom → a < text_atoms
  low e = rw g.first (atom_low g.asked (sym g.kind ∙ e))

  -- The fields as the code has them: u is what field a holds, v what field b holds.
  pub no_part : (u : coded.Use) → use_meant u ≡ use_a K → Childless u → text_at s r ≡ own_sign K a
  no_part coded.TheVariants.Unused e none = rw (← e) at text_is
  no_part coded.TheVariants.AtomNumber e none = rw (← e) at text_is
  no_part (coded.TheVariants.Child σ) e none = absurd (none σ refl)

  module _ {σ : Sort} (e : child σ ≡ use_a K) where
    first_part : (a < r) × (text_of σ (tree_at s a) ≡ text_at s a)
    first_part = part_of s _ r _ a (sym e) (rw (← g.kind, ← g.first) at (g.asked.whole.formed.first r g.asked.index))

    one_by : {v : Use} → v ≡ use_b K → (text_at s r ≡ joined (child σ) v (own_sign K a) (tree_at s a) (tree_at s b) → text_at s r ≡ own_sign K a ++ text_of σ (tree_at s a))
        → One s r at a (own_sign K a)
    one_by f alone =
        let (m, d) = first_part in
        let text : text_at s r ≡ own_sign K a ++ text_at s a = rw d at (alone (rw (← e, ← f) at text_is)) in
        record { first = m; text = text; room = simp length-append at (rw text at g.asked.room) }

    pub one_part : (v : coded.Use) → use_meant v ≡ use_b K → Childless v → One s r at a (own_sign K a)
    one_part coded.TheVariants.Unused f none = one_by f (λ d. d)
    one_part coded.TheVariants.AtomNumber f none = one_by f (λ d. d)
    one_part (coded.TheVariants.Child τ) f none = absurd (none τ refl)

    pub two_parts : {τ : Sort} → child τ ≡ use_b K → Two s r at a b (own_sign K a)
    two_parts f =
        let (m, d) = first_part in
        let (n, q) = part_of s _ r _ b (sym f) (rw (← g.kind, ← g.second) at (g.asked.whole.formed.second r g.asked.index)) in
        let text : text_at s r ≡ opening ++ (text_at s a ++ (own_sign K a ++ (text_at s b ++ closing))) = rw (d, q) at (rw (← e, ← f) at text_is) in
        let room = simp length-append at (rw text at g.asked.room) in
        record { first = m; second = n; text = text; room = omega arith }
