-- What writing and reading text take. Of records without a back step the tree has none, so the whole formula's text is read as it; and
-- the records of a formula without a back step have none, so they are written as its text.
use Prim.Native.Nat.{ℕ, zero, suc, pred, ◌+◌, ◌*◌, ◌<◌, ◌≤◌, zero-le}
use mathlib.Core.Path.{◌≡◌, refl, sym}
use mathlib.Core.Bool.{true, false, true≢false}
use mathlib.Core.Logic.{◌↔◌, inl, inr}
use mathlib.Core.List.{List, ◌++◌}
use native.Mathlib.Nat.{le_refl}
use native.Mathlib.Omega.{arith}
use lib.ListN.{length, length-append}
use Rattle.meaning.specs.Record.{core, record_size, most_records, count, kind_at, known, Kind, ahead, back, Use, unused, atomNumber, child, use_a, use_b, columns_of, record_bytes}
use Rattle.meaning.specs.Formula.{Form, Path, form_atoms, path_atoms}
use Rattle.meaning.specs.Tree.{Tree, as_form, as_path, node_of, tree_at, form_at, form_size, path_size, form_from, path_from, postorder}
use Rattle.meaning.specs.Text.{spell, whole_text, is_ahead, forward, forward_path, most_text, Spells, read, is_read, form_in}
use Rattle.meaning.specs.Refusal.{most_atoms, is_back, ground5, ground8, ground10, ground14, ground14_text, ground18, ground19, check_grounds, back_grounds, write_grounds, read_grounds, tree_grounds, form_grounds, ground1}
use Rattle.meaning.specs.WellFormed.{Fits, WellFormed}
use Rattle.meaning.proofs.Fails.{tests, and_holds}
use Rattle.meaning.proofs.Bounds.{le_or_lt}
use Rattle.meaning.proofs.Nodes.{tree_of}
use Rattle.meaning.proofs.Atoms.{form_atoms_at}
use Rattle.meaning.proofs.Bytes.{At, at_start, at_first, at_second, at_record}
use Rattle.meaning.proofs.Postorder.{form_part, path_part}
use Rattle.meaning.proofs.First.{Clear, Numbered, clear_append, each_clears, numbered_append, numbered_each}
use Rattle.meaning.proofs.Accepted.{clear_well_formed, tree_numbered}

-- ---- what is taken
-- A formula without a back step, and room for its text.
pub record Writes (s : List ℕ) (A room : ℕ) : Type 0 where
  pub formed : WellFormed core s A
  pub onward : (r : ℕ) → r < count s → is_back (kind_at s r) ≡ false
  pub enough : length (whole_text s) ≤ room

-- The text of a formula that is not too long, with atoms that there are, and room for its records.
pub record Takes (t : List ℕ) (A room : ℕ) : Type 0 where
  pub atoms : A ≤ most_atoms
  pub short : length t ≤ most_text
  pub formed : is_read (read t) ≡ true
  pub few : form_size (form_in t) ≤ most_records
  pub known_atoms : (r : ℕ) → r < form_size (form_in t) → (ground5 (postorder (form_in t)) A r).applies ≡ false
  pub enough : record_size * form_size (form_in t) ≤ room

pub write_clear : (s : List ℕ) (A room : ℕ) → Clear (write_grounds s A room) ↔ Writes s A room
unfolding write_grounds check_grounds ground18 ground10
write_clear s A room = simp (clear_append, each_clears, clear_well_formed, tests) (
  λ (w, (b, (l, _))). record { formed = w; onward = λ r h. (b r h).0; enough = omega arith },
  λ w. (w.formed, ((λ r h. (w.onward r h, tt)), (omega (arith, w.enough), tt))),
)

pub form_clear : (t : List ℕ) (A : ℕ)
    → Clear (form_grounds t A) ↔ ((A ≤ most_atoms) × (length t ≤ most_text) × (is_read (read t) ≡ true) × (form_size (form_in t) ≤ most_records))
unfolding ground8 ground14_text ground19 ground14
form_clear t A = simp tests (
  λ (a, (b, (d, (e, _)))). (omega arith, omega arith, d, omega arith),
  λ (a, b, d, e). (omega arith, (omega arith, (d, (omega arith, tt)))),
)

pub read_clear : (t : List ℕ) (A room : ℕ) → Clear (read_grounds t A room) ↔ Takes t A room
unfolding read_grounds ground10
read_clear t A room = simp (clear_append, each_clears, form_clear, tests) (
  λ ((a, b, d, e), (f, (g, _))). record { atoms = a; short = b; formed = d; few = e; known_atoms = λ r h. (f r h).0; enough = omega arith },
  λ w. ((w.atoms, w.short, w.formed, w.few), ((λ r h. (w.known_atoms r h, tt)), (omega (arith, w.enough), tt))),
)

-- Every ground has a number above 0.
pub back_numbered : (s : List ℕ) (A : ℕ) → Numbered (check_grounds s A ++ back_grounds s)
unfolding check_grounds ground1 ground8 ground18
back_numbered s A =
    (omega arith, (omega arith, numbered_append (tree_grounds core s A) _ (tree_numbered core s A) (numbered_each _ _ (λ r. omega arith))))

-- ---- no back step, in records and in their tree
-- A tree of either sort.
abbrev Onward : Tree → Type 0
Onward t = (forward (as_form t) ≡ true) × (forward_path (as_path t) ≡ true)

abbrev Child : Use → Tree → Type 0
Child unused t = Unit {0}
Child atomNumber t = Unit {0}
Child (child σ) t = Onward t

node_onward : (K : Kind) (a b : ℕ) (tree : ℕ → Tree) → known core K ≡ true → is_back K ≡ false → Child (use_a K) (tree a) → Child (use_b K) (tree b)
    → Onward (node_of K a b tree)
unfolding known is_back columns_of node_of as_form as_path forward forward_path is_ahead
node_onward (Kind.constant v) a b tree k h p q = (refl, refl)
node_onward Kind.atom a b tree k h p q = (refl, refl)
node_onward (Kind.modal m) a b tree k h p q = (rw (p.1, q.0), refl)
node_onward (Kind.move ahead) a b tree k h p q = (refl, refl)
node_onward (Kind.move back) a b tree k h p q = absurd (true≢false h)
node_onward Kind.test a b tree k h p q = (refl, p.0)
node_onward Kind.choice a b tree k h p q = (refl, rw (p.1, q.1))
node_onward Kind.sequence a b tree k h p q = (refl, rw (p.1, q.1))
node_onward Kind.star a b tree k h p q = (refl, p.1)
node_onward (Kind.shorthand σ) a b tree k h p q = absurd (true≢false (sym k))
node_onward Kind.unknown a b tree k h p q = absurd (true≢false (sym k))

module _ {s : List ℕ} {A : ℕ} (w : WellFormed core s A) (onward : (r : ℕ) → r < count s → is_back (kind_at s r) ≡ false) where
  child_onward : (r : ℕ) → ((q : ℕ) → q < r → Onward (tree_at s q)) → (u : Use) (v : ℕ) → Fits s A r u v → Child u (tree_at s v)
  child_onward r before unused v f = tt
  child_onward r before atomNumber v f = tt
  child_onward r before (child σ) v f = before v f.0

  tree_onward : (n r : ℕ) → r < n → r < count s → Onward (tree_at s r)
  tree_onward zero r b l = absurd (omega arith)
  tree_onward (suc n) r b l =
      let K = kind_at s r in
      let before : (q : ℕ) → q < r → Onward (tree_at s q) = λ q h. tree_onward n q (omega arith) (omega arith) in
      rw (tree_of w r l)
      (node_onward K _ _ (tree_at s) (w.kinds r l) (onward r l) (child_onward r before (use_a K) _ (w.first r l)) (child_onward r before (use_b K) _ (w.second r l)))

  -- So the whole formula's text is read as the formula.
  pub whole_spells : let F = form_at s (pred (count s)) in Spells F (spell F)
  whole_spells =
      let l : pred (count s) < count s = omega (arith, w.some) in
      record {
        ahead_only = (tree_onward (count s) (pred (count s)) l l).0;
        few_atoms = omega (arith, form_atoms_at w (pred (count s)) l, w.atoms);
        text = refl;
      }

-- The records of a formula in postorder: those of its parts, and its own.
module _ (e : List ℕ) where
  abbrev NoBack : ℕ → ℕ → Type 0
  NoBack n m = (r : ℕ) → n ≤ r → r < m → is_back (kind_at e r) ≡ false

  none_joined : (n m k : ℕ) → NoBack n m → NoBack m k → NoBack n k
  none_joined n m k f g r a b = elim (le_or_lt m r) [ inl h ↦ g r h b | inr h ↦ f r a h ]

  one_record : (K : Kind) (n a b : ℕ) → is_back K ≡ false → At e n (record_bytes K a b) → NoBack n (n + 1)
  one_record K n a b h at r l g =
      let same : r ≡ n = omega arith in
      rw (same, (at_record K a b at).kind) h

  -- A part and a record after it; two parts and a record after them.
  single : (K : Kind) (n a i j : ℕ) (x : List ℕ) → is_back K ≡ false → length x ≡ record_size * a → NoBack n (n + a)
      → At e n (x ++ record_bytes K i j) → NoBack n (n + (a + 1))
  single K n a i j x h size f at =
      let next : n + a + 1 ≡ n + (a + 1) = omega arith in
      rw next at (none_joined n (n + a) (n + a + 1) f (one_record K (n + a) i j h (at_second x _ a size at)))

  double : (K : Kind) (n a b i j : ℕ) (x y : List ℕ) → is_back K ≡ false → length x ≡ record_size * a → length y ≡ record_size * b
      → NoBack n (n + a) → NoBack (n + a) (n + a + b) → At e n (x ++ y ++ record_bytes K i j) → NoBack n (n + (a + b + 1))
  double K n a b i j x y h xs ys f g at =
      let place : n + a + b ≡ n + (a + b) = omega arith in
      single K n (a + b) i j (x ++ y) h (simp length-append (omega arith)) (rw place at (none_joined n (n + a) (n + a + b) f g)) at

  form_length : (F : Form) (n : ℕ) → length (form_from F n) ≡ record_size * form_size F
  form_length F n = (form_part core e (form_atoms F) F n (le_refl _)).whole

  path_length : (P : Path) (n : ℕ) → length (path_from P n) ≡ record_size * path_size P
  path_length P n = (path_part core e (path_atoms P) P n (le_refl _)).whole

  mutual
    unfolding forward forward_path is_ahead is_back form_from path_from form_size path_size

    form_onward : (F : Form) (n : ℕ) → forward F ≡ true → At e n (form_from F n) → NoBack n (n + form_size F)
    form_onward (Form.constant v) n h at = one_record (Kind.constant v) n 0 0 refl at
    form_onward (Form.atom i) n h at = one_record Kind.atom n i 0 refl at
    form_onward (Form.modal m p f) n h at =
        let (x, y) = (and_holds (forward_path p) (forward f)).0 h in
        let parts = at_first (path_from p n ++ form_from f (n + path_size p)) _ at in
        double (Kind.modal m) n (path_size p) (form_size f) _ _ (path_from p n) (form_from f (n + path_size p)) refl (path_length p n) (form_length f (n + path_size p))
        (path_onward p n x (at_first (path_from p n) _ parts)) (form_onward f (n + path_size p) y (at_second (path_from p n) _ (path_size p) (path_length p n) parts)) at

    path_onward : (P : Path) (n : ℕ) → forward_path P ≡ true → At e n (path_from P n) → NoBack n (n + path_size P)
    path_onward (Path.move ahead) n h at = one_record (Kind.move ahead) n 0 0 refl at
    path_onward (Path.move back) n h at = absurd (true≢false (sym h))
    path_onward (Path.test f) n h at = single Kind.test n (form_size f) _ 0 (form_from f n) refl (form_length f n) (form_onward f n h (at_first (form_from f n) _ at)) at
    path_onward (Path.choice p q) n h at =
        let (x, y) = (and_holds (forward_path p) (forward_path q)).0 h in
        let parts = at_first (path_from p n ++ path_from q (n + path_size p)) _ at in
        double Kind.choice n (path_size p) (path_size q) _ _ (path_from p n) (path_from q (n + path_size p)) refl (path_length p n) (path_length q (n + path_size p))
        (path_onward p n x (at_first (path_from p n) _ parts)) (path_onward q (n + path_size p) y (at_second (path_from p n) _ (path_size p) (path_length p n) parts)) at
    path_onward (Path.sequence p q) n h at =
        let (x, y) = (and_holds (forward_path p) (forward_path q)).0 h in
        let parts = at_first (path_from p n ++ path_from q (n + path_size p)) _ at in
        double Kind.sequence n (path_size p) (path_size q) _ _ (path_from p n) (path_from q (n + path_size p)) refl (path_length p n) (path_length q (n + path_size p))
        (path_onward p n x (at_first (path_from p n) _ parts)) (path_onward q (n + path_size p) y (at_second (path_from p n) _ (path_size p) (path_length p n) parts)) at
    path_onward (Path.star p) n h at = single Kind.star n (path_size p) _ 0 (path_from p n) refl (path_length p n) (path_onward p n h (at_first (path_from p n) _ at)) at

pub records_onward : (F : Form) → forward F ≡ true → (r : ℕ) → r < form_size F → is_back (kind_at (postorder F) r) ≡ false
records_onward F h r l = form_onward (postorder F) F 0 h (at_start (postorder F)) r zero-le (omega arith)
