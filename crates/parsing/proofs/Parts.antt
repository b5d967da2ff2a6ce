-- What a reading that succeeds has read, by the first byte b: its parts, and how its records are laid out behind theirs.
use Prim.Native.Char.{code}
use Prim.Native.Nat.{ℕ, zero, suc, pred, ◌+◌, ◌<◌, ◌≤◌}
use mathlib.Core.Path.{◌≡◌, refl, sym, ap, ◌∙◌}
use mathlib.Core.Bool.{Bool, true, false, cond}
use mathlib.Core.List.{List, [], ◌∷◌, ◌++◌}
use mathlib.Core.Option.{Option, none, some}
use mathlib.Core.Logic.{◌⊎◌, ⊎_elim, inl, inr}
use native.Mathlib.Nat.{add-zero}
use native.Mathlib.Omega.{arith}
use lib.Dec.{eqb}
use lib.ListN.{length, get_or, drop, length-drop, length-append}
use lib.Seq.{drop-drop, drop_at, get_or-drop}
use borrow.Author.Tests.{eqb-true, eqb-false}
use Rattle.meaning.specs.Record.{ahead, bytes_of, number_of, diamond, box, constant, atom, modal, move, test, choice, sequence, star}
use Rattle.meaning.specs.Formula.{Form, Path}
use Rattle.meaning.specs.Tree.{form_size, form_from, path_size, path_from}
use Rattle.meaning.specs.Text.{then, else, after, sign, closing, ascii, read_atom, read_number, read_mode, read_join, read_form, read_path}
use Rattle.meaning.specs.Text.{false_sign, true_sign, step_sign, diamond_sign, box_sign, choice_sign, sequence_sign}
use Rattle.parsing.specs.Places.{after_hash, Left, rest}
use Rattle.parsing.proofs.Numbers.{value_in}
use Rattle.parsing.specs.Writing.{Sorted, forms, paths}
use Rattle.meaning.proofs.Spelling.{then_some, else_some, after_some}
use Rattle.parsing.proofs.Places.{no_read, both, else_none}
use Rattle.records.specs.declared.kind.Kind.{Kind}
use Rattle.records.specs.Kinds.{kind_meant}
use Rattle.parsing.proofs.Heads.{paired, no_form, no_path}

-- ---- bytes at a place
module _ (t : List ℕ) (at : ℕ) where
  pub byte_of : (s : List ℕ) → Left t at s → (i : ℕ) → get_or t (at + i) 0 ≡ get_or s i 0
  byte_of s h i = rw h.is (sym (get_or-drop at t i 0))

  pub next : (b : ℕ) (s : List ℕ) → Left t at (b ∷ s) → Left t (at + 1) s
  next b s h = record { within = omega (arith, ap length h.is, length-drop at t); is = ap (drop 1) h.is ∙ drop-drop 1 at t }

-- What follows a sign begins as many bytes later.
pub behind_sign : (t x u : List ℕ) (at : ℕ) → Left t at (x ++ u) → Left t (at + length x) u
behind_sign t x u at h = record {
  within = omega (arith, h.within, ap length h.is, length-drop at t, length-append x u);
  is = sym (drop_at x u (length x) refl) ∙ ap (drop (length x)) h.is ∙ drop-drop (length x) at t;
}

-- ---- no part: g reads what stands behind the first byte; one part; two parts in brackets, with a sign between them that says the kind
module _ {C : Type 0} (W : Sorted C) where
  pub record Leaf (g : List ℕ → Option (List ℕ)) (kind a : List ℕ → ℕ) (s : List ℕ) (x : C) (u : List ℕ) : Type 0 where
    pub byte : ℕ
    pub from : List ℕ
    pub opened : s ≡ byte ∷ from
    pub reads : g from ≡ some u
    pub sized : W.size x ≡ 1
    pub laid : (n : ℕ) → W.bytes x n ≡ bytes_of (kind from) (a from) 0

  pub record OnePart {A : Type 0} (R : Sorted A) (kind : ℕ) (s : List ℕ) (x : C) (u : List ℕ) : Type 0 where
    pub byte : ℕ
    pub depth : ℕ
    pub from : List ℕ
    pub opened : s ≡ byte ∷ from
    pub part : A
    pub reads : R.read depth from ≡ some (part, u)
    pub sized : W.size x ≡ R.size part + 1
    pub laid : (n : ℕ) → W.bytes x n ≡ R.bytes part n ++ bytes_of kind (pred (n + R.size part)) 0

  pub record TwoParts {A J B : Type 0} (R : Sorted A) (j : List ℕ → Option (J × List ℕ)) (S : Sorted B) (kind : List ℕ → ℕ) (s : List ℕ) (x : C) (u : List ℕ) : Type 0 where
    pub depth : ℕ
    pub from : List ℕ
    pub opened : s ≡ code "(" ∷ from
    pub first : A
    pub between : List ℕ
    pub reads_first : R.read depth from ≡ some (first, between)
    pub join : J
    pub behind : List ℕ
    pub reads_join : j between ≡ some (join, behind)
    pub second : B
    pub last : List ℕ
    pub reads_second : S.read depth behind ≡ some (second, last)
    pub closed : last ≡ code ")" ∷ u
    pub sized : W.size x ≡ R.size first + S.size second + 1
    pub laid : (n : ℕ) → W.bytes x n ≡ R.bytes first n ++ S.bytes second (n + R.size first)
        ++ bytes_of (kind between) (pred (n + R.size first)) (pred (n + R.size first + S.size second))

-- ---- readings taken apart
kept : {A C : Type 0} (k : A → C) (r : Option (A × List ℕ)) (x : C) (u : List ℕ) → else {T = C × List ℕ} (then r (λ (a, v). some (k a, v))) none ≡ some (x, u)
    → (a : A) × (r ≡ some (a, u)) × (x ≡ k a)
unfolding then else
kept k none x u h = no_read h
kept k (some (a, v)) x u h = let (same, left) = both h in (a, rw left, same)

signed : {C : Type 0} (c : C) (bytes s : List ℕ) (x : C) (u : List ℕ) → sign c bytes s ≡ some (x, u) → (x ≡ c) × (s ≡ bytes ++ u)
unfolding sign then
signed c bytes s x u h =
    let (z, e, f) = then_some (after bytes s) _ (x, u) h in
    let (same, left) = both f in
    (same, after_some bytes s u (rw left at e))

either_signed : {C : Type 0} (c d : C) (a b s : List ℕ) (x : C) (u : List ℕ) → else (sign c a s) (sign d b s) ≡ some (x, u)
    → ((x ≡ c) × (s ≡ a ++ u)) ⊎ ((x ≡ d) × (s ≡ b ++ u))
either_signed c d a b s x u h =
    ⊎_elim (λ f. inl (signed c a s x u f)) (λ f. inr (signed d b s x u f)) (else_some (sign c a s) (sign d b s) (x, u) h)

-- ---- signs passed over
-- Where a sign that j reads stands at a place, it has `size` bytes.
abbrev pub Passes : {J : Type 0} → (List ℕ → Option (J × List ℕ)) → ℕ → Type 0
Passes {J} j size = (t : List ℕ) (at : ℕ) (v w : List ℕ) (o : J) → Left t at v → j v ≡ some (o, w) → Left t (at + size) w

either_passed : {C : Type 0} (c d : C) (a b : List ℕ) → length b ≡ length a → Passes (λ v. else (sign c a v) (sign d b v)) (length a)
either_passed c d a b same t at v w o h reads = ⊎_elim
    (λ (_, e). behind_sign t a w at (rw e at h))
    (λ (_, e). rw (← same) (behind_sign t b w at (rw e at h)))
    (either_signed c d a b v o w reads)

pub mode_passed : Passes read_mode (length diamond_sign)
unfolding read_mode
mode_passed = either_passed diamond box diamond_sign box_sign refl

pub join_passed : Passes read_join (length choice_sign)
unfolding read_join
join_passed = either_passed (λ p q. Path.choice p q) (λ p q. Path.sequence p q) choice_sign sequence_sign refl

pub step_passed : (t : List ℕ) (at : ℕ) (s u : List ℕ) → Left t (at + 1) s → after (ascii "t") s ≡ some u → Left t (at + length step_sign) u
step_passed t at s u h reads =
    let same : at + 1 + 1 ≡ at + length step_sign = omega arith in
    rw same at (behind_sign t (ascii "t") u (at + 1) (rw (after_some (ascii "t") s u reads) at h))

two_parts : {A J B C : Type 0} (W : Sorted C) (R : Sorted A) (j : List ℕ → Option (J × List ℕ)) (S : Sorted B) (k : J → A → B → C) (kind : List ℕ → ℕ)
    → ((v w : List ℕ) (o : J) → j v ≡ some (o, w) → (p : A) (q : B) → (W.size (k o p q) ≡ R.size p + S.size q + 1)
    × ((n : ℕ) → W.bytes (k o p q) n ≡ R.bytes p n ++ S.bytes q (n + R.size p) ++ bytes_of (kind v) (pred (n + R.size p)) (pred (n + R.size p + S.size q))))
    → (m : ℕ) (s : List ℕ) (x : C) (u : List ℕ) → paired j (S.read m) k (R.read m s) ≡ some (x, u) → TwoParts W R j S kind ((code "(") ∷ s) x u
unfolding paired sign
two_parts {C = C} W R j S k kind node m s x u h =
    let ((p, v), e, f) = then_some (R.read m s) _ (x, u) h in
    let ((o, w), e₁, f₁) = then_some (j v) _ (x, u) f in
    let ((q, y), e₂, f₂) = then_some (S.read m w) _ (x, u) f₁ in
    let (same, closed) = signed (k o p q) closing y x u f₂ in
    let (sized, laid) = node v w o e₁ p q in
    record {
      depth = m;
      from = s;
      opened = refl;
      first = p;
      between = v;
      reads_first = e;
      join = o;
      behind = w;
      reads_join = e₁;
      second = q;
      last = y;
      reads_second = e₂;
      closed = closed;
      sized = ap W.size same ∙ sized;
      laid = λ n. ap (λ (c : C). W.bytes c n) same ∙ laid n;
    }

-- The number of the kind that a byte chooses of two.
pub chosen : {k : Kind} (x y : Kind) {b : ℕ} (sign : ℕ) {a : ℕ} → k ≡ cond (eqb b sign) x y → b ≡ a
    → number_of (kind_meant k) ≡ cond (eqb a sign) (number_of (kind_meant x)) (number_of (kind_meant y))
chosen x y {b} sign e same = rw (e, ← same) (go (eqb b sign))
  where
    go : (c : Bool) → number_of (kind_meant (cond c x y)) ≡ cond c (number_of (kind_meant x)) (number_of (kind_meant y))
    go true = refl
    go false = refl

-- Nothing is read at the end of a text.
pub form_inside : (m : ℕ) (s u : List ℕ) (x : Form) → read_form m s ≡ some (x, u) → 0 < length s
form_inside m [] u x h = no_read (sym (no_form m [] (λ e. omega arith) (λ e. omega arith) (λ e. omega arith)) ∙ h)
form_inside m (c ∷ s) u x h = omega arith

pub path_inside : (m : ℕ) (s u : List ℕ) (x : Path) → read_path m s ≡ some (x, u) → 0 < length s
path_inside m [] u x h = no_read (sym (no_path m [] (λ e. omega arith) (λ e. omega arith) (λ e. omega arith) (λ e. omega arith)) ∙ h)
path_inside m (c ∷ s) u x h = omega arith

-- ---- formulas
-- Of false's sign and record, or true's: how long the one is, and the other's kind.
abbrev pub constant_length : Bool → ℕ
constant_length c = cond c (length false_sign) (length true_sign)

abbrev pub constant_number : Bool → ℕ
constant_number c = cond c (number_of (constant false)) (number_of (constant true))

abbrev is_false : List ℕ → Bool
is_false s = eqb (get_or s 0 0) (code "f")

abbrev pub constant_kind : List ℕ → ℕ
constant_kind s = constant_number (is_false s)

abbrev pub mode_kind : List ℕ → ℕ
mode_kind v = cond (eqb (get_or v 2 0) (code "?")) (number_of (modal diamond)) (number_of (modal box))

abbrev pub join_kind : List ℕ → ℕ
join_kind v = cond (eqb (get_or v 0 0) (code "+")) (number_of choice) (number_of sequence)

-- What stands behind #: the first byte tells false from true.
constant_passed : (t : List ℕ) (at : ℕ) (s u : List ℕ) → Left t (at + 1) s → after_hash s ≡ some u → Left t (at + constant_length (is_false s)) u
constant_passed t at s u h reads =
    let five : at + 1 + length (ascii "false") ≡ at + length false_sign = omega arith in
    let four : at + 1 + length (ascii "true") ≡ at + length true_sign = omega arith in
    ⊎_elim
    (λ f. let e = after_some (ascii "false") s u f in rw e (rw five at (behind_sign t (ascii "false") u (at + 1) (rw e at h))))
    (λ f. let e = after_some (ascii "true") s u f in rw e (rw four at (behind_sign t (ascii "true") u (at + 1) (rw e at h))))
    (else_some (after (ascii "false") s) (after (ascii "true") s) u reads)

-- And it has a first byte.
pub constant_inside : (t : List ℕ) (at : ℕ) (s u : List ℕ) → Left t (at + 1) s → after_hash s ≡ some u → at + 1 < length t
constant_inside t at s u h reads = let long = (constant_passed t at s u h reads).within in omega (arith, long, both_long (is_false s))
  where
    both_long : (c : Bool) → 2 ≤ constant_length c
    both_long true = omega arith
    both_long false = omega arith

pub constant_stands : (t : List ℕ) (at : ℕ) (c : Bool) → eqb (get_or t (at + 1) 0) (code "f") ≡ c → (s u : List ℕ) → Left t (at + 1) s → after_hash s ≡ some u
    → (Left t (at + constant_length c) u) × (constant_number c ≡ constant_kind s)
constant_stands t at c e s u h reads =
    let first : get_or s 0 0 ≡ get_or t (at + 1) 0 = sym (byte_of t (at + 1) s h 0) ∙ rw add-zero in
    (rw (first, e) at (constant_passed t at s u h reads), rw (first, e))

module _ (b : ℕ) where
  pub constant_leaf : b ≡ code "#" → (m : ℕ) (s u : List ℕ) (x : Form) → get_or s 0 0 ≡ b → read_form m s ≡ some (x, u) → Leaf forms after_hash constant_kind (λ s. 0) s x u
  unfolding read_form read_atom sign then else after form_size form_from number_of
  constant_leaf key zero s u x e h = no_read h
  constant_leaf key (suc m) [] u x e h = no_read h
  constant_leaf key (suc m) (c ∷ s) u x e h = ⊎_elim
      (λ (same, t). record { byte = c; from = s; opened = refl; reads = rw t; sized = rw same; laid = λ n. rw (same, t) })
      (λ (same, t). record { byte = c; from = s; opened = refl; reads = rw t; sized = rw same; laid = λ n. rw (same, t) })
      (either_signed (Form.constant false) (Form.constant true) (ascii "false") (ascii "true") s x u (rw (e, key, else_none) at h))

  pub atom_leaf : b ≡ code "p" → (m : ℕ) (s u : List ℕ) (x : Form) → get_or s 0 0 ≡ b → read_form m s ≡ some (x, u)
      → Leaf forms (λ u. rest (read_number u)) (λ s. number_of atom) (λ s. value_in (read_number s)) s x u
  unfolding read_form read_atom sign then else after form_size form_from number_of rest value_in
  atom_leaf key zero s u x e h = no_read h
  atom_leaf key (suc m) [] u x e h = no_read h
  atom_leaf key (suc m) (c ∷ s) u x e h =
      let (i, f, same) = kept (λ i. Form.atom i) (read_number s) x u (rw (e, key) at h) in
      record { byte = c; from = s; opened = refl; reads = ap rest f; sized = ap form_size same; laid = λ n. ap (λ (c : Form). form_from c n) same ∙ ap (λ (r : Option (ℕ × List ℕ)). bytes_of (number_of atom) (value_in r) 0) (sym f) }

  pub modal_parts : (b ≡ code "#" → ⊥) → (b ≡ code "p" → ⊥) → (m : ℕ) (s u : List ℕ) (x : Form) → get_or s 0 0 ≡ b → read_form m s ≡ some (x, u)
      → TwoParts forms paths read_mode forms mode_kind s x u
  unfolding read_form read_atom sign then else after paired read_mode form_size form_from number_of
  modal_parts y z zero s u x e h = no_read h
  modal_parts y z (suc m) [] u x e h = no_read h
  modal_parts y z (suc m) (c ∷ s) u x e h = go (eqb c (code "(")) refl
    where
      go : (d : Bool) → eqb c (code "(") ≡ d → TwoParts forms paths read_mode forms mode_kind (c ∷ s) x u
      go true f = rw (eqb-true c (code "(") f) (two_parts forms paths read_mode forms (λ m p f. Form.modal m p f) mode_kind
          (λ v w o l p q. ⊎_elim (λ (same, t). (refl, λ n. rw (same, t))) (λ (same, t). (refl, λ n. rw (same, t))) (either_signed diamond box diamond_sign box_sign v o w l))
          m s x u (rw (eqb-true c (code "(") f) at h))
      go false f = no_read (sym (no_form (suc m) (c ∷ s) (rw e y) (rw e z) (eqb-false c (code "(") f)) ∙ h)

  -- ---- paths
  pub step_leaf : b ≡ code "&" → (m : ℕ) (s u : List ℕ) (x : Path) → get_or s 0 0 ≡ b → read_path m s ≡ some (x, u) → Leaf paths (after (ascii "t")) (λ s. number_of (move ahead)) (λ s. 0) s x u
  unfolding read_path sign then else after path_size path_from number_of
  step_leaf key zero s u x e h = no_read h
  step_leaf key (suc m) [] u x e h = no_read h
  step_leaf key (suc m) (c ∷ s) u x e h =
      let (same, t) = signed (Path.move ahead) (ascii "t") s x u (rw (e, key, else_none) at h) in
      record { byte = c; from = s; opened = refl; reads = rw t; sized = rw same; laid = λ n. rw same }

  pub test_part : b ≡ code "?" → (m : ℕ) (s u : List ℕ) (x : Path) → get_or s 0 0 ≡ b → read_path m s ≡ some (x, u) → OnePart paths forms (number_of test) s x u
  unfolding read_path sign then else after path_size path_from number_of
  test_part key zero s u x e h = no_read h
  test_part key (suc m) [] u x e h = no_read h
  test_part key (suc m) (c ∷ s) u x e h =
      let (f, l, same) = kept (λ f. Path.test f) (read_form m s) x u (rw (e, key) at h) in
      record { byte = c; depth = m; from = s; opened = refl; part = f; reads = l; sized = ap path_size same; laid = λ n. ap (λ (c : Path). path_from c n) same }

  pub star_part : b ≡ code "*" → (m : ℕ) (s u : List ℕ) (x : Path) → get_or s 0 0 ≡ b → read_path m s ≡ some (x, u) → OnePart paths paths (number_of star) s x u
  unfolding read_path sign then else after path_size path_from number_of
  star_part key zero s u x e h = no_read h
  star_part key (suc m) [] u x e h = no_read h
  star_part key (suc m) (c ∷ s) u x e h =
      let (p, l, same) = kept (λ p. Path.star p) (read_path m s) x u (rw (e, key) at h) in
      record { byte = c; depth = m; from = s; opened = refl; part = p; reads = l; sized = ap path_size same; laid = λ n. ap (λ (c : Path). path_from c n) same }

  pub join_parts : (b ≡ code "&" → ⊥) → (b ≡ code "?" → ⊥) → (b ≡ code "*" → ⊥) → (m : ℕ) (s u : List ℕ) (x : Path) → get_or s 0 0 ≡ b → read_path m s ≡ some (x, u)
      → TwoParts paths paths read_join paths join_kind s x u
  unfolding read_path sign then else after paired read_join path_size path_from number_of
  join_parts w y z zero s u x e h = no_read h
  join_parts w y z (suc m) [] u x e h = no_read h
  join_parts w y z (suc m) (c ∷ s) u x e h = go (eqb c (code "(")) refl
    where
      go : (d : Bool) → eqb c (code "(") ≡ d → TwoParts paths paths read_join paths join_kind (c ∷ s) x u
      go true f = rw (eqb-true c (code "(") f) (two_parts paths paths read_join paths (λ j p q. j p q) join_kind
          (λ v w o l p q. ⊎_elim (λ (same, t). (rw same, λ n. rw (same, t))) (λ (same, t). (rw same, λ n. rw (same, t)))
          (either_signed (λ p q. Path.choice p q) (λ p q. Path.sequence p q) choice_sign sequence_sign v o w l))
          m s x u (rw (eqb-true c (code "(") f) at h))
      go false f = no_read (sym (no_path (suc m) (c ∷ s) (rw e w) (rw e y) (rw e z) (eqb-false c (code "(") f)) ∙ h)
