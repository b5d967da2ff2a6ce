-- Reading undoes spelling. What is read is spelled so, by induction on how deep reading goes: whatever a sign is followed by, it stands
-- there in the text. What is spelled is read so, by induction on the formula: no two signs that may stand in one place begin
-- alike, and a number ends where no digit follows.
use Prim.Native.Nat.{ℕ, zero, suc, ◌+◌, ◌*◌, ◌-◌, ◌/◌, ◌%◌, ◌≤◌, ◌<◌, max}
use mathlib.Core.Path.{◌≡◌, refl, sym, ap, ◌∙◌}
use mathlib.Core.Bool.{Bool, true, false, cond, ◌&&◌, true≢false}
use mathlib.Core.Logic.{◌⊎◌, inl, inr}
use mathlib.Core.List.{List, [], ◌∷◌, ◌++◌, append_assoc, append-nil}
use mathlib.Core.Option.{Option, none, some}
use native.Mathlib.Omega.{arith}
use lib.Dec.{eqb, leb}
use lib.ListN.{length, get_or, length-append}
use borrow.Author.Tests.{eqb-true, leb-true, le-leb, ltb-true, lt-ltb}
use Rattle.meaning.proofs.Fails.{and_holds}
use Rattle.meaning.proofs.Bounds.{le_or_lt, first_within, second_within}
use Rattle.meaning.proofs.Lengths.{one_digit_is, two_digits_are}
use Rattle.meaning.specs.Record.{Mode, diamond, box, ahead, back}
use Rattle.meaning.specs.Formula.{Form, Path, form_atoms, path_atoms}
use Rattle.meaning.specs.Tree.{form_size, path_size}
use Rattle.meaning.specs.Text.{decimal, false_sign, true_sign, atom_sign, step_sign, test_sign, star_sign, choice_sign, sequence_sign, diamond_sign, box_sign, opening, closing, mode_sign, move_sign}
use Rattle.meaning.specs.Text.{spell, spell_path, is_ahead, forward, forward_path, text_atoms, Spells, then, else, after, sign}
use Rattle.meaning.specs.Text.{digit, number, two_digits, one_digit, read_number, read_atom, read_mode, read_join, read_form, read_path, whole, read}

-- ---- what was found
found : {T : Type 0} → Option T → Bool
found none = false
found (some x) = true

pub not_found : {T : Type 0} (x : T) → ◌≡◌ {A = Option T} none (some x) → ⊥
unfolding found
not_found x e = true≢false (sym (ap found e))

pub then_some : {T U : Type 0} (x : Option T) (f : T → Option U) (r : U) → then x f ≡ some r → (a : T) × (x ≡ some a) × (f a ≡ some r)
unfolding then
then_some none f r e = absurd (not_found r e)
then_some (some a) f r e = (a, refl, e)

-- The same, to go on with.
pub then_use : {T U C : Type 0} (x : Option T) (f : T → Option U) (r : U) → then x f ≡ some r
    → ((a : T) → x ≡ some a → f a ≡ some r → C) → C
then_use x f r e go = let (a, b, d) = then_some x f r e in go a b d

pub else_some : {T : Type 0} (x y : Option T) (r : T) → else x y ≡ some r → (x ≡ some r) ⊎ (y ≡ some r)
unfolding else
else_some none y r e = inr e
else_some (some x) y r e = inl e

pub pair_some : {T U : Type 0} (a c : T) (b d : U) → ◌≡◌ {A = Option (T × U)} (some (a, b)) (some (c, d)) → (a ≡ c) × (b ≡ d)
pair_some {T} {U} a c b d e =
    let both : ◌≡◌ {A = T × U} (a, b) (c, d) = cc in
    (ap (λ x. x.0) both, ap (λ x. x.1) both)

pub after_some : (bytes t u : List ℕ) → after bytes t ≡ some u → t ≡ bytes ++ u
unfolding after
after_some [] t u e = cc
after_some (b ∷ bs) [] u e = absurd (not_found u e)
after_some (b ∷ bs) (c ∷ t) u e = go (eqb c b) refl (after_some bs t u) e
  where
    go : (x : Bool) → eqb c b ≡ x → (after bs t ≡ some u → t ≡ bs ++ u) → cond x (after bs t) none ≡ some u → c ∷ t ≡ b ∷ bs ++ u
    go true d h e = rw (eqb-true c b d, h e)
    go false d h e = absurd (not_found u e)

pub sign_some : {T : Type 0} (x y : T) (bytes t u : List ℕ) → sign x bytes t ≡ some (y, u) → (x ≡ y) × (t ≡ bytes ++ u)
unfolding sign
sign_some x y bytes t u e =
    let (v, a, b) = then_some (after bytes t) _ _ e in
    let (c, d) = pair_some x y v u b in
    (c, after_some bytes t u (rw d at a))

-- ---- numbers
digit_is : (b : ℕ) → digit b ≡ true → (48 ≤ b) × (b ≤ 57)
unfolding digit
digit_is b e = let (x, y) = (and_holds _ _).0 e in (leb-true 48 b x, leb-true b 57 y)

one_some : (b : ℕ) (t u : List ℕ) (i : ℕ) → one_digit b t ≡ some (i, u) → (b ∷ t ≡ decimal i ++ u) × (i < text_atoms)
unfolding one_digit
one_some b t u i e = go (digit b) refl e
  where
    go : (x : Bool) → digit b ≡ x → cond {A = Option (ℕ × List ℕ)} x (some (b - 48, t)) none ≡ some (i, u) → (b ∷ t ≡ decimal i ++ u) × (i < text_atoms)
    go false d e = absurd (not_found _ e)
    go true d e =
        let (low, high) = digit_is b d in
        let (j, v) = pair_some (b - 48) i t u e in
        let same : 48 + i ≡ b = omega arith in
        (rw (one_digit_is i (omega arith), same, v), omega arith)

number_some : (t u : List ℕ) (i : ℕ) → read_number t ≡ some (i, u) → (t ≡ decimal i ++ u) × (i < text_atoms)
unfolding read_number two_digits number
number_some [] u i e = absurd (not_found _ e)
number_some (b ∷ []) u i e = one_some b [] u i e
number_some (b ∷ c ∷ t) u i e = go (two_digits b c) refl e
  where
    go : (x : Bool) → two_digits b c ≡ x → cond {A = Option (ℕ × List ℕ)} x (some (number b c, t)) (one_digit b (c ∷ t)) ≡ some (i, u)
        → (b ∷ c ∷ t ≡ decimal i ++ u) × (i < text_atoms)
    go false d e = one_some b (c ∷ t) u i e
    go true d e =
        let (x, y) = (and_holds _ _).0 d in
        let (z, w) = (and_holds _ _).0 y in
        let (low, high) = digit_is c z in
        let tens = leb-true 49 b x in
        let small = ltb-true (10 * (b - 48) + (c - 48)) 32 w in
        let (j, v) = pair_some _ i t u e in
        let first : 48 + i / 10 ≡ b = omega arith in
        let second : 48 + i % 10 ≡ c = omega arith in
        (rw (two_digits_are i (omega arith) (omega arith), first, second, v), omega arith)

-- Where no digit follows, a number that is spelled is read.
is_digit : (i : ℕ) → i < 10 → digit (48 + i) ≡ true
unfolding digit
is_digit i l = rw (le-leb 48 (48 + i) (omega arith), le-leb (48 + i) 57 (omega arith))

one_read : (i : ℕ) (t : List ℕ) → i < 10 → one_digit (48 + i) t ≡ some (i, t)
unfolding one_digit
one_read i t l = let same : 48 + i - 48 ≡ i = omega arith in rw (is_digit i l, same)

two_fail : (b c : ℕ) → digit c ≡ false → two_digits b c ≡ false
unfolding two_digits
two_fail b c d = rw d (go (leb 49 b))
  where
    go : (x : Bool) → x && false ≡ false
    go true = refl
    go false = refl

two_number : (i : ℕ) → number (48 + i / 10) (48 + i % 10) ≡ i
unfolding number
two_number i = omega arith

two_hold : (i : ℕ) → 10 ≤ i → i < text_atoms → two_digits (48 + i / 10) (48 + i % 10) ≡ true
unfolding two_digits
two_hold i l h = rw (le-leb 49 (48 + i / 10) (omega arith), is_digit (i % 10) (omega arith), two_number i, lt-ltb i 32 h)

number_read : (i : ℕ) (u : List ℕ) → i < text_atoms → digit (get_or u 0 0) ≡ false → read_number (decimal i ++ u) ≡ some (i, u)
unfolding read_number
number_read i u l d = elim (le_or_lt 10 i) [
  | inl h ↦ rw (two_digits_are i h (omega arith), two_hold i h l, two_number i)
  | inr h ↦ rw (one_digit_is i h) (one u d h)
]
  where
    one : (u : List ℕ) → digit (get_or u 0 0) ≡ false → i < 10 → read_number ((48 + i) ∷ u) ≡ some (i, u)
    one [] d h = one_read i [] h
    one (b ∷ u) d h = rw (two_fail (48 + i) b d) (one_read i (b ∷ u) h)

-- ---- what is read is spelled so
-- Two parts in brackets with a sign between them.
bracketed : (t v w x y u a b d : List ℕ) → t ≡ opening ++ v → v ≡ a ++ w → w ≡ b ++ x → x ≡ d ++ y → y ≡ closing ++ u
    → t ≡ (opening ++ (a ++ (b ++ (d ++ closing)))) ++ u
bracketed t v w x y u a b d e f g h i = rw (e, f, g, h, i) (simp append_assoc)

-- What was read stands at the start of t, and u follows.
abbrev pub FormRead : Form → List ℕ → List ℕ → Type 0
FormRead F t u = (t ≡ spell F ++ u) × (forward F ≡ true) × (form_atoms F ≤ text_atoms)

abbrev pub PathRead : Path → List ℕ → List ℕ → Type 0
PathRead P t u = (t ≡ spell_path P ++ u) × (forward_path P ≡ true) × (path_atoms P ≤ text_atoms)

-- What was given back is what was read.
form_is : (F G : Form) (t u v : List ℕ) → FormRead F t u → ◌≡◌ {A = Option (Form × List ℕ)} (some (F, u)) (some (G, v)) → FormRead G t v
form_is F G t u v h e = let (a, b) = pair_some F G u v e in rw (← a, ← b) h

path_is : (P Q : Path) (t u v : List ℕ) → PathRead P t u → ◌≡◌ {A = Option (Path × List ℕ)} (some (P, u)) (some (Q, v)) → PathRead Q t v
path_is P Q t u v h e = let (a, b) = pair_some P Q u v e in rw (← a, ← b) h

atom_is : (i : ℕ) (t v u : List ℕ) → t ≡ atom_sign ++ v → (v ≡ decimal i ++ u) × (i < text_atoms) → FormRead (Form.atom i) t u
unfolding spell forward form_atoms
atom_is i t v u e (f, l) = (rw (e, f), refl, omega arith)

mode_some : (t u : List ℕ) (m : Mode) → read_mode t ≡ some (m, u) → t ≡ mode_sign m ++ u
unfolding read_mode mode_sign
mode_some t u m e = elim (else_some _ _ _ e) [
  | inl a ↦ let (f, x) = sign_some diamond m diamond_sign t u a in rw (← f) x
  | inr a ↦ let (f, x) = sign_some box m box_sign t u a in rw (← f) x
]

modal_is : (m : Mode) (P : Path) (F : Form) (t v w x y u : List ℕ) → t ≡ opening ++ v → PathRead P v w → w ≡ mode_sign m ++ x → FormRead F x y
    → y ≡ closing ++ u → FormRead (Form.modal m P F) t u
unfolding spell forward form_atoms
modal_is m P F t v w x y u e (f, g, h) i (j, k, l) o = (bracketed t v w x y u (spell_path P) (mode_sign m) (spell F) e f i j o, rw (g, k), omega arith)

-- A choice or a sequence is spelled by its two paths and its sign.
Joins : (Path → Path → Path) → List ℕ → Type 0
Joins join bytes = (p q : Path)
    → (spell_path (join p q) ≡ opening ++ (spell_path p ++ (bytes ++ (spell_path q ++ closing))))
    × (forward_path (join p q) ≡ (forward_path p && forward_path q)) × (path_atoms (join p q) ≡ max (path_atoms p) (path_atoms q))

join_some : (t u : List ℕ) (join : Path → Path → Path) → read_join t ≡ some (join, u) → (bytes : List ℕ) × Joins join bytes × (t ≡ bytes ++ u)
unfolding read_join Joins spell_path forward_path path_atoms
join_some t u join e = elim (else_some _ _ _ e) [
  | inl a ↦ let (f, x) = sign_some _ join choice_sign t u a in rw (← f) (choice_sign, (λ p q. (refl, refl, refl)), x)
  | inr a ↦ let (f, x) = sign_some _ join sequence_sign t u a in rw (← f) (sequence_sign, (λ p q. (refl, refl, refl)), x)
]

join_is : (join : Path → Path → Path) (bytes : List ℕ) (P Q : Path) (t v w x y u : List ℕ) → Joins join bytes
    → t ≡ opening ++ v → PathRead P v w → w ≡ bytes ++ x → PathRead Q x y → y ≡ closing ++ u → PathRead (join P Q) t u
unfolding Joins
join_is join bytes P Q t v w x y u s e (f, g, h) i (j, k, l) o =
    let (a, b, c) = s P Q in
    (rw a (bracketed t v w x y u (spell_path P) bytes (spell_path Q) e f i j o), rw (b, g, k), omega arith)

mutual
  unfolding read_form read_path read_atom spell spell_path move_sign forward forward_path is_ahead form_atoms path_atoms

  pub read_form_back : (n : ℕ) (t u : List ℕ) (F : Form) → read_form n t ≡ some (F, u) → FormRead F t u
  read_form_back zero t u F e = absurd (not_found _ e)
  read_form_back (suc n) t u F e = elim (else_some _ _ _ e) [
    | inl a ↦ let (f, x) = sign_some (Form.constant false) F false_sign t u a in rw (← f) (x, refl, omega arith)
    | inr e ↦ elim (else_some _ _ _ e) [
      | inl a ↦ let (f, x) = sign_some (Form.constant true) F true_sign t u a in rw (← f) (x, refl, omega arith)
      | inr e ↦ elim (else_some _ _ _ e) [
        | inl e ↦
            then_use (after atom_sign t) _ _ e λ v a e.
            then_use (read_number v) _ _ e λ (i, w) b e.
            form_is (Form.atom i) F t w u (atom_is i t v w (after_some atom_sign t v a) (number_some v w i b)) e
        | inr e ↦
            then_use (after opening t) _ _ e λ v a e.
            then_use (read_path n v) _ _ e λ (p, w) b e.
            then_use (read_mode w) _ _ e λ (m, x) c e.
            then_use (read_form n x) _ _ e λ (f, y) d e.
            then_use (after closing y) _ _ e λ z g e.
            form_is (Form.modal m p f) F t z u (modal_is m p f t v w x y z (after_some opening t v a) (read_path_back n v w p b) (mode_some w x m c) (read_form_back n x y f d) (after_some closing y z g)) e
      ]
    ]
  ]

  pub read_path_back : (n : ℕ) (t u : List ℕ) (P : Path) → read_path n t ≡ some (P, u) → PathRead P t u
  read_path_back zero t u P e = absurd (not_found _ e)
  read_path_back (suc n) t u P e = elim (else_some _ _ _ e) [
    | inl a ↦ let (f, x) = sign_some (Path.move ahead) P step_sign t u a in rw (← f) (x, refl, omega arith)
    | inr e ↦ elim (else_some _ _ _ e) [
      | inl e ↦
          then_use (after test_sign t) _ _ e λ v a e.
          then_use (read_form n v) _ _ e λ (f, w) b e.
          let (x, y, z) = read_form_back n v w f b in
          path_is (Path.test f) P t w u (after_some test_sign t v a ∙ ap (test_sign ++◌) x, y, z) e
      | inr e ↦ elim (else_some _ _ _ e) [
        | inl e ↦
            then_use (after star_sign t) _ _ e λ v a e.
            then_use (read_path n v) _ _ e λ (p, w) b e.
            let (x, y, z) = read_path_back n v w p b in
            path_is (Path.star p) P t w u (after_some star_sign t v a ∙ ap (star_sign ++◌) x, y, z) e
        | inr e ↦
            then_use (after opening t) _ _ e λ v a e.
            then_use (read_path n v) _ _ e λ (p, w) b e.
            then_use (read_join w) _ _ e λ (join, x) c e.
            then_use (read_path n x) _ _ e λ (q, y) d e.
            then_use (after closing y) _ _ e λ z g e.
            let (bytes, joins, h) = join_some w x join c in
            path_is (join p q) P t z u (join_is join bytes p q t v w x y z joins (after_some opening t v a) (read_path_back n v w p b) h (read_path_back n x y q d) (after_some closing y z g)) e
      ]
    ]
  ]

-- ---- what is spelled is read so
-- No digit stands at the start.
abbrev Apart : List ℕ → Type 0
Apart u = digit (get_or u 0 0) ≡ false

reassoc : (a b d u : List ℕ) → (a ++ (b ++ (d ++ closing))) ++ u ≡ a ++ (b ++ (d ++ (closing ++ u)))
reassoc a b d u = simp append_assoc

mode_read : (m : Mode) (u : List ℕ) → (read_mode (mode_sign m ++ u) ≡ some (m, u)) × Apart (mode_sign m ++ u)
unfolding read_mode mode_sign else sign then after digit
mode_read diamond u = (refl, refl)
mode_read box u = (refl, refl)

-- Each of a node's two parts is smaller than it.
first_smaller : (a b n : ℕ) → a + b + 1 ≤ suc n → a ≤ n
first_smaller a b n l = omega arith

second_smaller : (a b n : ℕ) → a + b + 1 ≤ suc n → b ≤ n
second_smaller a b n l = omega arith

mutual
  unfolding read_form read_path read_atom read_join else sign then after spell spell_path move_sign forward forward_path is_ahead form_atoms path_atoms form_size path_size digit

  pub form_read : (F : Form) (n : ℕ) (u : List ℕ) → forward F ≡ true → form_atoms F ≤ text_atoms → form_size F ≤ n → Apart u
      → read_form n (spell F ++ u) ≡ some (F, u)
  form_read (Form.constant false) (suc n) u a b l d = refl
  form_read (Form.constant true) (suc n) u a b l d = refl
  form_read (Form.atom i) (suc n) u a b l d = rw (number_read i u (omega arith) d)
  form_read (Form.modal m p f) (suc n) u a b l d =
      let (x, y) = (and_holds (forward_path p) (forward f)).0 a in
      let (g, h) = mode_read m (spell f ++ (closing ++ u)) in
      rw (
        reassoc (spell_path p) (mode_sign m) (spell f) u,
        path_read p n _ x (first_within _ _ b) (first_smaller _ _ n l) h,
        g,
        form_read f n (closing ++ u) y (second_within (path_atoms p) _ b) (second_smaller (path_size p) _ n l) refl,
      )
  form_read (Form.constant v) zero u a b l d = absurd (omega arith)
  form_read (Form.atom i) zero u a b l d = absurd (omega arith)
  form_read (Form.modal m p f) zero u a b l d = absurd (omega arith)

  pub path_read : (P : Path) (n : ℕ) (u : List ℕ) → forward_path P ≡ true → path_atoms P ≤ text_atoms → path_size P ≤ n → Apart u
      → read_path n (spell_path P ++ u) ≡ some (P, u)
  path_read (Path.move ahead) (suc n) u a b l d = refl
  path_read (Path.move back) (suc n) u a b l d = absurd (true≢false (sym a))
  path_read (Path.test f) (suc n) u a b l d = rw (form_read f n u a b (omega arith) d)
  path_read (Path.choice p q) (suc n) u a b l d =
      let (x, y) = (and_holds (forward_path p) (forward_path q)).0 a in
      rw (
        reassoc (spell_path p) choice_sign (spell_path q) u,
        path_read p n (choice_sign ++ (spell_path q ++ (closing ++ u))) x (first_within _ _ b) (first_smaller _ _ n l) refl,
        path_read q n (closing ++ u) y (second_within (path_atoms p) _ b) (second_smaller (path_size p) _ n l) refl,
      )
  path_read (Path.sequence p q) (suc n) u a b l d =
      let (x, y) = (and_holds (forward_path p) (forward_path q)).0 a in
      rw (
        reassoc (spell_path p) sequence_sign (spell_path q) u,
        path_read p n (sequence_sign ++ (spell_path q ++ (closing ++ u))) x (first_within _ _ b) (first_smaller _ _ n l) refl,
        path_read q n (closing ++ u) y (second_within (path_atoms p) _ b) (second_smaller (path_size p) _ n l) refl,
      )
  path_read (Path.star p) (suc n) u a b l d = rw (path_read p n u a b (omega arith) d)
  path_read (Path.move w) zero u a b l d = absurd (omega arith)
  path_read (Path.test f) zero u a b l d = absurd (omega arith)
  path_read (Path.choice p q) zero u a b l d = absurd (omega arith)
  path_read (Path.sequence p q) zero u a b l d = absurd (omega arith)
  path_read (Path.star p) zero u a b l d = absurd (omega arith)

-- Every record takes a byte at least, so that reading as deep as the text is long is deep enough.
mutual
  unfolding spell spell_path move_sign mode_sign forward forward_path is_ahead form_size path_size

  form_short : (F : Form) → forward F ≡ true → form_size F ≤ length (spell F)
  form_short (Form.constant false) a = omega arith
  form_short (Form.constant true) a = omega arith
  form_short (Form.atom i) a = omega arith
  form_short (Form.modal diamond p f) a =
      let (x, y) = (and_holds (forward_path p) (forward f)).0 a in
      simp length-append (omega (arith, path_short p x, form_short f y))
  form_short (Form.modal box p f) a =
      let (x, y) = (and_holds (forward_path p) (forward f)).0 a in
      simp length-append (omega (arith, path_short p x, form_short f y))

  path_short : (P : Path) → forward_path P ≡ true → path_size P ≤ length (spell_path P)
  path_short (Path.move ahead) a = omega arith
  path_short (Path.move back) a = absurd (true≢false (sym a))
  path_short (Path.test f) a = omega (arith, form_short f a)
  path_short (Path.choice p q) a =
      let (x, y) = (and_holds (forward_path p) (forward_path q)).0 a in
      simp length-append (omega (arith, path_short p x, path_short q y))
  path_short (Path.sequence p q) a =
      let (x, y) = (and_holds (forward_path p) (forward_path q)).0 a in
      simp length-append (omega (arith, path_short p x, path_short q y))
  path_short (Path.star p) a = omega (arith, path_short p a)

-- ---- the whole text
whole_some : (F G : Form) (u : List ℕ) → whole (F, u) ≡ some G → (F ≡ G) × (u ≡ [])
unfolding whole
whole_some F G [] e = (cc, refl)
whole_some F G (b ∷ u) e = absurd (not_found G e)

pub reads : (t : List ℕ) (F : Form) → read t ≡ some F → Spells F t
unfolding read
reads t F e =
    let ((G, u), a, b) = then_some (read_form (length t) t) whole F e in
    let (c, d) = whole_some G F u b in
    spelled_whole G F u c d (read_form_back (length t) t u G a)
  where
    spelled_whole : (G F : Form) (u : List ℕ) → G ≡ F → u ≡ [] → FormRead G t u → Spells F t
    spelled_whole G F u c d (x, y, z) = rw (← c) (record { ahead_only = y; few_atoms = z; text = x ∙ rw d (append-nil (spell G)) })

pub spelled : (t : List ℕ) (F : Form) → Spells F t → read t ≡ some F
unfolding read then whole digit
spelled t F s =
    let whole-text : spell F ++ [] ≡ spell F = append-nil (spell F) in
    let found = form_read F (length (spell F)) [] s.ahead_only s.few_atoms (form_short F s.ahead_only) refl in
    rw (s.text, rw whole-text at found)

-- So no two formulas have one text.
pub spell_once : (F G : Form) (t : List ℕ) → Spells F t → Spells G t → F ≡ G
spell_once F G t s r = let same : some F ≡ some G = sym (spelled t F s) ∙ spelled t G r in cc
