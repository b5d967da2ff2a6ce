-- What was written of a tree's parts, and its own record behind them, are the tree's records.
use Prim.Native.Char.{code}
use Prim.Native.Nat.{ℕ, pred, ◌+◌, ◌*◌, ◌-◌, ◌≤◌, ◌<◌}
use mathlib.Core.Path.{◌≡◌, sym, ap, ◌∙◌}
use mathlib.Core.List.{List, [], ◌∷◌, ◌++◌}
use mathlib.Core.Option.{Option, some}
use native.Mathlib.Nat.{le_refl, add-zero}
use native.Mathlib.Omega.{arith}
use lib.ListN.{length, get_or, length-append, length-drop}
use lib.Seq.{sets}
use Rattle.meaning.specs.Record.{record_size, most_records, bytes_of, core}
use Rattle.meaning.specs.Formula.{Form, Path, form_atoms, path_atoms}
use Rattle.meaning.specs.Tree.{form_size, path_size, form_from, path_from}
use Rattle.meaning.proofs.Postorder.{form_part, path_part}
use Rattle.meaning.proofs.Stores.{sets_append}
use Rattle.parsing.specs.Places.{Left}
use Rattle.parsing.specs.Writing.{forms, paths, Sorted, Readable, Made}
use Rattle.meaning.specs.Text.{read_mode, read_join, diamond_sign, choice_sign}
use Rattle.parsing.proofs.Parts.{mode_kind, join_kind, mode_passed, join_passed, modal_parts, join_parts, byte_of, next, Passes, Leaf, OnePart, TwoParts}

pub form_long : (f : Form) (n : ℕ) → length (form_from f n) ≡ record_size * form_size f
form_long f n = (form_part core [] (form_atoms f) f n (le_refl (form_atoms f))).whole

pub path_long : (p : Path) (n : ℕ) → length (path_from p n) ≡ record_size * path_size p
path_long p n = (path_part core [] (path_atoms p) p n (le_refl (path_atoms p))).whole

-- What is stored behind x, which is a records from number n on, makes one run with it.
pub run_more : {mid new : List ℕ} (old : List ℕ) (n : ℕ) (x : List ℕ) (a m : ℕ) (y : List ℕ) → length x ≡ record_size * a → m ≡ n + a
    → mid ≡ sets old (record_size * n) x → new ≡ sets mid (record_size * m) y → new ≡ sets old (record_size * n) (x ++ y)
run_more old n x a m y long count put e =
    let place : record_size * m ≡ record_size * n + length x = omega arith in
    e ∙ rw (place, put) (sets_append x y old (record_size * n))

-- And with what is stored behind both.
run_two : {mid mid' new : List ℕ} (old : List ℕ) (n : ℕ) (x : List ℕ) (a m : ℕ) (y : List ℕ) (b m' : ℕ) (z : List ℕ) → length x ≡ record_size * a → length y ≡ record_size * b
    → m ≡ n + a → m' ≡ m + b → mid ≡ sets old (record_size * n) x → mid' ≡ sets mid (record_size * m) y → new ≡ sets mid' (record_size * m') z
    → new ≡ sets old (record_size * n) (x ++ y ++ z)
run_two old n x a m y b m' z long long' count count' put put' =
    run_more old n (x ++ y) (a + b) m' z (simp length-append (omega arith)) (omega arith) (run_more old n x a m y long count put put')

pub readable : {T : Type 0} (S : Sorted T) (t : List ℕ) (at n : ℕ) → (depth : ℕ) (from left : List ℕ) (x : T) → Left t at from
    → S.read depth from ≡ some (x, left) → n + S.size x ≤ most_records → Readable S t at n
readable S t at n depth from left x here reads few = record {
  depth = depth;
  from = from;
  here = here;
  tree = x;
  left = left;
  reads = reads;
  few = few;
}

module _ {C : Type 0} (W : Sorted C) (t : List ℕ) (at : ℕ) where
  -- What every reading at the place is made of.
  abbrev Each : (List ℕ → C → List ℕ → Type 0) → Type 0
  Each P = (depth : ℕ) (from left : List ℕ) (x : C) → get_or from 0 0 ≡ get_or t at 0 → W.read depth from ≡ some (x, left) → P from x left

  first_byte : {from : List ℕ} → Left t at from → get_or from 0 0 ≡ get_or t at 0
  first_byte {from} h = sym (byte_of t at from h 0) ∙ rw add-zero

  behind_byte : {from : List ℕ} (c : ℕ) (s : List ℕ) → Left t at from → from ≡ c ∷ s → Left t (at + 1) s
  behind_byte c s h e = next t at c s (rw e at h)

  pub inside : {n : ℕ} → ((m : ℕ) (s u : List ℕ) (x : C) → W.read m s ≡ some (x, u) → 0 < length s) → Readable W t at n → at < length t
  inside h r = omega (arith, h r.depth r.from r.left r.tree r.reads, r.here.within, ap length r.here.is, length-drop at t)

  -- ---- no part
  module _ {g : List ℕ → Option (List ℕ)} {kind a : List ℕ → ℕ} (split : Each (Leaf W g kind a)) where
    pub leaf_room : {n : ℕ} → Readable W t at n → n < most_records
    leaf_room r = omega (arith, r.few, (split r.depth r.from r.left r.tree (first_byte r.here) r.reads).sized)

    -- What holds of every such reading holds where one is known.
    pub leaf_has : {n : ℕ} {P : Type 0} → Readable W t at n → ((s u : List ℕ) → Left t (at + 1) s → g s ≡ some u → P) → P
    leaf_has r h =
        let l = split r.depth r.from r.left r.tree (first_byte r.here) r.reads in
        h l.from r.left (behind_byte l.byte l.from r.here l.opened) l.reads

    pub leaf_wrote : {n e n' κ α : ℕ} {old new : List ℕ} → Readable W t at n → at ≤ e
        → ((s u : List ℕ) → Left t (at + 1) s → g s ≡ some u → (Left t e u) × (κ ≡ kind s) × (α ≡ a s))
        → (n' ≡ n + 1) × (new ≡ sets old (record_size * n) (bytes_of κ α 0)) → Made W t at n old e n' new
    leaf_wrote {n} {e} {κ = κ} {α} r onward stands (next-number, stores) = rw next-number record {
      onward = onward;
      low = (at_leaf r.depth r.from r.left r.tree r.here r.reads).0.within;
      more = omega arith;
      whole = λ depth from left x h reads.
          let l = split depth from left x (first_byte h) reads in
          let (there, κ, α) = at_leaf depth from left x h reads in
          (there, omega (arith, l.sized), stores ∙ rw (l.laid n, κ, α));
    }
      where
        at_leaf : (depth : ℕ) (from left : List ℕ) (x : C) (h : Left t at from) (reads : W.read depth from ≡ some (x, left))
            → let l = split depth from left x (first_byte h) reads in (Left t e left) × (κ ≡ kind l.from) × (α ≡ a l.from)
        at_leaf depth from left x h reads =
            let l = split depth from left x (first_byte h) reads in
            stands l.from left (behind_byte l.byte l.from h l.opened) l.reads

  -- ---- one part
  module _ {A : Type 0} {R : Sorted A} {kind : ℕ} (long : (a : A) (n : ℕ) → length (R.bytes a n) ≡ record_size * R.size a) (split : Each (OnePart W R kind)) where
    module _ {n : ℕ} (r : Readable W t at n) where
      one : OnePart W R kind r.from r.tree r.left
      one = split r.depth r.from r.left r.tree (first_byte r.here) r.reads

      one_here : Left t (at + 1) one.from
      one_here = behind_byte one.byte one.from r.here one.opened

      pub one_asks : Readable R t (at + 1) n
      one_asks = readable R t (at + 1) n one.depth one.from r.left one.part one_here one.reads (omega (arith, r.few, one.sized))

      pub one_room : {e m : ℕ} {old mid : List ℕ} → Made R t (at + 1) n old e m mid → m < most_records
      one_room w = omega (arith, r.few, one.sized, (w.whole _ _ _ _ one_here one.reads).1)

    pub one_wrote : {n e m m' : ℕ} {old mid new : List ℕ} → Made R t (at + 1) n old e m mid
        → (m' ≡ m + 1) × (new ≡ sets mid (record_size * m) (bytes_of kind (m - 1) 0)) → Made W t at n old e m' new
    one_wrote {n} {m = m} {old = old} w (next-number, stores) = rw next-number record {
      onward = omega (arith, w.onward);
      low = w.low;
      more = omega (arith, w.more);
      whole = λ depth from left x h reads.
          let p = split depth from left x (first_byte h) reads in
          let (there, count, put) = w.whole _ _ _ _ (behind_byte p.byte p.from h p.opened) p.reads in
          let last : m - 1 ≡ pred (n + R.size p.part) = omega arith in
          (there, omega (arith, p.sized), run_more old n (R.bytes p.part n) (R.size p.part) m (bytes_of kind (m - 1) 0) (long p.part n) count put stores ∙ rw (p.laid n, last));
    }

  -- ---- two parts
  pub record Two {A J B : Type 0} (R : Sorted A) (j : List ℕ → Option (J × List ℕ)) (S : Sorted B) (kind : List ℕ → ℕ) (size : ℕ) : Type 0 where
    pub long : (a : A) (n : ℕ) → length (R.bytes a n) ≡ record_size * R.size a
    pub long' : (b : B) (n : ℕ) → length (S.bytes b n) ≡ record_size * S.size b
    pub passed : Passes j size
    pub split : Each (TwoParts W R j S kind)

  module _ {A J B : Type 0} {R : Sorted A} {j : List ℕ → Option (J × List ℕ)} {S : Sorted B} {kind : List ℕ → ℕ} {size : ℕ} (k : Two R j S kind size) where
    module _ {n : ℕ} (r : Readable W t at n) where
      two : TwoParts W R j S kind r.from r.tree r.left
      two = k.split r.depth r.from r.left r.tree (first_byte r.here) r.reads

      two_here : Left t (at + 1) two.from
      two_here = behind_byte (code "(") two.from r.here two.opened

      pub two_asks_first : Readable R t (at + 1) n
      two_asks_first =
          readable R t (at + 1) n two.depth two.from two.between two.first two_here two.reads_first (omega (arith, r.few, two.sized))

      module _ {e m : ℕ} {old mid : List ℕ} (w : Made R t (at + 1) n old e m mid) where
        two_behind : (Left t (e + size) two.behind) × (m + S.size two.second < most_records)
        two_behind =
            let (there, count, _) = w.whole _ _ _ _ two_here two.reads_first in
            (k.passed t e _ _ _ there two.reads_join, omega (arith, r.few, two.sized))

        pub two_inside : e + size ≤ length t
        two_inside = two_behind.0.within

        pub two_asks_second : Readable S t (e + size) m
        two_asks_second =
            readable S t (e + size) m two.depth two.behind two.last two.second two_behind.0 two.reads_second (omega (arith, two_behind.1))

        module _ {e' m' : ℕ} {mid' : List ℕ} (v : Made S t (e + size) m mid e' m' mid') where
          pub two_room : (m' < most_records) × (e' + 1 ≤ length t)
          two_room =
              let (there, count, _) = v.whole _ _ _ _ two_behind.0 two.reads_second in
              (omega (arith, two_behind.1), (next t e' (code ")") r.left (rw two.closed at there)).within)

          two_whole : {κ : ℕ} {new : List ℕ} → ((v : List ℕ) → Left t e v → κ ≡ kind v) → new ≡ sets mid' (record_size * m') (bytes_of κ (m - 1) (m' - 1))
              → (from left : List ℕ) (x : C) → Left t at from → TwoParts W R j S kind from x left
              → (Left t (e' + 1) left) × (m' + 1 ≡ n + W.size x) × (new ≡ sets old (record_size * n) (W.bytes x n))
          two_whole {κ} chosen stores from left x h p =
              let (there, count, put) = w.whole _ _ _ _ (behind_byte (code "(") p.from h p.opened) p.reads_first in
              let (there', count', put') = v.whole _ _ _ _ (k.passed t e _ _ _ there p.reads_join) p.reads_second in
              let last : m - 1 ≡ pred (n + R.size p.first) = omega arith in
              let last' : m' - 1 ≡ pred (n + R.size p.first + S.size p.second) = omega arith in (
                next t e' (code ")") left (rw p.closed at there'),
                omega (arith, p.sized),
                run_two old n (R.bytes p.first n) _ m (S.bytes p.second m) _ m' (bytes_of κ (m - 1) (m' - 1)) (k.long p.first n) (k.long' p.second m) count count' put put' stores
                    ∙ rw (p.laid n, chosen p.between there, last, last', count),
              )

          pub two_wrote : {κ m'' : ℕ} {new : List ℕ} → ((v : List ℕ) → Left t e v → κ ≡ kind v)
              → (m'' ≡ m' + 1) × (new ≡ sets mid' (record_size * m') (bytes_of κ (m - 1) (m' - 1))) → Made W t at n old (e' + 1) m'' new
          two_wrote chosen (next-number, stores) = rw next-number record {
            onward = omega (arith, w.onward, v.onward);
            low = two_room.1;
            more = omega (arith, w.more, v.more);
            whole = λ depth from left x h reads. two_whole chosen stores from left x h (k.split depth from left x (first_byte h) reads);
          }

-- A modality's two parts, and a choice's or a sequence's.
pub modal_two : {t : List ℕ} {at : ℕ} → (get_or t at 0 ≡ code "#" → ⊥) → (get_or t at 0 ≡ code "p" → ⊥)
    → Two forms t at paths read_mode forms mode_kind (length diamond_sign)
modal_two x y = record { long = path_long; long' = form_long; passed = mode_passed; split = modal_parts _ x y }

pub join_two : {t : List ℕ} {at : ℕ} → (get_or t at 0 ≡ code "&" → ⊥) → (get_or t at 0 ≡ code "?" → ⊥) → (get_or t at 0 ≡ code "*" → ⊥)
    → Two paths t at paths read_join paths join_kind (length choice_sign)
join_two w x y = record { long = path_long; long' = path_long; passed = join_passed; split = join_parts _ w x y }
