-- What holds of the kind with a given number. A function of kinds, taken at the listed ones in turn, is a list that
-- antt computes, so a rule for a stretch of numbers is one equation between lists: the function's values there are the
-- code's table, or one value again and again. After the list the function has its value at `unknown`.
use Prim.Native.Nat.{ℕ, zero, suc, ◌+◌, ◌-◌, ◌<◌, ◌≤◌}
use mathlib.Core.Path.{◌≡◌, refl, sym, ◌∙◌}
use native.Mathlib.Omega.{arith}
use lib.ListN.{get_or, take, drop, replicate, get_or-replicate}
use lib.Seq.{get_or-drop}
use mathlib.Core.List.{map, List}
use lib.{ListN.get_or-map, Seq.get_or-take}
use Rattle.meaning.specs.Record.{Kind, unknown, kinds, kind_of}

-- A list of one value has it everywhere, if that counts after the list too.
pub again : {B : Type 0} (n i : ℕ) (b : B) → get_or (replicate n b) i b ≡ b
again zero i b = refl
again (suc n) zero b = refl
again (suc n) (suc i) b = again n i b

module _ {B : Type 0} (f : Kind → B) where
  -- A table of the function's values.
  pub by_table : (table : List B) → map f kinds ≡ table → (k : ℕ) → get_or table k (f unknown) ≡ f (kind_of k)
  unfolding kind_of
  by_table table e k = rw (← e) (get_or-map f kinds k unknown)

  from_on : (start k : ℕ) → start ≤ k → get_or (drop start (map f kinds)) (k - start) (f unknown) ≡ f (kind_of k)
  from_on start k h =
      let e : start + (k - start) ≡ k = omega arith in
      rw (get_or-drop, e) (by_table (map f kinds) refl k)

  -- One value at `size` kinds from a number on.
  pub stretch : (b : B) (start size : ℕ) → take size (drop start (map f kinds)) ≡ replicate size b
      → (k : ℕ) → start ≤ k → k < start + size → b ≡ f (kind_of k)
  stretch b start size e k h l =
      let i : k - start < size = omega arith in
      sym (get_or-replicate size (k - start) b (f unknown) i)
      ∙ rw (← e) (get_or-take size (drop start (map f kinds)) (k - start) (f unknown) i ∙ from_on start k h)

  -- The value at `unknown`, at all kinds from a number on.
  pub onward : (start size : ℕ) → drop start (map f kinds) ≡ replicate size (f unknown)
      → (k : ℕ) → start ≤ k → f unknown ≡ f (kind_of k)
  onward start size e k h = sym (again size (k - start) (f unknown)) ∙ rw (← e) (from_on start k h)
