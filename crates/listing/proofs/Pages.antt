-- Texts put on a page one after another: they are one text that was put, and no longer than the two may be.
use Prim.Native.Nat.{ℕ, ◌+◌, ◌*◌, ◌≤◌}
use mathlib.Core.Path.{refl, ◌∙◌}
use mathlib.Core.List.{List, ◌++◌}
use native.Mathlib.Omega.{arith}
use lib.ListN.{length-append}
use Rattle.meaning.specs.Run.{each}
use Rattle.meaning.proofs.Runs.{each_more}
use Rattle.copying.proofs.Appending.{append_length, append_more}
use Rattle.listing.specs.declared.Page.{Page}
use Rattle.listing.specs.Page.{Room, Puts}

module _ {p q : Page} {t : List ℕ} {m : ℕ} (a : Puts p t m q) where
  -- What room is left.
  pub put_room : (n : ℕ) → Room p (m + n) → Room q n
  put_room n room = omega (arith, append_length a.text, a.text.place, a.few, room)

  pub put_more : {u : List ℕ} {n : ℕ} {r : Page} → Puts q u n r → Puts p (t ++ u) (m + n) r
  put_more b = record { same = b.same ∙ a.same; text = append_more a.text b.text; few = rw length-append (omega (arith, a.few, b.few)) }

  pub put_within : (n : ℕ) → m ≤ n → Puts p t n q
  put_within n h = record { same = a.same; text = a.text; few = omega (arith, a.few) }

-- ---- texts laid out by a rule, each of at most m bytes
module _ (f : ℕ → List ℕ) (m : ℕ) where
  pub put_none : (p : Page) → Puts p (each 0 f) (m * 0) p
  unfolding each
  put_none p = record { same = refl; text = record { place = omega arith; whole = refl }; few = omega arith }

  pub put_next : {p q r : Page} (j : ℕ) → Puts p (each j f) (m * j) q → Puts q (f j) m r → Puts p (each (j + 1) f) (m * (j + 1)) r
  put_next j a b = rw each_more (put_within (put_more a b) (m * (j + 1)) (omega arith))
