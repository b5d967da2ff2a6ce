-- Stars one around the other: their records behind those of the path in them are the whole path's records.
use Prim.Native.Nat.{ℕ, ◌+◌, ◌-◌, ◌≤◌, zero, suc, pred, ◌*◌, ◌<◌}
use Prim.Native.Char.{code}
use mathlib.Core.Path.{refl, ◌≡◌, sym, ◌∙◌}
use mathlib.Core.List.{List}
use native.Mathlib.Omega.{arith}
use lib.ListN.{length, get_or, drop, take, length-drop, length-append}
use lib.Seq.{get_or-drop, sets}
use borrow.Author.Tests.{eqb-true}
use Rattle.std.specs.List.{prefix_len}
use Rattle.std.specs.Prelude.{◌==◌}
use Rattle.std.proofs.lemmas.List.{take_rest}
use Rattle.std.proofs.lemmas.List.Sums.{prefix_len_passes, prefix_len_stops}
use native.Mathlib.Nat.{add-zero}
use native.Mathlib.Numerals.{add-one}
use mathlib.Core.Logic.{inl, inr}
use Rattle.meaning.specs.Record.{record_size, most_records, bytes_of, Kind, number_of}
use Rattle.meaning.proofs.Bounds.{le_or_lt}
use Rattle.parsing.specs.Writing.{paths, stars_from, Readable, Made}
use Rattle.parsing.proofs.Places.{by_stars, clash, byte_in}
use Rattle.parsing.proofs.Parts.{star_part}
use Rattle.parsing.proofs.Writing.{path_long, run_more, one_asks, one_wrote}
use Rattle.parsing.specs.Places.{Stars}

pub stars_run : (t : List ℕ) (at n : ℕ) → at ≤ length t
    → (n ≡ prefix_len (λ b. b == 42) (take (length t - at) (drop at t))) × (n ≤ length (take (length t - at) (drop at t))) → Stars t at (at + n)
stars_run t at n l (count, few) = record {
  onward = omega arith;
  low = omega (arith, length-drop at t, rw take_rest at few);
  stars = λ i a b.
      let same : at + (i - at) ≡ i = omega arith in
      eqb-true (get_or t i 0) 42 (rw (get_or-drop at t (i - at) 0, same) at (prefix_len_passes (λ b. b == 42) (drop at t) (i - at) 0 (omega (arith, run))));
  over = λ e.
      let inside = byte_in t (at + n) (omega arith) in
      clash (sym (prefix_len_stops (λ b. b == 42) (drop at t) 0 (omega (arith, run, length-drop at t))) ∙ rw (← run, get_or-drop at t n 0, e));
}
  where
    run : n ≡ prefix_len (λ b. b == 42) (drop at t)
    run = rw take_rest at count

stars_long : (i n : ℕ) → length (stars_from i n) ≡ record_size * i
unfolding stars_from
stars_long zero n = refl
stars_long (suc i) n = simp length-append (omega (arith, stars_long i n))

-- One star more.
pub stars_more : {mid new : List ℕ} (old : List ℕ) (i n m : ℕ) → m ≡ n + i → mid ≡ sets old (record_size * n) (stars_from i n)
    → new ≡ sets mid (record_size * m) (bytes_of (number_of Kind.star) (m - 1) 0) → new ≡ sets old (record_size * n) (stars_from (i + 1) n)
unfolding stars_from
stars_more old i n m same before put =
    let last : m - 1 ≡ pred (n + i) = omega arith in
    rw (add-one, ← last) (run_more old n (stars_from i n) i m _ (stars_long i n) same before put)

-- Where a star stands, the run of stars ends later.
pub stars_onward : {t : List ℕ} {at from : ℕ} → Stars t at from → get_or t at 0 ≡ code "*" → at < from
stars_onward {at = at} {from} s h = elim (le_or_lt from at) [
  | inl l ↦ let same : from ≡ at = omega (arith, s.onward) in absurd (s.over (rw same h))
  | inr l ↦ l
]

module _ (t : List ℕ) {at from n : ℕ} (s : Stars t at from) where
  pub stars_ask : Readable paths t at n → Readable paths t from n
  stars_ask = by_stars (λ i. Readable paths t i n → Readable paths t from n) s (λ r. r)
      (λ i star l behind r. behind (one_asks paths t i path_long (star_part _ star) r))

  pub stars_wrote : {e m m' : ℕ} {old mid new : List ℕ} → Made paths t from n old e m mid → m' ≡ m + (from - at)
      → new ≡ sets mid (record_size * m) (stars_from (from - at) m) → Made paths t at n old e m' new
  unfolding stars_from
  stars_wrote {e} {m} {old = old} {mid} w count stores =
      let none : from - from ≡ 0 = omega arith in
      rw (count, stores) (by_stars (λ i. Made paths t i n old e (m + (from - i)) (sets mid (record_size * m) (stars_from (from - i) m))) s (rw (none, add-zero) w)
      (λ i star l behind.
      let more : from - i ≡ from - (i + 1) + 1 = omega arith in
      let next : m + (from - (i + 1) + 1) ≡ m + (from - (i + 1)) + 1 = omega arith in
      rw (more, next) (rw (stars_more mid (from - (i + 1)) m _ refl refl refl) at
      (one_wrote paths t i path_long (star_part _ star) behind (refl, refl)))))

  pub stars_room : {e m : ℕ} {old mid : List ℕ} → Readable paths t at n → Made paths t from n old e m mid → m + (from - at) ≤ most_records
  stars_room r w = omega (arith, r.few, ((stars_wrote w refl refl).whole _ _ _ _ r.here r.reads).1)
