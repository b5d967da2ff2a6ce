-- From what stands in each row to the whole table. A part of a list whose values go by a rule is the rule's list; the
-- rows stand end to end; and after them the list is as it was.
use Prim.Native.Nat.{ℕ, zero, suc, ◌+◌, ◌*◌, ◌<◌, ◌≤◌}
use mathlib.Core.Path.{◌≡◌, refl, sym, ap, ap₂, ◌∙◌}
use mathlib.Core.List.{List, [], ◌∷◌, ◌++◌}
use native.Mathlib.Nat.{zero-mul, suc-mul}
use native.Mathlib.Omega.{arith}
use lib.ListN.{length, get_or, take, drop, length-drop, take-append-drop}
use lib.Seq.{get_or-drop, take-add, ext_get_or, take-suc, length-take-le}
use Rattle.meaning.specs.Run.{each, tabulate, written}
use Rattle.rows.specs.Cells.{row_at}

-- The first n values from `start` on.
take_tabulate : (t : List ℕ) (start n : ℕ) (f : ℕ → ℕ) → start + n ≤ length t
    → ((k : ℕ) → k < n → row_at t start k ≡ f k)
    → take n (drop start t) ≡ tabulate n f
unfolding tabulate each
take_tabulate t start zero f h e = refl
take_tabulate t start (suc n) f h e =
    take-suc (drop start t) n 0 (rw (length-drop start t) (omega arith))
    ∙ ap₂ (λ (a b : List ℕ). a ++ b) (take_tabulate t start n f (omega arith) (λ k l. e k (omega arith)))
    (ap (λ (v : ℕ). v ∷ []) (get_or-drop start t n 0 ∙ e n (omega arith)))

-- The first n rows.
take_rows : (t : List ℕ) (L n : ℕ) (f : ℕ → ℕ → ℕ) → n * L ≤ length t
    → ((q k : ℕ) → q < n → k < L → row_at t (q * L) k ≡ f q k)
    → take (n * L) t ≡ each n (λ q. tabulate L (f q))
unfolding each
take_rows t L zero f h e = rw (zero-mul L)
take_rows t L (suc n) f h e =
    let m = suc-mul n L in
    let whole : n * L + L ≤ length t = omega arith in
    rw m (
    take-add (n * L) L t
    ∙ ap₂ (λ (a b : List ℕ). a ++ b) (take_rows t L n f (omega arith) (λ q k l. e q k (omega arith)))
    (take_tabulate t (n * L) L (f n) whole (λ k. e n k (omega arith)))
    )

-- The whole: rows by the rule at the front, the rest as it was in the list d.
pub rows_written : (d t : List ℕ) (L n : ℕ) (f : ℕ → ℕ → ℕ) → length t ≡ length d → n * L ≤ length d
    → ((q k : ℕ) → q < n → k < L → row_at t (q * L) k ≡ f q k) → ((i : ℕ) → n * L ≤ i → get_or t i 0 ≡ get_or d i 0)
    → t ≡ written (each n (λ q. tabulate L (f q))) d
unfolding written
rows_written d t L n f size h e after =
    let front = take_rows t L n f (omega arith) e in
    let long : length (each n (λ q. tabulate L (f q))) ≡ n * L =
    ap length (sym front) ∙ length-take-le (n * L) t (omega arith) in
    let rest : drop (n * L) t ≡ drop (n * L) d =
    ext_get_or 0 (drop (n * L) t) (drop (n * L) d) (rw (length-drop (n * L) t, length-drop (n * L) d, size))
    (λ i l. get_or-drop (n * L) t i 0 ∙ after (n * L + i) (omega arith) ∙ sym (get_or-drop (n * L) d i 0)) in
    sym (take-append-drop (n * L) t) ∙ ap₂ (λ (a b : List ℕ). a ++ b) front (rest ∙ ap (λ (m : ℕ). drop m d) (sym long))
