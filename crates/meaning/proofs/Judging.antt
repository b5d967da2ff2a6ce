-- What a verdict means. Lists end to end are empty if each of them is, and otherwise start as the first one does that is
-- not empty. Rule by rule, and instant by instant for each rule, a no is listed where the rule fails and nothing where it
-- holds; so the list is empty where all hold, and otherwise starts with the first failing rule at its first failing instant.
use Prim.Native.Nat.{ℕ, zero, suc, ◌<◌}
use mathlib.Core.Path.{◌≡◌, refl, sym}
use mathlib.Core.Bool.{Bool, true, false, cond, not, ◌&&◌, true≢false}
use mathlib.Core.Logic.Iff
use mathlib.Core.Logic.{◌⊎◌, inl, inr, ⊎_elim, ◌↔◌}
use mathlib.Core.List.{List, [], ◌∷◌, ◌++◌}
use native.Mathlib.Nat.{le_refl}
use native.Mathlib.Omega.{arith}
use Rattle.meaning.specs.Run.{each}
use Rattle.meaning.specs.Rule.{rule_at, placed, holds}
use Rattle.meaning.specs.Judge.{Verdict, fails_at, failures, first_failure, verdict, HoldsAt, AllHold, FirstFailure}
use Rattle.meaning.proofs.Fails.{and_holds, not_holds}
use Rattle.meaning.proofs.Bounds.{below_suc}
use Rattle.meaning.proofs.Runs.{All, all_each}

-- ---- lists end to end
-- The list has a first element, and it is x.
abbrev pub Starts : {T : Type 0} → List T → T → Type 0
Starts [] x = ⊥
Starts (y ∷ ys) x = y ≡ x

module _ {T : Type 0} where
  empty_all : (xs : List T) → (xs ≡ []) ↔ All (λ x. ⊥) xs
  empty_all [] = (λ e. tt, λ h. refl)
  empty_all (x ∷ xs) = (λ e. absurd (true≢false cc), λ h. absurd h.0)

  append_starts : (xs ys : List T) (x : T) → Starts (xs ++ ys) x ↔ (Starts xs x ⊎ ((xs ≡ []) × Starts ys x))
  append_starts [] ys x = (λ s. inr (refl, s), ⊎_elim (λ s. absurd s) (λ p. p.1))
  append_starts (z ∷ zs) ys x = (inl, ⊎_elim (λ s. s) (λ p. cc))

module _ {T : Type 0} (f : ℕ → List T) where
  -- List i is the first of n that is not empty, and it starts with x.
  pub record Leads (n : ℕ) (x : T) (i : ℕ) : Type 0 where
    pub among : i < n
    pub before : (j : ℕ) → j < i → f j ≡ []
    pub starts : Starts (f i) x

  -- End to end they are empty where each is.
  pub each_empty : (n : ℕ) → (each n f ≡ []) ↔ ((i : ℕ) → i < n → f i ≡ [])
  each_empty n = simp empty_all (all_each (λ x. ⊥) f n)

  -- End to end they start with what the first one that is not empty starts with.
  pub each_starts : (n : ℕ) (x : T) → Starts (each n f) x ↔ ((i : ℕ) × Leads n x i)
  unfolding each
  each_starts zero x = (λ s. absurd s, λ h. absurd (omega (arith, h.1.among)))
  each_starts (suc n) x = (
    λ s. elim ((append_starts (each n f) (f n) x).0 s) [
      | inl b ↦ let (i, c) = (each_starts n x).0 b in (i, record { among = omega arith; before = c.before; starts = c.starts })
      | inr p ↦ (n, record { among = le_refl _; before = (each_empty n).0 p.0; starts = p.1 })
    ],
    λ (i, c). (append_starts (each n f) (f n) x).1 (elim (below_suc c.among) [
      | inl p ↦ inr ((each_empty n).1 (rw (← p) c.before), rw (← p) c.starts)
      | inr m ↦ inl ((each_starts n x).1 (i, record { among = m; before = c.before; starts = c.starts }))
    ]),
  )

-- ---- a list of one element or none
-- Where a test holds, the element is listed; where it fails, nothing is.
module _ {T : Type 0} (x : T) where
  one_empty : (b : Bool) → (cond b (x ∷ []) [] ≡ []) ↔ (b ≡ false)
  one_empty true = (λ e. cc, λ e. cc)
  one_empty false = (λ e. refl, λ e. refl)

  one_starts : (b : Bool) (y : T) → Starts (cond b (x ∷ []) []) y ↔ ((b ≡ true) × (x ≡ y))
  one_starts true y = (λ s. (refl, s), λ p. p.1)
  one_starts false y = (λ s. absurd s, λ p. absurd (true≢false cc))

-- ---- the first of the failures
-- A no is the first failure; a yes is never among them.
starts_no : (vs : List Verdict) (i k : ℕ) → (first_failure vs ≡ Verdict.no i k) ↔ Starts vs (Verdict.no i k)
unfolding first_failure
starts_no [] i k = (λ e. absurd (true≢false cc), λ s. absurd s)
starts_no (v ∷ vs) i k = (λ e. e, λ s. s)

starts_yes : (vs : List Verdict) → (first_failure vs ≡ Verdict.yes) ↔ ((vs ≡ []) ⊎ Starts vs Verdict.yes)
unfolding first_failure
starts_yes [] = (λ e. inl refl, λ c. refl)
starts_yes (v ∷ vs) = (inr, ⊎_elim (λ e. cc) (λ s. s))

module _ (ws : List ℕ) (L : ℕ) (cell : ℕ → ℕ → ℕ) where
  -- ---- one rule at one instant
  -- It does not fail where it holds or has no business there; it fails where it has and does not hold.
  fails_not : (i k : ℕ) → (fails_at L cell (rule_at ws i) k ≡ false) ↔ HoldsAt ws L cell i k
  unfolding fails_at
  fails_not i k = go (placed L (rule_at ws i).place k) (holds cell (rule_at ws i) k)
    where
      go : (p h : Bool) → ((p && not h) ≡ false) ↔ (p ≡ true → h ≡ true)
      go true true = (λ e t. refl, λ t. refl)
      go true false = (λ e t. sym e, λ t. sym (t refl))
      go false h = (λ e t. absurd (true≢false cc), λ t. refl)

  fails_there : (i k : ℕ)
      → (fails_at L cell (rule_at ws i) k ≡ true)
      ↔ ((placed L (rule_at ws i).place k ≡ true) × (holds cell (rule_at ws i) k ≡ false))
  unfolding fails_at
  fails_there i k = simp (and_holds, not_holds) Iff.rfl

  -- ---- all rules at all instants
  -- The failures of rule i; there are none where it holds at all its instants.
  abbrev failures_of : ℕ → List Verdict
  failures_of i = each L (λ k. cond (fails_at L cell (rule_at ws i) k) (Verdict.no i k ∷ []) [])

  rule_empty : (i : ℕ) → (failures_of i ≡ []) ↔ ((k : ℕ) → k < L → HoldsAt ws L cell i k)
  rule_empty i = simp (each_empty, one_empty, fails_not) (λ h. h, λ h. h)

  -- What is listed first is a no, with the first failing rule and its first failing instant.
  listed_first : (v : Verdict) → Starts (failures ws L cell) v
      → (i k : ℕ) × (Verdict.no i k ≡ v) × FirstFailure ws L cell i k
  unfolding failures
  listed_first v s =
      let (i, a) = (each_starts _ _ _).0 s in
      let (k, b) = (each_starts _ _ _).0 a.starts in
      let (f, e) = (one_starts _ _ _).0 b.starts in
      let (p, h) = (fails_there i k).0 f in (
        i,
        k,
        e,
        record {
          rule = a.among;
          instant = b.among;
          placed_there = p;
          fails_there = h;
          rules_before = λ q j l m. (rule_empty q).0 (a.before q l) j m;
          instants_before = λ j l. (fails_not i j).0 ((one_empty _ _).0 (b.before j l));
        },
      )

  -- ---- the verdict
  pub yes_means : (verdict ws L cell ≡ Verdict.yes) ↔ AllHold ws L cell
  unfolding verdict failures
  yes_means = (
    λ e. ⊎_elim (λ n i k l m. (rule_empty i).0 ((each_empty _ _).0 n i l) k m)
        (λ s. let (i, k, d, c) = listed_first _ s in absurd (true≢false cc)) ((starts_yes _).0 e),
    λ h. (starts_yes _).1 (inl ((each_empty _ _).1 (λ i l. (rule_empty i).1 (λ k m. h i k l m)))),
  )

  pub no_means : (i k : ℕ) → (verdict ws L cell ≡ Verdict.no i k) ↔ FirstFailure ws L cell i k
  unfolding verdict failures
  no_means i k = (
    λ e. let (q, j, d, c) = listed_first _ ((starts_no _ i k).0 e) in
        let p : q ≡ i = cc in
        let r : j ≡ k = cc in
        rw (p, r) at c,
    λ c. (starts_no _ i k).1 ((each_starts _ _ _).1 (
      i,
      record {
        among = c.rule;
        before = λ q l. (rule_empty q).1 (λ j m. c.rules_before q j l m);
        starts = (each_starts _ _ _).1 (
          k,
          record {
            among = c.instant;
            before = λ j l. (one_empty _ _).1 ((fails_not i j).1 (c.instants_before j l));
            starts = (one_starts _ _ _).1 ((fails_there i k).1 (c.placed_there, c.fails_there), refl);
          },
        );
      },
    )),
  )
