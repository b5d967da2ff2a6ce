-- Grounds in their order. A list of grounds stands for the reasons that it asks for, and has a stretch of the order: its reasons are not
-- earlier than its start, nor later than its end. One ground is such a list, and so are two lists of which one ends before the
-- other starts: a reason of the second is never earlier than one of the first. So what the first ground gives is the first reason's number.
--   Ordered gs In lo hi    the grounds gs stand for the reasons In, from lo to hi
use Prim.Native.Nat.{ℕ, zero, suc, ◌<◌, ◌≤◌}
use mathlib.Core.Path.{◌≡◌, refl, sym, ◌∙◌}
use mathlib.Core.Bool.{true}
use mathlib.Core.Logic.{◌⊎◌, inl, inr, ◌↔◌, ◌≢◌}
use mathlib.Core.List.{List, [], ◌∷◌, ◌++◌}
use native.Mathlib.Decide.{ℕ_discrete}
use native.Mathlib.Nat.{le_refl}
use native.Mathlib.Omega.{arith}
use Rattle.meaning.specs.Run.{each}
use Rattle.meaning.specs.Refusal.{Ground, of_first, first_of}
use Rattle.meaning.specs.Reason.{Reason, given, Position, position, position_of, Earlier, Before, First, ◌when◌}
use Rattle.meaning.proofs.Bounds.{le_or_lt, below_suc}
use Rattle.meaning.proofs.First.{Numbered, by_test, clear_none, none_clear, clear_append, clear_skip, found_stop, numbered_append}

-- ---- positions
not_earlier : (p : Position) → Earlier p p → ⊥
not_earlier p (inl a) = omega arith
not_earlier p (inr (e, inl a)) = omega arith
not_earlier p (inr (e, inr (f, a))) = omega arith

-- Not after another; so what is earlier than p is earlier than q.
abbrev pub UpTo : Position → Position → Type 0
UpTo p q =
    (p.stage ≤ q.stage) × (p.stage ≡ q.stage → p.index ≤ q.index)
    × (p.stage ≡ q.stage → p.index ≡ q.index → p.turn ≤ q.turn)

earlier_upto : {r p q : Position} → UpTo p q → Earlier r p → Earlier r q
earlier_upto {r} {p} {q} (s, i, t) (inl a) = inl (omega arith)
earlier_upto {r} {p} {q} (s, i, t) (inr (e, b)) = elim (le_or_lt q.stage r.stage) [
  | inr l ↦ inl l
  | inl l ↦ elim (le_or_lt q.index r.index) [
    | inr m ↦ inr (omega arith, inl m)
    | inl m ↦ let g = i (omega arith) in elim b [
      | inl a ↦ absurd (omega arith)
      | inr (f, a) ↦ inr (omega arith, inr (omega arith, omega (arith, t (omega arith) (omega arith))))
    ]
  ]
]

-- ---- lists
pub record Ordered (gs : List Ground) (In : Reason → Type 0) (lo hi : Position) : Type 0 where
  pub numbered : Numbered gs
  pub none : first_of gs ≡ 0 → (ρ : Reason) → In ρ → ⊥
  pub some : first_of gs ≢ 0 → (ρ : Reason) × In ρ × (given ρ ≡ first_of gs) × ((σ : Reason) → Before σ ρ → In σ → ⊥)
  pub from : (ρ : Reason) → In ρ → Earlier (position_of ρ) lo → ⊥
  pub upto : (ρ : Reason) → In ρ → (r : Position) → Earlier r (position_of ρ) → Earlier r hi

pub first_of_is : {gs : List Ground} {In : Reason → Type 0} {lo hi : Position} → Ordered gs In lo hi → First In (first_of gs)
first_of_is o = record { none = o.none; some = o.some }

-- One ground, whose test is the reason's fact.
pub ordered_one : {g : Ground} {σ : Reason} {P : Type 0} → g.number ≡ given σ → 0 < given σ → ((g.applies ≡ true) ↔ P)
    → Ordered (g ∷ []) (σ when P) (position_of σ) (position_of σ)
unfolding of_first
ordered_one {g} {σ} {P} number some (to, from) = record {
  numbered = (omega arith, tt);
  none = λ e ρ i. let z = rw (from i.1) at e in omega arith;
  some = λ n. elim (by_test g.applies) [
    | inl e ↦ (σ, (refl, to e), rw e (sym number), λ τ b i. not_earlier _ (rw i.0 at b))
    | inr e ↦ absurd (n (rw e))
  ];
  from = λ ρ i b. not_earlier _ (rw i.0 at b);
  upto = λ ρ i r b. rw i.0 at b;
}

-- The same grounds for the same reasons, and a later end.
pub ordered_same : {gs : List Ground} {In Also : Reason → Type 0} {lo hi last : Position} → ((ρ : Reason) → In ρ ↔ Also ρ) → UpTo hi last
    → Ordered gs In lo hi → Ordered gs Also lo last
ordered_same same end o = record {
  numbered = o.numbered;
  none = λ e ρ i. o.none e ρ ((same ρ).1 i);
  some = λ n. let (ρ, i, g, b) = o.some n in (ρ, (same ρ).0 i, g, λ σ c j. b σ c ((same σ).1 j));
  from = λ ρ i. o.from ρ ((same ρ).1 i);
  upto = λ ρ i r b. earlier_upto end (o.upto ρ ((same ρ).1 i) r b);
}

-- One list after another, which starts where the first ends or later.
pub ordered_append : {gs hs : List Ground} {In Also : Reason → Type 0} {lo m n hi : Position} → Ordered gs In lo m → Ordered hs Also n hi
    → UpTo lo n × UpTo m n × UpTo m hi → Ordered (gs ++ hs) (λ ρ. In ρ ⊎ Also ρ) lo hi
ordered_append {gs} {hs} {In} {Also} o p (start, gap, end) = record {
  numbered = numbered_append gs hs o.numbered p.numbered;
  none = λ e ρ i.
      let (a, b) = (clear_append gs hs).0 (none_clear (gs ++ hs) (numbered_append gs hs o.numbered p.numbered) e) in
      elim i [ inl j ↦ o.none (clear_none gs a) ρ j | inr j ↦ p.none (clear_none hs b) ρ j ];
  some = λ n. elim (ℕ_discrete (first_of gs) 0) [
    | yes z ↦
        let skip : first_of (gs ++ hs) ≡ first_of hs = clear_skip gs hs (none_clear gs o.numbered z) in
        let (ρ, i, g, b) = p.some (λ e. n (skip ∙ e)) in
        (ρ, inr i, g ∙ sym skip, λ σ c j. elim j [ inl k ↦ o.none z σ k | inr k ↦ b σ c k ])
    | no d ↦
        let (ρ, i, g, b) = o.some d in
        let later : (σ : Reason) → Before σ ρ → Also σ → ⊥ = λ σ c k. p.from σ k (earlier_upto gap (o.upto ρ i _ c)) in
        (ρ, inl i, g ∙ sym (found_stop gs hs d), λ σ c j. elim j [ inl k ↦ b σ c k | inr k ↦ later σ c k ])
  ];
  from = λ ρ i b. elim i [ inl j ↦ o.from ρ j b | inr j ↦ p.from ρ j (earlier_upto start b) ];
  upto = λ ρ i r b. elim i [ inl j ↦ earlier_upto end (o.upto ρ j r b) | inr j ↦ p.upto ρ j r b ];
}

-- One ground before others.
pub ordered_cons : {g : Ground} {σ : Reason} {P : Type 0} {gs : List Ground} {Also : Reason → Type 0} {n hi : Position}
    → g.number ≡ given σ → 0 < given σ → ((g.applies ≡ true) ↔ P) → Ordered gs Also n hi
    → UpTo (position_of σ) n × UpTo (position_of σ) n × UpTo (position_of σ) hi
    → Ordered (g ∷ gs) (λ ρ. (σ when P) ρ ⊎ Also ρ) (position_of σ) hi
ordered_cons number some fact o = ordered_append (ordered_one number some fact) o

-- The grounds of each record, or of each rule, in turn.
pub ordered_each : {f : ℕ → List Ground} {In : ℕ → Reason → Type 0} (stage turn : ℕ)
    → ((i : ℕ) → Ordered (f i) (In i) (position stage i 0) (position stage i turn))
    → (n : ℕ) → Ordered (each n f) (λ ρ. (i : ℕ) × (i < n) × In i ρ) (position stage 0 0) (position stage n 0)
unfolding each of_first
ordered_each stage turn one zero = record {
  numbered = tt;
  none = λ e ρ (i, l, _). omega arith;
  some = λ n. absurd (n refl);
  from = λ ρ (i, l, _). absurd (omega arith);
  upto = λ ρ (i, l, _). absurd (omega arith);
}
ordered_each stage turn one (suc n) =
    ordered_same
    (λ ρ. (
      λ i. elim i [ inl (q, l, j) ↦ (q, omega arith, j) | inr j ↦ (n, le_refl _, j) ],
      λ (q, l, j). elim (below_suc l) [ inl e ↦ inr (rw e at j) | inr k ↦ inl (q, k, j) ],
    ))
    (omega arith) (ordered_append (ordered_each stage turn one n) (one n) (omega arith))
