-- A scan for ground 18: no record before r is a back step.
use Rattle.std.proofs.Common.{◌≡◌, ℕ, ◌+◌, ◌<◌, List, [], ◌∷◌, true, false, arith}
use Rattle.meaning.specs.Record.{count}
use Rattle.meaning.specs.Refusal.{first_of, back_grounds, ground18}
use Rattle.meaning.specs.Run.{each}
use Rattle.meaning.proofs.First.{Clear, scan_none, scan_done}
use Rattle.text.proofs.Scanning.{one_found, one_more}

pub record Backless (s : List ℕ) (r : ℕ) : Type 0 where
  pub clear : Clear (each r (λ q. ground18 s q ∷ []))

pub backless_none : {s : List ℕ} → Backless s 0
backless_none = record { clear = scan_none _ }

pub backless_more : {s : List ℕ} {r : ℕ} → Backless s r → (ground18 s r).applies ≡ false → Backless s (r + 1)
backless_more {s} {r} before d = record { clear = one_more (ground18 s) r before.clear d }

-- The first back step decides.
pub backless_found : {s : List ℕ} {r : ℕ} → Backless s r → r < count s → (ground18 s r).applies ≡ true → 18 ≡ first_of (back_grounds s)
unfolding ground18
backless_found {s} {r} before l back = one_found (ground18 s) (count s) r l before.clear back (omega arith)

pub backless_done : {s : List ℕ} {r : ℕ} → Backless s r → r ≡ count s → 0 ≡ first_of (back_grounds s)
backless_done before e = scan_done _ _ _ e before.clear
