-- Records in bytes. Of two parts that stand one after the other, the second begins as many records on as the first has; and
-- the bytes of one record are read back as they were put, since a number is its low byte and 256 times the rest.
--   At e n part          from record n on, e has the bytes `part`
--   Reads e r K a b      record r of e has the kind K, a zero byte, and the fields a and b
use Prim.Native.Nat.{ℕ, ◌+◌, ◌*◌, ◌/◌, ◌%◌, ◌<◌}
use mathlib.Core.Path.{◌≡◌, refl, ◌∙◌}
use mathlib.Core.Bool.{true, false}
use mathlib.Core.List.{List, ◌++◌}
use native.Mathlib.Omega.{arith}
use lib.ListN.{length, get_or, length-append, get_or-append}
use lib.Seq.{get_or-append-add}
use Rattle.meaning.specs.Record.{record_size, record_bytes, two_bytes, kinds, kind_of, number_of, shorthand_number, kind_byte, kind_at, zero_byte, field_a, field_b}
use Rattle.meaning.specs.Record.{Kind, diamond, box, ahead, back}
use Rattle.meaning.proofs.Cases.{by_kind, by_shorthand}

pub record At (e : List ℕ) (n : ℕ) (part : List ℕ) : Type 0 where
  pub byte : (i : ℕ) → i < length part → get_or e (record_size * n + i) 0 ≡ get_or part i 0

pub record Reads (e : List ℕ) (r : ℕ) (K : Kind) (a b : ℕ) : Type 0 where
  pub kind : kind_at e r ≡ K
  pub zero_byte_is : zero_byte e r ≡ 0
  pub first : field_a e r ≡ a
  pub second : field_b e r ≡ b

-- ---- kinds by number, and back
kind_again : (K : Kind) → kind_of (number_of K) ≡ K
unfolding kinds kind_of number_of shorthand_number
kind_again =
    by_kind _ (elim [ false ↦ refl | true ↦ refl ]) refl (elim [ diamond ↦ refl | box ↦ refl ]) (elim [ ahead ↦ refl | back ↦ refl ])
    refl refl refl refl (by_shorthand _ refl refl refl refl (elim [ ahead ↦ refl | back ↦ refl ])
    (elim [ ahead ↦ elim [ diamond ↦ refl | box ↦ refl ] | back ↦ elim [ diamond ↦ refl | box ↦ refl ] ])
    (elim [ ahead ↦ elim [ diamond ↦ refl | box ↦ refl ] | back ↦ elim [ diamond ↦ refl | box ↦ refl ] ]) refl refl) refl

-- ---- records
-- Two bytes that hold a number.
two_read : (e : List ℕ) (i v : ℕ) → get_or e i 0 ≡ v % 256 → get_or e (i + 1) 0 ≡ v / 256 → two_bytes e i ≡ v
two_read e i v low high = omega arith

pub at_start : (e : List ℕ) → At e 0 e
at_start e = record { byte = λ i l. let start : record_size * 0 + i ≡ i = omega arith in rw start }

module _ {e : List ℕ} {n : ℕ} where
  -- The first part of two, and the second.
  pub at_first : (x y : List ℕ) → At e n (x ++ y) → At e n x
  at_first x y at = record { byte = λ i l. at.byte i (omega (arith, length-append x y)) ∙ get_or-append x y 0 i l }

  pub at_second : (x y : List ℕ) (a : ℕ) → length x ≡ record_size * a → At e n (x ++ y) → At e (n + a) y
  at_second x y a size at = record {
    byte = λ i l.
        let place : record_size * (n + a) + i ≡ record_size * n + (length x + i) = omega arith in
        rw place (at.byte (length x + i) (omega (arith, length-append x y)) ∙ get_or-append-add x y i 0);
  }

  pub at_record : (K : Kind) (a b : ℕ) → At e n (record_bytes K a b) → Reads e n K a b
  at_record K a b at =
      let start : record_size * n + 0 ≡ record_size * n = omega arith in
      let third : record_size * n + 3 ≡ record_size * n + 2 + 1 = omega arith in
      let fifth : record_size * n + 5 ≡ record_size * n + 4 + 1 = omega arith in
      let k : kind_byte e n ≡ number_of K = rw start at (at.byte 0 (omega arith)) in
      record {
        kind = rw k (kind_again K);
        zero_byte_is = at.byte 1 (omega arith);
        first = two_read e _ a (at.byte 2 (omega arith)) (rw third at (at.byte 3 (omega arith)));
        second = two_read e _ b (at.byte 4 (omega arith)) (rw fifth at (at.byte 5 (omega arith)));
      }
