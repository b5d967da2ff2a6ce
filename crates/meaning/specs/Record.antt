-- Specification, Records: where a record's bytes stand, its kind, its sort, and what its two fields are.
-- A formula is a list s of bytes; its records are numbered from 0.
--   record_size, most_records     6 bytes a record, at most 255 records
--   count s                     how many records s has
--   kind_at s r                  the kind of record r
--   zero_byte, field_a, field_b    the other parts of record r
--   kind_of number, number_of kind   a kind by its number, and back
--   record_bytes kind a b        the bytes of one record
--   columns_of kind              the table's row: whether such a record is a formula or a path, and what its fields hold
--   sort_of kind, use_a kind, use_b kind   its three columns
--   uses s r q                  in how many fields of record q the record r is the child
--   places s r, parent s r      in how many places of all records; the record of that place
--   known language kind         whether the kind is one of the language
use Rattle.std.specs.Prelude.{ℕ, zero, suc, ◌+◌, ◌*◌, ◌/◌, ◌%◌, Bool, true, false, cond, List, [], ◌∷◌, ◌++◌, length, get_or, replicate, eqb}

-- ---- the layout
abbrev pub record_size : ℕ
record_size = 6

abbrev pub most_records : ℕ
most_records = 255

abbrev pub count : List ℕ → ℕ
count s = length s / record_size

-- Two bytes, low byte first.
abbrev pub two_bytes : List ℕ → ℕ → ℕ
two_bytes s i = get_or s i 0 + 256 * get_or s (i + 1) 0

abbrev pub kind_byte : List ℕ → ℕ → ℕ
kind_byte s r = get_or s (record_size * r) 0

abbrev pub zero_byte : List ℕ → ℕ → ℕ
zero_byte s r = get_or s (record_size * r + 1) 0

abbrev pub field_a : List ℕ → ℕ → ℕ
field_a s r = two_bytes s (record_size * r + 2)

abbrev pub field_b : List ℕ → ℕ → ℕ
field_b s r = two_bytes s (record_size * r + 4)

-- The bytes of a record whose kind has this number.
abbrev pub bytes_of : ℕ → ℕ → ℕ → List ℕ
bytes_of number a b = number ∷ 0 ∷ a % 256 ∷ a / 256 ∷ b % 256 ∷ b / 256 ∷ []

-- ---- kinds; those that the document lists in pairs differ in a parameter
pub data Sort : Type 0 where
  formula path : Sort

pub data Mode : Type 0 where
  diamond box : Mode

-- Ahead is a step, back a back step.
pub data Way : Type 0 where
  ahead back : Way

-- `end` is final and initial; `beside` next, weak next, previous and weak previous; `along` eventually, always, once and so far.
pub data Shorthand : Type 0 where
  denied both either implies : Shorthand
  end : Way → Shorthand
  beside along : Way → Mode → Shorthand
  until since : Shorthand

pub data Kind : Type 0 where
  constant : Bool → Kind
  atom : Kind
  modal : Mode → Kind
  move : Way → Kind
  test choice sequence star : Kind
  shorthand : Shorthand → Kind
  unknown : Kind

-- The kinds by their numbers: the core from 0, the shorthands from 32.
unfoldable pub kinds : List Kind
kinds =
    (constant false ∷ constant true ∷ atom ∷ modal diamond ∷ modal box ∷ move ahead ∷ move back ∷ test ∷ choice ∷ sequence ∷ star ∷ [])
    ++ replicate 21 unknown
    ++ (shorthand denied ∷ shorthand both ∷ shorthand either ∷ shorthand implies ∷ shorthand (end ahead) ∷ shorthand (end back)
    ∷ shorthand (beside ahead diamond) ∷ shorthand (beside ahead box) ∷ shorthand (beside back diamond) ∷ shorthand (beside back box)
    ∷ shorthand (along ahead diamond) ∷ shorthand (along ahead box) ∷ shorthand (along back diamond) ∷ shorthand (along back box)
    ∷ shorthand until ∷ shorthand since ∷ [])

unfoldable pub kind_of : ℕ → Kind
kind_of number = get_or kinds number unknown

abbrev pub kind_at : List ℕ → ℕ → Kind
kind_at s r = kind_of (kind_byte s r)

-- And back: kind_of (number_of κ) is κ (proofs/Bytes). A number that no kind has stands for the unknown.
unfoldable pub shorthand_number : Shorthand → ℕ
shorthand_number denied = 32
shorthand_number both = 33
shorthand_number either = 34
shorthand_number implies = 35
shorthand_number (end ahead) = 36
shorthand_number (end back) = 37
shorthand_number (beside ahead diamond) = 38
shorthand_number (beside ahead box) = 39
shorthand_number (beside back diamond) = 40
shorthand_number (beside back box) = 41
shorthand_number (along ahead diamond) = 42
shorthand_number (along ahead box) = 43
shorthand_number (along back diamond) = 44
shorthand_number (along back box) = 45
shorthand_number until = 46
shorthand_number since = 47

unfoldable pub number_of : Kind → ℕ
number_of (constant false) = 0
number_of (constant true) = 1
number_of atom = 2
number_of (modal diamond) = 3
number_of (modal box) = 4
number_of (move ahead) = 5
number_of (move back) = 6
number_of test = 7
number_of choice = 8
number_of sequence = 9
number_of star = 10
number_of (shorthand σ) = shorthand_number σ
number_of unknown = 48

abbrev pub record_bytes : Kind → ℕ → ℕ → List ℕ
record_bytes κ a b = bytes_of (number_of κ) a b

-- ---- the table's columns: a record's sort, and what its fields a and b hold
pub data Use : Type 0 where
  unused atomNumber : Use
  child : Sort → Use

pub record Columns : Type 0 where
  pub sort : Sort
  pub a : Use
  pub b : Use

abbrev columns : Sort → Use → Use → Columns
columns sort a b = record { sort = sort; a = a; b = b }

-- Kinds 36 and 37 have no argument, 32 and 38 to 45 have one, the others two.
unfoldable pub arguments_of : Shorthand → Use × Use
arguments_of denied = (child formula, unused)
arguments_of both = (child formula, child formula)
arguments_of either = (child formula, child formula)
arguments_of implies = (child formula, child formula)
arguments_of (end w) = (unused, unused)
arguments_of (beside w m) = (child formula, unused)
arguments_of (along w m) = (child formula, unused)
arguments_of until = (child formula, child formula)
arguments_of since = (child formula, child formula)

unfoldable pub columns_of : Kind → Columns
columns_of (constant v) = columns formula unused unused
columns_of atom = columns formula atomNumber unused
columns_of (modal m) = columns formula (child path) (child formula)
columns_of (move w) = columns path unused unused
columns_of test = columns path (child formula) unused
columns_of choice = columns path (child path) (child path)
columns_of sequence = columns path (child path) (child path)
columns_of star = columns path (child path) unused
columns_of (shorthand σ) = columns formula (arguments_of σ).0 (arguments_of σ).1
columns_of unknown = columns formula unused unused

abbrev pub sort_of : Kind → Sort
sort_of κ = (columns_of κ).sort

abbrev pub use_a : Kind → Use
use_a κ = (columns_of κ).a

abbrev pub use_b : Kind → Use
use_b κ = (columns_of κ).b

-- ---- the two languages: the core kinds alone, or shorthands too
pub data Language : Type 0 where
  core full : Language

unfoldable pub known : Language → Kind → Bool
known ℓ (constant v) = true
known ℓ atom = true
known ℓ (modal m) = true
known ℓ (move w) = true
known ℓ test = true
known ℓ choice = true
known ℓ sequence = true
known ℓ star = true
known core (shorthand σ) = false
known full (shorthand σ) = true
known ℓ unknown = false

-- ---- parents
-- 1 if a field of this use that holds v has r as its child, else 0.
unfoldable pub names : Use → ℕ → ℕ → ℕ
names unused v r = 0
names atomNumber v r = 0
names (child sort) v r = cond (eqb v r) 1 0

unfoldable pub uses : List ℕ → ℕ → ℕ → ℕ
uses s r q = names (use_a (kind_at s q)) (field_a s q) r + names (use_b (kind_at s q)) (field_b s q) r

-- Of the first m records.
unfoldable pub places_in : List ℕ → ℕ → ℕ → ℕ
places_in s r zero = 0
places_in s r (suc m) = places_in s r m + uses s r m

abbrev pub places : List ℕ → ℕ → ℕ
places s r = places_in s r (count s)

unfoldable pub parent_in : List ℕ → ℕ → ℕ → ℕ
parent_in s r zero = 0
parent_in s r (suc m) = cond (eqb (uses s r m) 0) (parent_in s r m) m

abbrev pub parent : List ℕ → ℕ → ℕ
parent s r = parent_in s r (count s)
