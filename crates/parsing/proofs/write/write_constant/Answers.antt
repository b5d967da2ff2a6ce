-- The byte behind # tells which constant it is.
use Rattle.std.proofs.Common.{◌≡◌, ℕ, Bool, true, false, ◌+◌, ◌*◌, ◌<◌, List, eqb, get_or, refl, arith}
use Rattle.std.proofs.lemmas.List.Edits.{sets}
use Prim.Native.Char.{code}
use borrow.Author.Tests.{eq-eqb, ne_eqb}
use Rattle.meaning.specs.Record.{record_size, most_records, bytes_of}
use Rattle.parsing.specs.Places.{hash}
use Rattle.parsing.specs.Writing.{forms, Readable, Made}
use Rattle.parsing.proofs.Parts.{constant_length, constant_number, constant_leaf, constant_stands, constant_inside}
use Rattle.parsing.proofs.Writing.{leaf_has, leaf_room, leaf_wrote}
use Rattle.parsing.proofs.write.write_constant.Goals as goal

abbrev Asked : List ℕ → ℕ → ℕ → Type 0
Asked t at n = Readable forms t at n × (get_or t at 0 ≡ hash)

room : {t : List ℕ} {at n : ℕ} → Asked t at n → (n < most_records) × (0 < 65_536) × (0 < 65_536)
room (r, byte) = (leaf_room forms _ _ (constant_leaf _ byte) r, omega arith, omega arith)

-- The constant that the byte behind # tells was written.
wrote : {t old new : List ℕ} {at n n' : ℕ} → Asked t at n → (c : Bool) → eqb (get_or t (at + 1) 0) (code "f") ≡ c
    → (n' ≡ n + 1) × (new ≡ sets old (record_size * n) (bytes_of (constant_number c) 0 0)) → Made forms t at n old (at + constant_length c) n' new
wrote (r, byte) c tells put = leaf_wrote forms _ _ (constant_leaf _ byte) r (omega arith)
    (λ s u h reads. let (there, kind) = constant_stands _ _ c tells s u h reads in (there, kind, refl)) put

pub bounds-text-at : goal.bounds-text-at
bounds-text-at c = let (r, byte) = c.requires in leaf_has forms _ _ (constant_leaf _ byte) r (λ s u h reads. constant_inside _ _ s u h reads)

pub push-requires : goal.push-requires
push-requires c = room c.requires

pub push-requires-else-text-at-eq102 : goal.push-requires-else-text-at-eq102
push-requires-else-text-at-eq102 c = room c.requires

pub returns-then-text-at-eq102 : goal.returns-then-text-at-eq102
returns-then-text-at-eq102 c = (wrote c.requires true (eq-eqb _ _ c.if-text-at-eq102.true) (c.push.ensures.0, c.push.ensures.1), cc)

pub returns-else-text-at-eq102 : goal.returns-else-text-at-eq102
returns-else-text-at-eq102 c = (wrote c.requires false (ne_eqb _ _ c.if-text-at-eq102.false) (c.push-else-text-at-eq102.ensures.0, c.push-else-text-at-eq102.ensures.1), cc)
