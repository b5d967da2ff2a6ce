-- Expanding. The tree of accepted records has atoms below A and takes no more than 255 records. In postorder it is a block
-- from the first record to the last: the records are sound, and each but the last is the child of one place, which is all
-- that check asks; and their tree is the one that was written. So the expander accepts them too, and writes the same tree.
use Prim.Native.Nat.{ℕ, pred, ◌+◌, ◌*◌, ◌≤◌, zero-le}
use mathlib.Core.Path.{◌≡◌, sym, ap, ◌∙◌}
use mathlib.Core.Logic.{◌↔◌}
use mathlib.Core.List.{List}
use native.Mathlib.Omega.{arith}
use lib.ListN.{length}
use Rattle.meaning.specs.Run.{written}
use Rattle.meaning.specs.Record.{Language, core, full, record_size, most_records, count, Sort}
use Rattle.meaning.specs.Formula.{Form, form_atoms}
use Rattle.meaning.specs.Tree.{Tree, as_form, form_at, form_size, postorder}
use Rattle.meaning.specs.Refusal.{most_atoms, ground10, ground14, expand_grounds, whole_form}
use Rattle.meaning.specs.WellFormed.{WellFormed}
use Rattle.meaning.specs.Service.{Counted, expand_answer, expand_after}
use Rattle.meaning.proofs.Fails.{tests}
use Rattle.meaning.proofs.First.{Clear, none_clear, clear_none, clear_append}
use Rattle.meaning.proofs.Accepted.{clear_well_formed, check_accepts}
use Rattle.meaning.proofs.Refusing.{expand_ordered}
use Rattle.meaning.proofs.Nodes.{tree_of}
use Rattle.meaning.proofs.Examples.{starred}
use Rattle.theorems.specs.Expander.{expanded, Expanding, Expander}
use Rattle.meaning.proofs.Bytes.{at_start}
use Rattle.meaning.proofs.Atoms.{form_atoms_at}
use Rattle.meaning.proofs.Postorder.{Block, block_once, form_part}

-- ---- what the expander accepts
-- The answer that accepts.
abbrev given : ℕ → Counted
given n = record { refusal = 0; count = n }

module _ (s : List ℕ) (A : ℕ) where
  -- Well-formed records whose expansion is not too long and has room.
  abbrev Fitting : ℕ → Type 0
  Fitting room = WellFormed full s A × (whole_form s ≤ most_records) × (record_size * whole_form s ≤ room)

  fitting_clear : (room : ℕ) → Clear (expand_grounds s A room) ↔ Fitting room
  unfolding expand_grounds ground14 ground10
  fitting_clear room = simp (clear_append, tests) (
    λ (c, (a, (b, _))). ((clear_well_formed full s A).0 c, omega arith, omega arith),
    λ (w, a, b). ((clear_well_formed full s A).1 w, (omega arith, (omega arith, tt))),
  )

  module _ (out : List ℕ) where
    accepted_fits : (expand_answer s A (length out)).refusal ≡ 0 → Fitting (length out)
    unfolding expand_answer
    accepted_fits e = (fitting_clear (length out)).0 (none_clear _ (expand_ordered s A (length out)).numbered e)

    -- Then it gives the count of the expansion's records, and writes them.
    fits_answer : Fitting (length out) → expand_answer s A (length out) ≡ given (whole_form s)
    unfolding expand_answer
    fits_answer f = rw (clear_none _ ((fitting_clear (length out)).1 f))

    fits_after : Fitting (length out) → expand_after s A out ≡ written (expanded s) out
    unfolding expand_after
    fits_after f = rw (fits_answer f)

-- ---- a formula in postorder
module _ (ℓ : Language) (F : Form) (A : ℕ) (low : form_atoms F ≤ A) where
  -- Its records, all of them a block.
  abbrev e : List ℕ
  e = postorder F

  pub written_whole : length e ≡ record_size * form_size F
  written_whole = (form_part ℓ e A F 0 low).whole

  pub written_count : count e ≡ form_size F
  written_count = omega (arith, written_whole)

  written_block : Block ℓ e A 0 (count e) Sort.formula (Tree.formula F)
  written_block =
      let start : 0 + form_size F ≡ count e = omega (arith, written_whole) in
      rw start at ((form_part ℓ e A F 0 low).block (at_start e))

  -- They are well formed, and their tree is the formula.
  pub written_formed : A ≤ most_atoms → form_size F ≤ most_records → WellFormed ℓ e A
  written_formed atoms few =
      let sound = written_block.forest.sound in
      record {
        whole = omega (arith, written_whole);
        some = written_block.some;
        few = omega (arith, written_count);
        atoms = atoms;
        kinds = λ r l. (sound r zero-le l).0;
        zeros = λ r l. (sound r zero-le l).1;
        first = λ r l. (sound r zero-le l).2;
        second = λ r l. (sound r zero-le l).3;
        last = written_block.sorted;
        once = block_once ℓ e A written_block;
      }

  pub written_tree : form_at e (pred (count e)) ≡ F
  unfolding as_form
  written_tree = ap as_form written_block.tree

-- ---- expanding
module _ (s : List ℕ) (A : ℕ) (out : List ℕ) (taken : (expand_answer s A (length out)).refusal ≡ 0) where
  -- The formula, and what acceptance gives of it.
  abbrev whole : Form
  whole = form_at s (pred (count s))

  fits : Fitting s A (length out)
  fits = accepted_fits s A out taken

  low : form_atoms whole ≤ A
  low = let some = fits.0.some in form_atoms_at fits.0 (pred (count s)) (omega arith)

  formed : (ℓ : Language) → WellFormed ℓ (expanded s) A
  formed ℓ = written_formed ℓ whole A low fits.0.atoms fits.1

  same : form_at (expanded s) (pred (count (expanded s))) ≡ whole
  same = written_tree full whole A low

  -- The expander accepts its own records where there is room.
  fits_again : (buffer : List ℕ) → length (expanded s) ≤ length buffer → Fitting (expanded s) A (length buffer)
  fits_again buffer room = (formed full, rw same fits.1, rw same (omega (arith, written_whole full whole A low)))

  expanding : Expanding s A out
  expanding = record {
    output = fits_after s A out fits;
    records = written_count full whole A low ∙ sym (ap (λ (c : Counted). c.count) (fits_answer s A out fits));
    accepted = (check_accepts (expanded s) A).1 (formed core);
    nodes = tree_of fits.0;
    same_tree = same;
    again = λ buffer room.
        fits_answer (expanded s) A buffer (fits_again buffer room) ∙ rw same (sym (fits_answer s A out fits));
    unchanged = λ buffer room. fits_after (expanded s) A buffer (fits_again buffer room) ∙ rw same;
  }

pub expander : Expander
expander = record { expanding = expanding; taken = ap (λ (c : Counted). c.refusal) starred.a_expands.answer }
