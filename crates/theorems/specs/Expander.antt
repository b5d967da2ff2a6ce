-- What comes out of the expander: records of the core alone, with the tree that went in; expanding them changes nothing.
--   expanded s           the records that stand for s
--   Expanding s A out    what holds of them where s is accepted and there is room
use Rattle.std.specs.Prelude.{ℕ, pred, ◌<◌, ◌≤◌, ◌≡◌, List, length}
use Rattle.meaning.specs.Run.{written}
use Rattle.meaning.specs.Record.{count, kind_at, field_a, field_b}
use Rattle.meaning.specs.Tree.{form_at, tree_at, node_of, postorder}
use Rattle.meaning.specs.Service.{check_answer, expand_answer, expand_after}
use Rattle.meaning.specs.Examples.{until_short}

abbrev pub expanded : List ℕ → List ℕ
expanded s = postorder (form_at s (pred (count s)))

pub record Expanding (s : List ℕ) (A : ℕ) (out : List ℕ) : Type 0 where
  -- The expanded records stand at the buffer's start, and the answer has their count.
  pub output : expand_after s A out ≡ written (expanded s) out
  pub records : count (expanded s) ≡ (expand_answer s A (length out)).count
  -- Check accepts them, so there is no shorthand among them.
  pub accepted : check_answer (expanded s) A ≡ 0
  -- The tree of a record that was read is the node of its kind over its children's trees, of a shorthand its expansion;
  pub nodes : (r : ℕ) → r < count s → tree_at s r ≡ node_of (kind_at s r) (field_a s r) (field_b s r) (tree_at s)
  -- and the records that were written have the whole tree.
  pub same_tree : form_at (expanded s) (pred (count (expanded s))) ≡ form_at s (pred (count s))
  -- Expanding them gives the same answer, and writes them again, wherever there is room.
  pub again : (buffer : List ℕ) → length (expanded s) ≤ length buffer
      → expand_answer (expanded s) A (length buffer) ≡ expand_answer s A (length out)
  pub unchanged : (buffer : List ℕ) → length (expanded s) ≤ length buffer
      → expand_after (expanded s) A buffer ≡ written (expanded s) buffer

pub record Expander : Type 0 where
  pub expanding : (s : List ℕ) (A : ℕ) (out : List ℕ) → (expand_answer s A (length out)).refusal ≡ 0 → Expanding s A out
  -- There is such an input: p until q, which takes 7 records.
  pub taken : (expand_answer until_short 2 42).refusal ≡ 0
