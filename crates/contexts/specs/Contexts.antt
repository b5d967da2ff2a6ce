-- Contexts in an array.
--   mode_named m             the code's mode for the definitions'
--   held u                   the code's context for the definitions' context u
--   no_context               what stands at a formula, and at no path: no record has its continuation's number
--   contexts_of s            an entry for each record: a path's context, no_context for a formula
--   Entered s contexts r     the array has record r's entry
--   PathUnder s p r          the path record r is p or a part of p, with no test in between
--   Given s p own contexts   record p is a path of a formula, `own` is its context, and the array has every place
--   Handed s p before after  the path p and its parts are entered, and what was entered before still is
use Rattle.std.specs.Prelude.{ℕ, ◌<◌, ◌≡◌, List, [], ◌∷◌, length, get_or}
use Rattle.meaning.specs.Run.{each}
use Rattle.meaning.specs.Record.{most_records, count, kind_at, field_a, field_b, Sort, formula, path, sort_of, child, use_a, use_b}
use Rattle.meaning.specs.Record as spec
use Rattle.meaning.specs.Translation.{context}
use Rattle.meaning.specs.Translation as spec_translation
use Rattle.records.specs.declared.kind.Mode.{Mode}
use Rattle.records.specs.declared.kind.Mode.TheVariants.{Diamond, Box}
use Rattle.paths.specs.Asking.{Formed}
use Rattle.contexts.specs.declared.Context.{Context}

abbrev pub mode_named : spec.Mode → Mode
mode_named spec.diamond = Diamond
mode_named spec.box = Box

abbrev pub held : spec_translation.Context → Context
held u = record { mode = mode_named u.mode; continuation = u.continuation }

abbrev pub no_context : Context
no_context = record { mode = Diamond; continuation = most_records }

unfoldable pub entry_by : Sort → Context → Context
entry_by formula u = no_context
entry_by path u = u

unfoldable pub contexts_of : List ℕ → List Context
contexts_of s = each most_records (λ r. entry_by (sort_of (kind_at s r)) (held (context s r)) ∷ [])

abbrev pub Entered : List ℕ → List Context → ℕ → Type 0
Entered s contexts r = get_or contexts r no_context ≡ entry_by (sort_of (kind_at s r)) (held (context s r))

pub data PathUnder (s : List ℕ) : ℕ → ℕ → Type 0 where
  itself : {p : ℕ} → PathUnder s p p
  first : {p r : ℕ} → use_a (kind_at s p) ≡ child path → PathUnder s (field_a s p) r → PathUnder s p r
  second : {p r : ℕ} → use_b (kind_at s p) ≡ child path → PathUnder s (field_b s p) r → PathUnder s p r

pub record Given (s : List ℕ) (p : ℕ) (own : Context) (contexts : List Context) : Type 0 where
  pub whole : Formed s
  pub index : p < count s
  pub sorted : sort_of (kind_at s p) ≡ path
  pub stands : own ≡ held (context s p)
  pub size : length contexts ≡ most_records

pub record Handed (s : List ℕ) (p : ℕ) (before after : List Context) : Type 0 where
  pub size : length after ≡ most_records
  pub parts : (r : ℕ) → PathUnder s p r → Entered s after r
  pub kept : (r : ℕ) → Entered s before r → Entered s after r
