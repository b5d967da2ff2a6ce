-- Specification, The printing program: what it prints for the record bytes s, over 32 atoms.
--   spelled n end n in decimal and the byte after it
--   word ws i j   word j of rule i of the words ws, and what parts it from the next
--   line ws i     the six words of rule i on a line
--   most_spelled, most_line, most_text   the most bytes of a word, of a rule's line, of the text
--   printed s     a line for each rule, then `rules` and how many; or only `refused` and the number
use Prim.Native.Char.{code}
use Rattle.std.specs.Prelude.{ℕ, ◌+◌, ◌*◌, cond, List, [], ◌∷◌, ◌++◌, length, eqb}
use Rattle.meaning.specs.Run.{each}
use Rattle.meaning.specs.Text.{ascii, decimal}
use Rattle.meaning.specs.Rule.{rule_size, rule_word, words}
use Rattle.meaning.specs.Translation.{translation}
use Rattle.meaning.specs.Refusal.{first_of, most_atoms, most_rules, translate_grounds}
use Rattle.meaning.specs.Service.{accepted}

unfoldable pub spelled : ℕ → ℕ → List ℕ
spelled n end = decimal n ++ (end ∷ [])

-- At most five digits, of a word, and that byte.
abbrev pub most_spelled : ℕ
most_spelled = 6

-- ---- lines
abbrev pub line_end : ℕ
line_end = code "\n"

-- After the last word the line ends.
unfoldable pub gap : ℕ → ℕ
gap j = cond (eqb j 5) line_end (code " ")

unfoldable pub word : List ℕ → ℕ → ℕ → List ℕ
word ws i j = spelled (rule_word ws i j) (gap j)

unfoldable pub line : List ℕ → ℕ → List ℕ
line ws i = each rule_size (word ws i)

-- The bytes of the longest line: six words.
abbrev pub most_line : ℕ
most_line = rule_size * most_spelled

-- ---- the whole text
-- The translator has room for 1,021 rules, and there are never more.
unfoldable pub printed : List ℕ → List ℕ
printed s =
    let refusal = first_of (translate_grounds s most_atoms (rule_size * most_rules)) in
    let rules = translation s most_atoms in
    accepted refusal
    (each (length rules) (line (words rules)) ++ (ascii "rules " ++ spelled (length rules) line_end))
    (ascii "refused " ++ spelled refusal line_end)

-- Room for the longest text, a last line of at most 12 bytes after the rules.
abbrev pub most_text : ℕ
most_text = most_line * most_rules + 12
