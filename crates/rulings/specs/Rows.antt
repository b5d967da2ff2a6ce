-- Rules as rows of words.
--   row_of ρ     the six words of the rule ρ
--   rows_of ρs   four rows: those of the rules, and zeros
--   Small word   a word with room for a mark
use Rattle.std.specs.Prelude.{ℕ, ◌<◌, List, [], ◌∷◌, ◌++◌, map, take, replicate}
use Rattle.meaning.specs.Rule.{Rule, rule_size}

abbrev pub row_of : Rule → List ℕ
row_of ρ = ρ.place ∷ ρ.body1 ∷ ρ.body2 ∷ ρ.head1 ∷ ρ.head2 ∷ ρ.head3 ∷ []

abbrev pub rows_of : List Rule → List (List ℕ)
rows_of ρs = take 4 (map row_of ρs ++ replicate 4 (replicate rule_size 0))

abbrev pub Small : ℕ → Type 0
Small w = w < 16_384
