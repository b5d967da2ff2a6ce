-- Each record of a formula has one byte of its own in the text: # p & ? * + or ;
--   is_mark b    whether b is such a byte
--   marks t      how many there are in t
use Prim.Native.Char.{code}
use Rattle.std.specs.Prelude.{ℕ, ◌+◌, Bool, ◌||◌, cond, List, [], ◌∷◌, eqb}

unfoldable pub is_mark : ℕ → Bool
is_mark b =
    eqb b (code "#") || eqb b (code "p") || eqb b (code "&") || eqb b (code "?") || eqb b (code "*") || eqb b (code "+")
    || eqb b (code ";")

unfoldable pub marks : List ℕ → ℕ
marks [] = 0
marks (b ∷ t) = cond (is_mark b) 1 0 + marks t
