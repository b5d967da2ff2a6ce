-- Two digits where they are a number, else one, else none.
use Rattle.std.proofs.Common.{sym, refl, ◌∙◌, rules}
use Rattle.parsing.proofs.Numbers.{numbered_two, numbered_one, numbered_none, numbered_nothing}
use Rattle.parsing.proofs.ends.number_at.Goals as goal

pub returns-in-len2-up : goal.returns-in-len2-up
returns-in-len2-up c = numbered_two _ _ _ c.requires refl c.in-len2-up.len_at_least (sym c.two_digits.ensures ∙ c.if-two_digits.true) c.number.ensures

pub returns-in-len1-up : goal.returns-in-len1-up
returns-in-len1-up c = numbered_one _ _ _ c.requires refl (λ l. search rules) (sym c.is_digit.ensures ∙ c.if-is_digit.true) c.value.ensures

pub returns-in_default : goal.returns-in_default
returns-in_default c = numbered_nothing _ _ _ c.requires refl c.in_default.len_below

pub returns-in_default-2 : goal.returns-in_default-2
returns-in_default-2 c = numbered_none _ _ _ c.requires refl (λ l. search rules) (sym c.is_digit.ensures ∙ c.if-is_digit.false)
