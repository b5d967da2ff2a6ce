-- Whether the text starts with the sign there.
use Rattle.std.proofs.Common.{arith, refl, length-drop}
use Rattle.std.proofs.lemmas.List.{take_rest}
use Rattle.parsing.proofs.Places.{sign_there, sign_absent}
use Rattle.parsing.proofs.ends.sign_end.Goals as goal

pub returns-then-starts_with : goal.returns-then-starts_with
returns-then-starts_with c =
    let l = c.if-starts_with.ensures.bound refl in
    sign_there _ _ _ c.starts_with.ensures.value c.if-starts_with.true (omega (arith, l, rw (take_rest, length-drop) at l))

pub returns-else-starts_with : goal.returns-else-starts_with
returns-else-starts_with c = sign_absent _ _ _ c.starts_with.ensures.value c.if-starts_with.false
