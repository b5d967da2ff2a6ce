-- Each part starts later than the whole, and the byte that each begins with tells what it is.
use Rattle.std.proofs.Common.{refl, ◌∙◌, arith}
use Rattle.parsing.proofs.Heads.{stands, form_constant, form_atom, number_ends, form_none, form_past, path_step, path_test, path_none, path_past, behind_stars}
use Rattle.parsing.proofs.Heads.{form_brackets, path_brackets, no_first, no_join, no_second, all_parts}
use Rattle.parsing.proofs.ends.+form_end_path_end.Goals as goal

pub form_end-returns-in_err-get : goal.form_end-returns-in_err-get
form_end-returns-in_err-get t c = rw c.from_residual.ensures (form_past _ _ c.in_err-get.ensures.lookup.3)

pub form_end-returns-in-35 : goal.form_end-returns-in-35
form_end-returns-in-35 t c = form_constant (stands c.in_ok-get.field-0 c.in_ok-get.ensures.lookup c.in-35.is) c.either_end.ensures

pub form_end-returns-in_ok-number_at-in-112 : goal.form_end-returns-in_ok-number_at-in-112
form_end-returns-in_ok-number_at-in-112 t c =
    form_atom (stands c.in_ok-get.field-0 c.in_ok-get.ensures.lookup c.in-112.is) (number_ends _ c.in_ok-number_at-in-112.ensures)

pub form_end-returns-in_err-number_at-in-112 : goal.form_end-returns-in_err-number_at-in-112
form_end-returns-in_err-number_at-in-112 t c =
    rw c.from_residual-in_err-number_at-in-112.ensures
    (form_atom (stands c.in_ok-get.field-0 c.in_ok-get.ensures.lookup c.in-112.is) (number_ends _ c.in_err-number_at-in-112.ensures))

pub form_end-returns-in_err-path-in-40 : goal.form_end-returns-in_err-path-in-40
form_end-returns-in_err-path-in-40 t c =
    rw c.from_residual-in_err-path-in-40.ensures
    (no_first form_brackets (stands c.in_ok-get.field-0 c.in_ok-get.ensures.lookup c.in-40.is) c.in_err-path-in-40.ensures)

pub form_end-returns-in_err-mode-in-40 : goal.form_end-returns-in_err-mode-in-40
form_end-returns-in_err-mode-in-40 t c =
    rw c.from_residual-in_err-mode-in-40.ensures
    (no_join form_brackets (stands c.in_ok-get.field-0 c.in_ok-get.ensures.lookup c.in-40.is) c.in_ok-path-in-40.ensures c.in_err-mode-in-40.ensures)

pub form_end-returns-in_err-form-in-40 : goal.form_end-returns-in_err-form-in-40
form_end-returns-in_err-form-in-40 t c =
    rw c.from_residual-in_err-form-in-40.ensures
    (no_second form_brackets (stands c.in_ok-get.field-0 c.in_ok-get.ensures.lookup c.in-40.is) c.in_ok-path-in-40.ensures c.in_ok-mode-in-40.ensures c.in_err-form-in-40.ensures)

pub form_end-returns-in_ok-form-in-40 : goal.form_end-returns-in_ok-form-in-40
form_end-returns-in_ok-form-in-40 t c =
    all_parts form_brackets (stands c.in_ok-get.field-0 c.in_ok-get.ensures.lookup c.in-40.is) c.in_ok-path-in-40.ensures c.in_ok-mode-in-40.ensures c.in_ok-form-in-40.ensures c.sign_end.ensures

pub form_end-returns-in_default : goal.form_end-returns-in_default
form_end-returns-in_default t c = form_none _ _ (stands c.in_ok-get.field-0 c.in_ok-get.ensures.lookup refl) (λ e. omega arith) (λ e. omega arith) (λ e. omega arith)

-- Each behind the stars.
pub path_end-returns-in_err-get : goal.path_end-returns-in_err-get
path_end-returns-in_err-get t c = rw c.from_residual.ensures (behind_stars _ c.stars_end-from.ensures (path_past _ _ c.in_err-get.ensures.lookup.3))

pub path_end-returns-in-38 : goal.path_end-returns-in-38
path_end-returns-in-38 t c =
    behind_stars _ c.stars_end-from.ensures (path_step (stands c.in_ok-get.field-0 c.in_ok-get.ensures.lookup c.in-38.is) c.sign_end.ensures)

pub path_end-returns-in-63 : goal.path_end-returns-in-63
path_end-returns-in-63 t c =
    behind_stars _ c.stars_end-from.ensures (path_test (stands c.in_ok-get.field-0 c.in_ok-get.ensures.lookup c.in-63.is) c.form_end.ensures)

pub path_end-returns-in_err-first-in-40 : goal.path_end-returns-in_err-first-in-40
path_end-returns-in_err-first-in-40 t c =
    rw c.from_residual-in_err-first-in-40.ensures
    (behind_stars _ c.stars_end-from.ensures
    (no_first path_brackets (stands c.in_ok-get.field-0 c.in_ok-get.ensures.lookup c.in-40.is) c.in_err-first-in-40.ensures))

pub path_end-returns-in_err-join-in-40 : goal.path_end-returns-in_err-join-in-40
path_end-returns-in_err-join-in-40 t c =
    rw c.from_residual-in_err-join-in-40.ensures
    (behind_stars _ c.stars_end-from.ensures
    (no_join path_brackets (stands c.in_ok-get.field-0 c.in_ok-get.ensures.lookup c.in-40.is) c.in_ok-first-in-40.ensures c.in_err-join-in-40.ensures))

pub path_end-returns-in_err-second-in-40 : goal.path_end-returns-in_err-second-in-40
path_end-returns-in_err-second-in-40 t c =
    rw c.from_residual-in_err-second-in-40.ensures
    (behind_stars _ c.stars_end-from.ensures
    (no_second path_brackets (stands c.in_ok-get.field-0 c.in_ok-get.ensures.lookup c.in-40.is) c.in_ok-first-in-40.ensures c.in_ok-join-in-40.ensures c.in_err-second-in-40.ensures))

pub path_end-returns-in_ok-second-in-40 : goal.path_end-returns-in_ok-second-in-40
path_end-returns-in_ok-second-in-40 t c =
    behind_stars _ c.stars_end-from.ensures
    (all_parts path_brackets (stands c.in_ok-get.field-0 c.in_ok-get.ensures.lookup c.in-40.is) c.in_ok-first-in-40.ensures c.in_ok-join-in-40.ensures c.in_ok-second-in-40.ensures c.sign_end-in-40.ensures)

pub path_end-returns-in_default : goal.path_end-returns-in_default
path_end-returns-in_default t c =
    let byte = stands c.in_ok-get.field-0 c.in_ok-get.ensures.lookup refl in
    behind_stars _ c.stars_end-from.ensures
    (path_none _ _ byte (λ e. omega arith) (λ e. omega arith) (λ e. c.stars_end-from.ensures.over (byte.is ∙ e)) (λ e. omega arith))
