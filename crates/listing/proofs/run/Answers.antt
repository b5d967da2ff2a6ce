-- The text fits the buffer that it was put into.
use Rattle.std.proofs.Common.{ℕ, ◌≡◌, ◌≤◌, List, length, sym, arith}
use lib.ListN.{length-append}
use lib.Seq.{length-take-le}
use Rattle.meaning.specs.Run.{written}
use Rattle.listing.proofs.run.Goals as goal

-- What is written fits.
written_fits : (old t : List ℕ) {new : List ℕ} {e : ℕ} → e ≡ length t → new ≡ written t old → e ≤ length new
unfolding written
written_fits old t e w = rw (w, length-append t) (omega arith)

pub slice_bounds-out-end : goal.slice_bounds-out-end
slice_bounds-out-end c = written_fits _ _ c.text-size.ensures.size c.text-size.ensures.bytes

pub slice_bounds-write_all-end : goal.slice_bounds-write_all-end
slice_bounds-write_all-end c = sym (length-take-le _ _ (written_fits _ _ c.text-size.ensures.size c.text-size.ensures.bytes))
