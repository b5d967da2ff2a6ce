-- What one more read gave follows what was read so far.
use Rattle.std.proofs.Common.{◌≡◌, ℕ, ◌+◌, ◌-◌, ◌≤◌, List, ◌++◌, rules, length, take, drop, sym, ap, ◌∙◌, subst, drop_at, length-take-le, le_refl}
use Rattle.std.proofs.lemmas.Slice.{take-put_mid_below}
use Rattle.std.specs.Io.KnownBytes.{Consumes}
use Rattle.std.proofs.KnownBytes.{Consumes-trans}
use borrow.Rule.Slice.PartMut.{put_mid, post_of}
use lib.Seq.{take-add, take-append-le}
use Rattle.listing.proofs.read_full.Goals as goal

-- Up to k places behind a, the bytes are those up to a and then the first k that were put there.
read_more : (a k n : ℕ) (xs ys : List ℕ) → a ≤ length xs → n ≤ length ys → take a xs ++ take n ys ≡ take (a + n) (put_mid a k xs ys)
read_more a k n xs ys within fits =
    let new = put_mid a k xs ys in let after = post_of a k xs in
    let part = ap (take n) (drop_at (take a xs) (ys ++ after) a (length-take-le a xs within)) ∙ take-append-le n ys after fits in
    sym (take-add a n new ∙ ap (λ l. l ++ take n (drop a new)) (take-put_mid_below _ _ _ _ _ (le_refl _) within) ∙ ap (λ l. take a xs ++ l) part)

pub loop-n-preserved : goal.loop-n-preserved
loop-n-preserved g c = (
  search rules,
  search rules,
  subst (Consumes _ _)
      (read_more c.loop-n.n (length c.loop-n.bytes - c.loop-n.n) c.in_ok-more.more c.loop-n.bytes c.read.new.buf c.loop-n.invariant.0 c.in_ok-more.ensures.bound.0)
      (Consumes-trans _ _ _ _ _ c.loop-n.invariant.2 c.in_ok-more.ensures.bytes.0),
)
