-- A buffer that is filled from its front by one read after another.
use Rattle.std.proofs.Common.{◌≡◌, ℕ, ◌+◌, ◌≤◌, List, ◌++◌, length, take, sym, ap, ◌∙◌, length-take-le}
use Rattle.std.proofs.Math.Seq.{take-append-add}
use Rattle.std.proofs.lemmas.List.{take-append-le}
use borrow.Rule.Slice.PartMut.{put_mid, post_of}

-- a read into the part from a on, of which it gave n bytes, adds these to the front
pub take-put_mid_more : (a k n : ℕ) (xs ys : List ℕ) → a ≤ length xs → n ≤ length ys → take (a + n) (put_mid a k xs ys) ≡ take a xs ++ take n ys
take-put_mid_more a k n xs ys within fits =
    let front = take a xs in
    let after = post_of a k xs in
    ap (λ m. take (m + n) (front ++ (ys ++ after))) (sym (length-take-le a xs within)) ∙ take-append-add front (ys ++ after) n ∙ ap (λ l. front ++ l) (take-append-le n ys after fits)
