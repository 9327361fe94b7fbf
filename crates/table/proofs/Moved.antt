-- What a turn by one of a part of a table leaves.
use Rattle.std.proofs.Common.{◌≡◌, ℕ, ◌+◌, ◌-◌, ◌<◌, ◌≤◌, List, ◌++◌, length, take, drop, set, sym, ap, ◌∙◌, add-one, arith, rules}
use borrow.Rule.Slice.PartMut.{put_mid}
use Rattle.std.specs.List.{insert, remove, between}
use Rattle.std.proofs.lemmas.List.{places, same_lists, get_or-set_same, length-append, length-drop, length-take, take_at, take-take, drop-drop, append_assoc}
use Rattle.std.proofs.lemmas.Slice.{between_is}
use Rattle.std.proofs.lemmas.Bool.{cases_eq}

front : {X : Type 0} (a w v q : List X) (n : ℕ) → length a + length w ≡ n → take n (a ++ (w ++ v ++ q)) ≡ a ++ w
front a w v q n e =
    ap (take n) (ap (λ l. a ++ l) (append_assoc w v q) ∙ sym (append_assoc a w (v ++ q)))
    ∙ take_at (a ++ w) (v ++ q) n (length-append a w ∙ e)

module _ {X : Type 0} (xs : List X) (at used : ℕ) where
  -- the part from `at` up to the cell past those in use, turned up, with x then put at `at`
  pub turned_up :
      (x : X) (zs : List X) → at ≤ used → used < length xs → zs ≡ drop (length (between at (used + 1) xs) - 1) (between at (used + 1) xs) ++ take (length (between at (used + 1) xs) - 1) (between at (used + 1) xs) → take (used + 1) (set (put_mid at (used + 1 - at) xs zs) at x) ≡ insert (take used xs) at x
  turned_up x zs a u e =
      same_lists _ _ (rw e (search (rules, places))) (λ k d h. rw e (grind (arith, places, get_or-set_same, cases_eq k at)))

  -- the part from `at` up to the end of those in use, turned down
  pub turned_down :
      (zs : List X) → at < used → used ≤ length xs → zs ≡ drop 1 (between at used xs) ++ take 1 (between at used xs) → take (used - 1) (put_mid at (used - at) xs zs) ≡ remove (take used xs) at
  turned_down zs a u e =
      let p : List X = between at used xs in
      let l : length (take at xs) + length (drop 1 p) ≡ used - 1 = simp (length-take, length-drop) (omega arith) in
      let at≤ : at ≤ used = omega arith in
      ap (λ l. take (used - 1) (put_mid at (used - at) xs l)) e
      ∙ (front (take at xs) (drop 1 p) (take 1 p) (drop (used - at) (drop at xs)) (used - 1) l
      ∙ (ap (λ l. l ++ drop 1 p) (sym (take-take at used xs at≤))
      ∙ ap (λ l. take at (take used xs) ++ l) (ap (drop 1) (between_is xs at used) ∙ (drop-drop 1 at (take used xs) ∙ ap (λ k. drop k (take used xs)) (add-one at)))))
