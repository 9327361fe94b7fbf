-- Lists in rising order of a key: where the words of `specs/Ordered.antt` act, and what they keep.
use Rattle.std.proofs.Common.{◌≡◌, ℕ, zero, suc, ◌+◌, ◌<◌, ◌≤◌, min, true, false, eqb, ltb, List, [], ◌∷◌, length, get_or, take, set, Some, None, sym, refl, ap, ◌∙◌, arith, length-take}
use Rattle.std.specs.List.{insert, remove, AllByRecursion as All}
use Rattle.std.proofs.lemmas.List.{get_or-take}
use Rattle.std.proofs.lemmas.List.Edits.{length-remove}
use Rattle.std.proofs.lemmas.Bool.{lt-ltb, le-ltb, eq-eqb, ne_eqb, eqb-true, cond-true, cond-false, cond_both}
use Rattle.table.specs.Ordered.{insert_by, find_by, without, change_by}
use Rattle.table.specs.Found.{Lacks, First}

module _ {X : Type 0} (key : X → ℕ) where
  -- the new item stands at the one place that has no greater key before it and one at it
  pub insert_by_at :
      (x : X) (xs : List X) (i : ℕ) → i ≤ length xs → ((j : ℕ) (d : X) → j < i → key (get_or xs j d) ≤ key x) → (i < length xs → (d : X) → key x < key (get_or xs i d)) → insert_by key x xs ≡ insert xs i x
  insert_by_at x [] zero h b n = refl
  insert_by_at x [] (suc i) h b n = refl
  insert_by_at x (y ∷ ys) zero h b n =
      cond-true (ltb (key x) (key y)) _ _ (lt-ltb (key x) (key y) (n (omega arith) y))
  insert_by_at x (y ∷ ys) (suc i) h b n =
      cond-false (ltb (key x) (key y)) _ _ (le-ltb (key x) (key y) (b 0 y (omega arith)))
      ∙ ap (λ l. y ∷ l) (insert_by_at x ys i (omega arith) (λ j d l. b (suc j) d (omega arith)) (λ l. n (omega arith)))

  -- the same of the items in use, with the key given as k
  pub insert_by_used :
      (x : X) (k used : ℕ) (xs : List X) (i : ℕ) → k ≡ key x → used ≤ length xs → i ≤ used → ((j : ℕ) (d : X) → j < i → key (get_or (take used xs) j d) ≤ k) → (i < used → (d : X) → k < key (get_or (take used xs) i d)) → insert_by key x (take used xs) ≡ insert (take used xs) i x
  insert_by_used x k used xs i e u h b n =
      insert_by_at x (take used xs) i (simp length-take (omega arith)) (λ j d l. let a = b j d l in omega arith)
      (λ l d.
      let m : i < min used (length xs) = simp length-take at l in
      let v : i < used = omega arith in
      let a = n v d in omega arith)

  pub length_insert_by : (x : X) (xs : List X) → length (insert_by key x xs) ≡ length xs + 1
  length_insert_by x [] = refl
  length_insert_by x (y ∷ ys) =
      cond_both (ltb (key x) (key y)) (x ∷ y ∷ ys) (y ∷ insert_by key x ys) (λ l. length l ≡ length (y ∷ ys) + 1) (λ _. omega arith) (λ _. let h = length_insert_by x ys in omega arith)

  pub all_insert_by : (P : X → Type 0) (x : X) (xs : List X) → P x → All P xs → All P (insert_by key x xs)
  all_insert_by P x [] p a = (p, tt)
  all_insert_by P x (y ∷ ys) p a =
      cond_both (ltb (key x) (key y)) (x ∷ y ∷ ys) (y ∷ insert_by key x ys) (All P) (λ _. (p, a)) (λ _. (a.0, all_insert_by P x ys p a.1))

  module _ (n : ℕ) where
    pub find_none : (xs : List X) → Lacks key n xs → find_by key n xs ≡ None
    find_none [] h = refl
    find_none (x ∷ xs) h =
        cond-false (eqb (key x) n) _ _ (ne_eqb (key x) n (h 0 x (omega arith)))
        ∙ find_none xs (λ j d l. h (suc j) d (omega arith))

    pub without_none : (xs : List X) → Lacks key n xs → without key n xs ≡ xs
    without_none [] h = refl
    without_none (x ∷ xs) h =
        cond-false (eqb (key x) n) _ _ (ne_eqb (key x) n (h 0 x (omega arith)))
        ∙ ap (λ l. x ∷ l) (without_none xs (λ j d l. h (suc j) d (omega arith)))

    pub change_none : (f : X → X) (xs : List X) → Lacks key n xs → change_by key n f xs ≡ xs
    change_none f [] h = refl
    change_none f (x ∷ xs) h =
        cond-false (eqb (key x) n) _ _ (ne_eqb (key x) n (h 0 x (omega arith)))
        ∙ ap (λ l. x ∷ l) (change_none f xs (λ j d l. h (suc j) d (omega arith)))

    -- what a place below `used` says of the items in use alone
    pub first_take : (used : ℕ) (xs : List X) (i : ℕ) → i < used → First key n xs i → First key n (take used xs) i
    first_take used xs i u h = (
      simp length-take (let a = h.0 in omega arith),
      λ d. ap key (get_or-take used xs i d u) ∙ h.1 d,
      λ j d l e. h.2 j d l (sym (ap key (get_or-take used xs j d (omega arith))) ∙ e),
    )

    first_next : (x : X) (xs : List X) (i : ℕ) → First key n (x ∷ xs) (suc i) → First key n xs i
    first_next x xs i h = (let a = h.0 in omega arith, h.1, λ j d l. h.2 (suc j) d (omega arith))

    here : (x : X) (xs : List X) → First key n (x ∷ xs) 0 → eqb (key x) n ≡ true
    here x xs h = eq-eqb (key x) n (h.1 x)

    passed : (x : X) (xs : List X) (i : ℕ) → First key n (x ∷ xs) (suc i) → eqb (key x) n ≡ false
    passed x xs i h = ne_eqb (key x) n (h.2 0 x (omega arith))

    nothing : (i : ℕ) → First key n [] i → ⊥
    nothing i h = let a = h.0 in omega arith

    pub find_first : (xs : List X) (i : ℕ) (d : X) → First key n xs i → find_by key n xs ≡ Some (get_or xs i d)
    find_first [] i d h = absurd (nothing i h)
    find_first (x ∷ xs) zero d h = cond-true (eqb (key x) n) _ _ (here x xs h)
    find_first (x ∷ xs) (suc i) d h =
        cond-false (eqb (key x) n) _ _ (passed x xs i h) ∙ find_first xs i d (first_next x xs i h)

    pub without_first : (xs : List X) (i : ℕ) → First key n xs i → without key n xs ≡ remove xs i
    without_first [] i h = absurd (nothing i h)
    without_first (x ∷ xs) zero h = cond-true (eqb (key x) n) _ _ (here x xs h)
    without_first (x ∷ xs) (suc i) h =
        cond-false (eqb (key x) n) _ _ (passed x xs i h)
        ∙ ap (λ l. x ∷ l) (without_first xs i (first_next x xs i h))

    pub change_first :
        (f : X → X) (xs : List X) (i : ℕ) (d : X) → First key n xs i → change_by key n f xs ≡ set xs i (f (get_or xs i d))
    change_first f [] i d h = absurd (nothing i h)
    change_first f (x ∷ xs) zero d h = cond-true (eqb (key x) n) _ _ (here x xs h)
    change_first f (x ∷ xs) (suc i) d h =
        cond-false (eqb (key x) n) _ _ (passed x xs i h)
        ∙ ap (λ l. x ∷ l) (change_first f xs i d (first_next x xs i h))

    -- the same of the items in use, with the item read from the whole table
    pub find_used : (used : ℕ) (xs : List X) (i : ℕ) (d : X) → i < used → First key n xs i → find_by key n (take used xs) ≡ Some (get_or xs i d)
    find_used used xs i d u h =
        find_first (take used xs) i d (first_take used xs i u h) ∙ ap Some (get_or-take used xs i d u)

    pub without_used : (used : ℕ) (xs : List X) (i : ℕ) → i < used → First key n xs i → without key n (take used xs) ≡ remove (take used xs) i
    without_used used xs i u h = without_first (take used xs) i (first_take used xs i u h)

    pub change_used :
        (f : X → X) (used : ℕ) (xs : List X) (i : ℕ) (d : X) → i < used → First key n xs i → change_by key n f (take used xs) ≡ set (take used xs) i (f (get_or xs i d))
    change_used f used xs i d u h =
        change_first f (take used xs) i d (first_take used xs i u h)
        ∙ ap (λ y. set (take used xs) i (f y)) (get_or-take used xs i d u)

    pub length_without : (xs : List X) (i : ℕ) → First key n xs i → length (without key n xs) + 1 ≡ length xs
    length_without xs i h = ap (λ l. length l + 1) (without_first xs i h) ∙ length-remove xs i h.0

    pub length_without_le : (xs : List X) → length (without key n xs) ≤ length xs
    length_without_le [] = omega arith
    length_without_le (x ∷ xs) =
        cond_both (eqb (key x) n) xs (x ∷ without key n xs) (λ l. length l ≤ length (x ∷ xs)) (λ _. omega arith) (λ _. let h = length_without_le xs in omega arith)

    pub length_change_by : (f : X → X) (xs : List X) → length (change_by key n f xs) ≡ length xs
    length_change_by f [] = refl
    length_change_by f (x ∷ xs) =
        cond_both (eqb (key x) n) (f x ∷ xs) (x ∷ change_by key n f xs) (λ l. length l ≡ length (x ∷ xs)) (λ _. refl) (λ _. ap suc (length_change_by f xs))

    pub all_without : (P : X → Type 0) (xs : List X) → All P xs → All P (without key n xs)
    all_without P [] a = tt
    all_without P (x ∷ xs) a =
        cond_both (eqb (key x) n) xs (x ∷ without key n xs) (All P) (λ _. a.1) (λ _. (a.0, all_without P xs a.1))

    -- f need keep P only of items with the key
    pub all_change_by :
        (P : X → Type 0) (f : X → X) (xs : List X) → ((x : X) → key x ≡ n → P x → P (f x)) → All P xs → All P (change_by key n f xs)
    all_change_by P f [] k a = tt
    all_change_by P f (x ∷ xs) k a =
        cond_both (eqb (key x) n) (f x ∷ xs) (x ∷ change_by key n f xs) (All P) (λ e. (k x (eqb-true (key x) n e) a.0, a.1)) (λ _. (a.0, all_change_by P f xs k a.1))
