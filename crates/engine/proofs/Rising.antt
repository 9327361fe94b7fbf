-- How the checks of a list come out.
use Rattle.std.proofs.Common.{◌≡◌, ℕ, zero, suc, ◌+◌, ◌-◌, ◌<◌, ◌≤◌, Bool, true, false, ◌&&◌, ltb, List, [], ◌∷◌, length, get_or, sym, refl, ap, ◌∙◌, add-one, arith}
use Rattle.std.specs.List.{list_all, IsAllAdjacentAnswer}
use Rattle.std.proofs.lemmas.Bool.{lt-ltb, le-ltb, eq-eqb, ne_eqb, and_from, and_left, and_right}
use Rattle.engine.specs.Limits.{rising, speeds_ok, every}

module _ {X : Type 0} (key : X → ℕ) (M : ℕ) where
  -- the neighbours rise, and the last item is below M
  rising_true :
      (x : X) (xs : List X) → ((k : ℕ) (d : X) → k + 1 < length (x ∷ xs) → true ≡ ltb (key (get_or (x ∷ xs) k d)) (key (get_or (x ∷ xs) (suc k) d))) → ((d : X) → key (get_or (x ∷ xs) (length xs) d) < M) → rising key M (key x) xs ≡ true
  rising_true x [] up low = lt-ltb (key x) M (low x)
  rising_true x (y ∷ ys) up low =
      and_from _ _ (sym (up 0 x (omega arith))) (rising_true y ys (λ k d h. up (suc k) d (omega arith)) low)

  -- two neighbours do not
  rising_falls : (x : X) (xs : List X) (k : ℕ) → k + 1 < length (x ∷ xs) → ((d : X) → false ≡ ltb (key (get_or (x ∷ xs) k d)) (key (get_or (x ∷ xs) (suc k) d))) → rising key M (key x) xs ≡ false
  rising_falls x [] k h falls = absurd (omega arith)
  rising_falls x (y ∷ ys) zero h falls = and_left _ _ (sym (falls x))
  rising_falls x (y ∷ ys) (suc k) h falls = and_right _ _ (rising_falls y ys k (omega arith) falls)

  -- the last item is not below M
  rising_high : (x : X) (xs : List X) → ((d : X) → M ≤ key (get_or (x ∷ xs) (length xs) d)) → rising key M (key x) xs ≡ false
  rising_high x [] high = le-ltb (key x) M (high x)
  rising_high x (y ∷ ys) high = and_right _ _ (rising_high y ys high)

  -- the last item, y, as the list without the first counts its place
  last_is : (y z : X) (zs : List X) (d : X) → y ≡ get_or (z ∷ zs) (length (z ∷ zs) - 1) d → key y ≡ key (get_or (z ∷ zs) (length zs) d)
  last_is y z zs d e =
      let n : length (z ∷ zs) - 1 ≡ length zs = omega arith in
      ap key (e ∙ ap (λ k. get_or (z ∷ zs) k d) n)

  module _ (m : ℕ) where
    -- the first item, x, is not at m
    pub speeds_begin : (x : X) (xs : List X) → (0 < length xs) × ((d : X) → x ≡ get_or xs 0 d) → (key x ≡ m → ⊥) → false ≡ speeds_ok key m M xs
    speeds_begin x [] at ne = absurd (omega arith)
    speeds_begin x (z ∷ zs) at ne = sym (and_left _ _ (ne_eqb (key z) m (λ e. ne (ap key (at.1 z) ∙ e))))

    -- the last item, y, is not below M
    pub speeds_end : (y : X) (xs : List X) → (0 < length xs) × ((d : X) → y ≡ get_or xs (length xs - 1) d) → M ≤ key y → false ≡ speeds_ok key m M xs
    speeds_end y [] at high = absurd (omega arith)
    speeds_end y (z ∷ zs) at high =
        sym (and_right _ _ (rising_high z zs (λ d. let e = last_is y z zs d (at.1 d) in omega arith)))

    -- both ends are right, and b says whether the neighbours rise
    pub speeds_between :
        (x y : X) (xs : List X) (b : Bool) → (0 < length xs) × ((d : X) → x ≡ get_or xs 0 d) → key x ≡ m → ((d : X) → y ≡ get_or xs (length xs - 1) d) → key y < M → IsAllAdjacentAnswer (λ p q c. c ≡ ltb (key p) (key q)) xs b → b ≡ speeds_ok key m M xs
    speeds_between x y [] b at e last low answer = absurd (omega arith)
    speeds_between x y (z ∷ zs) true at e last low answer = sym (and_from _ _ (eq-eqb (key z) m (sym (ap key (at.1 z)) ∙ e)) (rising_true z zs (λ k d h. answer k d h ∙ ap (λ j. ltb (key (get_or (z ∷ zs) k d)) (key (get_or (z ∷ zs) j d))) (add-one k)) (λ d. let f = last_is y z zs d (last d) in omega arith)))
    speeds_between x y (z ∷ zs) false at e last low answer = sym (and_right _ _ (rising_falls z zs answer.0 answer.1 (λ d. answer.2 d ∙ ap (λ j. ltb (key (get_or (z ∷ zs) answer.0 d)) (key (get_or (z ∷ zs) j d))) (add-one answer.0))))

-- the same test, as the library says it
pub every_is : {X : Type 0} (test : X → Bool) (xs : List X) → every test xs ≡ list_all test xs
every_is test [] = refl
every_is test (x ∷ xs) = ap (λ t. test x && t) (every_is test xs)
