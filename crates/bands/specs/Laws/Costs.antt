-- The greatest cost of the modes that share a speed with a band.
use Rattle.std.proofs.Common.{◌≡◌, ℕ, zero, suc, ◌+◌, ◌<◌, ◌≤◌, min, max, Bool, true, false, cond, ◌&&◌, eqb, leb, List, [], ◌∷◌, length, drop, sym, refl, ap, ◌∙◌, subst, inl, ⊎_elim, add-one, arith}
use Rattle.std.proofs.lemmas.List.{drop_more, drop_all}
use Rattle.std.proofs.lemmas.Bool.{false≢true, ltb-true, lt-ltb, leb-true, eqb-true, and_parts, cond-true, cond-false, cond_both, cases_lt}
use Rattle.engine.specs.declared.card.Mode.{Mode}
use Rattle.engine.specs.Limits.{cost_ok, rising, speeds_ok, every}
use Rattle.engine.specs.Views.{Numbers, Parts}
use Rattle.bands.specs.Laws.Ready.{Ready}
use Rattle.bands.specs.Graphs.{lower_end, upper_end, InRange, next_lower, mode_at, mode_end, Meets, GreatestCost, has_shared_speed, cost_between}
use Rattle.bands.specs.Laws.Ends.{Rising, rising_parts, BandAt, card_ends, band_widens, band_least}

-- the range of the k-th mode shares a speed with the one from low to high
abbrev shares : ℕ → ℕ → ℕ → List Mode → ℕ → Bool
shares M low high xs k = has_shared_speed low high (mode_at xs k).lower (next_lower M (drop (suc k) xs))

end_is : (M k : ℕ) (xs : List Mode) → mode_end M xs k ≡ next_lower M (drop (suc k) xs)
end_is M k xs = ap (λ n. next_lower M (drop n xs)) (add-one k)

-- ---- the value against each mode
cost_bounds : (M low high : ℕ) (xs : List Mode) (k : ℕ) → k < length xs → shares M low high xs k ≡ true → (mode_at xs k).cost ≤ cost_between M low high xs
cost_bounds M low high [] k b e = omega arith
cost_bounds M low high (x ∷ xs) zero b e =
    let s = has_shared_speed low high x.lower (next_lower M xs) in
    let v = cond-true s x.cost 0 e in
    omega (arith, v)
cost_bounds M low high (x ∷ xs) (suc k) b e =
    let h = cost_bounds M low high xs k (omega arith) e in
    omega (arith, h)

abbrev ReachedBy : ℕ → ℕ → ℕ → List Mode → ℕ → Type 0
ReachedBy M low high xs n =
    (k : ℕ) × (k < length xs) × (shares M low high xs k ≡ true) × ((mode_at xs k).cost ≡ n)

-- the mode x comes before the others
reached_more : (M low high : ℕ) (x : Mode) (xs : List Mode) (n : ℕ) → ReachedBy M low high xs n → ReachedBy M low high (x ∷ xs) n
reached_more M low high x xs n h = (suc h.0, omega (arith, h.1), h.2, h.3)

-- of two numbers the greater one is reached by whichever it is
greater_is : (P : ℕ → Type 0) (a b : ℕ) → (b ≤ a → P a) → (a < b → P b) → P (max a b)
greater_is P a b f g =
    ⊎_elim (λ h. let e : b ≡ max a b = omega arith in subst P e (g h)) (λ h. let e : a ≡ max a b = omega arith in subst P e (f h))
    (cases_lt a b)

-- the first mode's part of the greatest cost
first_reached : (M low high : ℕ) (x : Mode) (xs : List Mode) (s : Bool) → has_shared_speed low high x.lower (next_lower M xs) ≡ s → 1 ≤ cond s x.cost 0 → ReachedBy M low high (x ∷ xs) (cond s x.cost 0)
first_reached M low high x xs true e h = (0, omega arith, e, refl)
first_reached M low high x xs false e h = absurd (omega arith)

cost_reached : (M low high : ℕ) (xs : List Mode) → 1 ≤ cost_between M low high xs → ReachedBy M low high xs (cost_between M low high xs)
cost_reached M low high [] h = absurd (omega arith)
cost_reached M low high (x ∷ xs) h =
    let s = has_shared_speed low high x.lower (next_lower M xs) in
    greater_is (ReachedBy M low high (x ∷ xs)) (cond s x.cost 0) (cost_between M low high xs)
    (λ l. first_reached M low high x xs s refl (omega (arith, h, l)))
    (λ l. reached_more M low high x xs (cost_between M low high xs) (cost_reached M low high xs (omega (arith, l))))

-- ---- the greatest cost of the modes from the k-th on, where that of the modes before it is `cost`
cost_first : (M low high : ℕ) (xs : List Mode) (k : ℕ) → k < length xs → cost_between M low high (drop k xs) ≡ max (cond (has_shared_speed low high (mode_at xs k).lower (mode_end M xs k)) (mode_at xs k).cost 0) (cost_between M low high (drop (k + 1) xs))
cost_first M low high xs k h = ap (cost_between M low high) (drop_more xs k (record { lower = 0; cost = 0 }) h)

pub cost_takes : (M low high : ℕ) (xs : List Mode) (k cost total : ℕ) → k < length xs → max cost (cost_between M low high (drop k xs)) ≡ total → has_shared_speed low high (mode_at xs k).lower (mode_end M xs k) ≡ true → max (max cost (mode_at xs k).cost) (cost_between M low high (drop (k + 1) xs)) ≡ total
cost_takes M low high xs k cost total h e s =
    let f = cost_first M low high xs k h in
    let v = cond-true (has_shared_speed low high (mode_at xs k).lower (mode_end M xs k)) (mode_at xs k).cost 0 s in
    grow cost (mode_at xs k).cost (cost_between M low high (drop (k + 1) xs)) (cost_between M low high (drop k xs)) total
    (f ∙ ap (λ n. max n (cost_between M low high (drop (k + 1) xs))) v) e
  where
    grow : (a x rest all total : ℕ) → all ≡ max x rest → max a all ≡ total → max (max a x) rest ≡ total
    grow a x rest all total f e = omega arith

pub cost_keeps : (M low high : ℕ) (xs : List Mode) (k cost total : ℕ) → k < length xs → max cost (cost_between M low high (drop k xs)) ≡ total → has_shared_speed low high (mode_at xs k).lower (mode_end M xs k) ≡ false → max cost (cost_between M low high (drop (k + 1) xs)) ≡ total
cost_keeps M low high xs k cost total h e s =
    let f = cost_first M low high xs k h in
    let v = cond-false (has_shared_speed low high (mode_at xs k).lower (mode_end M xs k)) (mode_at xs k).cost 0 s in
    same cost (cost_between M low high (drop (k + 1) xs)) (cost_between M low high (drop k xs)) total
    (f ∙ ap (λ n. max n (cost_between M low high (drop (k + 1) xs))) v) e
  where
    same : (a rest all total : ℕ) → all ≡ max 0 rest → max a all ≡ total → max a rest ≡ total
    same a rest all total f e = omega arith

pub cost_all : (M low high : ℕ) (xs : List Mode) (k cost total : ℕ) → length xs ≤ k → max cost (cost_between M low high (drop k xs)) ≡ total → cost ≡ total
cost_all M low high xs k cost total h e =
    let f : cost_between M low high (drop k xs) ≡ 0 = ap (cost_between M low high) (drop_all k xs h) in
    omega (arith, e, f)

-- ---- the modes cover the band
abbrev CostsOk : List Mode → Type 0
CostsOk xs = every (λ x. cost_ok x.cost) xs ≡ true

costs_parts : (x : Mode) (xs : List Mode) → CostsOk (x ∷ xs) → (1 ≤ x.cost) × (x.cost ≤ 100000) × CostsOk xs
costs_parts x xs h =
    let both = and_parts (cost_ok x.cost) (every (λ x. cost_ok x.cost) xs) h in
    let ends = and_parts (leb 1 x.cost) (leb x.cost 100000) both.0 in
    (leb-true 1 x.cost ends.0, leb-true x.cost 100000 ends.1, both.1)

cost_most : (M low high : ℕ) (xs : List Mode) → CostsOk xs → cost_between M low high xs ≤ 100000
cost_most M low high [] h = omega arith
cost_most M low high (x ∷ xs) h =
    let p = costs_parts x xs h in
    let k = cost_most M low high xs p.2 in
    let v : cond (has_shared_speed low high x.lower (next_lower M xs)) x.cost 0 ≤ 100000
    = cond_both (has_shared_speed low high x.lower (next_lower M xs)) x.cost 0 (λ n. n ≤ 100000) (λ _. p.1) (λ _. omega arith) in
    omega (arith, k, v)

-- the last mode that begins at or below low shares a speed with it
cost_least : (M low high : ℕ) (xs : List Mode) → low < high → high ≤ M → next_lower M xs ≤ low → CostsOk xs → 1 ≤ cost_between M low high xs
cost_least M low high [] l t b h = omega arith
cost_least M low high (x ∷ xs) l t b h =
    let p = costs_parts x xs h in
    ⊎_elim
    (λ k.
    let s = lt-ltb (max low x.lower) (min high (next_lower M xs)) (omega (arith, k, l, b)) in
    let v = cond-true (has_shared_speed low high x.lower (next_lower M xs)) x.cost 0 s in
    omega (arith, v, p.0))
    (λ k. let n = cost_least M low high xs l t k p.2 in omega (arith, n))
    (cases_lt low (next_lower M xs))

-- ---- the modes rise
next_most : (M l : ℕ) (xs : List Mode) → Rising (λ x. x.lower) M l xs → next_lower M xs ≤ M
next_most M l [] h = omega arith
next_most M l (x ∷ []) h = let k = ltb-true x.lower M (rising_parts (λ x. x.lower) M l x [] h).1 in omega (arith, k)
next_most M l (x ∷ (y ∷ ys)) h =
    let p = rising_parts (λ x. x.lower) M l x (y ∷ ys) h in
    let q = rising_parts (λ x. x.lower) M x.lower y ys p.1 in
    let k = next_most M x.lower (y ∷ ys) p.1 in
    omega (arith, k, q.0)

next_above : (M l : ℕ) (xs : List Mode) → Rising (λ x. x.lower) M l xs → l < next_lower M xs
next_above M l [] h = ltb-true l M h
next_above M l (x ∷ xs) h = (rising_parts (λ x. x.lower) M l x xs h).0

abbrev Widens : ℕ → List Mode → ℕ → Type 0
Widens M xs k =
    ((mode_at xs k).lower < next_lower M (drop (suc k) xs)) × (next_lower M (drop (suc k) xs) ≤ M)

mode_widens : (M : ℕ) (x : Mode) (xs : List Mode) → Rising (λ x. x.lower) M x.lower xs → (k : ℕ) → k < length (x ∷ xs) → Widens M (x ∷ xs) k
mode_widens M x xs h zero b = (next_above M x.lower xs h, next_most M x.lower xs h)
mode_widens M x [] h (suc k) b = absurd (omega arith)
mode_widens M x (y ∷ ys) h (suc k) b = mode_widens M y ys (rising_parts (λ x. x.lower) M x.lower y ys h).1 k (omega arith)

-- what a right list of modes has
record Modes (m M : ℕ) (xs : List Mode) : Type 0 where
  first : next_lower M xs ≡ m
  widens : (k : ℕ) → k < length xs → Widens M xs k
  costs : CostsOk xs

modes_are : (m M : ℕ) (xs : List Mode) → speeds_ok (λ x. x.lower) m M xs ≡ true → CostsOk xs → Modes m M xs
modes_are m M [] h c = absurd (false≢true h)
modes_are m M (x ∷ xs) h c =
    let both = and_parts (eqb x.lower m) (rising (λ x. x.lower) M x.lower xs) h in
    record { first = eqb-true x.lower m both.0; widens = mode_widens M x xs both.1; costs = c }

card_modes : (e : Numbers) (c : Parts) → Ready e c → Modes e.least e.greatest c.modes
card_modes e c r =
    let ms = c.modes in
    let m = e.least in
    let M = e.greatest in
    let rest = (and_parts (leb (length ms) 8) (speeds_ok (λ x. x.lower) m M ms && every (λ x. cost_ok x.cost) ms) r.modes).1 in
    let both = and_parts (speeds_ok (λ x. x.lower) m M ms) (every (λ x. cost_ok x.cost) ms) rest in
    modes_are m M ms both.0 both.1

-- ---- two ranges share a speed exactly where the test says so
common : (M low high low' high' v : ℕ) → low < high → high ≤ M → low' < high' → high' ≤ M → InRange M low' high' v → InRange M low high v → max low low' < min high high'
common M low high low' high' v a b c d h k = omega arith

common_speed : (M low high low' high' : ℕ) → max low low' < min high high' → (v : ℕ) × InRange M low' high' v × InRange M low high v
common_speed M low high low' high' h = (max low low', (omega arith, inl (omega arith)), (omega arith, inl (omega arith)))

module _ (e : Numbers) (c : Parts) (r : Ready e c) (p : ℕ) (b : BandAt c p) where
  pub band_cost_least : 1 ≤ cost_between e.greatest (lower_end c p) (upper_end e c p) c.modes
  band_cost_least =
      let ends = card_ends e c r in
      let modes = card_modes e c r in
      let w = band_widens e c r p b in
      let l = band_least e c r p b in
      cost_least e.greatest (lower_end c p) (upper_end e c p) c.modes w (ends.most p) (omega (arith, modes.first, l)) modes.costs

  pub band_cost_most : cost_between e.greatest (lower_end c p) (upper_end e c p) c.modes ≤ 100000
  band_cost_most = cost_most e.greatest (lower_end c p) (upper_end e c p) c.modes (card_modes e c r).costs

  meets_shares : (k : ℕ) → k < length c.modes → Meets e c p k → shares e.greatest (lower_end c p) (upper_end e c p) c.modes k ≡ true
  meets_shares k h w =
      let g = (card_modes e c r).widens k h in
      let top = (card_ends e c r).most p in
      let wide = band_widens e c r p b in
      lt-ltb _ _
      (common e.greatest (lower_end c p) (upper_end e c p) (mode_at c.modes k).lower (next_lower e.greatest (drop (suc k) c.modes)) w.0 wide top g.0 g.1
      (subst (λ n. InRange e.greatest (mode_at c.modes k).lower n w.0) (end_is e.greatest k c.modes) w.1)
      w.2)

  shares_meets : (k : ℕ) → shares e.greatest (lower_end c p) (upper_end e c p) c.modes k ≡ true → Meets e c p k
  shares_meets k s =
      let v =
      common_speed e.greatest (lower_end c p) (upper_end e c p) (mode_at c.modes k).lower (next_lower e.greatest (drop (suc k) c.modes))
      (ltb-true _ _ s) in
      (v.0, subst (λ n. InRange e.greatest (mode_at c.modes k).lower n v.0) (sym (end_is e.greatest k c.modes)) v.1, v.2)

  -- the value is the greatest cost
  pub cost_greatest : GreatestCost e c p (cost_between e.greatest (lower_end c p) (upper_end e c p) c.modes)
  cost_greatest =
      let at = cost_reached e.greatest (lower_end c p) (upper_end e c p) c.modes band_cost_least in
      record {
        reached = (at.0, at.1, shares_meets at.0 at.2, at.3);
        bounds = λ k h w. cost_bounds e.greatest (lower_end c p) (upper_end e c p) c.modes k h (meets_shares k h w);
      }
