-- What every list of speeds has whose changes an engine allows.
use Rattle.std.proofs.Common.{◌≡◌, ℕ, ◌+◌, ◌-◌, ◌*◌, ◌≤◌, ◌⊎◌, List, [], ◌∷◌, length, refl, inl, inr, ⊎_elim, mul-le-mul_left, arith}
use Rattle.std.specs.List.{AllByRecursion}
use Rattle.std.proofs.lemmas.Bool.{cases_lt}
use Rattle.bands.specs.Gaps.{square}
use Rattle.bands.specs.Turns.{Changes, pairs, end_speed}
use Rattle.bands.specs.Laws.TurnsArith.{step_square, step_peak}

-- ---- how far the last speed is from the first
pub end_above : (A D v : ℕ) (ws : List ℕ) → Changes A D v ws → square (end_speed v ws) ≤ square v + A * pairs v ws
end_above A D v [] h = omega arith
end_above A D v (w ∷ ws) h =
    let x = step_square A v w h.0 in
    let y = end_above A D w ws h.2 in
    omega (arith, x, y)

pub end_below : (A D v : ℕ) (ws : List ℕ) → Changes A D v ws → square v ≤ square (end_speed v ws) + D * pairs v ws
end_below A D v [] h = omega arith
end_below A D v (w ∷ ws) h =
    let x = step_square D w v h.1 in
    let y = end_below A D w ws h.2 in
    omega (arith, x, y)

-- ---- the sum of a turn that rises, or falls, in every step is the greatest
rise_sum : (A v w n P : ℕ) → w ≤ v + A → P ≤ 2 * w * n + A * (n * n) → (v + w) + P ≤ 2 * v * (n + 1) + A * ((n + 1) * (n + 1))
rise_sum A v w n P h k = let m : n * w ≤ n * (v + A) = mul-le-mul_left n h in omega (arith, m)

pub sum_rising : (A D v : ℕ) (ws : List ℕ) → Changes A D v ws → pairs v ws ≤ 2 * v * length ws + A * (length ws * length ws)
sum_rising A D v [] h = omega arith
sum_rising A D v (w ∷ ws) h =
    let m = rise_sum A v w (length ws) (pairs w ws) h.0 (sum_rising A D w ws h.2) in omega (arith, m)

end_near : (A D v : ℕ) (ws : List ℕ) → Changes A D v ws → v ≤ end_speed v ws + D * length ws
end_near A D v [] h = omega arith
end_near A D v (w ∷ ws) h = let m = end_near A D w ws h.2 in omega (arith, m, h.1)

pub sum_falling : (A D v : ℕ) (ws : List ℕ) → Changes A D v ws → pairs v ws ≤ 2 * end_speed v ws * length ws + D * (length ws * length ws)
sum_falling A D v [] h = omega arith
sum_falling A D v (w ∷ ws) h =
    let m = end_near A D w ws h.2 in
    let s = sum_falling A D w ws h.2 in
    omega (arith, m, s, h.1)

-- ---- the greatest speed
-- p is one of the speeds
abbrev pub Among : ℕ → ℕ → List ℕ → Type 0
Among p v [] = v ≡ p
Among p v (w ∷ ws) = (v ≡ p) ⊎ Among p w ws

pub record Greatest (p v : ℕ) (ws : List ℕ) : Type 0 where
  pub most : AllByRecursion (λ s. s ≤ p) (v ∷ ws)
  pub reached : Among p v ws

all_up : (p q : ℕ) → p ≤ q → (ws : List ℕ) → AllByRecursion (λ s. s ≤ p) ws → AllByRecursion (λ s. s ≤ q) ws
all_up p q h [] a = tt
all_up p q h (w ∷ ws) a = (omega (arith, a.0), all_up p q h ws a.1)

among_first : (v : ℕ) (ws : List ℕ) → Among v v ws
among_first v [] = refl
among_first v (w ∷ ws) = inl refl

pub greatest_of : (v : ℕ) (ws : List ℕ) → (p : ℕ) × Greatest p v ws
greatest_of v [] = (v, record { most = (omega arith, tt); reached = refl })
greatest_of v (w ∷ ws) =
    let (p, g) = greatest_of w ws in
    ⊎_elim
    (λ l. (v, record { most = (omega arith, all_up p v (omega arith) (w ∷ ws) g.most); reached = inl refl }))
    (λ l. (p, record { most = (l, g.most); reached = inr g.reached }))
    (cases_lt p v)

-- all of a turn's speeds are at most p
fall_peak : (A D p v : ℕ) (ws : List ℕ) → AllByRecursion (λ s. s ≤ p) (v ∷ ws) → Changes A D v ws → D * pairs v ws + square (p - end_speed v ws) ≤ 2 * D * p * length ws + square (p - v)
fall_peak A D p v [] a h = omega arith
fall_peak A D p v (w ∷ ws) a h =
    let x = step_peak D p v w a.0 a.1.0 h.1 in
    let y = fall_peak A D p w ws a.1 h.2 in
    omega (arith, x, y)

-- and one of them is p
at_peak : (A D p v : ℕ) (ws : List ℕ) → AllByRecursion (λ s. s ≤ p) (v ∷ ws) → v ≡ p → Changes A D v ws → A * D * pairs v ws + D * square (p - v) + A * square (p - end_speed v ws) ≤ 2 * A * D * p * length ws
at_peak A D p v ws a e h =
    let z : p - v ≡ 0 = omega arith in
    let x = fall_peak A D p v ws a h in
    finish (p - v) z (pairs v ws) (square (p - end_speed v ws)) (length ws) x
  where
    finish : (d : ℕ) → d ≡ 0 → (S b n : ℕ) → D * S + b ≤ 2 * D * p * n + d * d → A * D * S + D * (d * d) + A * b ≤ 2 * A * D * p * n
    finish d z S b n x =
        let y : D * S + b ≤ 2 * D * p * n + 0 * 0 = rw z at x in
        let m = mul-le-mul_left A y in
        rw z (omega (arith, m))

pub peak_sum : (A D p v : ℕ) (ws : List ℕ) → AllByRecursion (λ s. s ≤ p) (v ∷ ws) → Among p v ws → Changes A D v ws → A * D * pairs v ws + D * square (p - v) + A * square (p - end_speed v ws) ≤ 2 * A * D * p * length ws
peak_sum A D p v [] a r h = at_peak A D p v [] a r h
peak_sum A D p v (w ∷ ws) a (inl r) h = at_peak A D p v (w ∷ ws) a r h
peak_sum A D p v (w ∷ ws) a (inr r) h =
    let x = step_peak A p w v a.1.0 a.0 h.0 in
    let y = peak_sum A D p w ws a.1 r h.2 in
    let m = mul-le-mul_left D x in
    omega (arith, m, y)
