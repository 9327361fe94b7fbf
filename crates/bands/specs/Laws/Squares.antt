-- The arithmetic of the four gap rules, over plain numbers.
use Rattle.std.proofs.Common.{◌≡◌, ℕ, ◌+◌, ◌-◌, ◌*◌, ◌/◌, ◌<◌, ◌≤◌, ap, subst, ⊎_elim, mul-le-mul, mul-le-mul_left, mul-pos, arith}
use native.Mathlib.Nat.{le_of_mul-le-mul_left, mul-div-le, lt-mul-div-succ}
use Rattle.std.proofs.lemmas.Bool.{cases_lt}
use Rattle.bands.specs.Gaps.{square}

-- a common factor goes
pub cancel : (c a b : ℕ) → 1 ≤ c → c * a ≤ c * b → a ≤ b
cancel c a b p h = le_of_mul-le-mul_left h p

-- a number whose square is below that of r + 1 is at most r
pub root_le : (a r N : ℕ) → square a ≤ N → N < (r + 1) * (r + 1) → a ≤ r
root_le a r N h k =
    ⊎_elim (λ l. let s : r + 1 ≤ a = omega arith in let m : (r + 1) * (r + 1) ≤ a * a = mul-le-mul s s in omega arith) (λ l. l)
    (cases_lt r a)

-- from the root r of N: q steps of s from b stay within it, and S steps pass it
pub steps_within : (s b N r q : ℕ) → s * q + b ≤ r → r * r ≤ N → square (s * q + b) ≤ N
steps_within s b N r q h k = let m : square (s * q + b) ≤ r * r = mul-le-mul h h in omega (arith, m, k)

pub steps_past : (s b N r q : ℕ) → r + 1 ≤ s * q + b → N < (r + 1) * (r + 1) → N < square (s * q + b)
steps_past s b N r q h k = let m : (r + 1) * (r + 1) ≤ square (s * q + b) = mul-le-mul h h in omega (arith, m, k)

pub root_within : (s b N r : ℕ) → b ≤ r → r * r ≤ N → square (s * ((r - b) / s) + b) ≤ N
root_within s b N r h k = let d = mul-div-le (r - b) s in steps_within s b N r ((r - b) / s) (omega (arith, d)) k

pub root_past : (s b N r : ℕ) → 1 ≤ s → N < (r + 1) * (r + 1) → N < square (s * ((r - b) / s + 1) + b)
root_past s b N r p k =
    let d = lt-mul-div-succ (r - b) p in steps_past s b N r ((r - b) / s + 1) (omega (arith, d)) k

-- ---- rules 1 and 2: a steady change of speed at the rate A, from u
pub steady_most : (A G u T : ℕ) → 1 ≤ A → 1 ≤ u → square (A * T + u) ≤ square u + 2 * A * G → T ≤ G
steady_most A G u T pA pu h =
    let m : A * (2 * (T * u)) ≤ A * (2 * G) = omega arith in
    let k : 2 * (T * u) ≤ 2 * G = cancel A (2 * (T * u)) (2 * G) pA m in
    let t : T * 1 ≤ T * u = mul-le-mul_left T pu in
    omega arith

-- the rise to v takes at least a tick
pub steady_one : (A G M u v a : ℕ) → u + a ≡ M → v ≤ M → 1 ≤ M → M ≤ G → square u + 2 * A * G ≤ square v → square (A * 1 + u) ≤ square u + 2 * A * G
steady_one A G M u v a e vM pM MG h =
    let g : A * M ≤ A * G = mul-le-mul_left A MG in
    let w : v * v ≤ M * M = mul-le-mul vM vM in
    let s : (u + a) * (u + a) ≡ M * M = ap square e in
    let t : (u + a) * a ≡ M * a = ap (λ x. x * a) e in
    let k : M * (2 * A) ≤ M * (2 * a) = omega arith in
    let c : 2 * A ≤ 2 * a = cancel M (2 * A) (2 * a) pM k in
    let d : A + 2 * u ≤ 2 * G = omega arith in
    let m : A * (A + 2 * u) ≤ A * (2 * G) = mul-le-mul_left A d in
    omega (arith, m)

-- ---- rule 3, without the factor A-as-D
peak_le : (A D G u v T : ℕ) → 1 ≤ A → 1 ≤ D → square (A * D * T + D * u + A * v) ≤ (A + D) * (2 * A * D * G + D * square u + A * square v) → 2 * (T * (D * u + A * v)) + 2 * (u * v) ≤ 2 * ((A + D) * G) + square u + square v
peak_le A D G u v T pA pD h =
    let p : 1 ≤ A * D = mul-pos pA pD in
    cancel (A * D) (2 * (T * (D * u + A * v)) + 2 * (u * v)) (2 * ((A + D) * G) + square u + square v) p (omega arith)

le_peak : (A D G u v T : ℕ) → A * D * (T * T) + 2 * (T * (D * u + A * v)) + 2 * (u * v) ≤ 2 * ((A + D) * G) + square u + square v → square (A * D * T + D * u + A * v) ≤ (A + D) * (2 * A * D * G + D * square u + A * square v)
le_peak A D G u v T h =
    let m : A * D * (A * D * (T * T) + 2 * (T * (D * u + A * v)) + 2 * (u * v)) ≤ A * D * (2 * ((A + D) * G) + square u + square v) = mul-le-mul_left (A * D) h in
    omega (arith, m)

-- two speeds that differ by no more than a turn at the rate A
pub near : (A D G u v : ℕ) → u ≤ v → square v ≤ square u + 2 * A * G → square u + square v ≤ 2 * (u * v) + 2 * ((A + D) * G)
near A D G u v h k = let m : u * u ≤ u * v = mul-le-mul_left u h in omega arith

pub peaked_most : (A D G u v T : ℕ) → 1 ≤ A → 1 ≤ D → 1 ≤ u → 1 ≤ v → square u + square v ≤ 2 * (u * v) + 2 * ((A + D) * G) → square (A * D * T + D * u + A * v) ≤ (A + D) * (2 * A * D * G + D * square u + A * square v) → T ≤ 2 * G
peaked_most A D G u v T pA pD pu pv n h =
    let k = peak_le A D G u v T pA pD h in
    let x : D * 1 ≤ D * u = mul-le-mul_left D pu in
    let y : A * 1 ≤ A * v = mul-le-mul_left A pv in
    let z : A + D ≤ D * u + A * v = omega (arith, x, y) in
    let m : T * (A + D) ≤ T * (D * u + A * v) = mul-le-mul_left T z in
    let p : 1 ≤ A + D = omega arith in
    cancel (A + D) T (2 * G) p (omega (arith, k, m, n))

two_apart : (u d : ℕ) → 2 * (u * (u + d)) ≤ u * u + (u + d) * (u + d)
two_apart u d = omega arith

two_ordered : (u v : ℕ) → u ≤ v → 2 * (u * v) ≤ u * u + v * v
two_ordered u v h =
    let e : u + (v - u) ≡ v = omega arith in
    subst (λ x. 2 * (u * x) ≤ u * u + x * x) e (two_apart u (v - u))

pub two_squares : (u v : ℕ) → 2 * (u * v) ≤ u * u + v * v
two_squares u v =
    ⊎_elim (λ l. let h : u ≤ v = omega arith in two_ordered u v h) (λ l. let m = two_ordered v u l in omega arith)
    (cases_lt u v)

pub peak_start : (A D G u v : ℕ) → square (D * u + A * v) ≤ (A + D) * (2 * A * D * G + D * square u + A * square v)
peak_start A D G u v =
    let m : A * D * (2 * (u * v)) ≤ A * D * (u * u + v * v) = mul-le-mul_left (A * D) (two_squares u v) in
    omega (arith, m)

-- what the speed lacks of M, a at the start and b at the end, is enough to change by A-as-D
peak_room : (A D G M u v a b : ℕ) → u + a ≡ M → v + b ≡ M → 1 ≤ M → M ≤ G → 2 * A * D * G + D * square u + A * square v ≤ (A + D) * square M → A * D ≤ D * a + A * b
peak_room A D G M u v a b e f pM MG h =
    let g : A * D * M ≤ A * D * G = mul-le-mul_left (A * D) MG in
    let s : D * ((u + a) * (u + a)) ≡ D * (M * M) = ap (λ x. D * (x * x)) e in
    let t : A * ((v + b) * (v + b)) ≡ A * (M * M) = ap (λ x. A * (x * x)) f in
    let x : (u + a) * (D * a) ≡ M * (D * a) = ap (λ x. x * (D * a)) e in
    let y : (v + b) * (A * b) ≡ M * (A * b) = ap (λ x. x * (A * b)) f in
    cancel M (A * D) (D * a + A * b) pM (omega (arith, g, s, t, x, y, h))

pub peaked_one : (A D G M u v a b : ℕ) → u + a ≡ M → v + b ≡ M → 1 ≤ M → M ≤ G → 2 * A * D * G + D * square u + A * square v ≤ (A + D) * square M → square (A * D * 1 + D * u + A * v) ≤ (A + D) * (2 * A * D * G + D * square u + A * square v)
peaked_one A D G M u v a b e f pM MG h =
    let r = peak_room A D G M u v a b e f pM MG h in
    let w = two_squares u v in
    let s : D * (u + a) ≡ D * M = ap (λ x. D * x) e in
    let t : A * (v + b) ≡ A * M = ap (λ x. A * x) f in
    let g : (A + D) * M ≤ (A + D) * G = mul-le-mul_left (A + D) MG in
    le_peak A D G u v 1 (omega (arith, r, w, s, t, g))

-- ---- rule 4
pub capped_most : (A D G M u v a b T : ℕ) → 1 ≤ A → 1 ≤ D → 1 ≤ M → u + a ≡ M → v + b ≡ M → (A + D) * square M < 2 * A * D * G + D * square u + A * square v → 2 * A * D * M * T ≤ 2 * A * D * G + D * square a + A * square b → T ≤ 2 * G
capped_most A D G M u v a b T pA pD pM e f h k =
    let s : D * ((u + a) * (u + a)) ≡ D * (M * M) = ap (λ x. D * (x * x)) e in
    let t : A * ((v + b) * (v + b)) ≡ A * (M * M) = ap (λ x. A * (x * x)) f in
    let p : 1 ≤ A * D = mul-pos pA pD in
    let m : A * D * (M * T) ≤ A * D * (2 * G) = omega (arith, s, t, h, k) in
    let q : M * T ≤ 2 * G = cancel (A * D) (M * T) (2 * G) p m in
    let o : T * 1 ≤ T * M = mul-le-mul_left T pM in
    omega (arith, o, q)

pub capped_one : (A D G M x y : ℕ) → M ≤ G → 2 * A * D * M * 1 ≤ 2 * A * D * G + x + y
capped_one A D G M x y h = let m : A * D * M ≤ A * D * G = mul-le-mul_left (A * D) h in omega (arith, m)
