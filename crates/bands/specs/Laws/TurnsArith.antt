-- The arithmetic of turns, over plain numbers: U and W are the upper ends of the first and the last band, S the sum
-- of all neighbouring speeds of a turn, n the number of its steps, and p its greatest speed.
use Rattle.std.proofs.Common.{◌≡◌, ℕ, ◌+◌, ◌-◌, ◌*◌, ◌<◌, ◌≤◌, ap, subst, ⊎_elim, mul-le-mul, mul-le-mul_left, mul-pos, arith}
use Rattle.std.proofs.lemmas.Bool.{cases_lt}
use Rattle.bands.specs.Gaps.{square}
use Rattle.bands.specs.Laws.Squares.{cancel, two_squares}

-- the product of two facts
crossed : (a x c d : ℕ) → c ≤ d → a * d + (a + x) * c ≤ a * c + (a + x) * d
crossed a x c d h = let m : x * c ≤ x * d = mul-le-mul_left x h in omega arith

cross : (a b c d : ℕ) → a ≤ b → c ≤ d → a * d + b * c ≤ a * c + b * d
cross a b c d h k =
    let e : a + (b - a) ≡ b = omega arith in
    subst (λ y. a * d + y * c ≤ a * c + y * d) e (crossed a (b - a) c d k)

-- ---- one step of a turn
pub step_square : (A v w : ℕ) → w ≤ v + A → square w ≤ square v + A * (v + w)
step_square A v w h = let m : (w + v) * w ≤ (w + v) * (v + A) = mul-le-mul_left (w + v) h in omega arith

step_short : (D p v w a b : ℕ) → v + a ≡ p → w + b ≡ p → v ≤ w + D → D * (v + w) + b * b ≤ 2 * D * p + a * a
step_short D p v w a b e f h =
    let m = step_square D a b (omega arith) in
    let x : D * (v + a) ≡ D * p = ap (λ z. D * z) e in
    let y : D * (w + b) ≡ D * p = ap (λ z. D * z) f in
    omega (arith, m, x, y)

-- how far two neighbouring speeds fall short of p
pub step_peak : (D p v w : ℕ) → v ≤ p → w ≤ p → v ≤ w + D → D * (v + w) + square (p - w) ≤ 2 * D * p + square (p - v)
step_peak D p v w h k l = step_short D p v w (p - v) (p - w) (omega arith) (omega arith) l

-- ---- rules 1 and 2: a turn that changes by A in every step
pub steady_turn : (A G k u n T : ℕ) → 1 ≤ A → 1 ≤ k → 1 ≤ u → square (A * T + u) ≤ square u + 2 * A * G → 2 * (k * k) * G ≤ 2 * (k * u) * n + A * (n * n) → k * T ≤ n
steady_turn A G k u n T pA pk pu h t =
    let a : A * T * T + 2 * u * T ≤ 2 * G = cancel A (A * T * T + 2 * u * T) (2 * G) pA (omega arith) in
    ⊎_elim (λ l. absurd (short a l)) (λ l. l) (cases_lt n (k * T))
  where
    short : A * T * T + 2 * u * T ≤ 2 * G → n < k * T → ⊥
    short a l =
        let b : k * k * (A * T * T + 2 * u * T) ≤ k * k * (2 * G) = mul-le-mul_left (k * k) a in
        let s : n ≤ k * T = omega arith in
        let c : n * n ≤ k * T * (k * T) = mul-le-mul s s in
        let d : A * (n * n) ≤ A * (k * T * (k * T)) = mul-le-mul_left A c in
        let f : k * u * (n + 1) ≤ k * u * (k * T) = let s : n + 1 ≤ k * T = omega arith in mul-le-mul_left (k * u) s in
        let g : 1 ≤ k * u = mul-pos pk pu in
        omega (arith, b, d, f, g, t)

-- ---- rules 3 and 4: some q up to the greatest speed passes the test f(q) ≥ 0, where Z is the whole of n steps
-- and both bands
pub record Peak (A D G k u w n q : ℕ) : Type 0 where
  pub some : 1 ≤ q
  pub passes : k * k * (2 * A * D * G + D * square u + A * square w) + (A + D) * square q ≤ 2 * (q * (A * D * n + D * (k * u) + A * (k * w)))

discriminant : (B q Y Z : ℕ) → Y + B * square q ≤ 2 * (q * Z) → B * Y ≤ square Z
discriminant B q Y Z h =
    let m : B * (Y + B * square q) ≤ B * (2 * (q * Z)) = mul-le-mul_left B h in
    let t = two_squares (B * q) Z in
    omega arith

pub peaked_turn : (A D G k u w n q T : ℕ) → 1 ≤ A → 1 ≤ D → Peak A D G k u w n q → square (A * D * T + D * u + A * w) ≤ (A + D) * (2 * A * D * G + D * square u + A * square w) → k * T ≤ n
peaked_turn A D G k u w n q T pA pD h t = ⊎_elim (λ l. absurd (short l)) (λ l. l) (cases_lt n (k * T))
  where
    -- Z falls short of k times Y
    below : (X Y Z : ℕ) → Z < k * Y → (A + D) * (k * k * X) ≤ square Z → square Y ≤ (A + D) * X → ⊥
    below X Y Z l d s =
        let m : k * k * square Y ≤ k * k * ((A + D) * X) = mul-le-mul_left (k * k) s in
        let r : (Z + 1) * (Z + 1) ≤ k * Y * (k * Y) = let s : Z + 1 ≤ k * Y = omega arith in mul-le-mul s s in
        omega (arith, m, r, d)

    short : n < k * T → ⊥
    short l =
        let p : 1 ≤ A * D = mul-pos pA pD in
        let m : A * D * (n + 1) ≤ A * D * (k * T) = let s : n + 1 ≤ k * T = omega arith in mul-le-mul_left (A * D) s in
        below (2 * A * D * G + D * square u + A * square w) (A * D * T + D * u + A * w) (A * D * n + D * (k * u) + A * (k * w))
        (omega (arith, m, p))
        (discriminant (A + D) q (k * k * (2 * A * D * G + D * square u + A * square w)) (A * D * n + D * (k * u) + A * (k * w)) h.passes)
        t

-- the test passes at the greatest speed m too
greatest_passes : (B q m Y Z : ℕ) → 1 ≤ q → q ≤ m → B * square m ≤ Y → Y + B * square q ≤ 2 * (q * Z) → Y + B * square m ≤ 2 * (m * Z)
greatest_passes B q m Y Z p l b h =
    let a : B * m * q ≤ B * m * m = mul-le-mul_left (B * m) l in
    let c : q * Y + m * (B * m * q) ≤ q * (B * m * q) + m * Y = cross q m (B * m * q) Y l (omega arith) in
    let d : m * (Y + B * square q) ≤ m * (2 * (q * Z)) = mul-le-mul_left m h in
    cancel q (Y + B * square m) (2 * (m * Z)) p (omega (arith, c, d))

-- what u lacks of M, squared
lack_square : (D M u a : ℕ) → u + a ≡ M → D * square a + 2 * (D * (M * u)) ≡ D * square M + D * square u
lack_square D M u a e =
    let x : D * ((u + a) * (u + a)) ≡ D * (M * M) = ap (λ z. D * (z * z)) e in
    let y : D * ((u + a) * u) ≡ D * (M * u) = ap (λ z. D * (z * u)) e in
    omega (arith, x, y)

-- the parts of the test at M
gathered : (A D M k u w n Y : ℕ) → Y + (A + D) * (k * square M) ≤ 2 * (M * (A * D * n + D * (k * u) + A * (k * w))) → Y + k * (D * square M + A * square M) ≤ 2 * (A * D * M * n) + k * (2 * (D * (M * u)) + 2 * (A * (M * w)))
gathered A D M k u w n Y h = omega arith

ticks_left : (k P T n g du aw dm am dmu amw a b : ℕ) → 1 ≤ P → a + 2 * dmu ≡ dm + du → b + 2 * amw ≡ am + aw → 2 * P * T ≤ g + a + b → k * (g + du + aw) + k * (dm + am) ≤ 2 * (P * n) + k * (2 * dmu + 2 * amw) → k * T ≤ n
ticks_left k P T n g du aw dm am dmu amw a b o x y t h =
    let s : 2 * P * T + 2 * dmu + 2 * amw ≤ g + du + aw + dm + am = omega arith in
    let m : k * (2 * P * T + 2 * dmu + 2 * amw) ≤ k * (g + du + aw + dm + am) = mul-le-mul_left k s in
    cancel P (k * T) n o (omega (arith, m, h))

pub capped_turn : (A D G M k u w n q T a b : ℕ) → 1 ≤ A → 1 ≤ D → 1 ≤ M → 1 ≤ k → u + a ≡ M → w + b ≡ M → q ≤ k * M → Peak A D G k u w n q → (A + D) * square M < 2 * A * D * G + D * square u + A * square w → 2 * A * D * M * T ≤ 2 * A * D * G + D * square a + A * square b → k * T ≤ n
capped_turn A D G M k u w n q T a b pA pD pM pk e f l h c t =
    let o : 1 ≤ A * D * M = mul-pos (mul-pos pA pD) pM in
    let X = 2 * A * D * G + D * square u + A * square w in
    let g = gathered A D M k u w n (k * X) (at_most X (A * D * n + D * (k * u) + A * (k * w)) c h.passes) in
    ticks_left k (A * D * M) T n (2 * A * D * G) (D * square u) (A * square w) (D * square M) (A * square M) (D * (M * u)) (A * (M * w)) (D * square a) (A * square b) o (lack_square D M u a e) (lack_square A M w b f) (regroup (2 * A * D * G + D * square a + A * square b) t) g
  where
    at_most : (X Z : ℕ) → (A + D) * square M < X → k * k * X + (A + D) * square q ≤ 2 * (q * Z) → k * X + (A + D) * (k * square M) ≤ 2 * (M * Z)
    at_most X Z c r =
        let s : (A + D) * square M ≤ X = omega arith in
        let m : k * k * ((A + D) * square M) ≤ k * k * X = mul-le-mul_left (k * k) s in
        let g = greatest_passes (A + D) q (k * M) (k * k * X) Z h.some l (omega (arith, m)) r in
        cancel k (k * X + (A + D) * (k * square M)) (2 * (M * Z)) pk (omega (arith, g))

    regroup : (N : ℕ) → 2 * A * D * M * T ≤ N → 2 * (A * D * M) * T ≤ N
    regroup N h = omega (arith, h)

-- ---- a speed that passes the test
spread : (A D G k u w : ℕ) → k * k * (2 * A * D * G + D * square u + A * square w) ≡ A * D * (2 * (k * k) * G) + D * square (k * u) + A * square (k * w)
spread A D G k u w = omega arith

test_from : (A D U W n q R a b Y : ℕ) → Y ≡ A * D * R + D * square U + A * square W → U + a ≡ q → W + b ≡ q → A * D * R + D * square a + A * square b ≤ 2 * A * D * q * n → Y + (A + D) * square q ≤ 2 * (q * (A * D * n + D * U + A * W))
test_from A D U W n q R a b Y s f g h =
    let x = lack_square D q U a f in
    let y = lack_square A q W b g in
    omega (arith, s, x, y, h)

pub passing : (A D G k u w n q S a b : ℕ) → S ≡ 2 * (k * k) * G → 1 ≤ q → k * u + a ≡ q → k * w + b ≡ q → A * D * S + D * square a + A * square b ≤ 2 * A * D * q * n → Peak A D G k u w n q
passing A D G k u w n q S a b e o f g h = record {
  some = o;
  passes = test_from A D (k * u) (k * w) n q (2 * (k * k) * G) a b (k * k * (2 * A * D * G + D * square u + A * square w)) (spread A D G k u w) f g (rw e at h);
}

-- where the greatest speed p reaches both upper ends, p passes
pub high_peak : (A D G k u w n S p v e : ℕ) → S ≡ 2 * (k * k) * G → 1 ≤ p → v ≤ k * u → k * u ≤ p → e ≤ k * w → k * w ≤ p → A * D * S + D * square (p - v) + A * square (p - e) ≤ 2 * A * D * p * n → Peak A D G k u w n p
high_peak A D G k u w n S p v e s o h i j l t =
    let a : p - k * u ≤ p - v = omega arith in
    let b : p - k * w ≤ p - e = omega arith in
    let x = mul-le-mul_left D (mul-le-mul a a) in
    let y = mul-le-mul_left A (mul-le-mul b b) in
    passing A D G k u w n p S (p - k * u) (p - k * w) s o (omega arith) (omega arith) (omega (arith, x, y, t))

-- where p stays below the greater upper end, W, and W is reached flat out within the turn, W passes
over : (U c g Y : ℕ) → (U + c) * (U + c + g) ≤ U * U + Y → (U + c) * (Y + (c + g) * (c + g)) ≤ (U + c + g) * (Y + c * c)
over U c g Y h =
    let m : g * ((U + c) * (U + c + g)) ≤ g * (U * U + Y) = mul-le-mul_left g h in
    omega (arith, m)

under : (p c d Y : ℕ) → square (p + c + d) ≤ square (p + c) + Y → p * (Y + d * d) ≤ (p + c + d) * Y
under p c d Y h =
    let m : d * (p * d) ≤ d * Y = let s : p * d ≤ Y = omega arith in mul-le-mul_left d s in
    omega (arith, m)

over_peak : (A U W p n S c d g : ℕ) → 1 ≤ p → U + c ≡ p → p + g ≡ W → c + g ≡ d → square W ≤ square U + A * S → A * S + square c ≤ 2 * A * p * n → A * S + square d ≤ 2 * A * W * n
over_peak A U W p n S c d g o e f b h t =
    let l : p ≤ W = omega arith in
    let m : W * p ≤ W * W = mul-le-mul_left W l in
    let x : U + c + g ≡ W = omega arith in
    let k : (U + c) * (U + c + g) ≤ U * U + A * S = rw (x, e) (omega (arith, m, h)) in
    let r : p * (A * S + d * d) ≤ W * (A * S + c * c) = rw (← x, ← e, ← b) (over U c g (A * S) k) in
    let y = mul-le-mul_left W t in
    cancel p (A * S + square d) (2 * A * W * n) o (omega (arith, r, y))

under_peak : (A U W p n S c d : ℕ) → 1 ≤ p → p + c ≡ U → U + d ≡ W → square W ≤ square U + A * S → A * S ≤ 2 * A * p * n → A * S + square d ≤ 2 * A * W * n
under_peak A U W p n S c d o e f h t =
    let x : p + c + d ≡ W = omega arith in
    let k : square (p + c + d) ≤ square (p + c) + A * S = rw (x, e) h in
    let r : p * (A * S + d * d) ≤ W * (A * S) = rw (← x) (under p c d (A * S) k) in
    let y = mul-le-mul_left W t in
    cancel p (A * S + square d) (2 * A * W * n) o (omega (arith, r, y))

pub low_peak : (A U W p n S v : ℕ) → 1 ≤ p → U ≤ W → p ≤ W → v ≤ U → v ≤ p → square W ≤ square U + A * S → A * S + square (p - v) ≤ 2 * A * p * n → A * S + square (W - U) ≤ 2 * A * W * n
low_peak A U W p n S v o l b i j h t =
    ⊎_elim (λ s. under_peak A U W p n S (U - p) (W - U) o (omega arith) (omega arith) h (omega arith))
    (λ s.
    let c : p - U ≤ p - v = omega arith in
    let m = mul-le-mul c c in
    over_peak A U W p n S (p - U) (W - U) (W - p) o (omega arith) (omega arith) (omega arith) h (omega (arith, m, t)))
    (cases_lt p U)

-- ---- from the rate of one change to both
pub rise_part : (A D S p n a b : ℕ) → 1 ≤ D → A * D * S + D * a + A * b ≤ 2 * A * D * p * n → A * S + a ≤ 2 * A * p * n
rise_part A D S p n a b o h = cancel D (A * S + a) (2 * A * p * n) o (omega arith)

pub fall_part : (A D S p n a b : ℕ) → 1 ≤ A → A * D * S + D * a + A * b ≤ 2 * A * D * p * n → D * S + b ≤ 2 * D * p * n
fall_part A D S p n a b o h = cancel A (D * S + b) (2 * D * p * n) o (omega arith)

pub from_rise : (A D S q n d : ℕ) → A * S + d ≤ 2 * A * q * n → A * D * S + D * d + A * square 0 ≤ 2 * A * D * q * n
from_rise A D S q n d h = let m = mul-le-mul_left D h in omega (arith, m)

pub from_fall : (A D S q n d : ℕ) → D * S + d ≤ 2 * D * q * n → A * D * S + D * square 0 + A * d ≤ 2 * A * D * q * n
from_fall A D S q n d h = let m = mul-le-mul_left A h in omega (arith, m)

-- squares in k-ths
pub finer_squares : (A G k u w S : ℕ) → S ≡ 2 * (k * k) * G → square w ≤ square u + 2 * A * G → square (k * w) ≤ square (k * u) + A * S
finer_squares A G k u w S e h =
    let m = mul-le-mul_left (k * k) h in
    let s = ap (λ z. A * z) e in
    omega (arith, m, s)

-- no speed below U rises within the angle to l or above
pub out_of_reach : (A G k u l v e S : ℕ) → S ≡ 2 * (k * k) * G → square u + 2 * A * G ≤ square l → v < k * u → k * l ≤ e → square e ≤ square v + A * S → ⊥
out_of_reach A G k u l v e S s h b t r =
    let m = mul-le-mul_left (k * k) h in
    let x = mul-le-mul t t in
    let y : (v + 1) * (v + 1) ≤ k * u * (k * u) = let i : v + 1 ≤ k * u = omega arith in mul-le-mul i i in
    let z = ap (λ z. A * z) s in
    omega (arith, m, x, y, z, r)
