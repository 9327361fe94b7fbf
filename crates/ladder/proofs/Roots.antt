-- The speed of a rung is the only one that its relation allows.
use Rattle.std.proofs.Common.{◌≡◌, ℕ, zero, suc, ◌+◌, ◌*◌, ◌<◌, ◌≤◌, false, leb, Some, None, sym, ap, ◌∙◌, inl, inr, mul-le-mul, arith}
use Rattle.std.proofs.lemmas.Bool.{leb-true, leb-false, le-leb, lt-leb, cond_both, cond-true, cond-false, cases_lt}
use Rattle.ladder.specs.Rungs.{rung_square, root_upto, rung_speed, IsRung}

-- a number whose square is smaller than the next square is not greater
root_most : (s v x : ℕ) → s * s ≤ x → x < (v + 1) * (v + 1) → s ≤ v
root_most s v x h k =
    elim (cases_lt v s) [
      | inl l ↦ absurd (let m : (v + 1) * (v + 1) ≤ s * s = mul-le-mul (omega arith) (omega arith) in omega (arith, m, h, k))
      | inr l ↦ l
    ]

root_is : (x v m : ℕ) → v ≤ m → v * v ≤ x → x < (v + 1) * (v + 1) → root_upto x m ≡ v
unfolding root_upto
root_is x v zero l h k = omega arith
root_is x v (suc m) l h k =
    cond_both (leb (suc m * suc m) x) (suc m) (root_upto x m) (λ s. s ≡ v)
    (λ e. omega (arith, root_most (suc m) v x (leb-true (suc m * suc m) x e) k))
    (λ e. root_is x v m (below e) h k)
  where
    below : leb (suc m * suc m) x ≡ false → v ≤ m
    below e =
        elim (cases_lt m v) [
          | inl g ↦ absurd (let s : suc m * suc m ≤ v * v = mul-le-mul (omega arith) (omega arith) in omega (arith, s, h, leb-false (suc m * suc m) x e))
          | inr g ↦ g
        ]

square_above : (v : ℕ) → v ≤ v * v
square_above zero = omega arith
square_above (suc v) = let h : 1 * suc v ≤ suc v * suc v = mul-le-mul (omega arith) (omega arith) in omega (arith, h)

pub speed_some : (n v : ℕ) → n ≤ 280 → IsRung n v → Some v ≡ rung_speed n
unfolding rung_speed
speed_some n v h r =
    let x = rung_square n in
    sym (
    cond-true (leb n 280) (Some (root_upto x x)) None (le-leb n 280 h)
    ∙ ap Some (root_is x v x (omega (arith, square_above v, r.within)) r.within r.next_past)
    )

pub speed_none : (n : ℕ) → 280 < n → None ≡ rung_speed n
unfolding rung_speed
speed_none n h = sym (cond-false (leb n 280) (Some (root_upto (rung_square n) (rung_square n))) None (lt-leb n 280 h))
