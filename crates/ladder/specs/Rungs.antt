-- The house ladder: 281 rungs, each the greatest whole speed whose square is at most its own bound.
use Rattle.std.specs.Prelude.{ℕ, zero, suc, ◌+◌, ◌*◌, ◌<◌, ◌≤◌, cond, Some, None, Option, nat_le}

-- what the square of a rung's speed may come to
abbrev pub rung_square : ℕ → ℕ
rung_square n = 25000000 + 15000000 * n

-- the greatest number up to m whose square is at most x
unfoldable pub root_upto : ℕ → ℕ → ℕ
root_upto x zero = 0
root_upto x (suc m) = cond (nat_le (suc m * suc m) x) (suc m) (root_upto x m)

-- the speed of a rung: none past rung 280
unfoldable pub rung_speed : ℕ → Option ℕ
rung_speed n = cond (nat_le n 280) (Some (root_upto (rung_square n) (rung_square n))) None

-- v is the greatest whole speed whose square is at most the bound of rung n
pub record IsRung (n v : ℕ) : Type 0 where
  pub within : v * v ≤ 25000000 + 15000000 * n
  pub next_past : 25000000 + 15000000 * n < (v + 1) * (v + 1)

-- what the ladder has at a rung
abbrev pub OnLadder : ℕ → Option ℕ → Type 0
OnLadder n None = 280 < n
OnLadder n (Some v) = (n ≤ 280) × IsRung n v
