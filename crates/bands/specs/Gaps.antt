-- Gaps: how many whole ticks every turn of an engine takes at the least that leads from a speed in one band to a
-- speed in another.
use Rattle.std.specs.Prelude.{◌≡◌, ℕ, zero, suc, ◌+◌, ◌-◌, ◌*◌, ◌≤◌, Bool, true, false, cond, ◌&&◌, Some, None, Option, nat_le, nat_lt}

abbrev pub square : ℕ → ℕ
square n = n * n

-- What a gap from band i to band j depends on: the acceleration A and the slowing D, the angle G of a turn, the
-- greatest speed M, and of each band the lower and the upper end.
pub record Pair : Type 0 where
  pub A : ℕ
  pub D : ℕ
  pub G : ℕ
  pub M : ℕ
  pub i : ℕ
  pub j : ℕ
  pub li : ℕ
  pub ui : ℕ
  pub lj : ℕ
  pub uj : ℕ

-- Some turn leads from band i to band j: flat out, the next band up is reached within the angle, or, slowing as
-- hard as may be, the next band down; and a band always leads to itself.
abbrev pub has_gap : Pair → Bool
has_gap x =
    cond (nat_lt x.i x.j) (nat_lt (square x.lj) (square x.ui + 2 * x.A * x.G))
    (cond (nat_lt x.j x.i) (nat_lt (square x.li) (square x.uj + 2 * x.D * x.G)) true)

-- rule 1 applies upward where a turn flat out from the upper end of i stays at or below the upper end of j
abbrev pub rule_1 : Pair → Bool
rule_1 x = nat_lt x.i x.j && nat_le (square x.ui + 2 * x.A * x.G) (square x.uj)

-- rule 2 is its mirror image downward
abbrev pub rule_2 : Pair → Bool
rule_2 x = nat_lt x.j x.i && nat_le (square x.uj + 2 * x.D * x.G) (square x.ui)

-- (A + D) times the square of the peak speed of a turn that rises flat out and then falls
abbrev pub peak : Pair → ℕ
peak x = 2 * x.A * x.D * x.G + x.D * square x.ui + x.A * square x.uj

-- rule 3 applies where that peak is within the greatest speed; rule 4 where it is not
abbrev pub rule_3 : Pair → Bool
rule_3 x = nat_le (peak x) ((x.A + x.D) * square x.M)

-- T ticks are allowed by each rule
abbrev pub allows_1 : Pair → ℕ → Bool
allows_1 x T = nat_le (square (x.A * T + x.ui)) (square x.ui + 2 * x.A * x.G)

abbrev pub allows_2 : Pair → ℕ → Bool
allows_2 x T = nat_le (square (x.D * T + x.uj)) (square x.uj + 2 * x.D * x.G)

abbrev pub allows_3 : Pair → ℕ → Bool
allows_3 x T = nat_le (square (x.A * x.D * T + x.D * x.ui + x.A * x.uj)) ((x.A + x.D) * peak x)

abbrev pub allows_4 : Pair → ℕ → Bool
allows_4 x T =
    nat_le (2 * x.A * x.D * x.M * T)
    (2 * x.A * x.D * x.G + x.D * square (x.M - x.ui) + x.A * square (x.M - x.uj))

-- T ticks are allowed by the first rule that applies
abbrev pub allows : Pair → ℕ → Bool
allows x T = cond (rule_1 x) (allows_1 x T) (cond (rule_2 x) (allows_2 x T) (cond (rule_3 x) (allows_3 x T) (allows_4 x T)))

-- The gap, stated: absent exactly where no turn leads from i to j, and otherwise the greatest whole number that the
-- first applying rule allows, which lies from 1 to 100,000,000.
pub record IsGap (x : Pair) (T : ℕ) : Type 0 where
  pub exists : has_gap x ≡ true
  pub allowed : allows x T ≡ true
  pub greatest : (S : ℕ) → allows x S ≡ true → S ≤ T
  pub least : 1 ≤ T
  pub most : T ≤ 100000000

abbrev pub GapByRules : Pair → Option ℕ → Type 0
GapByRules x None = has_gap x ≡ false
GapByRules x (Some T) = IsGap x T

-- the greatest number up to n that passes a test, or 0
unfoldable pub greatest_upto : (ℕ → Bool) → ℕ → ℕ
greatest_upto test zero = 0
greatest_upto test (suc n) = cond (test (suc n)) (suc n) (greatest_upto test n)

-- the gap, as a value
unfoldable pub gap_value : Pair → Option ℕ
gap_value x = cond (has_gap x) (Some (greatest_upto (allows x) 100000000)) None
