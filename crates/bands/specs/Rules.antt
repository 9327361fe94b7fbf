-- The limits within which the rules of a gap are asked.
use Rattle.std.specs.Prelude.{◌≡◌, ℕ, ◌+◌, ◌-◌, ◌*◌, ◌<◌, ◌≤◌, Bool, true, false}
use Rattle.bands.specs.Gaps.{Pair, square}

-- D(M - ui)² + A(M - uj)²
abbrev pub lacks : Pair → ℕ
lacks x = x.D * square (x.M - x.ui) + x.A * square (x.M - x.uj)

-- r is the greatest number that passes a test which all smaller numbers pass
pub record Last (test : ℕ → Bool) (r : ℕ) : Type 0 where
  pub within : test r ≡ true
  pub past : test (r + 1) ≡ false

-- the same turn seen backward: the bands change places, and a rise is a fall
abbrev pub mirrored : Pair → Pair
mirrored x = record { A = x.D; D = x.A; G = x.G; M = x.M; i = x.j; j = x.i; li = x.lj; ui = x.uj; lj = x.li; uj = x.ui }

-- a pair of bands of one engine
pub record Fits (x : Pair) : Type 0 where
  pub rise_least : 1 ≤ x.A
  pub rise_most : x.A ≤ 500
  pub fall_least : 1 ≤ x.D
  pub fall_most : x.D ≤ 500
  pub speed_most : x.M ≤ 150000
  pub angle_least : x.M ≤ x.G
  pub angle_most : x.G ≤ 24000000
  pub from_low : x.li ≤ x.M
  pub from_least : 1 ≤ x.ui
  pub from_most : x.ui ≤ x.M
  pub to_low : x.lj ≤ x.M
  pub to_least : 1 ≤ x.uj
  pub to_most : x.uj ≤ x.M
  pub up : x.i < x.j → x.ui ≤ x.uj
  pub down : x.j < x.i → x.uj ≤ x.ui
  pub same : x.i ≡ x.j → x.ui ≡ x.uj
