-- Turns and bands of the program as the pairs and the ends that the rules speak of.
use Rattle.std.specs.Prelude.{◌≡◌, ℕ, true, false, cond, ◌&&◌, Some, None, Option}
use Rattle.engine.specs.Views.{Numbers, Parts}
use Rattle.bands.specs.Gaps.{Pair}
use Rattle.bands.specs.Graphs.{lower_end, upper_end, pair_at, band_here}
use Rattle.bands.specs.declared.gaps.Band.{Band}
use Rattle.bands.specs.declared.gaps.Turn.{Turn}

-- a turn as the pair of bands between which it leads
abbrev pub pair_of : Turn → Pair
pair_of t = record {
  A = t.rise;
  D = t.fall;
  G = t.angle;
  M = t.top;
  i = t.from.number;
  j = t.to.number;
  li = t.from.low;
  ui = t.from.high;
  lj = t.to.low;
  uj = t.to.high;
}

-- the p-th band of a card; none where there is no band of that number
abbrev pub band_at : Numbers → Parts → ℕ → Option Band
band_at e c p = cond (band_here c p) (Some (record { number = p; low = lower_end c p; high = upper_end e c p })) None

-- t is the turn from the p-th band of a card to the q-th; none where either is lacking
abbrev pub IsTurn : Numbers → Parts → ℕ → ℕ → Option Turn → Type 0
IsTurn e c p q None = (band_here c p && band_here c q) ≡ false
IsTurn e c p q (Some t) = ((band_here c p && band_here c q) ≡ true) × (pair_of t ≡ pair_at e c p q)
