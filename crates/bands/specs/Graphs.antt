-- An engine card's bands as a task: each band is a place.
use Rattle.std.specs.Prelude.{◌≡◌, ℕ, zero, suc, ◌+◌, ◌-◌, ◌<◌, ◌≤◌, min, max, Bool, cond, ◌&&◌, ◌⊎◌, List, [], ◌∷◌, length, drop, Some, None, Option, nat_le, nat_lt, slice_index, slice_index_or}
use Rattle.task.specs.Graph.{Graph}
use Rattle.task.specs.Walks.{ticks}
use Rattle.engine.specs.declared.card.Mode.{Mode}
use Rattle.engine.specs.Views.{Numbers, Parts}
use Rattle.bands.specs.Gaps.{Pair, gap_value}

-- the ends of a card's p-th band; the last band ends at the greatest speed
abbrev pub lower_end : Parts → ℕ → ℕ
lower_end c p = slice_index c.bands (p - 1)

abbrev pub upper_end : Numbers → Parts → ℕ → ℕ
upper_end e c p = slice_index_or c.bands p e.greatest

abbrev pub pair_at : Numbers → Parts → ℕ → ℕ → Pair
pair_at e c p q = record {
  A = e.rise;
  D = e.fall;
  G = c.angle;
  M = e.greatest;
  i = p;
  j = q;
  li = lower_end c p;
  ui = upper_end e c p;
  lj = lower_end c q;
  uj = upper_end e c q;
}

abbrev pub band_here : Parts → ℕ → Bool
band_here c p = nat_le 1 p && nat_le p (length c.bands)

abbrev pub band_gap : Numbers → Parts → ℕ → ℕ → Option ℕ
band_gap e c p q = cond (band_here c p && band_here c q) (gap_value (pair_at e c p q)) None

-- A speed lies in a range from a lower end up to, and not including, an upper end; the last range includes the
-- greatest speed M.
abbrev pub InRange : ℕ → ℕ → ℕ → ℕ → Type 0
InRange M lower upper v = (lower ≤ v) × ((v < upper) ⊎ ((upper ≡ M) × (v ≡ M)))

-- where the first range of a list of modes begins, or M where there is none
abbrev pub next_lower : ℕ → List Mode → ℕ
next_lower M [] = M
next_lower M (x ∷ xs) = x.lower

-- the k-th mode of a list, counted from 0, and where its range ends
abbrev pub mode_at : List Mode → ℕ → Mode
mode_at ms k = slice_index_or ms k (record { lower = 0; cost = 0 })

abbrev pub mode_end : ℕ → List Mode → ℕ → ℕ
mode_end M ms k = next_lower M (drop (k + 1) ms)

-- the k-th mode's range shares a speed with the p-th band
abbrev pub Meets : Numbers → Parts → ℕ → ℕ → Type 0
Meets e c p k =
    (v : ℕ) × InRange e.greatest (mode_at c.modes k).lower (mode_end e.greatest c.modes k) v
    × InRange e.greatest (lower_end c p) (upper_end e c p) v

-- n is the greatest cost of the modes that share a speed with the p-th band
pub record GreatestCost (e : Numbers) (c : Parts) (p n : ℕ) : Type 0 where
  pub reached : (k : ℕ) × (k < length c.modes) × Meets e c p k × ((mode_at c.modes k).cost ≡ n)
  pub bounds : (k : ℕ) → k < length c.modes → Meets e c p k → (mode_at c.modes k).cost ≤ n

-- two ranges with whole ends share a speed if the greater lower end is below the lesser upper end
abbrev pub has_shared_speed : ℕ → ℕ → ℕ → ℕ → Bool
has_shared_speed low high low' high' = nat_lt (max low low') (min high high')

-- the same greatest cost, as a value
abbrev pub cost_between : ℕ → ℕ → ℕ → List Mode → ℕ
cost_between M low high [] = 0
cost_between M low high (x ∷ xs) =
    max (cond (has_shared_speed low high x.lower (next_lower M xs)) x.cost 0) (cost_between M low high xs)

abbrev pub band_cost : Numbers → Parts → ℕ → ℕ
band_cost e c p = cond (band_here c p) (cost_between e.greatest (lower_end c p) (upper_end e c p) c.modes) 0

-- d is the least gap that leaves the p-th band
pub record LeastGap (e : Numbers) (c : Parts) (p d : ℕ) : Type 0 where
  pub reached : (q : ℕ) × (band_gap e c p q ≡ Some d)
  pub bounds : (q n : ℕ) → band_gap e c p q ≡ Some n → d ≤ n

-- the lesser of two gaps, of which either may be absent
abbrev pub lesser : Option ℕ → Option ℕ → Option ℕ
lesser None b = b
lesser (Some x) None = Some x
lesser (Some x) (Some y) = Some (min x y)

-- the least gap from p to a band up to the n-th
abbrev pub least_leaving : Numbers → Parts → ℕ → ℕ → Option ℕ
least_leaving e c p zero = None
least_leaving e c p (suc n) = lesser (least_leaving e c p n) (band_gap e c p (suc n))

-- the same least gap, as a value
abbrev pub band_deadline : Numbers → Parts → ℕ → ℕ
band_deadline e c p = ticks (least_leaving e c p (length c.bands))

abbrev pub bands_graph : Numbers → Parts → Graph
bands_graph e c = record {
  places = length c.bands;
  cost = band_cost e c;
  deadline = band_deadline e c;
  gap = band_gap e c;
}
