-- How totals grow while tasks are added one after the other.
use Rattle.std.specs.Prelude.{◌≡◌, ℕ, ◌+◌, ◌*◌, ◌^◌, ◌<◌, ◌≤◌, List, length, slice_index}
use Rattle.demand.specs.Judged.{Within, FirstOver}
use Rattle.deck.specs.declared.verdict.Verdict.{Verdict}
use Rattle.deck.specs.declared.verdict.Verdict.TheVariants.{Fits, Over}
use Rattle.task.specs.Graph.{Graph}
use Rattle.task.specs.Walks.{Total}

-- The totals have grown by the summed demand of these tasks at every t up to the horizon where a cell can hold the
-- sum, and nowhere else.
pub record Grown (gs : List Graph) (horizon : ℕ) (totals totals' : List ℕ) : Type 0 where
  pub at : (t : ℕ) → t ≤ horizon → (n : ℕ) × Total gs t n × (n ≤ length gs * (100000 * t)) × (slice_index totals t + n < 2 ^ 64 → slice_index totals' t ≡ slice_index totals t + n)
  pub beyond : (t : ℕ) → horizon < t → slice_index totals' t ≡ slice_index totals t

-- what a verdict says of the totals themselves
abbrev pub Decides : Verdict → List ℕ → ℕ → Type 0
Decides (Fits h) totals horizon = (h ≡ horizon) × Within totals horizon
Decides (Over t n) totals horizon = FirstOver totals horizon t × (slice_index totals t ≡ n)
