use Rattle.std.proofs.Common.{◌≡◌, ℕ, ◌<◌, ◌≤◌, get_or}
use Rattle.demand.specs.Copied.{graph_of}
use Rattle.demand.specs.Table.{Grown}
use Rattle.demand.proofs.filled.Filled.add_to.Given as goal

-- the totals before t have grown, and those from t on are as they were
abbrev pub invariant-loop-t : goal.invariant-loop-t
invariant-loop-t l =
    Grown (graph_of l.self.local.now) l.t l.fn.totals l.total-items
    × ((i : ℕ) → l.t ≤ i → i < l.t-end → get_or l.total-items i 0 ≡ get_or l.fn.totals i 0)
