use Rattle.std.proofs.Common.{ℕ, ◌+◌, ◌<◌, get_or}
use Rattle.demand.specs.Copied.{graph_of}
use Rattle.demand.specs.Table.{Best}
use Rattle.demand.proofs.local.Local.fill_row.Given as goal

abbrev pub invariant-loop-v : goal.invariant-loop-v
invariant-loop-v l = (k : ℕ) → k < l.v → Best (graph_of l.self) l.t (k + 1) (get_or l.cell-items k 0)
