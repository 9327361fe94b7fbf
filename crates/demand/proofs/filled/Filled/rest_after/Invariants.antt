use Rattle.std.proofs.Common.{◌+◌}
use Rattle.demand.specs.Copied.{graph_of}
use Rattle.demand.specs.Table.{Rest}
use Rattle.demand.proofs.filled.Filled.rest_after.Given as goal

abbrev pub invariant-loop-u : goal.invariant-loop-u
invariant-loop-u l = Rest (graph_of l.self.local.now) l.t (l.v + 1) l.u l.rest
