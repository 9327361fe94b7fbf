use Rattle.std.proofs.Common.{◌+◌, ◌*◌}
use Rattle.demand.specs.Copied.{graph_of}
use Rattle.demand.specs.Table.{Rows, Spared}
use Rattle.demand.proofs.local.Local.fill.Given as goal

abbrev pub invariant-loop-t : goal.invariant-loop-t
invariant-loop-t l = Rows (graph_of l.self) l.work l.t 0 × Spared ((l.horizon + 1) * 24) l.initial.work l.work
