use Rattle.demand.specs.Copied.{graph_of}
use Rattle.demand.proofs.Tolds.{NoneBefore}
use Rattle.demand.proofs.filled.Filled.next_place.Given as goal

abbrev pub invariant-loop-u : goal.invariant-loop-u
invariant-loop-u l = NoneBefore (graph_of l.self.local.now) l.self.work.now l.left l.v l.rest l.u
