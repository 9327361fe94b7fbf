use Rattle.std.proofs.Common.{◌≡◌, ◌+◌, ◌<◌, ◌≤◌, drop}
use Rattle.demand.specs.Copied.{graph_of}
use Rattle.demand.specs.Table.{cell_at}
use Rattle.demand.proofs.Tolds.{Walked}
use Rattle.demand.proofs.filled.Filled.put_jobs.Given as goal

-- each job takes at least one tick, so that there is room for all of them
abbrev pub invariant-loop-u : goal.invariant-loop-u
invariant-loop-u l = record {
  inside : l.v < l.self.local.now.stops.used;
  time : l.count + l.left ≤ l.window;
  starts : 1 ≤ cell_at l.self.work.now l.left l.v;
  walked : Walked (graph_of l.self.local.now) l.self.work.now l.window l.first l.left l.v l.count l.jobs;
  others : drop l.count l.jobs ≡ drop l.count l.initial.jobs;
}

abbrev pub decreases-loop-u : goal.decreases-loop-u
decreases-loop-u l = l.left
