use Rattle.std.proofs.Common.{ℕ, ◌+◌, ◌<◌, get_or}
use Rattle.demand.specs.Stops.{StopOf, no_stop}
use Rattle.demand.proofs.local.Stop.all.Given as goal

abbrev pub invariant-loop-v : goal.invariant-loop-v
invariant-loop-v g l = (k : ℕ) → k < l.v → StopOf (g.T.Task.graph l.task) l.places (k + 1) (get_or l.stop-items k no_stop)
