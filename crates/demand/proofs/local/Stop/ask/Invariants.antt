use Rattle.std.proofs.Common.{◌≡◌, ℕ, ◌+◌, ◌<◌, get_or, None}
use Rattle.demand.proofs.local.Stop.ask.Given as goal

abbrev pub invariant-loop-u : goal.invariant-loop-u
invariant-loop-u g l = (k : ℕ) → k < l.u → get_or l.gap-items k None ≡ (g.T.Task.graph l.task).gap l.place (k + 1)
