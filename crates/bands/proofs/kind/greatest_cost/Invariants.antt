use Rattle.std.proofs.Common.{◌≡◌, max, length}
use Rattle.bands.specs.Graphs.{cost_between}
use Rattle.bands.proofs.kind.greatest_cost.Given as goal

abbrev pub invariant-loop-rest : goal.invariant-loop-rest
invariant-loop-rest l =
    max l.cost (cost_between l.top l.band.low l.band.high l.rest) ≡ cost_between l.top l.band.low l.band.high l.modes

abbrev pub decreases-loop-rest : goal.decreases-loop-rest
decreases-loop-rest l = length l.rest
