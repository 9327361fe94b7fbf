use Rattle.std.proofs.Common.{sym}
use Rattle.plan.specs.Standing.{stands}
use Rattle.weighing.specs.Turns.{state_of}
use Rattle.weighing.proofs.Turning.{took_end}
use Rattle.weighing.proofs.state.Run.taken.Goals as goal

pub returns-then-ends-clause-turn : goal.returns-then-ends-clause-turn
returns-then-ends-clause-turn c =
    took_end (state_of c.args.self.now) c.args.found.at c.args.found.record (stands c.carry.new.self.scales.plan) c.in-Err.fault c.from.result c.in-Err.ensures.carried (sym c.if-ends.ensures) c.from.ensures
