use Rattle.std.proofs.Common.{true, length}
use Rattle.plan.specs.Standing.{sealed_stands}
use Rattle.plan.proofs.Carried.{tell_carries}
use Rattle.plan.proofs.sealed.Sealed.tell.Goals as goal

pub returns-clause-history : goal.returns-clause-history
returns-clause-history g c =
    tell_carries true (sealed_stands c.args.self.now) (g.G.Task.graph c.args.guest.now) c.args.number c.args.window (length c.args.work.now) c.args.jobs.now _ _ c.tell.result c.tell.ensures.refusal c.tell.ensures.told
