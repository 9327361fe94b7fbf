use Rattle.std.proofs.Common.{false, length}
use Rattle.plan.specs.Standing.{stands}
use Rattle.plan.proofs.Carried.{tell_carries}
use Rattle.plan.proofs.drafted.Draft.tell.Goals as goal

pub returns-clause-history : goal.returns-clause-history
returns-clause-history g c =
    tell_carries false (stands c.args.self.now) (g.G.Task.graph c.args.guest.now) c.args.number c.args.window (length c.args.work.now) c.args.jobs.now _ _ c.tell.result c.tell.ensures.refusal c.tell.ensures.told
