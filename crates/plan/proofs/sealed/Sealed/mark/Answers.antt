use Rattle.std.proofs.Common.{true, refl}
use Rattle.plan.specs.Standing.{sealed_stands}
use Rattle.plan.proofs.Carried.{mark_carries}
use Rattle.plan.proofs.sealed.Sealed.mark.Goals as goal

pub returns-clause-history : goal.returns-clause-history
returns-clause-history c = mark_carries true (sealed_stands c.args.self.now) c.args.self.now.mark refl
