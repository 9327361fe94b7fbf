use Rattle.std.proofs.Common.{false, refl}
use Rattle.plan.specs.Standing.{stands}
use Rattle.plan.proofs.Carried.{mark_carries}
use Rattle.plan.proofs.drafted.Draft.mark.Goals as goal

pub returns-clause-history : goal.returns-clause-history
returns-clause-history c = mark_carries false (stands c.args.self.now) c.args.self.now.mark refl
