use Rattle.std.proofs.Common.{refl}
use Rattle.plan.specs.Standing.{stands}
use Rattle.plan.proofs.Carried.{seal_carries}
use Rattle.plan.proofs.drafted.Draft.seal.Goals as goal

pub returns-clause-history : goal.returns-clause-history
returns-clause-history c = seal_carries (stands c.args.self) _ refl
