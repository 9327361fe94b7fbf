use Rattle.std.proofs.Common.{rules}
use Rattle.plan.specs.Standing.{stands}
use Rattle.plan.specs.History as calls
use Rattle.plan.proofs.Carried.{change_carries}
use Rattle.plan.proofs.drafted.Draft.rung_cut.Goals as goal

pub returns-clause-history : goal.returns-clause-history
returns-clause-history c =
    change_carries (stands c.args.self.now) (stands c.change.new.self) (calls.rung_cut c.args.number c.args.rung) c.change.result (search rules) (search rules)
