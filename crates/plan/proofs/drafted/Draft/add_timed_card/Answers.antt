use Rattle.std.proofs.Common.{rules}
use Rattle.deck.specs.Tables.{clock_given}
use Rattle.plan.specs.Standing.{stands}
use Rattle.plan.specs.History as calls
use Rattle.plan.proofs.Carried.{change_carries}
use Rattle.plan.proofs.drafted.Draft.add_timed_card.Goals as goal

pub returns-clause-history : goal.returns-clause-history
returns-clause-history c =
    change_carries (stands c.args.self.now) (stands c.change.new.self) (calls.add_timed_card (clock_given c.args.number c.args.parts)) c.change.result (search rules) (search rules)
