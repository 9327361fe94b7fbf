use Rattle.std.proofs.Common.{false, [], sym, ap, subst}
use Rattle.plan.specs.Standing.{changed}
use Rattle.plan.specs.EveryHistory.{Reaches}
use Rattle.plan.proofs.Histories.{new_reached}
use Rattle.plan.proofs.drafted.Draft.new.Goals as goal

pub returns-clause-history : goal.returns-clause-history
returns-clause-history c = subst (Reaches [] false) (sym (ap changed c.new.ensures)) new_reached
