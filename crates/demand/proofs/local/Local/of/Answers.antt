use Rattle.std.proofs.Common.{sym, subst}
use Rattle.task.specs.Graph.{Lawful}
use Rattle.demand.proofs.Copies.{copy_is}
use Rattle.demand.proofs.local.Local.of.Goals as goal

pub invariant_of-result-2 : goal.invariant_of-result-2
invariant_of-result-2 g c =
    let lawful = g.met.T.Task.lawful c.args.task.now in
    record { lawful = subst Lawful (sym (copy_is c.places-places.result c.all.result (g.T.Task.graph c.args.task.now) lawful c.places-places.ensures c.all.ensures)) lawful }

pub returns : goal.returns
returns g c = copy_is c.places-places.result c.all.result (g.T.Task.graph c.args.task.now) (g.met.T.Task.lawful c.args.task.now) c.places-places.ensures c.all.ensures
