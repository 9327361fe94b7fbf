use Rattle.std.proofs.Common.{subst}
use Rattle.task.specs.Graph.{Graph}
use Rattle.demand.specs.Copied.{graph_of}
use Rattle.demand.specs.Judged.{Added}
use Rattle.demand.proofs.Tables.{added_from}
use Rattle.demand.proofs.add.Goals as goal

pub returns-clause-added : goal.returns-clause-added
returns-clause-added g c =
    let work = c.args.work.now in
    let totals = c.args.totals.now in
    subst (λ (a : Graph). Added a c.args.horizon work c.fill.new.work totals c.add_to.new.totals)
    c.of-local.ensures
    (added_from (graph_of c.of-local.result) c.args.horizon work c.fill.new.work totals c.add_to.new.totals
    c.fill.ensures.spare c.add_to.ensures.grown c.add_to.ensures.beyond)
