use Rattle.std.proofs.Common.{subst}
use Rattle.task.specs.Graph.{Graph}
use Rattle.demand.specs.Copied.{graph_of}
use Rattle.demand.specs.Told.{Tells}
use Rattle.demand.proofs.Tolds.{tells_none}
use Rattle.demand.proofs.walk.greatest_walk.Goals as goal

pub returns-in-None-clause-told : goal.returns-in-None-clause-told
returns-in-None-clause-told g c =
    let local = c.of-local.result in
    let jobs = c.args.jobs.now in
    subst (λ (a : Graph). Tells a c.args.window jobs jobs 0 c.greatest-demand.result) c.of-local.ensures
    (tells_none (graph_of local) local.lawful c.args.window c.greatest-demand.result jobs c.greatest-demand.ensures c.in-None.ensures)
