use Rattle.std.proofs.Common.{◌+◌, arith}
use Rattle.task.specs.Graph.{Place}
use Rattle.demand.specs.Copied.{graph_of}
use Rattle.demand.proofs.Bests.{best_late, best_of_rest, rest_most}
use Rattle.demand.proofs.filled.Filled.best.Goals as goal

pub returns-then-stop-self : goal.returns-then-stop-self
returns-then-stop-self c =
    let local = c.args.self.now.local.now in
    best_late (graph_of local) local.lawful c.args.self.now.rows (c.args.v + 1)
    (omega (arith, c.stop-stop.ensures.deadline, c.if-stop-self.true))

pub overflow_add-result : goal.overflow_add-result
overflow_add-result c =
    let local = c.args.self.now.local.now in
    let place : Place (graph_of local) (c.args.v + 1) = (omega arith, omega (arith, c.requires.place)) in
    let most = (local.lawful.costs (c.args.v + 1) place).1 in
    let limit = c.args.self.now.limit in
    omega (
      arith,
      c.stop-stop.ensures.cost,
      rest_most (graph_of local) local.lawful c.args.self.now.rows (c.args.v + 1) local.stops.used c.rest_after.result c.rest_after.ensures,
    )

pub returns : goal.returns
returns c =
    let local = c.args.self.now.local.now in
    best_of_rest (graph_of local) c.args.self.now.rows (c.args.v + 1) c.rest_after.result _ (omega arith, omega (arith, c.requires.place))
    (omega (arith, c.stop-stop.ensures.deadline, c.if-stop-self.false))
    c.rest_after.ensures
    (omega (arith, c.stop-stop.ensures.cost))
