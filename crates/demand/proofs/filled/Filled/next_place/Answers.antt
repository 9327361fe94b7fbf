use Rattle.std.proofs.Common.{◌-◌, get_or, arith}
use Rattle.demand.specs.Copied.{graph_of}
use Rattle.demand.proofs.Tolds.{cell_cost, rest_found}
use Rattle.demand.proofs.filled.Filled.next_place.Goals as goal

pub overflow_sub-rest : goal.overflow_sub-rest
overflow_sub-rest c =
    let filled = c.args.self.now in
    let least = cell_cost (graph_of filled.local.now) filled.work.now filled.rows c.args.left c.args.v c.requires.full c.requires.row c.requires.place c.requires.starts in
    omega (arith, c.stop-stop.ensures.cost, c.row.ensures.cells c.args.v c.requires.place)

pub returns-then-rest-eq0 : goal.returns-then-rest-eq0
returns-then-rest-eq0 c =
    let filled = c.args.self.now in
    let least = cell_cost (graph_of filled.local.now) filled.work.now filled.rows c.args.left c.args.v c.requires.full c.requires.row c.requires.place c.requires.starts in
    omega (arith, c.stop-stop.ensures.cost, c.row.ensures.cells c.args.v c.requires.place, c.if-rest-eq0.true)

pub returns : goal.returns
returns c =
    let filled = c.args.self.now in
    let graph = graph_of filled.local.now in
    let left = c.args.left in
    let v = c.args.v in
    let rest = get_or c.row.result.now v 0 - c.stop-stop.result.now.cost in
    let least = cell_cost graph filled.work.now filled.rows left v c.requires.full c.requires.row c.requires.place c.requires.starts in
    let cost = c.stop-stop.ensures.cost in
    let cell = c.row.ensures.cells v c.requires.place in
    absurd (rest_found graph filled.work.now filled.rows left v rest c.requires.place c.requires.row c.requires.full (omega arith) (omega (arith, c.if-rest-eq0.false)) (λ u h. c.loop-u.invariant u (omega arith)))
