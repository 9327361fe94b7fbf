use Rattle.demand.specs.Copied.{graph_of}
use Rattle.demand.proofs.Tolds.{place_found}
use Rattle.demand.proofs.filled.Filled.first_place.Goals as goal

pub returns : goal.returns
returns c =
    let filled = c.args.self.now in
    let t = c.args.t in
    place_found (graph_of filled.local.now) t c.args.greatest c.requires.greatest filled.work.now (λ v h. c.requires.full.above t v c.requires.row h)
    c.row.result.now c.row.ensures.count c.row.ensures.cells c.place_of.result c.place_of.ensures
