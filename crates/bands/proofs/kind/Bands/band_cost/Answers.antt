use Rattle.std.proofs.Common.{◌≡◌, sym, subst, arith}
use Rattle.std.proofs.lemmas.Grind.{common_steps}
use Rattle.engine.specs.Views.{numbers_of, parts_of}
use Rattle.bands.specs.Graphs.{band_cost, GreatestCost}
use Rattle.bands.specs.Laws.Lawful.{cost_is}
use Rattle.bands.specs.Laws.Ready.{ready_of}
use Rattle.bands.proofs.kind.Bands.band_cost.Goals as goal

pub returns-in-Some-clause-greatest : goal.returns-in-Some-clause-greatest
returns-in-Some-clause-greatest c =
    let b = c.args.self.now in
    let e = numbers_of b.engine in
    let parts = parts_of b.card in
    let value : c.greatest_cost.result ≡ band_cost e parts c.args.place = grind (arith, common_steps) in
    λ h. subst (GreatestCost e parts c.args.place) (sym value) (cost_is e parts (ready_of b) c.args.place h)
