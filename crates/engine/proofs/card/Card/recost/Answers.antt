use Rattle.std.proofs.Common.{ap}
use Rattle.engine.specs.Views.{bands_of}
use Rattle.engine.proofs.Lists.{recosted_set}
use Rattle.engine.proofs.card.Card.recost.Goals as goal

pub returns-clause-done : goal.returns-clause-done
returns-clause-done c =
    let card = c.args.self.now in
    ap (λ ms. record { angle = card.angle; modes = ms; bands = bands_of card })
    (recosted_set card.modes.used card.modes.table c.args.index c.args.cost (record { lower = 0; cost = 0 }))
