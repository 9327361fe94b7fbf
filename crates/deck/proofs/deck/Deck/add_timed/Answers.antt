use Rattle.std.proofs.Common.{map, ap, ◌∙◌}
use Rattle.table.specs.Few.{items_of}
use Rattle.deck.specs.Tables.{clock_of}
use Rattle.deck.specs.Cards.{cards_of}
use Rattle.deck.specs.Calls.{with_clocks}
use Rattle.deck.proofs.Maps.{map_insert}
use Rattle.deck.proofs.deck.Deck.add_timed.Goals as goal

pub returns : goal.returns
returns c =
    let deck = c.args.self.now in
    ap (with_clocks (cards_of deck)) (ap (map clock_of) (c.insert.ensures.items c.requires) ∙ map_insert clock_of (λ x. x.number) c.args.card (items_of deck.timeds))
