use Rattle.std.proofs.Common.{◌∙◌}
use Rattle.deck.proofs.Decks.{stands_in_use}
use Rattle.deck.proofs.deck.Deck.uses.Goals as goal

pub returns : goal.returns
returns c = c.is_some.ensures ∙ stands_in_use c.args.self.now c.args.number c.place.result c.place.ensures
