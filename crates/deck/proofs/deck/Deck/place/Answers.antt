use Rattle.std.proofs.Common.{take, subst}
use Rattle.table.specs.Found.{First}
use Rattle.deck.specs.Tables.{crank_of, clock_of}
use Rattle.deck.proofs.Maps.{lacks_seen}
use Rattle.deck.proofs.deck.Deck.place.Goals as goal

pub returns : goal.returns
returns c =
    let deck = c.args.self.now in
    let at = c.in_ok-at.ensures in
    (lacks_seen crank_of (λ x. x.number) c.args.number _ (take deck.cranks.used deck.cranks.table) c.from-key.ensures c.in_default.ensures, (at.0, subst (λ k. First (λ x. x.number) k deck.timeds.table c.in_ok-at.at) c.from-key.ensures at.1))

pub returns-in_err-at : goal.returns-in_err-at
returns-in_err-at c =
    let deck = c.args.self.now in
    rw c.from_residual.ensures (
      lacks_seen crank_of (λ x. x.number) c.args.number _ (take deck.cranks.used deck.cranks.table) c.from-key.ensures c.in_default.ensures,
      lacks_seen clock_of (λ x. x.number) c.args.number _ (take deck.timeds.used deck.timeds.table) c.from-key.ensures c.in_err-at.ensures,
    )
