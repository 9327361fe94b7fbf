use Rattle.std.proofs.Common.{◌≡◌, true, map, sym, ap, ◌∙◌, subst}
use Rattle.table.specs.Few.{items_of}
use Rattle.engine.specs.Limits.{every}
use Rattle.engine.specs.Views.{numbers_of}
use Rattle.deck.specs.Tables.{crank_of, cranks_in, right_card}
use Rattle.deck.specs.Cards.{cards_of}
use Rattle.deck.specs.Calls.{with_cranks}
use Rattle.deck.proofs.Maps.{map_insert}
use Rattle.deck.proofs.Rights.{every_insert}
use Rattle.deck.proofs.deck.Deck.add_crank.Goals as goal

pub invariant_of-self : goal.invariant_of-self
invariant_of-self c =
    let deck = c.args.self.now in
    let added = ap (map crank_of) (c.insert.ensures.items c.requires.room) ∙ map_insert crank_of (λ x. x.number) c.args.card (items_of deck.cranks) in
    record {
      right = subst (λ l. every (right_card (numbers_of deck.engine)) l ≡ true) (sym added)
          (every_insert (right_card (numbers_of deck.engine)) (λ x. x.number) (crank_of c.args.card) (cranks_in deck.cranks) c.requires.right deck.right);
    }

pub returns : goal.returns
returns c =
    let deck = c.args.self.now in
    ap (with_cranks (cards_of deck)) (ap (map crank_of) (c.insert.ensures.items c.requires.room) ∙ map_insert crank_of (λ x. x.number) c.args.card (items_of deck.cranks))
