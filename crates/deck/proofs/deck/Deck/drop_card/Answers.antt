use Rattle.std.proofs.Common.{◌≡◌, true, map, is_some, Some, sym, ap, ◌∙◌, subst}
use Rattle.std.proofs.lemmas.Bool.{cond-true, cond-false}
use Rattle.table.specs.Few.{items_of}
use Rattle.table.proofs.Ordered.{without_first}
use Rattle.engine.specs.Limits.{every}
use Rattle.engine.specs.Views.{numbers_of}
use Rattle.deck.specs.Tables.{crank_of, clock_of, cranks_in, clocks_in, right_card}
use Rattle.deck.specs.Cards.{cards_of}
use Rattle.deck.specs.Calls.{with_cranks, with_clocks}
use Rattle.deck.proofs.Rights.{every_without}
use Rattle.deck.proofs.Maps.{map_remove}
use Rattle.deck.proofs.Seen.{first_seen, some_seen}
use Rattle.deck.proofs.Decks.{stands_in_use, drop_passes}
use Rattle.deck.proofs.deck.Deck.drop_card.Goals as goal

pub invariant_of-self : goal.invariant_of-self
invariant_of-self c =
    let deck = c.args.self.now in
    let at = rw c.in-Some-Crank.field-0-is at c.in-Some-Crank.ensures in
    let test = right_card (numbers_of deck.engine) in
    let same = ap (map crank_of) (c.remove.ensures.items at.0) ∙ map_remove crank_of (items_of deck.cranks) c.in-Some-Crank.at ∙ sym (without_first (λ x. x.number) c.args.number (cranks_in deck.cranks) c.in-Some-Crank.at (first_seen crank_of (λ x. x.number) deck.cranks c.args.number c.in-Some-Crank.at at)) in
    record { right = subst (λ l. every test l ≡ true) (sym same) (every_without test (λ x. x.number) c.args.number (cranks_in deck.cranks) deck.right) }

pub returns-in-Some-Crank : goal.returns-in-Some-Crank
returns-in-Some-Crank c =
    let deck = c.args.self.now in
    let n = c.args.number in
    let i = c.in-Some-Crank.at in
    let at = rw c.in-Some-Crank.field-0-is at c.in-Some-Crank.ensures in
    record {
      refusal = drop_passes (cards_of deck) n (sym (stands_in_use deck n (Some c.in-Some-Crank.field-0) c.in-Some-Crank.ensures));
      done =
          ap (with_cranks (cards_of deck)) (ap (map crank_of) (c.remove.ensures.items at.0) ∙ map_remove crank_of (items_of deck.cranks) i ∙ sym (without_first (λ x. x.number) n (cranks_in deck.cranks) i (first_seen crank_of (λ x. x.number) deck.cranks n i at)))
          ∙ sym (cond-true _ _ _ (some_seen crank_of (λ x. x.number) deck.cranks n i at));
    }

pub returns-in-Some-Timed : goal.returns-in-Some-Timed
returns-in-Some-Timed c =
    let deck = c.args.self.now in
    let n = c.args.number in
    let i = c.in-Some-Timed.at in
    let at = rw c.in-Some-Timed.field-0-is at c.in-Some-Timed.ensures in
    record {
      refusal = drop_passes (cards_of deck) n (sym (stands_in_use deck n (Some c.in-Some-Timed.field-0) c.in-Some-Timed.ensures));
      done =
          ap (with_clocks (cards_of deck)) (ap (map clock_of) (c.remove-in-Some-Timed.ensures.items at.1.0) ∙ map_remove clock_of (items_of deck.timeds) i ∙ sym (without_first (λ x. x.number) n (clocks_in deck.timeds) i (first_seen clock_of (λ x. x.number) deck.timeds n i at.1)))
          ∙ sym (cond-false _ _ _ (ap is_some at.0));
    }
