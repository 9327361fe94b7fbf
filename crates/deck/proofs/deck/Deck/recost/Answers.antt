use Rattle.std.proofs.Common.{◌≡◌, length, get_or, set, is_some, Some, sym, ap, ◌∙◌}
use Rattle.std.proofs.lemmas.Bool.{cond-true, cond-false}
use Rattle.std.proofs.lemmas.List.{length-set}
use Rattle.table.specs.Ordered.{change_by}
use Rattle.engine.specs.Views.{numbers_of}
use Rattle.deck.specs.Tables.{crank_of, clock_of, cranks_in, clocks_in, right_card}
use Rattle.deck.specs.Cards.{cards_of}
use Rattle.deck.specs.Calls.{mode_refused, with_recost, crank_recosted, clock_recosted}
use Rattle.deck.proofs.Refused.{recost_told}
use Rattle.deck.proofs.Rights.{every_change, recosted_right}
use Rattle.deck.proofs.Seen.{stored, changed_seen, some_seen}
use Rattle.deck.proofs.Decks.{crank_change, clock_change, cranks_kept, crank_found, stands_in_use, recost_passes}
use Rattle.deck.proofs.deck.Deck.recost.Goals as goal

pub invariant_of-self : goal.invariant_of-self
invariant_of-self c =
    let deck = c.args.self.now in
    let e = numbers_of deck.engine in
    let n = c.args.number in
    let i = c.in-Some-Crank.at in
    let x = c.index-cranks-at.result in
    let y = c.recost.new.self in
    let g = crank_recosted c.args.index c.args.cost in
    let at = rw c.in-Some-Crank.field-0-is at c.in-Some-Crank.ensures in
    let long : length (set deck.cranks.table i y) ≡ 4 = length-set deck.cranks.table i y ∙ deck.cranks.whole in
    let few = deck.cranks.few in
    let right =
    cranks_kept deck (stored crank_of (λ z. z.number) deck.cranks n i at x y long few) (change_by (λ z. z.number) n g (cranks_in deck.cranks)) c.recost.result
    (changed_seen crank_of (λ z. z.number) deck.cranks n i at x y long few g c.recost.result c.recost.ensures.done)
    (λ fine. every_change (right_card e) (λ z. z.number) n g (cranks_in deck.cranks) (λ z found ok. recosted_right e z c.args.index c.args.cost (recost_told (Some (crank_of (get_or deck.cranks.table i x))) c.args.index c.args.cost (sym fine ∙ c.recost.ensures.refusal)) ok) deck.right)
    in
    ((long, (few, tt)), (right, tt))

pub returns-in-Some-Crank : goal.returns-in-Some-Crank
returns-in-Some-Crank c =
    let deck = c.args.self.now in
    let n = c.args.number in
    let i = c.in-Some-Crank.at in
    let x = c.index-cranks-at.result in
    let y = c.recost.new.self in
    let g = crank_recosted c.args.index c.args.cost in
    let at = rw c.in-Some-Crank.field-0-is at c.in-Some-Crank.ensures in
    record {
      refusal =
          c.recost.ensures.refusal
          ∙ ap (λ o. mode_refused o c.args.index c.args.cost) (sym (crank_found deck n i at x))
          ∙ recost_passes (cards_of deck) n (sym (stands_in_use deck n (Some c.in-Some-Crank.field-0) c.in-Some-Crank.ensures)) c.args.index c.args.cost;
      done =
          crank_change deck (stored crank_of (λ z. z.number) deck.cranks n i at x y _ _) _ (change_by (λ z. z.number) n g (cranks_in deck.cranks)) (with_recost (cards_of deck) n c.args.index c.args.cost)
          (sym (cond-true _ _ _ (some_seen crank_of (λ z. z.number) deck.cranks n i at)))
          c.recost.result (changed_seen crank_of (λ z. z.number) deck.cranks n i at x y _ _ g c.recost.result c.recost.ensures.done);
    }

pub returns-in-Some-Timed : goal.returns-in-Some-Timed
returns-in-Some-Timed c =
    let deck = c.args.self.now in
    let n = c.args.number in
    let i = c.in-Some-Timed.at in
    let x = c.index-timeds-at.result in
    let done = c.recost-in-Some-Timed in
    let y = done.new.self in
    let g = clock_recosted c.args.cost in
    let at = rw c.in-Some-Timed.field-0-is at c.in-Some-Timed.ensures in
    record {
      refusal =
          done.ensures.refusal
          ∙ ap (λ o. mode_refused o c.args.index c.args.cost) (sym at.0)
          ∙ recost_passes (cards_of deck) n (sym (stands_in_use deck n (Some c.in-Some-Timed.field-0) c.in-Some-Timed.ensures)) c.args.index c.args.cost;
      done =
          clock_change deck (stored clock_of (λ z. z.number) deck.timeds n i at.1 x y _ _) _ (change_by (λ z. z.number) n g (clocks_in deck.timeds)) (with_recost (cards_of deck) n c.args.index c.args.cost)
          (sym (cond-false _ _ _ (ap is_some at.0)))
          done.result (changed_seen clock_of (λ z. z.number) deck.timeds n i at.1 x y _ _ g done.result done.ensures.done);
    }
