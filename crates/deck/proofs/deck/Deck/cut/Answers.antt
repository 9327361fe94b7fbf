use Rattle.std.proofs.Common.{◌≡◌, length, set, Some, sym, refl, ap, ◌∙◌}
use Rattle.std.proofs.lemmas.List.{length-set}
use Rattle.table.specs.Ordered.{change_by}
use Rattle.engine.specs.Views.{numbers_of}
use Rattle.deck.specs.Tables.{crank_of, cranks_in, right_card}
use Rattle.deck.specs.Cards.{cards_of}
use Rattle.deck.specs.Calls.{band_refused, with_cut, crank_cut}
use Rattle.deck.proofs.Refused.{cut_told}
use Rattle.deck.proofs.Rights.{every_change, cut_card_right}
use Rattle.deck.proofs.Seen.{stored, changed_seen}
use Rattle.deck.proofs.Decks.{crank_change, cranks_kept, crank_found, stands_in_use, cut_passes}
use Rattle.deck.proofs.deck.Deck.cut.Goals as goal

pub invariant_of-self : goal.invariant_of-self
invariant_of-self c =
    let deck = c.args.self.now in
    let e = numbers_of deck.engine in
    let n = c.args.number in
    let i = c.in-Some-Crank.at in
    let x = c.index-cranks-at.result in
    let y = c.cut.new.self in
    let g = crank_cut c.args.speed in
    let at = rw c.in-Some-Crank.field-0-is at c.in-Some-Crank.ensures in
    let long : length (set deck.cranks.table i y) ≡ 4 = length-set deck.cranks.table i y ∙ deck.cranks.whole in
    let few = deck.cranks.few in
    let right =
    cranks_kept deck (stored crank_of (λ z. z.number) deck.cranks n i at x y long few) (change_by (λ z. z.number) n g (cranks_in deck.cranks)) c.cut.result
    (changed_seen crank_of (λ z. z.number) deck.cranks n i at x y long few g c.cut.result c.cut.ensures.done)
    (λ fine. every_change (right_card e) (λ z. z.number) n g (cranks_in deck.cranks) (λ z found ok. cut_card_right e z c.args.speed (cut_told e z c.args.speed (sym fine ∙ c.cut.ensures.refusal ∙ ap (λ o. band_refused e o c.args.speed) (sym (crank_found deck n i at x) ∙ found))) ok) deck.right)
    in
    ((long, (few, tt)), (right, tt))

pub returns-in-Some-Crank : goal.returns-in-Some-Crank
returns-in-Some-Crank c =
    let deck = c.args.self.now in
    let n = c.args.number in
    let i = c.in-Some-Crank.at in
    let x = c.index-cranks-at.result in
    let y = c.cut.new.self in
    let g = crank_cut c.args.speed in
    let at = rw c.in-Some-Crank.field-0-is at c.in-Some-Crank.ensures in
    record {
      refusal =
          c.cut.ensures.refusal
          ∙ ap (λ o. band_refused (numbers_of deck.engine) o c.args.speed) (sym (crank_found deck n i at x))
          ∙ cut_passes (cards_of deck) n (sym (stands_in_use deck n (Some c.in-Some-Crank.field-0) c.in-Some-Crank.ensures)) c.args.speed;
      done =
          crank_change deck (stored crank_of (λ z. z.number) deck.cranks n i at x y _ _) _ (change_by (λ z. z.number) n g (cranks_in deck.cranks)) (with_cut (cards_of deck) n c.args.speed) refl
          c.cut.result (changed_seen crank_of (λ z. z.number) deck.cranks n i at x y _ _ g c.cut.result c.cut.ensures.done);
    }

pub returns-in-Some-Timed-clause-refusal : goal.returns-in-Some-Timed-clause-refusal
returns-in-Some-Timed-clause-refusal c =
    let deck = c.args.self.now in
    let n = c.args.number in
    let at = rw c.in-Some-Timed.field-0-is at c.in-Some-Timed.ensures in
    ap (λ o. band_refused (numbers_of deck.engine) o c.args.speed) (sym at.0)
    ∙ cut_passes (cards_of deck) n (sym (stands_in_use deck n (Some c.in-Some-Timed.field-0) c.in-Some-Timed.ensures)) c.args.speed
