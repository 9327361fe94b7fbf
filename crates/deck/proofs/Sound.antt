-- Cards within all limits: what every deck holds, and what every accepted change keeps.
use Rattle.std.proofs.Common.{◌≡◌, ℕ, ◌≤◌, Bool, true, ◌&&◌, ltb, leb, List, [], ◌∷◌, map, take, refl, arith}
use Rattle.std.proofs.lemmas.Bool.{and_parts, and_from, le-leb, lt-ltb, leb-true, ltb-true}
use Rattle.engine.specs.declared.engine.Engine.{Engine}
use Rattle.engine.specs.Limits.{engine_ok, between, every}
use Rattle.engine.specs.Views.{Numbers, numbers_of}
use Rattle.bands.specs.Laws.Ready.{Ready}
use Rattle.deck.specs.declared.cards.CrankCard.{CrankCard}
use Rattle.deck.specs.declared.cards.TimedCard.{TimedCard}
use Rattle.deck.specs.declared.deck.Deck.{Deck}
use Rattle.deck.specs.Tables.{Crank, crank_of, clock_of, right_card}
use Rattle.deck.specs.Cards.{Cards, cards_of}
use Rattle.deck.specs.Calls.{clock_ok}
use Rattle.deck.proofs.Rights.{right_parts}

abbrev pub numbers_ok : Numbers → Bool
numbers_ok e = engine_ok e.least e.greatest e.rise e.fall e.entry

-- an engine card whose parts and share are right
abbrev pub crank_ok : Numbers → Crank → Bool
crank_ok e c = right_card e c && between 1 1000 c.share

pub record Sound (s : Cards) : Type 0 where
  pub engine : numbers_ok s.engine ≡ true
  pub cranks : every (crank_ok s.engine) s.cranks ≡ true
  pub clocks : every clock_ok s.clocks ≡ true

-- a test of limits, and what it says
pub between_from : (low high x : ℕ) → low ≤ x → x ≤ high → between low high x ≡ true
between_from low high x a b = and_from (leb low x) (leb x high) (le-leb low x a) (le-leb x high b)

pub between_says : (low high x : ℕ) → between low high x ≡ true → (low ≤ x) × (x ≤ high)
between_says low high x h =
    let parts = and_parts (leb low x) (leb x high) h in
    (leb-true low x parts.0, leb-true x high parts.1)

-- ---- the cards of a deck are sound
pub engine_sound : (e : Engine) → numbers_ok (numbers_of e) ≡ true
engine_sound e =
    and_from _ _ (le-leb 1 e.least e.turns)
    (and_from _ _ (lt-ltb e.least e.greatest e.varies)
    (and_from _ _ (le-leb e.greatest 150000 e.bounded)
    (and_from _ _ (between_from 1 500 e.rise e.rises e.sharpest)
    (and_from _ _ (between_from 1 500 e.fall e.falls e.hardest) (le-leb e.entry.ticks 1000 e.entry.most)))))

cranks_sound : (e : Numbers) (xs : List CrankCard) → every (right_card e) (map crank_of xs) ≡ true → every (crank_ok e) (map crank_of xs) ≡ true
cranks_sound e [] h = refl
cranks_sound e (x ∷ xs) h =
    let parts = and_parts (right_card e (crank_of x)) (every (right_card e) (map crank_of xs)) h in
    and_from _ _
    (and_from _ _ parts.0 (between_from 1 1000 x.share.thousandths x.share.least x.share.most))
    (cranks_sound e xs parts.1)

clocks_sound : (xs : List TimedCard) → every clock_ok (map clock_of xs) ≡ true
clocks_sound [] = refl
clocks_sound (x ∷ xs) =
    let timed = x.timed in
    let t = timed.parts in
    let few : 1 ≤ t.period = omega (arith, timed.deadline_least, timed.deadline_most) in
    and_from _ _
    (and_from _ _ (between_from 1 100000000 t.period few timed.period_most)
    (and_from _ _ (between_from 1 t.period t.deadline timed.deadline_least timed.deadline_most) (between_from 1 100000 t.cost timed.cost_least timed.cost_most)))
    (clocks_sound xs)

pub deck_sound : (d : Deck) → Sound (cards_of d)
deck_sound d = record {
  engine = engine_sound d.engine;
  cranks = cranks_sound (numbers_of d.engine) (take d.cranks.used d.cranks.table) d.right;
  clocks = clocks_sound (take d.timeds.used d.timeds.table);
}

-- ---- a sound card is ready for its gaps
pub ready_card : (e : Numbers) (c : Crank) → numbers_ok e ≡ true → right_card e c ≡ true → Ready e c.parts
ready_card e c ok h =
    let r = right_parts e c h in
    let one = and_parts (leb 1 e.least) _ ok in
    let two = and_parts (ltb e.least e.greatest) _ one.1 in
    let three = and_parts (leb e.greatest 150000) _ two.1 in
    let four = and_parts (between 1 500 e.rise) _ three.1 in
    let five = and_parts (between 1 500 e.fall) _ four.1 in
    let rise = between_says 1 500 e.rise four.0 in
    let fall = between_says 1 500 e.fall five.0 in
    record {
      angle = r.0;
      modes = r.1;
      bands = r.2;
      turns = leb-true 1 e.least one.0;
      varies = ltb-true e.least e.greatest two.0;
      bounded = leb-true e.greatest 150000 three.0;
      rises = rise.0;
      sharpest = rise.1;
      falls = fall.0;
      hardest = fall.1;
    }
