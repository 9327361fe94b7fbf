-- What a change in one of a deck's tables means for the deck.
use Rattle.std.proofs.Common.{◌≡◌, ℕ, true, List, get_or, is_some, Some, None, Ok, Err, Option, Result, sym, refl, ap, ◌∙◌, subst, MatchResult}
use mathlib.Core.Bool.{Bool-set}
use Rattle.std.proofs.lemmas.Bool.{or_left, or_right}
use Rattle.refusal.specs.declared.Refusal.{Refusal}
use Rattle.refusal.specs.Numbers.{refusal_in}
use Rattle.engine.specs.Limits.{every}
use Rattle.engine.specs.Views.{numbers_of}
use Rattle.deck.specs.declared.cards.CrankCard.{CrankCard}
use Rattle.deck.specs.declared.cards.TimedCard.{TimedCard}
use Rattle.table.specs.declared.few.Few.{Few}
use Rattle.deck.specs.declared.deck.Deck.{Deck}
use Rattle.deck.specs.declared.deck.Place.{Place}
use Rattle.deck.specs.declared.deck.Place.TheVariants as places
use Rattle.deck.specs.Tables.{Crank, Clock, crank_of, clock_of, cranks_in, clocks_in, right_card}
use Rattle.deck.specs.Cards.{Cards, cards_of}
use Rattle.deck.specs.Calls.{in_use, crank_at, clock_at, with_cranks, with_clocks, mode_refused, recost_refused, band_refused, cut_refused, drop_refused}
use Rattle.deck.specs.Found.{AtCrank, AtTimed, StandsAt}
use Rattle.deck.proofs.Seen.{found_seen, some_seen}

abbrev pub CranksRight : Deck → Few CrankCard 4 → Type 0
CranksRight d t = every (right_card (numbers_of d.engine)) (cranks_in t) ≡ true

abbrev pub with_crank_table : (d : Deck) (t : Few CrankCard 4) → CranksRight d t → Deck
with_crank_table d t ok = record { engine = d.engine; cranks = t; timeds = d.timeds; right = ok }

abbrev pub with_timed_table : (d : Deck) → Few TimedCard 16 → CranksRight d d.cranks → Deck
with_timed_table d t ok = record { engine = d.engine; cranks = d.cranks; timeds = t; right = ok }

-- a deck with an equal table is the same deck
pub same_deck : (d : Deck) (t : Few CrankCard 4) (ok : CranksRight d t) → t ≡ d.cranks → with_crank_table d t ok ≡ d
same_deck d t ok p =
    let P : Few CrankCard 4 → Type 0 = λ u. (k : CranksRight d u) → with_crank_table d u k ≡ d in
    subst P (sym p) (λ k. ap (with_crank_table d d.cranks) (Bool-set _ _ k d.right)) ok

module _ (d : Deck) (n i : ℕ) where
  -- the card of a number that is found
  pub crank_found : AtCrank d.cranks n i → (x : CrankCard) → crank_at (cards_of d) n ≡ Some (crank_of (get_or d.cranks.table i x))
  crank_found at x = found_seen crank_of (λ c. c.number) d.cranks n i at x

  pub clock_found : AtTimed d.timeds n i → (x : TimedCard) → clock_at (cards_of d) n ≡ Some (clock_of (get_or d.timeds.table i x))
  clock_found at x = found_seen clock_of (λ c. c.number) d.timeds n i at x

-- a number is in use where its card is found
pub stands_in_use : (d : Deck) (n : ℕ) (p : Option Place) → StandsAt d n p → is_some p ≡ in_use (cards_of d) n
stands_in_use d n (Some (places.Crank i)) at = sym (or_left _ _ (some_seen crank_of (λ c. c.number) d.cranks n i at))
stands_in_use d n (Some (places.Timed i)) at = sym (or_right _ _ (some_seen clock_of (λ c. c.number) d.timeds n i at.1))
stands_in_use d n None at = let one = at.0 in let two = at.1 in rw (one, two)

-- a card that is there passes the first check
module _ (s : Cards) (n : ℕ) (here : in_use s n ≡ true) where
  pub recost_passes : (index cost : ℕ) → mode_refused (crank_at s n) index cost ≡ recost_refused s n index cost
  recost_passes index cost = rw here

  pub cut_passes : (speed : ℕ) → band_refused s.engine (crank_at s n) speed ≡ cut_refused s n speed
  cut_passes speed = rw here

  pub drop_passes : None ≡ drop_refused s n
  drop_passes = rw here

-- the answer of a change in the engine cards' table, seen at the deck
pub crank_change : {U : Type 0} (d : Deck) (t : Few CrankCard 4) (ok : CranksRight d t) (cs : List Crank) (s : Cards) → with_cranks (cards_of d) cs ≡ s → (r : Result U Refusal) → MatchResult r (λ _. cranks_in t ≡ cs) (λ _. t ≡ d.cranks) → MatchResult r (λ _. cards_of (with_crank_table d t ok) ≡ s) (λ _. with_crank_table d t ok ≡ d)
crank_change d t ok cs s e (Ok u) h = ap (with_cranks (cards_of d)) h ∙ e
crank_change d t ok cs s e (Err y) h = same_deck d t ok h

-- and in the timed cards' table
pub clock_change : {U : Type 0} (d : Deck) (t : Few TimedCard 16) (ok : CranksRight d d.cranks) (cs : List Clock) (s : Cards) → with_clocks (cards_of d) cs ≡ s → (r : Result U Refusal) → MatchResult r (λ _. clocks_in t ≡ cs) (λ _. t ≡ d.timeds) → MatchResult r (λ _. cards_of (with_timed_table d t ok) ≡ s) (λ _. with_timed_table d t ok ≡ d)
clock_change d t ok cs s e (Ok u) h = ap (with_clocks (cards_of d)) h ∙ e
clock_change d t ok cs s e (Err y) h =
    ap (λ u. with_timed_table d u ok) h ∙ ap (with_timed_table d d.timeds) (Bool-set _ _ ok d.right)

-- a change keeps the cards right if it does so where it is done
pub cranks_kept : {U : Type 0} (d : Deck) (t : Few CrankCard 4) (cs : List Crank) (r : Result U Refusal) → MatchResult r (λ _. cranks_in t ≡ cs) (λ _. t ≡ d.cranks) → (refusal_in r ≡ None → every (right_card (numbers_of d.engine)) cs ≡ true) → CranksRight d t
cranks_kept d t cs (Ok u) h k = subst (λ l. every (right_card (numbers_of d.engine)) l ≡ true) (sym h) (k refl)
cranks_kept d t cs (Err y) h k = subst (λ u. every (right_card (numbers_of d.engine)) (cranks_in u) ≡ true) (sym h) d.right
