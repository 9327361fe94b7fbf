-- Where a card of a number stands in a deck's tables.
use Rattle.std.specs.Prelude.{◌≡◌, ℕ, ◌<◌, Some, None, Option}
use Rattle.table.specs.Found.{First}
use Rattle.deck.specs.declared.cards.CrankCard.{CrankCard}
use Rattle.deck.specs.declared.cards.TimedCard.{TimedCard}
use Rattle.table.specs.declared.few.Few.{Few}
use Rattle.deck.specs.declared.deck.Deck.{Deck}
use Rattle.deck.specs.declared.deck.Place.{Place}
use Rattle.deck.specs.declared.deck.Place.TheVariants as places
use Rattle.deck.specs.Cards.{cards_of}
use Rattle.deck.specs.Calls.{crank_at, clock_at}

-- the card of number n is at index i
abbrev pub AtCrank : Few CrankCard 4 → ℕ → ℕ → Type 0
AtCrank t n i = (i < t.used) × First (λ c. c.number) n t.table i

abbrev pub AtTimed : Few TimedCard 16 → ℕ → ℕ → Type 0
AtTimed t n i = (i < t.used) × First (λ c. c.number) n t.table i

-- the card of number n is at this place, or there is none
abbrev pub StandsAt : Deck → ℕ → Option Place → Type 0
StandsAt d n (Some (places.Crank i)) = AtCrank d.cranks n i
StandsAt d n (Some (places.Timed i)) = (crank_at (cards_of d) n ≡ None) × AtTimed d.timeds n i
StandsAt d n None = (crank_at (cards_of d) n ≡ None) × (clock_at (cards_of d) n ≡ None)
