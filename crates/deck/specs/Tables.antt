-- The cards in a plan's tables, as plain numbers and lists.
use Rattle.std.specs.Prelude.{ℕ, Bool, ◌&&◌, List, map}
use Rattle.engine.specs.Limits.{angle_ok, bands_ok}
use Rattle.engine.specs.declared.card.CardParts.{CardParts}
use Rattle.engine.specs.Views.{Numbers, Parts, modes_ok, parts_of, parts_given}
use Rattle.task.specs.declared.kinds.TimedParts.{TimedParts}
use Rattle.deck.specs.declared.cards.CrankCard.{CrankCard}
use Rattle.deck.specs.declared.cards.TimedCard.{TimedCard}
use Rattle.table.specs.declared.few.Few.{Few}
use Rattle.table.specs.Few.{items_of}

-- an engine card: its number, the share of its deadlines in thousandths, and its parts
pub record Crank : Type 0 where
  pub number : ℕ
  pub share : ℕ
  pub parts : Parts

-- a timed card
pub record Clock : Type 0 where
  pub number : ℕ
  pub period : ℕ
  pub deadline : ℕ
  pub cost : ℕ

abbrev pub crank_of : CrankCard → Crank
crank_of c = record { number = c.number; share = c.share.thousandths; parts = parts_of c.card }

abbrev pub clock_of : TimedCard → Clock
clock_of c = record {
  number = c.number;
  period = c.timed.parts.period;
  deadline = c.timed.parts.deadline;
  cost = c.timed.parts.cost;
}

-- cards as a caller gives them
abbrev pub crank_given : ℕ → ℕ → CardParts → Crank
crank_given number share parts = record { number = number; share = share; parts = parts_given parts }

abbrev pub clock_given : ℕ → TimedParts → Clock
clock_given number parts = record { number = number; period = parts.period; deadline = parts.deadline; cost = parts.cost }

abbrev pub cranks_in : Few CrankCard 4 → List Crank
cranks_in t = map crank_of (items_of t)

abbrev pub clocks_in : Few TimedCard 16 → List Clock
clocks_in t = map clock_of (items_of t)

-- an engine card whose parts are right for an engine
abbrev pub right_card : Numbers → Crank → Bool
right_card e c =
    angle_ok e.greatest c.parts.angle
    && (modes_ok e.least e.greatest c.parts.modes && bands_ok e.least e.greatest c.parts.bands)
