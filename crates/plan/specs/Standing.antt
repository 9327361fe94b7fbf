-- What stands in a plan: its engine, its cards and its mark.
use Rattle.std.specs.Prelude.{ℕ, []}
use Rattle.engine.specs.Views.{house_engine}
use Rattle.deck.specs.Cards.{Cards, cards_of}
use Rattle.plan.specs.declared.drafted.Draft.{Draft}
use Rattle.plan.specs.declared.sealed.Sealed.{Sealed}

-- The mark is the horizon to which the cards were judged to fit since the last change, 0 where they were not.
pub record Standing : Type 0 where
  pub cards : Cards
  pub mark : ℕ

-- a new plan: the house engine, no card, mark 0
abbrev pub new_plan : Standing
new_plan = record { cards = record { engine = house_engine; cranks = []; clocks = [] }; mark = 0 }

-- a change sets the mark to 0
abbrev pub changed : Cards → Standing
changed s = record { cards = s; mark = 0 }

abbrev pub stands : Draft → Standing
stands d = record { cards = cards_of d.deck; mark = d.mark }

abbrev pub sealed_stands : Sealed → Standing
sealed_stands d = record { cards = cards_of d.deck; mark = d.mark }
