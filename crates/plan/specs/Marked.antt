-- What a field can keep: a fact that is proved in one way.
use Rattle.std.specs.Prelude.{ℕ}
use Rattle.std.specs.Coded.{le_prop}
use Rattle.deck.specs.Cards.{Cards}
use Rattle.deck.specs.EveryRun.{FitsEveryRunAlone}

-- that the cards fit every run up to a horizon is proved in one way
pub fits_prop : (s : Cards) (horizon : ℕ) → IsProp (FitsEveryRunAlone s horizon)
fits_prop s horizon f g i k o cranks clocks run a b below near = le_prop (f k o cranks clocks run a b below near) (g k o cranks clocks run a b below near) i
