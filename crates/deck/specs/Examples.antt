-- All worked examples in one table: the answers of worked engine cards, and the verdicts on worked plans.
use Rattle.std.specs.Prelude.{ℕ, ◌≤◌, List, [], ◌∷◌, ◌++◌, map}
use Rattle.std.specs.List.{AllByRecursion}
use Rattle.task.specs.Kinds.{empty_graph}
use Rattle.engine.specs.Views.{Numbers}
use Rattle.bands.specs.Examples.{three_bands, worked_rows, Row as Answer, Holds as Answered}
use Rattle.deck.specs.declared.verdict.Verdict.{Verdict}
use Rattle.deck.specs.declared.verdict.Verdict.TheVariants.{Fits, Over}
use Rattle.deck.specs.Cards.{Cards}
use Rattle.deck.specs.Judging.{tasks, Says}

-- the small engine with an entry cost
abbrev pub small_with : ℕ → Numbers
small_with entry = record { least = 100; greatest = 400; rise = 2; fall = 3; entry = entry }

-- a plan of that engine whose one card has the bands from 100, from 200 and, after a cut, from 300, at a share
abbrev pub one_card : ℕ → ℕ → Cards
one_card entry share = record {
  engine = small_with entry;
  cranks = record { number = 7; share = share; parts = three_bands 1000 } ∷ [];
  clocks = [];
}

-- a worked example: an answer of a card's graph, or the verdict on a plan
pub data Row : Type 0 where
  answer : Answer → Row
  verdict : Cards → Verdict → Row

-- the verdict on a plan with the empty guest: "fits" at its horizon, "over" at every horizon that reaches its t
abbrev pub Judges : Cards → Verdict → Type 0
Judges s (Fits h) = Says (Fits h) (tasks s empty_graph) h
Judges s (Over t n) = (horizon : ℕ) → t ≤ horizon → horizon ≤ 20000 → Says (Over t n) (tasks s empty_graph) horizon

abbrev pub Holds : Row → Type 0
Holds (answer a) = Answered a
Holds (verdict s v) = Judges s v

abbrev pub verdict_rows : List Row
verdict_rows = verdict (one_card 1 1000) (Over 3 4) ∷ verdict (one_card 0 500) (Over 1 3) ∷ []

abbrev pub table_rows : List Row
table_rows = map answer worked_rows ++ verdict_rows

abbrev pub WorkedTable : Type 0
WorkedTable = AllByRecursion Holds table_rows
