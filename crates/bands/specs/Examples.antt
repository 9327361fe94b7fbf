-- Worked engines and cards, with the answers that their graphs give.
use Rattle.std.specs.Prelude.{◌≡◌, ℕ, List, [], ◌∷◌, ◌++◌, Some, None, Option}
use Rattle.std.specs.List.{AllByRecursion}
use Rattle.task.specs.Graph.{Graph}
use Rattle.engine.specs.declared.card.Mode.{Mode}
use Rattle.engine.specs.Views.{Numbers, Parts, house_engine}
use Rattle.bands.specs.Graphs.{bands_graph}

-- speeds from 100 to 400 steps per tick, rising by 2 and falling by 3 steps per tick per tick
abbrev pub small_engine : Numbers
small_engine = record { least = 100; greatest = 400; rise = 2; fall = 3; entry = 0 }

abbrev mode : ℕ → ℕ → Mode
mode lower cost = record { lower = lower; cost = cost }

-- a card of two modes, 3 ticks from 100 and 1 tick from 300, with two bands, from 100 and from 200
abbrev pub two_bands : Parts
two_bands = record { angle = 1000; modes = mode 100 3 ∷ mode 300 1 ∷ []; bands = 100 ∷ 200 ∷ [] }

-- the same modes with a third band, from 300, at an angle
abbrev pub three_bands : ℕ → Parts
three_bands angle = record { angle = angle; modes = mode 100 3 ∷ mode 300 1 ∷ []; bands = 100 ∷ 200 ∷ 300 ∷ [] }

-- a card of the house engine with a band up to 25,000 and one from there
abbrev pub house_bands : Parts
house_bands = record { angle = 6000000; modes = mode 5000 20 ∷ []; bands = 5000 ∷ 25000 ∷ [] }

abbrev pub two_graph : Graph
two_graph = bands_graph small_engine two_bands

abbrev pub three_graph : Graph
three_graph = bands_graph small_engine (three_bands 1000)

abbrev pub far_graph : Graph
far_graph = bands_graph small_engine (three_bands 12500)

abbrev pub farther_graph : Graph
farther_graph = bands_graph small_engine (three_bands 12501)

abbrev pub house_graph : Graph
house_graph = bands_graph house_engine house_bands

-- an answer of a graph: a gap from a place to a place, a place's cost or a place's deadline
pub data Row : Type 0 where
  gap : Graph → ℕ → ℕ → Option ℕ → Row
  cost : Graph → ℕ → ℕ → Row
  deadline : Graph → ℕ → ℕ → Row

abbrev pub Holds : Row → Type 0
Holds (gap g p q d) = g.gap p q ≡ d
Holds (cost g p n) = g.cost p ≡ n
Holds (deadline g p n) = g.deadline p ≡ n

abbrev pub two_rows : List Row
two_rows =
    gap two_graph 1 1 (Some 4)
    ∷ gap two_graph 1 2 (Some 4)
    ∷ gap two_graph 2 1 (Some 4)
    ∷ gap two_graph 2 2 (Some 2)
    ∷ deadline two_graph 1 4
    ∷ deadline two_graph 2 2
    ∷ cost two_graph 1 3
    ∷ cost two_graph 2 3
    ∷ []

abbrev pub three_rows : List Row
three_rows =
    gap three_graph 1 1 (Some 4)
    ∷ gap three_graph 1 2 (Some 4)
    ∷ gap three_graph 1 3 None
    ∷ gap three_graph 2 1 (Some 4)
    ∷ gap three_graph 2 2 (Some 3)
    ∷ gap three_graph 2 3 (Some 3)
    ∷ gap three_graph 3 1 None
    ∷ gap three_graph 3 2 (Some 3)
    ∷ gap three_graph 3 3 (Some 2)
    ∷ deadline three_graph 1 4
    ∷ deadline three_graph 2 3
    ∷ deadline three_graph 3 2
    ∷ cost three_graph 1 3
    ∷ cost three_graph 2 3
    ∷ cost three_graph 3 1
    ∷ []

-- at an angle of 12,500 the third band is just out of reach of the first
abbrev pub far_rows : List Row
far_rows =
    gap far_graph 1 3 None
    ∷ gap farther_graph 1 3 (Some 50)
    ∷ gap house_graph 1 1 (Some 234)
    ∷ gap house_graph 2 2 (Some 92)
    ∷ []

abbrev pub worked_rows : List Row
worked_rows = two_rows ++ three_rows ++ far_rows

abbrev pub Worked : Type 0
Worked = AllByRecursion Holds worked_rows
