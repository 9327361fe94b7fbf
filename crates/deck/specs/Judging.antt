-- What a judging answers: the tasks of a plan, and what "fits" and "over" say of their summed demands.
use Rattle.std.specs.Prelude.{◌≡◌, ℕ, ◌+◌, ◌*◌, ◌<◌, ◌≤◌, List, [], ◌∷◌, ◌++◌, map, slice_index}
use Rattle.task.specs.Graph.{Graph}
use Rattle.task.specs.Kinds.{timed_graph, entry_graph, share_graph}
use Rattle.task.specs.Walks.{Total}
use Rattle.engine.specs.Views.{Numbers}
use Rattle.bands.specs.Graphs.{bands_graph}
use Rattle.deck.specs.declared.verdict.Verdict.{Verdict}
use Rattle.deck.specs.declared.verdict.Verdict.TheVariants.{Fits, Over}
use Rattle.deck.specs.Tables.{Crank, Clock}
use Rattle.deck.specs.Cards.{Cards}

-- an engine card is judged with its share over the entry cost over its bands
abbrev pub crank_graph : Numbers → Crank → Graph
crank_graph e c = share_graph c.share (entry_graph e.entry (bands_graph e c.parts))

-- a timed card with the entry cost
abbrev pub clock_graph : Numbers → Clock → Graph
clock_graph e c = entry_graph e.entry (timed_graph c.period c.deadline c.cost)

-- all tasks of a plan, and the guest as it is
abbrev pub tasks : Cards → Graph → List Graph
tasks s guest = map (crank_graph s.engine) s.cranks ++ map (clock_graph s.engine) s.clocks ++ guest ∷ []

-- What a verdict says of tasks judged to a horizon. "Fits" gives the horizon: no total up to it exceeds its t.
-- "Over" gives the least t whose total exceeds it, and that total.
abbrev pub Says : Verdict → List Graph → ℕ → Type 0
Says (Fits h) gs horizon = (h ≡ horizon) × ((t n : ℕ) → t ≤ horizon → Total gs t n → n ≤ t)
Says (Over t n) gs horizon = (t ≤ horizon) × (t < n) × Total gs t n × ((s m : ℕ) → s < t → Total gs s m → m ≤ s)

-- the mark that a verdict sets
abbrev pub mark_of : Verdict → ℕ
mark_of (Fits h) = h
mark_of (Over t n) = 0

-- What a judging leaves: at every t up to the horizon the summed demand of all tasks; no other cell of the totals,
-- and no cell of the worktable past its first 24 * (horizon + 1), has changed; and the verdict is right.
pub record Judged (gs : List Graph) (horizon : ℕ) (work work' totals totals' : List ℕ) (v : Verdict) : Type 0 where
  pub summed : (t : ℕ) → t ≤ horizon → Total gs t (slice_index totals' t)
  pub beyond : (t : ℕ) → horizon < t → slice_index totals' t ≡ slice_index totals t
  pub spare : (i : ℕ) → 24 * (horizon + 1) ≤ i → slice_index work' i ≡ slice_index work i
  pub says : Says v gs horizon
