-- The graphs of the kinds that stand alone, and of the layers over any kind.
use Rattle.std.specs.Prelude.{ℕ, ◌+◌, ◌*◌, ◌/◌, min, max, cond, ◌&&◌, Some, None, ◌==◌}
use Rattle.task.specs.Graph.{Graph, is_place}

-- the task that releases nothing
abbrev pub empty_graph : Graph
empty_graph = record { places = 0; cost = λ _. 0; deadline = λ _. 0; gap = λ _ _. None }

-- one place, with one gap to itself
abbrev pub timed_graph : ℕ → ℕ → ℕ → Graph
timed_graph period deadline cost = record {
  places = 1;
  cost = λ p. cond (p == 1) cost 0;
  deadline = λ p. cond (p == 1) deadline 0;
  gap = λ p q. cond (p == 1 && q == 1) (Some period) None;
}

-- a cost raised by the entry cost e, stopping at 100,000
abbrev pub raised : ℕ → ℕ → ℕ
raised e c = min (c + e) 100000

-- the entry layer: every cost is raised
abbrev pub entry_graph : ℕ → Graph → Graph
entry_graph e g = record {
  places = g.places;
  cost = λ p. cond (is_place g p) (raised e (g.cost p)) 0;
  deadline = g.deadline;
  gap = g.gap;
}

-- a deadline times a share in thousandths, rounded down, at least 1
abbrev pub reduced : ℕ → ℕ → ℕ
reduced s d = max (d * s / 1000) 1

-- the share layer: every deadline is reduced
abbrev pub share_graph : ℕ → Graph → Graph
share_graph s g = record {
  places = g.places;
  cost = g.cost;
  deadline = λ p. cond (is_place g p) (reduced s (g.deadline p)) 0;
  gap = g.gap;
}
