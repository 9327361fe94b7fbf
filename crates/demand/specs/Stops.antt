-- The graph that the places of a local copy stand for.
use Rattle.std.specs.Prelude.{◌≡◌, ℕ, ◌+◌, ◌-◌, ◌<◌, Bool, cond, ◌&&◌, List, [], None, Option, nat_le, slice_index_or}
use Rattle.std.specs.Coded.{le_prop, ×_prop, Coded-set, coded_ℕ, coded_option}
use Rattle.task.specs.Graph.{Graph, Lawful}
use Rattle.demand.specs.declared.local.Stop.{Stop}

-- p is one of the places
abbrev pub in_copy : ℕ → ℕ → Bool
in_copy places p = nat_le 1 p && nat_le p places

-- what stands where there is no place
abbrev pub no_stop : Stop
no_stop = record { cost = 0; deadline = 0; gaps = [] }

-- place p stands at p - 1, and its gap to q at q - 1
abbrev pub stop_at : List Stop → ℕ → Stop
stop_at stops p = slice_index_or stops (p - 1) no_stop

-- a number of the stop at a place, 0 where there is none
unfoldable pub number_on : (Stop → ℕ) → ℕ → List Stop → ℕ → ℕ
number_on f places stops p = cond (in_copy places p) (f (stop_at stops p)) 0

unfoldable pub gap_on : ℕ → List Stop → ℕ → ℕ → Option ℕ
gap_on places stops p q = cond (in_copy places p && in_copy places q) (slice_index_or (stop_at stops p).gaps (q - 1) None) None

-- the graph that so many of these stops stand for
abbrev pub graph_on : ℕ → List Stop → Graph
graph_on places stops = record {
  places = places;
  cost = number_on (λ s. s.cost) places stops;
  deadline = number_on (λ s. s.deadline) places stops;
  gap = gap_on places stops;
}

-- the stop of place p, with its gaps to the first n places
pub record StopOf (g : Graph) (n p : ℕ) (stop : Stop) : Type 0 where
  pub cost : stop.cost ≡ g.cost p
  pub deadline : stop.deadline ≡ g.deadline p
  pub gaps : (u : ℕ) → u < n → slice_index_or stop.gaps u None ≡ g.gap p (u + 1)

-- a graph is lawful in one way
pub lawful_prop : (g : Graph) → IsProp (Lawful g)
lawful_prop g a b i = record {
  few = le_prop a.few b.few i;
  costs = λ p h. ×_prop le_prop le_prop (a.costs p h) (b.costs p h) i;
  deadlines = λ p h. ×_prop le_prop le_prop (a.deadlines p h) (b.deadlines p h) i;
  gaps = λ p q d h k e.
      let x = a.gaps p q d h k e in
      let y = b.gaps p q d h k e in
      (le_prop x.0 y.0 i, le_prop x.1 y.1 i, le_prop x.2 y.2 i);
  no_cost = λ p h. Coded-set coded_ℕ _ _ (a.no_cost p h) (b.no_cost p h) i;
  no_deadline = λ p h. Coded-set coded_ℕ _ _ (a.no_deadline p h) (b.no_deadline p h) i;
  no_gap = λ p q h. Coded-set (coded_option coded_ℕ) _ _ (a.no_gap p q h) (b.no_gap p q h) i;
}
