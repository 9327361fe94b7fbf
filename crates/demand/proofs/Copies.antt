-- What a local copy says of the graph that it stands for.
use Rattle.std.proofs.Common.{◌≡◌, ℕ, ◌+◌, ◌<◌, ◌≤◌, List, get_or, Some, arith}
use mathlib.Core.Path.{fun_ext}
use Rattle.std.proofs.lemmas.Bool.Decides.{nat_tests}
use Rattle.task.specs.Graph.{Graph, Lawful}
use Rattle.demand.specs.declared.local.Stop.{Stop}
use Rattle.demand.specs.Stops.{no_stop, number_on, gap_on, graph_on, StopOf}

-- what stands at v is the place v + 1 of the graph
pub stop_is : (n : ℕ) (stops : List Stop) (v : ℕ) → v < n → StopOf (graph_on n stops) n (v + 1) (get_or stops v no_stop)
unfolding number_on gap_on
stop_is n stops v h = grind (arith, nat_tests)

same_number : (f : Stop → ℕ) (h : ℕ → ℕ) (n : ℕ) (stops : List Stop) → ((v : ℕ) → v < n → f (get_or stops v no_stop) ≡ h (v + 1))
    → ((p : ℕ) → ((1 ≤ p) × (p ≤ n) → ⊥) → h p ≡ 0) → (p : ℕ) → number_on f n stops p ≡ h p
unfolding number_on
same_number f h n stops at lacking p = grind (arith, nat_tests)

same_gap : (n : ℕ) (stops : List Stop) (g : Graph) → Lawful g → n ≡ g.places → ((v : ℕ) → v < n → StopOf g n (v + 1) (get_or stops v no_stop))
    → (p q : ℕ) → gap_on n stops p q ≡ g.gap p q
unfolding gap_on
same_gap n stops g l e m p q = grind (arith, nat_tests)

-- stops that tell what a graph does at every place stand for the graph itself
pub copy_is : (n : ℕ) (stops : List Stop) (g : Graph) → Lawful g → n ≡ g.places → ((v : ℕ) → v < n → StopOf g n (v + 1) (get_or stops v no_stop))
    → graph_on n stops ≡ g
copy_is n stops g l e m =
    let cs = fun_ext (same_number (λ s. s.cost) g.cost n stops (λ v h. (m v h).cost) (λ p k. l.no_cost p (λ h. k (h.0, omega (arith, h.1))))) in
    let ds = fun_ext (same_number (λ s. s.deadline) g.deadline n stops (λ v h. (m v h).deadline) (λ p k. l.no_deadline p (λ h. k (h.0, omega (arith, h.1))))) in
    let gs = fun_ext (λ p. fun_ext (same_gap n stops g l e m p)) in
    λ i. record { places = e i; cost = cs i; deadline = ds i; gap = gs i }

-- a gap takes at least one tick
pub gap_ticks : (g : Graph) → Lawful g → (v u d : ℕ) → v < g.places → u < g.places → g.gap (v + 1) (u + 1) ≡ Some d → 1 ≤ d
gap_ticks g l v u d h k e = (l.gaps (v + 1) (u + 1) d (omega arith, omega arith) (omega arith, omega arith) e).0
