-- What the cells of the worktable hold, and the steps by which they come about.
use Rattle.std.specs.Prelude.{◌≡◌, ℕ, ◌+◌, ◌-◌, ◌*◌, ◌^◌, ◌<◌, ◌≤◌, min, ◌⊎◌, List, Some, slice_index}
use Rattle.task.specs.Graph.{Graph}
use Rattle.task.specs.Walks.{Inside, demand_of, Greatest}

-- n is the greatest demand of a walk that starts at p and is inside t, 0 where there is none
pub record Best (g : Graph) (t p n : ℕ) : Type 0 where
  pub reached : (n ≡ 0) ⊎ ((ps : List ℕ) × Inside g t p ps × (demand_of g p ps ≡ n))
  pub bounds : (ps : List ℕ) → Inside g t p ps → demand_of g p ps ≤ n

-- a walk from q that a walk from p can go on with, inside t in all
pub record Onward (g : Graph) (t p q : ℕ) (ps : List ℕ) : Type 0 where
  pub ticks : ℕ
  pub gap : g.gap p q ≡ Some ticks
  pub early : ticks ≤ t
  pub inside : Inside g (t - ticks) q ps

-- n is the greatest demand of a walk that p can go on with and that starts at a place up to k, 0 where there is none
pub record Rest (g : Graph) (t p k n : ℕ) : Type 0 where
  pub reached : (n ≡ 0) ⊎ ((q : ℕ) × (ps : List ℕ) × Onward g t p q ps × (demand_of g q ps ≡ n))
  pub bounds : (q : ℕ) (ps : List ℕ) → q ≤ k → Onward g t p q ps → demand_of g q ps ≤ n

-- n is the greatest demand of a walk that starts at a place up to k and is inside t, 0 where there is none
pub record Most (g : Graph) (t k n : ℕ) : Type 0 where
  pub reached : (n ≡ 0) ⊎ ((p : ℕ) × (ps : List ℕ) × Inside g t p ps × (demand_of g p ps ≡ n))
  pub bounds : (p : ℕ) (ps : List ℕ) → p ≤ k → Inside g t p ps → demand_of g p ps ≤ n

-- the worktable holds every row before row t, and the first k cells of row t
pub record Rows (g : Graph) (work : List ℕ) (t k : ℕ) : Type 0 where
  pub above : (s v : ℕ) → s < t → v < g.places → Best g s (v + 1) (slice_index work (s * 24 + v))
  pub here : (v : ℕ) → v < k → Best g t (v + 1) (slice_index work (t * 24 + v))

-- no cell from place n on has changed
abbrev pub Spared : ℕ → List ℕ → List ℕ → Type 0
Spared n xs xs' = (i : ℕ) → n ≤ i → slice_index xs' i ≡ slice_index xs i

-- every total before place n has grown by the greatest demand at its place
pub record Grown (g : Graph) (n : ℕ) (totals totals' : List ℕ) : Type 0 where
  pub at : (t : ℕ) → t < n → (m : ℕ) × Greatest g t m × (slice_index totals' t ≡ min (slice_index totals t + m) (2 ^ 64 - 1))

-- the cell of row t, column v of the worktable
abbrev pub cell_at : List ℕ → ℕ → ℕ → ℕ
cell_at work t v = slice_index work (t * 24 + v)

-- the greatest cell of row t is n, and where it is not 0 it stands at v
pub record Firsts (g : Graph) (work : List ℕ) (t v n : ℕ) : Type 0 where
  pub greatest : Greatest g t n
  pub here : 1 ≤ n → (v < g.places) × (cell_at work t v ≡ n)

-- a greatest walk from v inside s goes on at u, a gap of d later
pub record Nexts (g : Graph) (work : List ℕ) (s v u d : ℕ) : Type 0 where
  pub place : u < g.places
  pub gap : g.gap (v + 1) (u + 1) ≡ Some d
  pub early : d ≤ s
  pub on : 1 ≤ cell_at work (s - d) u
  pub sum : cell_at work s v ≡ g.cost (v + 1) + cell_at work (s - d) u
