-- Walks through a task's graph, and the greatest demand of a window's length.
use Rattle.std.specs.Prelude.{◌≡◌, ℕ, ◌+◌, ◌≤◌, ◌⊎◌, List, [], ◌∷◌, Some, None, Option}
use Rattle.task.specs.Graph.{Graph, Place}

-- A walk is a row of one or more places with a gap from each to the next: its first place, then the others.
abbrev pub Walk : Graph → ℕ → List ℕ → Type 0
Walk g p [] = Place g p
Walk g p (q ∷ ps) = Place g p × ((d : ℕ) × (g.gap p q ≡ Some d)) × Walk g q ps

-- the ticks of a gap; an absent gap joins no walk
abbrev pub ticks : Option ℕ → ℕ
ticks None = 0
ticks (Some d) = d

-- the gaps of a walk plus its last deadline
abbrev pub length_of : Graph → ℕ → List ℕ → ℕ
length_of g p [] = g.deadline p
length_of g p (q ∷ ps) = ticks (g.gap p q) + length_of g q ps

-- the sum of a walk's costs
abbrev pub demand_of : Graph → ℕ → List ℕ → ℕ
demand_of g p [] = g.cost p
demand_of g p (q ∷ ps) = g.cost p + demand_of g q ps

-- a walk is inside t if its gaps plus its last deadline are at most t
abbrev pub Inside : Graph → ℕ → ℕ → List ℕ → Type 0
Inside g t p ps = Walk g p ps × (length_of g p ps ≤ t)

-- n is the demand of some walk inside t, or 0 where there is none
abbrev pub Reached : Graph → ℕ → ℕ → Type 0
Reached g t n = ((p : ℕ) × ((ps : List ℕ) × Inside g t p ps × (demand_of g p ps ≡ n))) ⊎ ((n ≡ 0) × ((p : ℕ) (ps : List ℕ) → Inside g t p ps → ⊥))

-- n is the greatest demand of the walks inside t, or 0 where there is none
pub record Greatest (g : Graph) (t n : ℕ) : Type 0 where
  pub reached : Reached g t n
  pub bounds : (p : ℕ) (ps : List ℕ) → Inside g t p ps → demand_of g p ps ≤ n

-- n is the sum, over all tasks, of their greatest demands at t
abbrev pub Total : List Graph → ℕ → ℕ → Type 0
Total [] t n = n ≡ 0
Total (g ∷ gs) t n = (a : ℕ) × (b : ℕ) × Greatest g t a × Total gs t b × (n ≡ a + b)
