-- What a task tells of itself: a directed graph of places, in whole ticks.
use Rattle.std.specs.Prelude.{◌≡◌, ℕ, ◌≤◌, Bool, ◌&&◌, Some, None, Option, nat_le}

-- places count from 1; a gap is the least time from a release at one place to the next release at the other
pub record Graph : Type 0 where
  pub places : ℕ
  pub cost : ℕ → ℕ
  pub deadline : ℕ → ℕ
  pub gap : ℕ → ℕ → Option ℕ

-- p is a place of the task
abbrev pub Place : Graph → ℕ → Type 0
Place g p = (1 ≤ p) × (p ≤ g.places)

-- the same, as a test
abbrev pub is_place : Graph → ℕ → Bool
is_place g p = nat_le 1 p && nat_le p g.places

-- the limits of every answer, and what is answered for a place that the task lacks
pub record Lawful (g : Graph) : Type 0 where
  pub few : g.places ≤ 24
  pub costs : (p : ℕ) → Place g p → (1 ≤ g.cost p) × (g.cost p ≤ 100000)
  pub deadlines : (p : ℕ) → Place g p → (1 ≤ g.deadline p) × (g.deadline p ≤ 100000000)
  pub gaps : (p q d : ℕ) → Place g p → Place g q → g.gap p q ≡ Some d → (1 ≤ d) × (d ≤ 100000000) × (g.deadline p ≤ d)
  pub no_cost : (p : ℕ) → (Place g p → ⊥) → g.cost p ≡ 0
  pub no_deadline : (p : ℕ) → (Place g p → ⊥) → g.deadline p ≡ 0
  pub no_gap : (p q : ℕ) → (Place g p × Place g q → ⊥) → g.gap p q ≡ None
