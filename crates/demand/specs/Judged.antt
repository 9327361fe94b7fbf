-- What is promised of one task's demands, of the totals, and of the verdict over them.
use Rattle.std.specs.Prelude.{◌≡◌, ℕ, ◌+◌, ◌-◌, ◌*◌, ◌^◌, ◌<◌, ◌≤◌, min, not, ◌&&◌, ◌||◌, List, [], ◌∷◌, Option, nat_le, nat_lt, slice_index}
use Rattle.refusal.specs.declared.Refusal.{Refusal}
use Rattle.refusal.specs.declared.Refusal.TheVariants.{HorizonLimits, ShortMemory}
use Rattle.refusal.specs.Numbers.{first_of, ◌gives◌}
use Rattle.task.specs.Graph.{Graph}
use Rattle.task.specs.Walks.{Greatest}

-- what is asked of a horizon, of a lent worktable, and of a lent list in which so many cells are wanted
abbrev pub memory_refusal : ℕ → ℕ → ℕ → ℕ → Option Refusal
memory_refusal horizon work list cells = first_of (
    not (nat_le 1 horizon && nat_le horizon 20000) gives HorizonLimits ∷
    (nat_lt work (24 * (horizon + 1)) || nat_lt list cells) gives ShortMemory ∷
    [])

-- what a judging to a horizon asks of the horizon and of the memory lent to it
abbrev pub lent_refusal : ℕ → ℕ → ℕ → Option Refusal
lent_refusal horizon work totals = first_of (
    not (nat_le 1 horizon && nat_le horizon 20000) gives HorizonLimits ∷
    (nat_lt work (24 * (horizon + 1)) || nat_lt totals (horizon + 1)) gives ShortMemory ∷
    [])

-- The totals at every t up to the horizon have grown by the task's greatest demand at t, stopping at the
-- greatest number that a cell holds. No cell past the horizon, and no cell of the worktable past its first
-- 24 * (horizon + 1), has changed.
pub record Added (g : Graph) (horizon : ℕ) (work work' totals totals' : List ℕ) : Type 0 where
  pub grown : (t : ℕ) → t ≤ horizon → (n : ℕ) × Greatest g t n × (slice_index totals' t ≡ min (slice_index totals t + n) (2 ^ 64 - 1))
  pub beyond : (t : ℕ) → horizon < t → slice_index totals' t ≡ slice_index totals t
  pub spare : (i : ℕ) → 24 * (horizon + 1) ≤ i → slice_index work' i ≡ slice_index work i

-- no total up to the horizon exceeds its t
abbrev pub Within : List ℕ → ℕ → Type 0
Within totals horizon = (t : ℕ) → t ≤ horizon → slice_index totals t ≤ t

-- t is the least whose total exceeds it
pub record FirstOver (totals : List ℕ) (horizon t : ℕ) : Type 0 where
  pub inside : t ≤ horizon
  pub exceeds : t < slice_index totals t
  pub least : (s : ℕ) → s < t → slice_index totals s ≤ s
