-- What is told of a window: a greatest walk of one task, job by job.
use Rattle.std.specs.Prelude.{ℕ, ◌+◌, ◌*◌, Bool, cond, not, ◌&&◌, ◌||◌, [], ◌∷◌, Some, None, Option, ◌==◌, nat_le, nat_lt}
use Rattle.refusal.specs.declared.Refusal.{Refusal}
use Rattle.refusal.specs.declared.Refusal.TheVariants.{NoSuchCard, HorizonLimits, ShortMemory}
use Rattle.refusal.specs.Numbers.{first_of, ◌gives◌}
use Rattle.task.specs.Graph.{Graph}
use Rattle.engine.specs.Views.{Numbers}
use Rattle.deck.specs.Tables.{Crank, Clock}
use Rattle.deck.specs.Cards.{Cards}
use Rattle.deck.specs.Calls.{crank_at, clock_at, in_use}
use Rattle.deck.specs.Judging.{crank_graph, clock_graph}

-- the numbers that tell takes: 0, the guest's, and those of the cards
abbrev pub named : Cards → ℕ → Bool
named s n = n == 0 || in_use s n

-- a tell asks for such a number, for a window within limits, and for memory enough
abbrev pub tell_refused : Cards → ℕ → ℕ → ℕ → ℕ → Option Refusal
tell_refused s n window work jobs = first_of (
    not (named s n) gives NoSuchCard ∷
    not (nat_le 1 window && nat_le window 20000) gives HorizonLimits ∷
    (nat_lt work (24 * (window + 1)) || nat_lt jobs window) gives ShortMemory ∷
    [])

-- the task of a card that was looked up, or another where there is none
abbrev pub clock_task : Numbers → Option Clock → Graph → Graph
clock_task e None other = other
clock_task e (Some c) other = clock_graph e c

abbrev pub crank_task : Numbers → Option Crank → Graph → Graph
crank_task e None other = other
crank_task e (Some c) other = crank_graph e c

-- the task of a number: 0 is the guest's
abbrev pub task_at : Cards → Graph → ℕ → Graph
task_at s guest n = cond (n == 0) guest (crank_task s.engine (crank_at s n) (clock_task s.engine (clock_at s n) guest))
