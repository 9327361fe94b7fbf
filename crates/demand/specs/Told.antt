-- What is promised of a told walk.
use Rattle.std.specs.Prelude.{◌≡◌, ℕ, ◌+◌, ◌*◌, not, ◌&&◌, ◌||◌, ◌⊎◌, List, [], ◌∷◌, length, take, drop, Option, nat_le, nat_lt}
use Rattle.refusal.specs.declared.Refusal.{Refusal}
use Rattle.refusal.specs.declared.Refusal.TheVariants.{HorizonLimits, ShortMemory}
use Rattle.refusal.specs.Numbers.{first_of, ◌gives◌}
use Rattle.task.specs.Graph.{Graph}
use Rattle.task.specs.Walks.{Inside, ticks, demand_of, Greatest}
use Rattle.demand.specs.declared.walk.ToldJob.{ToldJob}

-- what is asked of the window and of the memory lent to it
abbrev pub walk_refusal : ℕ → ℕ → ℕ → Option Refusal
walk_refusal window work jobs = first_of (
    not (nat_le 1 window && nat_le window 20000) gives HorizonLimits ∷
    (nat_lt work (24 * (window + 1)) || nat_lt jobs window) gives ShortMemory ∷
    [])

-- the job that is released at r at place p
abbrev pub told_at : Graph → ℕ → ℕ → ToldJob
told_at g r p = record { place = p; release = r; cost = g.cost p; due = r + g.deadline p }

-- the jobs of a walk whose first release is at r: at p, then the others, each its gap later
abbrev pub told_from : Graph → ℕ → ℕ → List ℕ → List ToldJob
told_from g r p [] = told_at g r p ∷ []
told_from g r p (q ∷ ps) = told_at g r p ∷ told_from g (r + ticks (g.gap p q)) q ps

-- the first n jobs are those of a walk inside t whose demand is d, and the others are as they were
pub record WalkTold (g : Graph) (t : ℕ) (jobs jobs' : List ToldJob) (n d : ℕ) : Type 0 where
  pub place : ℕ
  pub places : List ℕ
  pub inside : Inside g t place places
  pub count : length (place ∷ places) ≡ n
  pub demand : demand_of g place places ≡ d
  pub told : take n jobs' ≡ told_from g 0 place places
  pub others : drop n jobs' ≡ drop n jobs

-- no walk is inside t, so that no job is told
pub record NoneTold (g : Graph) (t : ℕ) (jobs jobs' : List ToldJob) (n d : ℕ) : Type 0 where
  pub none : (p : ℕ) (ps : List ℕ) → Inside g t p ps → ⊥
  pub count : n ≡ 0
  pub demand : d ≡ 0
  pub same : jobs' ≡ jobs

-- n jobs are told, of a walk whose demand d is the greatest inside t
pub record Tells (g : Graph) (t : ℕ) (jobs jobs' : List ToldJob) (n d : ℕ) : Type 0 where
  pub greatest : Greatest g t d
  pub told : NoneTold g t jobs jobs' n d ⊎ WalkTold g t jobs jobs' n d
