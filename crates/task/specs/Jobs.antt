-- Jobs that a task releases as it runs, in k-ths of a tick.
use Rattle.std.specs.Prelude.{◌≡◌, ℕ, ◌+◌, ◌-◌, ◌*◌, ◌/◌, ◌≤◌, Bool, cond, ◌&&◌, List, [], ◌∷◌, Some, nat_le}
use Rattle.task.specs.Graph.{Graph, Place, Lawful}
use Rattle.task.specs.Kinds.{reduced}

-- a job is released, then asks for its cost, and is due
pub record Job : Type 0 where
  pub release : ℕ
  pub cost : ℕ
  pub due : ℕ

-- the job may be one of the place p: it asks no more, and is due no sooner, than the place says
pub record Suits (g : Graph) (k p : ℕ) (j : Job) : Type 0 where
  pub place : Place g p
  pub asks : j.cost ≤ k * g.cost p
  pub allows : j.release + k * g.deadline p ≤ j.due

-- from the job j at the place p, the next job i may be at the place q
pub record Steps (g : Graph) (k p q : ℕ) (j i : Job) : Type 0 where
  pub ticks : ℕ
  pub gap : g.gap p q ≡ Some ticks
  pub waits : j.release + k * ticks ≤ i.release

-- the job j at the place p, and the jobs after it, in order of release, can be given places
abbrev pub FollowsFrom : Graph → ℕ → ℕ → Job → List Job → Type 0
FollowsFrom g k p j [] = Suits g k p j
FollowsFrom g k p j (i ∷ js) = Suits g k p j × ((q : ℕ) × Steps g k p q j i × FollowsFrom g k q i js)

-- the jobs, in order of release, can be given places
abbrev pub Follows : Graph → ℕ → List Job → Type 0
Follows g k [] = Unit {0}
Follows g k (j ∷ js) = (p : ℕ) × FollowsFrom g k p j js

-- every task's jobs follow its graph
abbrev pub AllFollow : List Graph → ℕ → List (List Job) → Type 0
AllFollow [] k [] = Unit {0}
AllFollow [] k (js ∷ jss) = ⊥
AllFollow (g ∷ gs) k [] = ⊥
AllFollow (g ∷ gs) k (js ∷ jss) = Follows g k js × AllFollow gs k jss

-- every graph is lawful
abbrev pub AllLawful : List Graph → Type 0
AllLawful [] = Unit {0}
AllLawful (g ∷ gs) = Lawful g × AllLawful gs

-- the window from a to b demands a job that is released and due in it
abbrev pub demands : ℕ → ℕ → Job → Bool
demands a b j = nat_le a j.release && nat_le j.due b

-- what it demands of a job
abbrev pub asked : ℕ → ℕ → Job → ℕ
asked a b j = cond (demands a b j) j.cost 0

-- the costs of the jobs that the window demands
abbrev pub window_demand : ℕ → ℕ → List Job → ℕ
window_demand a b [] = 0
window_demand a b (j ∷ js) = asked a b j + window_demand a b js

-- the same, over all tasks
abbrev pub windows_demand : ℕ → ℕ → List (List Job) → ℕ
windows_demand a b [] = 0
windows_demand a b (js ∷ jss) = window_demand a b js + windows_demand a b jss

-- t whole ticks, and less than one more, are in the n k-ths
pub record Whole (k n t : ℕ) : Type 0 where
  pub within : k * t ≤ n
  pub beyond : n + 1 ≤ k * (t + 1)

-- two lists of jobs, in pairs
abbrev pub Pairs : (Job → Job → Type 0) → List Job → List Job → Type 0
Pairs R [] [] = Unit {0}
Pairs R [] (i ∷ is) = ⊥
Pairs R (j ∷ js) [] = ⊥
Pairs R (j ∷ js) (i ∷ is) = R j i × Pairs R js is

-- a job that asks for up to e ticks more, but for no more than 100,000 ticks
pub record EnteredJob (k e : ℕ) (j i : Job) : Type 0 where
  pub release : i.release ≡ j.release
  pub due : i.due ≡ j.due
  pub more : i.cost ≤ j.cost + k * e
  pub most : i.cost ≤ k * 100000

abbrev pub Entered : ℕ → ℕ → List Job → List Job → Type 0
Entered k e = Pairs (EnteredJob k e)

-- a job whose time to its due, cut to whole ticks, is reduced as a deadline is
pub record SharedJob (k s : ℕ) (j i : Job) : Type 0 where
  pub release : i.release ≡ j.release
  pub cost : i.cost ≡ j.cost
  pub due : i.due ≡ j.release + k * reduced s ((j.due - j.release) / k)

abbrev pub SharedDue : ℕ → ℕ → List Job → List Job → Type 0
SharedDue k s = Pairs (SharedJob k s)

-- a job of a timed task: it asks at most the cost, and is due its deadline after its release
pub record TimedJob (k deadline cost : ℕ) (j : Job) : Type 0 where
  pub asks : j.cost ≤ k * cost
  pub due : j.due ≡ j.release + k * deadline

-- a lawful timing: jobs released at least a period apart
abbrev pub Timing : ℕ → ℕ → ℕ → ℕ → List Job → Type 0
Timing k period deadline cost [] = Unit {0}
Timing k period deadline cost (j ∷ []) = TimedJob k deadline cost j
Timing k period deadline cost (j ∷ i ∷ js) =
    TimedJob k deadline cost j × (j.release + k * period ≤ i.release) × Timing k period deadline cost (i ∷ js)

-- the job lists of the layers over a task that may release the lists L
abbrev pub EntryLists : ℕ → (ℕ → List Job → Type 0) → ℕ → List Job → Type 0
EntryLists e L k js = (below : List Job) × L k below × Entered k e below js

abbrev pub ShareLists : ℕ → (ℕ → List Job → Type 0) → ℕ → List Job → Type 0
ShareLists s L k js = (below : List Job) × L k below × SharedDue k s below js
