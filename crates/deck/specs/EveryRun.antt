-- What "fits" promises: no window up to the horizon demands more than its length, on any run.
use Rattle.std.specs.Prelude.{◌≡◌, ℕ, ◌+◌, ◌-◌, ◌*◌, ◌≤◌, List, [], ◌∷◌, ◌++◌}
use Rattle.task.specs.Jobs.{Job, windows_demand}
use Rattle.engine.specs.Views.{Numbers}
use Rattle.bands.specs.Drives.{DrivesJudged}
use Rattle.deck.specs.declared.verdict.Verdict.{Verdict}
use Rattle.deck.specs.declared.verdict.Verdict.TheVariants.{Fits, Over}
use Rattle.deck.specs.Tables.{Clock}
use Rattle.deck.specs.Cards.{Cards}

-- a job of a timed card: it asks at most the entry cost plus the card's cost and never above 100,000 ticks, and is due
-- the card's deadline after its release (all in k-ths of a tick)
pub record TimedJudged (e : Numbers) (c : Clock) (k : ℕ) (j : Job) : Type 0 where
  pub asks : j.cost ≤ k * (e.entry + c.cost)
  pub most : j.cost ≤ k * 100000
  pub due : j.due ≡ j.release + k * c.deadline

-- a lawful timing of a timed card: its jobs are released at least its period apart
abbrev pub TimingJudged : Numbers → Clock → ℕ → List Job → Type 0
TimingJudged e c k [] = Unit {0}
TimingJudged e c k (j ∷ []) = TimedJudged e c k j
TimingJudged e c k (j ∷ i ∷ js) = TimedJudged e c k j × (j.release + k * c.period ≤ i.release) × TimingJudged e c k (i ∷ js)

-- a job list for each card, in the order of the cards
abbrev pub Each : {X : Type 0} → (X → List Job → Type 0) → List X → List (List Job) → Type 0
Each L [] [] = Unit {0}
Each L [] (js ∷ jss) = ⊥
Each L (c ∷ cs) [] = ⊥
Each L (c ∷ cs) (js ∷ jss) = L c js × Each L cs jss

-- the jobs of some run of all cards: a drive for each engine card, each its own or one for several, and a lawful timing
-- for each timed card
pub record RunOf (s : Cards) (k : ℕ) (cranks clocks : List (List Job)) : Type 0 where
  pub drives : Each (λ c. DrivesJudged s.engine c.share c.parts k) s.cranks cranks
  pub timings : Each (λ c. TimingJudged s.engine c k) s.clocks clocks

-- no window from a to b, both in it, of at most the horizon demands more than its length
abbrev pub NeverMore : ℕ → ℕ → List (List Job) → Type 0
NeverMore k horizon jss = (a b : ℕ) → a ≤ b → b - a ≤ k * horizon → windows_demand a b jss ≤ b - a

-- for every fineness k, every run of the cards and every job list that the guest may release
abbrev pub FitsEveryRun : Cards → (ℕ → List Job → Type 0) → ℕ → Type 0
FitsEveryRun s guest horizon =
    (k : ℕ) → 1 ≤ k → (cranks clocks : List (List Job)) (own : List Job) → RunOf s k cranks clocks → guest k own → NeverMore k horizon (cranks ++ clocks ++ own ∷ [])

-- the same without a guest
abbrev pub FitsEveryRunAlone : Cards → ℕ → Type 0
FitsEveryRunAlone s horizon =
    (k : ℕ) → 1 ≤ k → (cranks clocks : List (List Job)) → RunOf s k cranks clocks → NeverMore k horizon (cranks ++ clocks)

-- what a verdict promises of a plan's cards and a guest that may release these lists
abbrev pub Promises : Verdict → Cards → (ℕ → List Job → Type 0) → Type 0
Promises (Fits horizon) s guest = FitsEveryRun s guest horizon
Promises (Over t n) s guest = Unit {0}
