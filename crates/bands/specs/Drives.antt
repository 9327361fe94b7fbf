-- Drives: the courses that a crank can take, and the jobs that an engine card releases on them. Times and costs are in
-- k-ths of a tick, speeds in k-ths of a step per tick.
use Rattle.std.specs.Prelude.{◌≡◌, ℕ, ◌+◌, ◌*◌, ◌<◌, ◌≤◌, ◌⊎◌, List, [], ◌∷◌, length}
use Rattle.task.specs.Jobs.{Job}
use Rattle.task.specs.Kinds.{reduced}
use Rattle.engine.specs.Views.{Numbers, Parts}
use Rattle.bands.specs.Graphs.{mode_at, mode_end, band_deadline}
use Rattle.bands.specs.Turns.{Turn, InBand, end_speed}

-- the speed v lies in the range of the i-th mode, counted from 0; the last includes the greatest speed
pub record InMode (e : Numbers) (c : Parts) (k i v : ℕ) : Type 0 where
  pub here : i < length c.modes
  pub above : k * (mode_at c.modes i).lower ≤ v
  pub below : (v < k * mode_end e.greatest c.modes i) ⊎ ((i + 1 ≡ length c.modes) × (v ≤ k * e.greatest))

-- A drive from a time and a speed on: turns of the crank through the angle, each beginning at the speed where the last
-- one ended. Every turn releases one job at its start, as R says of the time, the speed and the job.
abbrev pub Drive : Numbers → ℕ → ℕ → (ℕ → ℕ → Job → Type 0) → ℕ → ℕ → List (List ℕ) → List Job → Type 0
Drive e angle k R time v [] [] = Unit {0}
Drive e angle k R time v [] (j ∷ js) = ⊥
Drive e angle k R time v (vs ∷ turns) [] = ⊥
Drive e angle k R time v (vs ∷ turns) (j ∷ js) =
    Turn e angle k v vs × R time v j × Drive e angle k R (time + length vs) (end_speed v vs) turns js

-- a job of the bare bands: it asks at most the cost of the mode at its speed, and is due its band's deadline later
pub record Releases (e : Numbers) (c : Parts) (k time v : ℕ) (j : Job) : Type 0 where
  pub release : j.release ≡ time
  pub mode : ℕ
  pub in_mode : InMode e c k mode v
  pub asks : j.cost ≤ k * (mode_at c.modes mode).cost
  pub band : ℕ
  pub is_band : (1 ≤ band) × (band ≤ length c.bands)
  pub in_band : InBand e c k band v
  pub due : j.due ≡ time + k * band_deadline e c band

-- the job lists of an engine card's bands: those of its drives, from any time and any speed on
abbrev pub BandsLists : Numbers → Parts → ℕ → List Job → Type 0
BandsLists e c k js = (time v : ℕ) × ((turns : List (List ℕ)) × Drive e c.angle k (Releases e c k) time v turns js)

-- A job of an engine card as it is judged: it asks at most the entry cost plus the cost of the mode at its speed and
-- never above 100,000 ticks, and is due after its band's deadline reduced by the share.
pub record ReleasesJudged (e : Numbers) (share : ℕ) (c : Parts) (k time v : ℕ) (j : Job) : Type 0 where
  pub release : j.release ≡ time
  pub mode : ℕ
  pub in_mode : InMode e c k mode v
  pub asks : j.cost ≤ k * (e.entry + (mode_at c.modes mode).cost)
  pub most : j.cost ≤ k * 100000
  pub band : ℕ
  pub is_band : (1 ≤ band) × (band ≤ length c.bands)
  pub in_band : InBand e c k band v
  pub due : j.due ≡ time + k * reduced share (band_deadline e c band)

-- the jobs of an engine card's drives, with the entry cost and the share
abbrev pub DrivesJudged : Numbers → ℕ → Parts → ℕ → List Job → Type 0
DrivesJudged e share c k js =
    (time v : ℕ) × ((turns : List (List ℕ)) × Drive e c.angle k (ReleasesJudged e share c k) time v turns js)
