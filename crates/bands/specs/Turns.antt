-- Turns: the speeds of an engine through one turn of its angle, so that a gap can be compared with every turn that
-- leads from one band to another. A tick is cut into k equal parts. Times are counted in k-ths of a tick and speeds
-- in k-ths of a step per tick, and in a k-th of a tick a speed, so counted, changes by at most the engine's rise or
-- fall.
use Rattle.std.specs.Prelude.{◌≡◌, ℕ, ◌+◌, ◌*◌, ◌<◌, ◌≤◌, ◌⊎◌, List, [], ◌∷◌, length}
use Rattle.std.specs.List.{AllByRecursion}
use Rattle.engine.specs.Views.{Numbers, Parts}
use Rattle.bands.specs.Graphs.{lower_end, upper_end}

-- each speed exceeds the one before by at most A and falls short of it by at most D
abbrev pub Changes : ℕ → ℕ → ℕ → List ℕ → Type 0
Changes A D v [] = Unit {0}
Changes A D v (w ∷ ws) = (w ≤ v + A) × (v ≤ w + D) × Changes A D w ws

-- each speed plus the next, summed: twice what the engine turns, in steps a k-th of a k-th long
abbrev pub pairs : ℕ → List ℕ → ℕ
pairs v [] = 0
pairs v (w ∷ ws) = (v + w) + pairs w ws

-- the last speed
abbrev pub end_speed : ℕ → List ℕ → ℕ
end_speed v [] = v
end_speed v (w ∷ ws) = end_speed w ws

-- A turn through an angle: its first speed v and its later speeds vs, a k-th of a tick apart. It takes as many
-- k-ths of a tick as it has later speeds.
pub record Turn (e : Numbers) (angle k v : ℕ) (vs : List ℕ) : Type 0 where
  pub longer : 1 ≤ length vs
  pub within : AllByRecursion (λ s. (k * e.least ≤ s) × (s ≤ k * e.greatest)) (v ∷ vs)
  pub changes : Changes e.rise e.fall v vs
  pub turned : pairs v vs ≡ 2 * (k * k) * angle

-- a speed, in k-ths, lies in the card's p-th band; the last band includes the greatest speed
abbrev pub InBand : Numbers → Parts → ℕ → ℕ → ℕ → Type 0
InBand e c k p v =
    (k * lower_end c p ≤ v) × ((v < k * upper_end e c p) ⊎ ((p ≡ length c.bands) × (v ≤ k * e.greatest)))

-- a turn of the card's angle that leads from its p-th band to its q-th
pub record Leads (e : Numbers) (c : Parts) (k p q v : ℕ) (vs : List ℕ) : Type 0 where
  pub turn : Turn e c.angle k v vs
  pub starts : InBand e c k p v
  pub ends : InBand e c k q (end_speed v vs)

-- some turn from the p-th band to the q-th takes less than n ticks
abbrev pub Beaten : Numbers → Parts → ℕ → ℕ → ℕ → Type 0
Beaten e c p q n = (k v : ℕ) × (vs : List ℕ) × Leads e c k p q v vs × (length vs < k * n)
