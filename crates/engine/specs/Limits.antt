-- The limits of an engine and of the parts of an engine card, as tests.
use Rattle.std.specs.Prelude.{ℕ, Bool, true, false, not, ◌&&◌, List, [], ◌∷◌, length, Option, ◌==◌, nat_le, nat_lt}
use Rattle.refusal.specs.declared.Refusal.{Refusal}
use Rattle.refusal.specs.declared.Refusal.TheVariants.{EngineLimits}
use Rattle.refusal.specs.Numbers.{first_of, ◌gives◌}

-- low ≤ x ≤ high
abbrev pub between : ℕ → ℕ → ℕ → Bool
between low high x = nat_le low x && nat_le x high

-- An engine: speeds from m to M in steps per tick, an acceleration A and a slowing D in steps per tick per tick,
-- and an entry cost E in ticks.
abbrev pub engine_ok : ℕ → ℕ → ℕ → ℕ → ℕ → Bool
engine_ok m M A D E = nat_le 1 m && (nat_lt m M && (nat_le M 150000 && (between 1 500 A && (between 1 500 D && nat_le E 1000))))

abbrev pub engine_refusal : ℕ → ℕ → ℕ → ℕ → ℕ → Option Refusal
engine_refusal m M A D E = first_of (not (engine_ok m M A D E) gives EngineLimits ∷ [])

-- an angle in steps of the crank: a turn at the greatest speed takes at least a tick
abbrev pub angle_ok : ℕ → ℕ → Bool
angle_ok M angle = between M 24000000 angle

-- each item's lower speed is above the one before, l first, and the last is below M, so all are
abbrev pub rising : {X : Type 0} → (X → ℕ) → ℕ → ℕ → List X → Bool
rising lower M l [] = nat_lt l M
rising lower M l (x ∷ xs) = nat_lt l (lower x) && rising lower M (lower x) xs

-- lower speeds: the first is m, each next one is greater, all are below M
abbrev pub speeds_ok : {X : Type 0} → (X → ℕ) → ℕ → ℕ → List X → Bool
speeds_ok lower m M [] = false
speeds_ok lower m M (x ∷ xs) = lower x == m && rising lower M (lower x) xs

-- a cost of a mode or of a timed card, in ticks
abbrev pub cost_ok : ℕ → Bool
cost_ok cost = between 1 100000 cost

-- every item of a list passes a test
abbrev pub every : {X : Type 0} → (X → Bool) → List X → Bool
every test [] = true
every test (x ∷ xs) = test x && every test xs

-- 1 to 24 bands
abbrev pub bands_ok : ℕ → ℕ → List ℕ → Bool
bands_ok m M bs = nat_le (length bs) 24 && speeds_ok (λ b. b) m M bs
