-- What making and changing an engine card asks, and what it does.
use Rattle.std.specs.Prelude.{ℕ, zero, suc, Bool, false, not, ◌&&◌, ◌||◌, List, [], ◌∷◌, length, Option, ◌==◌, nat_le, nat_lt}
use Rattle.refusal.specs.declared.Refusal.{Refusal}
use Rattle.refusal.specs.declared.Refusal.TheVariants.{AngleLimits, ModeList, BandList, ValueLimits}
use Rattle.refusal.specs.Numbers.{first_of, ◌gives◌}
use Rattle.table.specs.Ordered.{insert_by}
use Rattle.engine.specs.declared.card.Mode.{Mode}
use Rattle.engine.specs.Limits.{angle_ok, bands_ok, cost_ok}
use Rattle.engine.specs.Views.{Numbers, Parts, modes_ok}

-- the refusals of a new card's parts, in their order
abbrev pub card_refusal : Numbers → Parts → Option Refusal
card_refusal e c = first_of (
    not (angle_ok e.greatest c.angle) gives AngleLimits ∷
    not (modes_ok e.least e.greatest c.modes) gives ModeList ∷
    not (bands_ok e.least e.greatest c.bands) gives BandList ∷
    [])

-- n is one of the numbers
abbrev pub holds_number : ℕ → List ℕ → Bool
holds_number n [] = false
holds_number n (x ∷ xs) = x == n || holds_number n xs

-- A cut splits the band that holds a speed. It cannot be made at or past the engine's ends, at a band's lower
-- speed, or where the card has all the bands it can hold.
abbrev pub cut_wrong : Numbers → Parts → ℕ → Bool
cut_wrong e c speed =
    not (nat_lt e.least speed && nat_lt speed e.greatest) || (holds_number speed c.bands || nat_le 24 (length c.bands))

abbrev pub cut_refusal : Numbers → Parts → ℕ → Option Refusal
cut_refusal e c speed = first_of (cut_wrong e c speed gives BandList ∷ [])

abbrev pub cut : Parts → ℕ → Parts
cut c speed = record { angle = c.angle; modes = c.modes; bands = insert_by (λ b. b) speed c.bands }

-- A new cost for one mode, counted from 0: refused where there is no such mode, then where the cost is wrong.
abbrev pub recost_refusal : Parts → ℕ → ℕ → Option Refusal
recost_refusal c index cost = first_of (nat_le (length c.modes) index gives ModeList ∷ not (cost_ok cost) gives ValueLimits ∷ [])

abbrev pub recosted : List Mode → ℕ → ℕ → List Mode
recosted [] index cost = []
recosted (x ∷ xs) zero cost = record { lower = x.lower; cost = cost } ∷ xs
recosted (x ∷ xs) (suc index) cost = x ∷ recosted xs index cost

abbrev pub recost : Parts → ℕ → ℕ → Parts
recost c index cost = record { angle = c.angle; modes = recosted c.modes index cost; bands = c.bands }
