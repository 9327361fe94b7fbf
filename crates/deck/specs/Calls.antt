-- The calls that change cards: when each is refused, by what stands and its arguments alone, and what it does otherwise.
use Rattle.std.specs.Prelude.{ℕ, Bool, true, cond, not, ◌&&◌, ◌||◌, List, [], ◌∷◌, length, is_some, Some, None, Option, ◌==◌, nat_le}
use Rattle.refusal.specs.declared.Refusal.{Refusal}
use Rattle.refusal.specs.declared.Refusal.TheVariants.{EngineLimits, NumberTaken, NoPlace, AngleLimits, ModeList, BandList, ValueLimits, NoSuchCard, OutOfTurn}
use Rattle.refusal.specs.Numbers.{Check, first_of, ◌gives◌}
use Rattle.table.specs.Ordered.{insert_by, find_by, without, change_by}
use Rattle.engine.specs.Limits.{engine_ok, angle_ok, bands_ok, between, cost_ok}
use Rattle.engine.specs.Views.{Numbers, house_engine, modes_ok}
use Rattle.engine.specs.Changes.{cut_wrong, cut, recost}
use Rattle.deck.specs.Tables.{Crank, Clock}
use Rattle.deck.specs.Cards.{Cards}

-- what a plan starts with: the house engine and no card
abbrev pub new_cards : Cards
new_cards = record { engine = house_engine; cranks = []; clocks = [] }

abbrev pub crank_at : Cards → ℕ → Option Crank
crank_at s n = find_by (λ c. c.number) n s.cranks

abbrev pub clock_at : Cards → ℕ → Option Clock
clock_at s n = find_by (λ c. c.number) n s.clocks

-- some card has this number
abbrev pub in_use : Cards → ℕ → Bool
in_use s n = is_some (crank_at s n) || is_some (clock_at s n)

abbrev pub with_cranks : Cards → List Crank → Cards
with_cranks s cs = record { engine = s.engine; cranks = cs; clocks = s.clocks }

abbrev pub with_clocks : Cards → List Clock → Cards
with_clocks s cs = record { engine = s.engine; cranks = s.cranks; clocks = cs }

-- ENGINE: replaces the engine of a plan without cards

abbrev pub cards_present : Cards → Bool
cards_present s = not (length s.cranks == 0 && length s.clocks == 0)

abbrev pub engine_checks : Cards → Numbers → List Check
engine_checks s e =
    cards_present s gives OutOfTurn ∷
    not (engine_ok e.least e.greatest e.rise e.fall e.entry) gives EngineLimits ∷
    []

abbrev pub engine_refused : Cards → Numbers → Option Refusal
engine_refused s e = first_of (engine_checks s e)

abbrev pub with_engine : Cards → Numbers → Cards
with_engine s e = record { engine = e; cranks = s.cranks; clocks = s.clocks }

-- ADD ENGINE CARD

abbrev pub crank_checks : Cards → Crank → List Check
crank_checks s c =
    (c.number == 0 || in_use s c.number) gives NumberTaken ∷
    nat_le 4 (length s.cranks) gives NoPlace ∷
    not (angle_ok s.engine.greatest c.parts.angle) gives AngleLimits ∷
    not (modes_ok s.engine.least s.engine.greatest c.parts.modes) gives ModeList ∷
    not (bands_ok s.engine.least s.engine.greatest c.parts.bands) gives BandList ∷
    not (between 1 1000 c.share) gives ValueLimits ∷
    []

abbrev pub crank_refused : Cards → Crank → Option Refusal
crank_refused s c = first_of (crank_checks s c)

abbrev pub with_crank : Cards → Crank → Cards
with_crank s c = with_cranks s (insert_by (λ x. x.number) c s.cranks)

-- ADD TIMED CARD

abbrev pub clock_ok : Clock → Bool
clock_ok c = between 1 100000000 c.period && (between 1 c.period c.deadline && cost_ok c.cost)

abbrev pub clock_checks : Cards → Clock → List Check
clock_checks s c =
    (c.number == 0 || in_use s c.number) gives NumberTaken ∷
    nat_le 16 (length s.clocks) gives NoPlace ∷
    not (clock_ok c) gives ValueLimits ∷
    []

abbrev pub clock_refused : Cards → Clock → Option Refusal
clock_refused s c = first_of (clock_checks s c)

abbrev pub with_clock : Cards → Clock → Cards
with_clock s c = with_clocks s (insert_by (λ x. x.number) c s.clocks)

-- RECOST: a new cost for one mode of a card; a timed card's cost has index 0

-- how many modes the card has; a timed card has one cost
abbrev pub modes_in : Option Crank → ℕ
modes_in None = 1
modes_in (Some c) = length c.parts.modes

-- the checks of a card that is there
abbrev pub mode_checks : Option Crank → ℕ → ℕ → List Check
mode_checks c index cost = nat_le (modes_in c) index gives ModeList ∷ not (cost_ok cost) gives ValueLimits ∷ []

abbrev pub mode_refused : Option Crank → ℕ → ℕ → Option Refusal
mode_refused c index cost = first_of (mode_checks c index cost)

abbrev pub recost_checks : Cards → ℕ → ℕ → ℕ → List Check
recost_checks s n index cost = not (in_use s n) gives NoSuchCard ∷ mode_checks (crank_at s n) index cost

abbrev pub recost_refused : Cards → ℕ → ℕ → ℕ → Option Refusal
recost_refused s n index cost = first_of (recost_checks s n index cost)

abbrev pub crank_recosted : ℕ → ℕ → Crank → Crank
crank_recosted index cost c = record { number = c.number; share = c.share; parts = recost c.parts index cost }

abbrev pub clock_recosted : ℕ → Clock → Clock
clock_recosted cost c = record { number = c.number; period = c.period; deadline = c.deadline; cost = cost }

abbrev pub with_recost : Cards → ℕ → ℕ → ℕ → Cards
with_recost s n index cost =
    cond (is_some (crank_at s n))
    (with_cranks s (change_by (λ x. x.number) n (crank_recosted index cost) s.cranks))
    (with_clocks s (change_by (λ x. x.number) n (clock_recosted cost) s.clocks))

-- CUT: splits at a speed the band that holds it

-- a timed card has no band to cut
abbrev pub no_cut : Numbers → Option Crank → ℕ → Bool
no_cut e None speed = true
no_cut e (Some c) speed = cut_wrong e c.parts speed

-- the check of a card that is there
abbrev pub band_checks : Numbers → Option Crank → ℕ → List Check
band_checks e c speed = no_cut e c speed gives BandList ∷ []

abbrev pub band_refused : Numbers → Option Crank → ℕ → Option Refusal
band_refused e c speed = first_of (band_checks e c speed)

abbrev pub cut_checks : Cards → ℕ → ℕ → List Check
cut_checks s n speed = not (in_use s n) gives NoSuchCard ∷ band_checks s.engine (crank_at s n) speed

abbrev pub cut_refused : Cards → ℕ → ℕ → Option Refusal
cut_refused s n speed = first_of (cut_checks s n speed)

abbrev pub crank_cut : ℕ → Crank → Crank
crank_cut speed c = record { number = c.number; share = c.share; parts = cut c.parts speed }

abbrev pub with_cut : Cards → ℕ → ℕ → Cards
with_cut s n speed = with_cranks s (change_by (λ x. x.number) n (crank_cut speed) s.cranks)

-- RUNG CUT: a cut at the speed of a rung; a rung that the ladder lacks has no speed to cut at

abbrev pub no_rung_cut : Numbers → Option Crank → Option ℕ → Bool
no_rung_cut e c None = true
no_rung_cut e c (Some speed) = no_cut e c speed

abbrev pub rung_cut_checks : Cards → ℕ → Option ℕ → List Check
rung_cut_checks s n speed =
    not (in_use s n) gives NoSuchCard ∷
    no_rung_cut s.engine (crank_at s n) speed gives BandList ∷
    []

abbrev pub rung_cut_refused : Cards → ℕ → Option ℕ → Option Refusal
rung_cut_refused s n speed = first_of (rung_cut_checks s n speed)

abbrev pub with_rung_cut : Cards → ℕ → Option ℕ → Cards
with_rung_cut s n None = s
with_rung_cut s n (Some speed) = with_cut s n speed

-- DROP: removes a card, which frees its number and its place

abbrev pub drop_refused : Cards → ℕ → Option Refusal
drop_refused s n = first_of (not (in_use s n) gives NoSuchCard ∷ [])

abbrev pub with_drop : Cards → ℕ → Cards
with_drop s n =
    cond (is_some (crank_at s n))
    (with_cranks s (without (λ x. x.number) n s.cranks))
    (with_clocks s (without (λ x. x.number) n s.clocks))
