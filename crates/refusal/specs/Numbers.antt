-- The refusals and their numbers. Every promise of a refusal, and every printed line, uses this table.
use Rattle.std.specs.Prelude.{ℕ, Bool, true, false, List, [], ◌∷◌, Some, None, Ok, Err, Option, Result}
use Rattle.refusal.specs.declared.Refusal.{Refusal}
use Rattle.refusal.specs.declared.Refusal.TheVariants.{EngineLimits, NumberTaken, NoPlace, AngleLimits, ModeList, BandList, ValueLimits, NoSuchCard, HorizonLimits, ShortMemory, UnknownKind, CutShort, OutOfTurn}

-- the number that a user sees
abbrev pub number : Refusal → ℕ
number EngineLimits = 1
number NumberTaken = 2
number NoPlace = 3
number AngleLimits = 4
number ModeList = 5
number BandList = 6
number ValueLimits = 7
number NoSuchCard = 8
number HorizonLimits = 9
number ShortMemory = 10
number UnknownKind = 11
number CutShort = 12
number OutOfTurn = 13

-- one check of a call: whether its condition holds, and the refusal that it then gives
pub record Check : Type 0 where
  pub holds : Bool
  pub gives : Refusal

-- a check, written as a row of a call's order
abbrev pub ◌gives◌ : Bool → Refusal → Check
b gives r = record { holds = b; gives = r }

infix 70 ◌gives◌
-- the refusal of a call: the first of its checks, in the call's order, whose condition holds
abbrev pub first_of : List Check → Option Refusal
first_of [] = None
first_of (c ∷ cs) = elim c.holds [ true ↦ Some c.gives | false ↦ first_of cs ]

-- the refusal in an answer, where it has one
abbrev pub refusal_in : {T : Type 0} → Result T Refusal → Option Refusal
refusal_in (Ok x) = None
refusal_in (Err e) = Some e
