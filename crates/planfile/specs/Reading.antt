-- What may come next in a plan file, and what the bytes at a place are.
use Rattle.std.specs.Prelude.{ℕ, ◌-◌, Bool, cond, ◌||◌, List, [], ◌∷◌, length, take, Some, None, Ok, Err, Option, Result, ◌==◌, nat_le, nat_lt}
use Rattle.refusal.specs.declared.Refusal.{Refusal}
use Rattle.refusal.specs.declared.Refusal.TheVariants.{UnknownKind, CutShort, OutOfTurn}
use Rattle.records.specs.declared.record.Kind.{Kind}
use Rattle.records.specs.declared.record.Record.{Record}
use Rattle.records.specs.declared.record.Record.TheVariants as records
use Rattle.planfile.specs.declared.turns.Open.{Open}
use Rattle.planfile.specs.declared.turns.Open.TheVariants as opens
use Rattle.records.specs.Format.{kind_byte, kind_of, body_length, decoded}

-- The engine (kind 1) stands first and only there. Between cards come a card, a timed card, a change or a judge
-- (2, and 5 to 9). While a card's modes are missing only a mode (3) may come, then only a band (4).
abbrev pub in_turn : Open → Kind → Bool
in_turn opens.Start k = kind_byte k == 1
in_turn opens.Between k = kind_byte k == 2 || nat_le 5 (kind_byte k)
in_turn (opens.Modes m b) k = kind_byte k == 3
in_turn (opens.Bands b) k = kind_byte k == 4

-- a card of which so many modes and bands are still to come
abbrev pub opened_by : ℕ → ℕ → Open
opened_by modes bands = cond (modes == 0) (cond (bands == 0) opens.Between (opens.Bands bands)) (opens.Modes modes bands)

abbrev pub mode_taken : Open → Open
mode_taken opens.Start = opens.Between
mode_taken opens.Between = opens.Between
mode_taken (opens.Modes m b) = opened_by (m - 1) b
mode_taken (opens.Bands b) = opens.Between

abbrev pub band_taken : Open → Open
band_taken opens.Start = opens.Between
band_taken opens.Between = opens.Between
band_taken (opens.Modes m b) = opens.Between
band_taken (opens.Bands b) = opened_by 0 (b - 1)

-- what stands open after a record that came in turn
abbrev pub open_after : Open → Record → Open
open_after o (records.Engine m M A D E) = opens.Between
open_after o (records.Card n angle share modes bands) = opened_by modes bands
open_after o (records.Mode lower cost) = mode_taken o
open_after o (records.Band lower) = band_taken o
open_after o (records.Timed n period deadline cost) = opens.Between
open_after o (records.Recost n index cost) = opens.Between
open_after o (records.Cut n speed) = opens.Between
open_after o (records.Drop n) = opens.Between
open_after o (records.Judge horizon) = opens.Between

-- a known kind at the front of the bytes that are left
abbrev pub known : Open → Kind → List ℕ → Result (Option Record) Refusal
known o k rest =
    cond (nat_lt (length rest) (body_length k)) (Err CutShort)
    (cond (in_turn o k) (Ok (Some (decoded k (take (body_length k) rest)))) (Err OutOfTurn))

-- The next record of the bytes that are left, nothing at their end, or the first refusal that applies: an unknown
-- kind, a record cut short, a record out of turn.
abbrev pub next_record : Open → List ℕ → Result (Option Record) Refusal
next_record o [] = Ok None
next_record o (b ∷ rest) = elim (kind_of b) [ None ↦ Err UnknownKind | Some k ↦ known o k rest ]
