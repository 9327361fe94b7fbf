-- One turn of a run: one record read and carried out.
use Rattle.std.specs.Prelude.{◌≡◌, ℕ, ◌<◌, true, false, cond, ◌⊎◌, List, ◌++◌, Some, None, Ok, Err, Option, Result}
use Rattle.std.specs.Option.{option_to_list}
use Rattle.std.specs.declared.ops.ControlFlow.{ControlFlow}
use Rattle.std.specs.declared.ops.ControlFlow.TheVariants.{Continue, Break}
use Rattle.refusal.specs.declared.Refusal.{Refusal}
use Rattle.refusal.specs.declared.Refusal.TheVariants.{CutShort}
use Rattle.plan.specs.Standing.{Standing, stands}
use Rattle.planfile.specs.declared.turns.Open.{Open}
use Rattle.records.specs.declared.record.Record.{Record}
use Rattle.records.specs.declared.head.Head.{Head}
use Rattle.planfile.specs.declared.faults.RecordFault.{RecordFault}
use Rattle.planfile.specs.declared.faults.FileFault.{FileFault}
use Rattle.weighing.specs.declared.line.Line.{Line}
use Rattle.weighing.specs.declared.line.Line.TheVariants.{No}
use Rattle.weighing.specs.declared.state.Run.{Run}
use Rattle.weighing.specs.Pending.{Pending, pending_of}
use Rattle.weighing.specs.Running.{Answer, Prints, Takes, fault_place, ends, left_open}

-- the answer of a call to a record, what it gave being a line, or the record's fault
abbrev pub Answered : {T : Type 0} → (T → Line → Type 0) → Head → Result T Refusal → Answer → Type 0
Answered {T} gives h (Ok x) a = (line : Line) × gives x line × (a ≡ Ok (Some line))
Answered {T} gives h (Err refusal) a = a ≡ Err (record { kind = h.kind; card = h.card; refusal = refusal })

-- where a run stands: the plan, the card being read, what stands open, and the byte place
pub record State : Type 0 where
  pub plan : Standing
  pub card : Pending
  pub open_now : Open
  pub at : ℕ

abbrev pub state_of : Run → State
state_of x = record { plan = stands x.scales.plan; card = pending_of x.card; open_now = x.reader.state; at = x.reader.at }

-- what one turn of a run gives: a line or none, and whether the reading goes on
abbrev pub Turn : Type 0
Turn = ControlFlow (Option Line) (Option Line)

-- the lines that are printed from here on
abbrev pub PrintsOn : List ℕ → State → List Line → Type 0
PrintsOn bytes x lines = Prints bytes x.plan x.card x.open_now x.at lines

-- A turn that goes on gives a line or none, and what follows is what the run prints afterwards; its reader has moved on
-- within the bytes. A turn that ends gives the last line, or none.
abbrev pub Turned : List ℕ → State → State → Turn → Type 0
Turned bytes x x' (Continue line) = ((rest : List Line) → PrintsOn bytes x' rest → PrintsOn bytes x (option_to_list line ++ rest)) × (x.at < x'.at)
Turned bytes x x' (Break line) = PrintsOn bytes x (option_to_list line)

-- a record's answer at a byte place: a fault becomes the file's
abbrev pub filed : ℕ → Answer → Result (Option Line) FileFault
filed at (Ok line) = Ok line
filed at (Err f) = Err (record { at = at; kind = Some f.kind; card = f.card; refusal = f.refusal })

-- a record is carried out, its answer filed at its byte place
abbrev pub Carried : State → ℕ → Record → Standing → Result (Option Line) FileFault → Type 0
Carried x at r s' a = (b : Answer) × Takes x.plan x.card x.open_now r s' b × (a ≡ filed (fault_place x.card at r) b)

-- the line at the end of the bytes
abbrev pub last_line : Open → Pending → Option Line
last_line o p = cond (left_open o) (Some (No CutShort p.at)) None

-- a refusal of a file as a line
abbrev pub fault_line : FileFault → Line
fault_line f = No f.refusal f.at

-- what a record that was read at a byte place comes to
abbrev pub Took : State → ℕ → Record → Standing → Turn → Type 0
Took x at r s' (Continue line) =
    Takes x.plan x.card x.open_now r s' (Ok line)
    ⊎ ((f : RecordFault) × Takes x.plan x.card x.open_now r s' (Err f) × (ends r f.refusal ≡ false) × (line ≡ Some (No f.refusal (fault_place x.card at r))))
Took x at r s' (Break line) =
    (f : RecordFault) × Takes x.plan x.card x.open_now r s' (Err f) × (ends r f.refusal ≡ true) × (line ≡ Some (No f.refusal (fault_place x.card at r)))
