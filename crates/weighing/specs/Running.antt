-- The run of a plan file: which lines its records give, in order, and where the reading ends.
use Rattle.std.specs.Prelude.{◌≡◌, ℕ, Bool, true, false, not, ◌||◌, List, [], ◌∷◌, ◌++◌, length, Some, None, Ok, Err, MatchBool, Option, Result, ◌==◌, nat_le, nat_lt}
use Rattle.std.specs.Option.{option_to_list}
use Rattle.refusal.specs.declared.Refusal.{Refusal}
use Rattle.refusal.specs.declared.Refusal.TheVariants.{ModeList, BandList, CutShort, ShortMemory}
use Rattle.refusal.specs.Numbers.{number, first_of, ◌gives◌}
use Rattle.task.specs.Kinds.{empty_graph}
use Rattle.engine.specs.Limits.{between}
use Rattle.engine.specs.Views.{Numbers}
use Rattle.demand.specs.Judged.{lent_refusal}
use Rattle.deck.specs.declared.verdict.Verdict.{Verdict}
use Rattle.deck.specs.Tables.{Clock}
use Rattle.deck.specs.Cards.{Cards}
use Rattle.plan.specs.Standing.{Standing, new_plan, changed}
use Rattle.deck.specs.Calls.{engine_refused, with_engine, crank_refused, with_crank, clock_refused, with_clock, recost_refused, with_recost, cut_refused, with_cut, drop_refused, with_drop}
use Rattle.deck.specs.Judging.{tasks, Says, mark_of}
use Rattle.records.specs.declared.record.Kind.TheVariants as kinds
use Rattle.records.specs.declared.record.Record.{Record}
use Rattle.records.specs.declared.record.Record.TheVariants as records
use Rattle.planfile.specs.declared.turns.Open.{Open}
use Rattle.planfile.specs.declared.turns.Open.TheVariants as opens
use Rattle.records.specs.declared.head.Head.{Head}
use Rattle.planfile.specs.declared.faults.RecordFault.{RecordFault}
use Rattle.planfile.specs.declared.faults.FileFault.{FileFault}
use Rattle.records.specs.Format.{kind_byte}
use Rattle.planfile.specs.Reading.{open_after}
use Rattle.records.specs.Heads.{head_of}
use Rattle.planfile.specs.Places.{read_at, at_after}
use Rattle.weighing.specs.declared.line.Line.{Line}
use Rattle.weighing.specs.declared.line.Line.TheVariants.{Done, No}
use Rattle.weighing.specs.Lines.{verdict_line}
use Rattle.weighing.specs.Pending.{Pending, no_card, crank_said, noted}

-- what stands after a call: its change where nothing refused it, else what stood
abbrev pub after_call : Standing → Option Refusal → Cards → Standing
after_call s None done = changed done
after_call s (Some refusal) done = s

-- the answer to a record: a line or none, or the record's fault
abbrev pub Answer : Type 0
Answer = Result (Option Line) RecordFault

abbrev pub answer_of : Head → Option Line → Option Refusal → Answer
answer_of h line None = Ok line
answer_of h line (Some refusal) = Err (record { kind = h.kind; card = h.card; refusal = refusal })

-- a record that makes a call
abbrev pub Called : Head → Standing → Option Refusal → Cards → Standing → Answer → Type 0
Called h s refused done s' a = (s' ≡ after_call s refused done) × (a ≡ answer_of h (Some Done) refused)

-- a record that changes nothing
abbrev pub Quiet : Head → Standing → Option Refusal → Standing → Answer → Type 0
Quiet h s refused s' a = (s' ≡ s) × (a ≡ answer_of h None refused)

-- the counts of a card's own record, checked as it arrives
abbrev pub counts_refused : ℕ → ℕ → Option Refusal
counts_refused modes bands = first_of (not (between 1 8 modes) gives ModeList ∷ not (between 1 24 bands) gives BandList ∷ [])

-- all records of the card have come
abbrev pub card_whole : Open → Bool
card_whole opens.Start = false
card_whole opens.Between = true
card_whole (opens.Modes m b) = false
card_whole (opens.Bands b) = false

-- a judging without a guest, with memory for a horizon of 600
abbrev pub judge_refused : ℕ → Option Refusal
judge_refused horizon = lent_refusal horizon 14424 601

abbrev pub Judging : Head → Standing → ℕ → Option Refusal → Standing → Answer → Type 0
Judging h s horizon None s' a =
    (v : Verdict) × Says v (tasks s.cards empty_graph) horizon × (s' ≡ record { cards = s.cards; mark = mark_of v }) × (a ≡ Ok (Some (verdict_line v)))
Judging h s horizon (Some refusal) s' a = Quiet h s (Some refusal) s' a

abbrev pub engine_said : ℕ → ℕ → ℕ → ℕ → ℕ → Numbers
engine_said m M A D E = record { least = m; greatest = M; rise = A; fall = D; entry = E }

abbrev pub clock_said : ℕ → ℕ → ℕ → ℕ → Clock
clock_said n period deadline cost = record { number = n; period = period; deadline = deadline; cost = cost }

-- What a record does to what stands, and its answer. p is the card being read, with this record in it, and o is what
-- stands open after it. The last band of a card puts the card in.
abbrev pub Takes : Standing → Pending → Open → Record → Standing → Answer → Type 0
Takes s p o (records.Engine m M A D E) s' a =
    Called (record { kind = kinds.Engine; card = None }) s (engine_refused s.cards (engine_said m M A D E)) (with_engine s.cards (engine_said m M A D E)) s' a
Takes s p o (records.Card n angle share modes bands) s' a =
    Quiet (record { kind = kinds.Card; card = Some n }) s (counts_refused modes bands) s' a
Takes s p o (records.Mode lower cost) s' a = Quiet (record { kind = kinds.Mode; card = None }) s None s' a
Takes s p o (records.Band lower) s' a =
    MatchBool (card_whole o)
    (Called (record { kind = kinds.Card; card = Some p.number }) s (crank_refused s.cards (crank_said p)) (with_crank s.cards (crank_said p)) s' a)
    (Quiet (record { kind = kinds.Band; card = None }) s None s' a)
Takes s p o (records.Timed n period deadline cost) s' a =
    Called (record { kind = kinds.Timed; card = Some n }) s (clock_refused s.cards (clock_said n period deadline cost)) (with_clock s.cards (clock_said n period deadline cost)) s' a
Takes s p o (records.Recost n index cost) s' a =
    Called (record { kind = kinds.Recost; card = Some n }) s (recost_refused s.cards n index cost) (with_recost s.cards n index cost) s' a
Takes s p o (records.Cut n speed) s' a =
    Called (record { kind = kinds.Cut; card = Some n }) s (cut_refused s.cards n speed) (with_cut s.cards n speed) s' a
Takes s p o (records.Drop n) s' a =
    Called (record { kind = kinds.Drop; card = Some n }) s (drop_refused s.cards n) (with_drop s.cards n) s' a
Takes s p o (records.Judge horizon) s' a =
    Judging (record { kind = kinds.Judge; card = None }) s horizon (judge_refused horizon) s' a

-- the byte place of a fault: a card's last band is refused at the card's own record
abbrev pub fault_place : Pending → ℕ → Record → ℕ
fault_place p at (records.Engine m M A D E) = at
fault_place p at (records.Card n angle share modes bands) = at
fault_place p at (records.Mode lower cost) = at
fault_place p at (records.Band lower) = p.at
fault_place p at (records.Timed n period deadline cost) = at
fault_place p at (records.Recost n index cost) = at
fault_place p at (records.Cut n speed) = at
fault_place p at (records.Drop n) = at
fault_place p at (records.Judge horizon) = at

-- refusals that end the reading: an engine outside its limits, an unknown kind, a record cut short or out of turn
abbrev pub stops : Refusal → Bool
stops refusal = number refusal == 1 || nat_le 11 (number refusal)

-- so does a card's own record that is refused for its counts
abbrev pub ends : Record → Refusal → Bool
ends r refusal = kind_byte (head_of r).kind == 2 || stops refusal

-- a card stands open
abbrev pub left_open : Open → Bool
left_open opens.Start = false
left_open opens.Between = false
left_open (opens.Modes m b) = true
left_open (opens.Bands b) = true

-- The lines that are printed from a byte place on, by what stands there, the card being read, and what stands open.
pub data Prints (bytes : List ℕ) : Standing → Pending → Open → ℕ → List Line → Type 0 where
  -- the bytes end, and no card is open
  finished : (s : Standing) (p : Pending) (o : Open) (at : ℕ) → read_at o at bytes ≡ Ok None → left_open o ≡ false → Prints bytes s p o at []
  -- the bytes end after a whole record, and a card is open: it is cut short, at its own record
  unfinished : (s : Standing) (p : Pending) (o : Open) (at : ℕ) → read_at o at bytes ≡ Ok None → left_open o ≡ true → Prints bytes s p o at (No CutShort p.at ∷ [])
  -- no record can be handed out
  faulty : (s : Standing) (p : Pending) (o : Open) (at : ℕ) (f : FileFault) → read_at o at bytes ≡ Err f → Prints bytes s p o at (No f.refusal f.at ∷ [])
  -- a record is carried out, with a line or without one, and the next follows it
  taken : (s : Standing) (p : Pending) (o : Open) (at : ℕ) (r : Record) (s' : Standing) (line : Option Line) (rest : List Line) → read_at o at bytes ≡ Ok (Some r) → Takes s (noted p at r) (open_after o r) r s' (Ok line) → Prints bytes s' (noted p at r) (open_after o r) (at_after at (Ok (Some r))) rest → Prints bytes s p o at (option_to_list line ++ rest)
  -- a record is refused, and the next follows it
  refused : (s : Standing) (p : Pending) (o : Open) (at : ℕ) (r : Record) (s' : Standing) (f : RecordFault) (rest : List Line) → read_at o at bytes ≡ Ok (Some r) → Takes s (noted p at r) (open_after o r) r s' (Err f) → ends r f.refusal ≡ false → Prints bytes s' (noted p at r) (open_after o r) (at_after at (Ok (Some r))) rest → Prints bytes s p o at (No f.refusal (fault_place (noted p at r) at r) ∷ rest)
  -- a record is refused, and the reading ends
  stopped : (s : Standing) (p : Pending) (o : Open) (at : ℕ) (r : Record) (s' : Standing) (f : RecordFault) → read_at o at bytes ≡ Ok (Some r) → Takes s (noted p at r) (open_after o r) r s' (Err f) → ends r f.refusal ≡ true → Prints bytes s p o at (No f.refusal (fault_place (noted p at r) at r) ∷ [])

-- What weigh prints for a file: a file of more than 2,048 bytes is refused whole; any other is run from a new plan.
abbrev pub Weighed : List ℕ → List Line → Type 0
Weighed bytes lines = MatchBool (nat_lt 2048 (length bytes)) (lines ≡ No ShortMemory 2048 ∷ []) (Prints bytes new_plan no_card opens.Start 0 lines)
