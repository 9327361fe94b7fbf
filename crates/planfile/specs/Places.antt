-- What the reader answers at a place, and where it stands after.
use Rattle.std.specs.Prelude.{ℕ, ◌+◌, List, [], ◌∷◌, drop, Some, None, Ok, Err, Option, Result}
use Rattle.refusal.specs.declared.Refusal.{Refusal}
use Rattle.records.specs.declared.record.Kind.{Kind}
use Rattle.records.specs.declared.record.Record.{Record}
use Rattle.planfile.specs.declared.turns.Open.{Open}
use Rattle.planfile.specs.declared.faults.FileFault.{FileFault}
use Rattle.records.specs.Format.{kind_of, body_length}
use Rattle.planfile.specs.Reading.{next_record, open_after}
use Rattle.records.specs.Heads.{head_of}

-- the kind of the byte at the front
abbrev pub kind_at : List ℕ → Option Kind
kind_at [] = None
kind_at (b ∷ rest) = kind_of b

-- what is read at a place where these bytes are left, its refusal as the file's fault there
abbrev pub faulted : ℕ → List ℕ → Result (Option Record) Refusal → Result (Option Record) FileFault
faulted at rest (Ok o) = Ok o
faulted at rest (Err refusal) = Err (record { at = at; kind = kind_at rest; card = None; refusal = refusal })

-- what is read at a place of these bytes
abbrev pub read_at : Open → ℕ → List ℕ → Result (Option Record) FileFault
read_at o at bytes = faulted at (drop at bytes) (next_record o (drop at bytes))

-- past the kind byte and the body of the record that was read; elsewhere where it was
abbrev pub at_after : ℕ → Result (Option Record) FileFault → ℕ
at_after at (Ok (Some r)) = at + 1 + body_length (head_of r).kind
at_after at (Ok None) = at
at_after at (Err f) = at

-- what stands open after the record that was read; elsewhere what stood open
abbrev pub state_after : Open → Result (Option Record) FileFault → Open
state_after o (Ok (Some r)) = open_after o r
state_after o (Ok None) = o
state_after o (Err f) = o
