-- How a refusal becomes a fault of a record, and that a fault of the file.
use Rattle.std.specs.Prelude.{ℕ, Some, None, Ok, Err, Option, Result}
use Rattle.refusal.specs.declared.Refusal.{Refusal}
use Rattle.refusal.specs.declared.Refusal.TheVariants as refusals
use Rattle.records.specs.declared.record.Kind.{Kind}
use Rattle.records.specs.declared.record.Record.{Record}
use Rattle.records.specs.declared.record.UnknownKind.{UnknownKind}
use Rattle.records.specs.declared.head.Head.{Head}
use Rattle.planfile.specs.declared.faults.RecordFault.{RecordFault}
use Rattle.planfile.specs.declared.faults.FileFault.{FileFault}
use Rattle.planfile.specs.declared.faults.In.{In}

-- an answer whose fault also says what it came up in
abbrev pub placed : {C X F : Type 0} → C → Result X F → Result X (In C F)
placed c (Ok x) = Ok x
placed c (Err f) = Err (record { context = c; fault = f })

-- a refusal in a record, as the record's fault
abbrev pub record_fault : In Head Refusal → RecordFault
record_fault i = record { kind = i.context.kind; card = i.context.card; refusal = i.fault }

-- a record's fault at a place, as the file's
abbrev pub file_fault : In ℕ RecordFault → FileFault
file_fault i = record { at = i.context; kind = Some i.fault.kind; card = i.fault.card; refusal = i.fault.refusal }

-- a byte at a place that stands for no kind, as the file's fault
abbrev pub kind_fault : In ℕ UnknownKind → FileFault
kind_fault i = record { at = i.context; kind = None; card = None; refusal = refusals.UnknownKind }

-- an answer with one record, as an answer with the next record
abbrev pub one : {F : Type 0} → Result Record F → Result (Option Record) F
one (Ok r) = Ok (Some r)
one (Err f) = Err f

-- what is read of a known kind, its refusal as the record's fault
abbrev pub in_record : Kind → Result (Option Record) Refusal → Result (Option Record) RecordFault
in_record k (Ok o) = Ok o
in_record k (Err refusal) = Err (record { kind = k; card = None; refusal = refusal })
