-- What a record says of itself.
use Rattle.std.specs.Prelude.{Some, None}
use Rattle.records.specs.declared.record.Kind.TheVariants as kinds
use Rattle.records.specs.declared.record.Record.{Record}
use Rattle.records.specs.declared.record.Record.TheVariants as records
use Rattle.records.specs.declared.head.Head.{Head}

-- its kind and its card's number, if it names one
abbrev pub head_of : Record → Head
head_of (records.Engine m M A D E) = record { kind = kinds.Engine; card = None }
head_of (records.Card n angle share modes bands) = record { kind = kinds.Card; card = Some n }
head_of (records.Mode lower cost) = record { kind = kinds.Mode; card = None }
head_of (records.Band lower) = record { kind = kinds.Band; card = None }
head_of (records.Timed n period deadline cost) = record { kind = kinds.Timed; card = Some n }
head_of (records.Recost n index cost) = record { kind = kinds.Recost; card = Some n }
head_of (records.Cut n speed) = record { kind = kinds.Cut; card = Some n }
head_of (records.Drop n) = record { kind = kinds.Drop; card = Some n }
head_of (records.Judge horizon) = record { kind = kinds.Judge; card = None }
