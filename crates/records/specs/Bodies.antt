-- What stands at the front of bytes.
use Rattle.std.specs.Prelude.{ℕ, cond, List, length, take, Some, None, Option, Result, nat_lt}
use Rattle.std.specs.Option.{ok_or}
use Rattle.records.specs.declared.record.Kind.{Kind}
use Rattle.records.specs.declared.record.Record.{Record}
use Rattle.records.specs.declared.record.UnknownKind.{UnknownKind}
use Rattle.records.specs.Format.{kind_of, body_length, field, decoded}

-- the kind that a byte stands for, or that byte, which stands for none
abbrev pub read_kind : ℕ → Result Kind UnknownKind
read_kind b = ok_or (kind_of b) (record { 0 = b })

-- the number in the first four bytes, or nothing where there are fewer
abbrev pub front_number : List ℕ → Option ℕ
front_number bytes = cond (nat_lt (length bytes) 4) None (Some (field 0 4 (take 4 bytes)))

-- the record of this kind, or nothing where the bytes are cut short
abbrev pub read_body : Kind → List ℕ → Option Record
read_body k bytes = cond (nat_lt (length bytes) (body_length k)) None (Some (decoded k (take (body_length k) bytes)))
