-- The bytes of a plan file's records: one kind byte, then a body whose length the kind fixes, high byte first.
use Rattle.std.specs.Prelude.{ℕ, ◌+◌, ◌*◌, cond, List, [], ◌∷◌, take, drop, Some, None, Option, ◌==◌}
use Rattle.records.specs.declared.record.Kind.{Kind}
use Rattle.records.specs.declared.record.Kind.TheVariants as kinds
use Rattle.records.specs.declared.record.Record.{Record}
use Rattle.records.specs.declared.record.Record.TheVariants as records

-- the byte of a kind
abbrev pub kind_byte : Kind → ℕ
kind_byte kinds.Engine = 1
kind_byte kinds.Card = 2
kind_byte kinds.Mode = 3
kind_byte kinds.Band = 4
kind_byte kinds.Timed = 5
kind_byte kinds.Recost = 6
kind_byte kinds.Cut = 7
kind_byte kinds.Drop = 8
kind_byte kinds.Judge = 9

-- the kind that a byte stands for
abbrev pub kind_of : ℕ → Option Kind
kind_of b =
    cond (b == 1) (Some kinds.Engine)
    (cond (b == 2) (Some kinds.Card)
    (cond (b == 3) (Some kinds.Mode)
    (cond (b == 4) (Some kinds.Band)
    (cond (b == 5) (Some kinds.Timed)
    (cond (b == 6) (Some kinds.Recost)
    (cond (b == 7) (Some kinds.Cut)
    (cond (b == 8) (Some kinds.Drop)
    (cond (b == 9) (Some kinds.Judge) None))))))))

-- how many bytes follow the kind byte
abbrev pub body_length : Kind → ℕ
body_length kinds.Engine = 14
body_length kinds.Card = 9
body_length kinds.Mode = 8
body_length kinds.Band = 4
body_length kinds.Timed = 13
body_length kinds.Recost = 6
body_length kinds.Cut = 5
body_length kinds.Drop = 1
body_length kinds.Judge = 4

-- bytes as a number, high byte first, after what was read before
abbrev pub number_after : ℕ → List ℕ → ℕ
number_after n [] = n
number_after n (b ∷ bs) = number_after (n * 256 + b) bs

-- the number in the bytes of a body from a place on
abbrev pub field : ℕ → ℕ → List ℕ → ℕ
field from size body = number_after 0 (take size (drop from body))

-- the record of a kind with this body
abbrev pub decoded : Kind → List ℕ → Record
decoded kinds.Engine b = records.Engine (field 0 4 b) (field 4 4 b) (field 8 2 b) (field 10 2 b) (field 12 2 b)
decoded kinds.Card b = records.Card (field 0 1 b) (field 1 4 b) (field 5 2 b) (field 7 1 b) (field 8 1 b)
decoded kinds.Mode b = records.Mode (field 0 4 b) (field 4 4 b)
decoded kinds.Band b = records.Band (field 0 4 b)
decoded kinds.Timed b = records.Timed (field 0 1 b) (field 1 4 b) (field 5 4 b) (field 9 4 b)
decoded kinds.Recost b = records.Recost (field 0 1 b) (field 1 1 b) (field 2 4 b)
decoded kinds.Cut b = records.Cut (field 0 1 b) (field 1 4 b)
decoded kinds.Drop b = records.Drop (field 0 1 b)
decoded kinds.Judge b = records.Judge (field 0 4 b)
