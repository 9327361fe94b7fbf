-- What the next record is where the kind of the byte at the front is known.
use Rattle.std.proofs.Common.{◌≡◌, ℕ, ◌-◌, ◌<◌, List, [], ◌∷◌, length, get_or, take, drop, Some, None, Ok, Err, Option, Result, sym, refl, subst, arith}
use Rattle.std.proofs.lemmas.List.{take_rest}
use Rattle.std.specs.Option.{ok_or}
use Rattle.refusal.specs.declared.Refusal.{Refusal}
use Rattle.refusal.specs.declared.Refusal.TheVariants as refusals
use Rattle.planfile.specs.declared.faults.FileFault.{FileFault}
use Rattle.planfile.specs.declared.faults.RecordFault.{RecordFault}
use Rattle.planfile.specs.declared.faults.In.{In}
use Rattle.records.specs.declared.record.Kind.{Kind}
use Rattle.records.specs.declared.record.UnknownKind.{UnknownKind}
use Rattle.planfile.specs.declared.turns.Open.{Open}
use Rattle.records.specs.declared.record.Record.{Record}
use Rattle.records.specs.Format.{kind_of}
use Rattle.records.specs.Bodies.{read_kind}
use Rattle.planfile.specs.Reading.{known, next_record}
use Rattle.planfile.specs.Faults.{placed, file_fault, one, in_record}
use Rattle.planfile.specs.Places.{kind_at, faulted, read_at}

-- the kind that was read of a byte is the one that it stands for
kind_read : (at b : ℕ) (k : Kind) (read : Result Kind UnknownKind) → read ≡ read_kind b → Ok k ≡ placed at read → Some k ≡ kind_of b
kind_read at b k read h e = go (kind_of b) read h e
  where
    go : (o : Option Kind) (r : Result Kind UnknownKind) → r ≡ ok_or o (record { 0 = b }) → Ok k ≡ placed at r → Some k ≡ o
    go None (Ok j) h e = cc
    go None (Err u) h e = cc
    go (Some x) (Ok j) h e = cc
    go (Some x) (Err u) h e = cc

-- bytes whose first stands for a kind
pub next_known : (o : Open) (k : Kind) (rest : List ℕ) → 0 < length rest → Some k ≡ kind_of (get_or rest 0 0) → next_record o rest ≡ known o k (drop 1 rest)
next_known o k [] h e = absurd (omega arith)
next_known o k (b ∷ bs) h e =
    let P : Option Kind → Type 0 = λ q. elim q [ None ↦ Err refusals.UnknownKind | Some j ↦ known o j bs ] ≡ known o k bs in
    subst P e refl

pub kind_here : (k : Kind) (rest : List ℕ) → 0 < length rest → Some k ≡ kind_of (get_or rest 0 0) → kind_at rest ≡ Some k
kind_here k [] h e = absurd (omega arith)
kind_here k (b ∷ bs) h e = sym e

-- what `next` answers, of an answer about one record
abbrev pub filed : ℕ → Result Record RecordFault → Result (Option Record) FileFault
filed at (Ok r) = Ok (Some r)
filed at (Err f) = Err (file_fault (record { context = at; fault = f }))

pub faulted_filed : (at : ℕ) (k : Kind) (rest : List ℕ) (read : Result (Option Record) Refusal) (got : Result Record RecordFault) → kind_at rest ≡ Some k → one got ≡ in_record k read → filed at got ≡ faulted at rest read
faulted_filed at k rest (Ok o) (Ok r) e h = cc
faulted_filed at k rest (Ok o) (Err f) e h = cc
faulted_filed at k rest (Err x) (Ok r) e h = cc
faulted_filed at k rest (Err x) (Err f) e h = let same : f ≡ record { kind = k; card = None; refusal = x } = cc in rw (same, e)

pub filed_ok : (at : ℕ) (got : Result Record RecordFault) (r : Record) → Ok r ≡ placed at got → filed at got ≡ Ok (Some r)
filed_ok at (Ok x) r e = cc
filed_ok at (Err f) r e = cc

pub filed_err : (at : ℕ) (got : Result Record RecordFault) (i : In ℕ RecordFault) → Err i ≡ placed at got → filed at got ≡ Err (file_fault i)
filed_err at (Ok x) i e = cc
filed_err at (Err f) i e = let same : i ≡ record { context = at; fault = f } = cc in rw same

-- the bytes from a place on, and those past their first, as a slice pattern has them
abbrev pub left : ℕ → List ℕ → List ℕ
left at bytes = take (length bytes - at) (drop at bytes)

-- an answer about the record at a place is, filed, what is read there
pub answered : (o : Open) (at : ℕ) (bytes : List ℕ) (k : Kind) (byte : Result Kind UnknownKind) (got : Result Record RecordFault) → 0 < length (left at bytes) → byte ≡ read_kind (get_or (left at bytes) 0 0) → Ok k ≡ placed at byte → one got ≡ in_record k (known o k (left 1 (left at bytes))) → filed at got ≡ read_at o at bytes
answered o at bytes k byte got h b p d =
    let t : List ℕ = left at bytes in
    let e = kind_read at (get_or t 0 0) k byte b p in
    let P : List ℕ → Type 0 = λ bs. one got ≡ in_record k (known o k bs) in
    let read : one got ≡ in_record k (next_record o t) = rw (next_known o k t h e) (subst P (take_rest t 1) d) in
    let Q : List ℕ → Type 0 = λ bs. filed at got ≡ faulted at bs (next_record o bs) in
    subst Q (take_rest bytes at) (faulted_filed at k t (next_record o t) got (kind_here k t h e) read)
