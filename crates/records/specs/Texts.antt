-- What a byte that stands for no kind prints.
use Rattle.std.specs.Prelude.{ℕ, List, ◌++◌, codes, decimal}
use Rattle.records.specs.declared.record.UnknownKind.{UnknownKind}

abbrev pub unknown_text : UnknownKind → List ℕ
unknown_text e = codes "no kind of record has the byte " ++ decimal e.0
