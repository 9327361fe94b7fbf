-- What a table of fixed length holds.
use Rattle.std.specs.Prelude.{ℕ, List, take}
use Rattle.table.specs.declared.few.Few.{Few}

-- the items in use, in their order
abbrev pub items_of : {T : Type 0} {N : ℕ} → Few T N → List T
items_of t = take t.used t.table
