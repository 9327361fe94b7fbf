-- What the full rows of a worktable hold.
use Rattle.demand.specs.declared.filled.Filled.{Filled}
use Rattle.demand.specs.Copied.{graph_of}
use Rattle.demand.specs.Table.{Rows}

abbrev pub Full : Filled → Type 0
Full f = Rows (graph_of f.local.now) f.work.now f.rows 0
