-- The graph that a local copy of a task stands for.
use Rattle.task.specs.Graph.{Graph}
use Rattle.demand.specs.declared.local.Local.{Local}
use Rattle.demand.specs.Stops.{graph_on}

abbrev pub graph_of : Local → Graph
graph_of c = graph_on c.stops.used c.stops.table
