use Rattle.demand.proofs.Copies.{stop_is}
use Rattle.demand.proofs.local.Local.stop.Goals as goal

pub returns : goal.returns
returns c = stop_is c.args.self.now.stops.used c.args.self.now.stops.table c.args.v c.requires
