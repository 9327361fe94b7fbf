use Rattle.std.proofs.Common.{rules}
use Rattle.bands.proofs.Examples.{worked}
use Rattle.bands.proofs.worked.worked_gaps.Goals as goal

pub returns : goal.returns
returns c = (search rules, worked)
