use Rattle.std.proofs.Common.{refl}
use Rattle.deck.proofs.Examples.{worked_table}
use Rattle.deck.proofs.worked.worked_examples.Goals as goal

pub returns : goal.returns
returns c = (refl, worked_table)
