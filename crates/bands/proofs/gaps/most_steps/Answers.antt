use Rattle.bands.specs.Laws.Squares.{root_past}
use Rattle.bands.proofs.gaps.most_steps.Goals as goal

pub returns-clause-past : goal.returns-clause-past
returns-clause-past c =
    root_past c.args.step c.args.base c.args.bound c.isqrt.result c.requires.moves c.isqrt.ensures.next_square_gt
