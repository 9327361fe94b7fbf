use Rattle.bands.specs.Laws.Squares.{peak_start}
use Rattle.bands.proofs.gaps.Turn.peaked_ticks.Goals as goal

pub most_steps-requires-clause-starts : goal.most_steps-requires-clause-starts
most_steps-requires-clause-starts c =
    let t = c.args.self.now in
    rw (c.weighed.ensures.value, c.peak.ensures.value) (peak_start t.rise t.fall t.angle t.from.high t.to.high)
