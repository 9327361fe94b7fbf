use Rattle.std.proofs.Common.{◌≡◌, ◌+◌, ◌*◌, get_or, arith}
use Rattle.engine.specs.Views.{numbers_of}
use Rattle.deck.proofs.Totals.{grown_one, grown_more, spared_then}
use Rattle.deck.proofs.judging.add_cards.Goals as goal

pub loop-card-preserved : goal.loop-card-preserved
loop-card-preserved g c =
    let e = numbers_of c.args.engine.now in
    let done = c.in_ok-add.ensures.added in
    let task = g.C.Kind.Task.graph c.task.result in
    let same : task ≡ g.C.TaskCard.graph e (get_or c.args.cards.now c.loop-card.card-index c.card-item.result) = cc in (
      grown_more (g.C.TaskCard.graph e) c.args.cards.now c.loop-card.card-index c.card-item.result task c.args.horizon c.args.totals.now c.loop-card.totals c.add.new.totals
          (omega arith) same c.loop-card.invariant.0
          (grown_one task (g.met.C.Kind.Task.lawful c.task.result) c.args.horizon c.loop-card.work c.add.new.work c.loop-card.totals c.add.new.totals done),
      spared_then (24 * (c.args.horizon + 1)) c.args.work.now c.loop-card.work c.add.new.work c.loop-card.invariant.1 done.spare,
    )
