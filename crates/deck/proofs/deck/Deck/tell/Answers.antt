use Rattle.std.proofs.Common.{length, Some, sym, ◌∙◌}
use Rattle.std.proofs.lemmas.Bool.{ne_eqb}
use Rattle.deck.specs.Cards.{cards_of}
use Rattle.deck.proofs.Rights.{crank_right}
use Rattle.deck.proofs.Decks.{stands_in_use}
use Rattle.deck.proofs.Tellings.{tell_passes, crank_told, clock_told, told_as}
use Rattle.deck.proofs.deck.Deck.tell.Goals as goal

pub task-requires : goal.task-requires
task-requires g c =
    let at = rw c.in-Some-Crank.field-0-is at c.in-Some-Crank.ensures in
    crank_right c.args.self.now c.in-Some-Crank.at c.index-self-at.result at.0

pub returns-in-Some-Crank-clause-refusal : goal.returns-in-Some-Crank-clause-refusal
returns-in-Some-Crank-clause-refusal g c =
    let deck = c.args.self.now in
    let n = c.args.number in
    c.greatest_walk-in-Some-Crank.ensures.refusal
    ∙ tell_passes (cards_of deck) n c.args.window (length c.args.work.now) (length c.args.jobs.now) (sym (stands_in_use deck n (Some c.in-Some-Crank.field-0) c.in-Some-Crank.ensures))

pub returns-in-Some-Crank-clause-told : goal.returns-in-Some-Crank-clause-told
returns-in-Some-Crank-clause-told g c =
    let deck = c.args.self.now in
    let n = c.args.number in
    let at = rw c.in-Some-Crank.field-0-is at c.in-Some-Crank.ensures in
    let walk = c.greatest_walk-in-Some-Crank in
    told_as _ _ c.args.window c.args.jobs.now _ _ walk.result
    (c.task.ensures ∙ crank_told deck (g.G.Task.graph c.args.guest.now) n c.in-Some-Crank.at (ne_eqb n 0 c.if-number-eq0.false) c.index-self-at.result at)
    walk.ensures.told

pub returns-in-Some-Timed-clause-refusal : goal.returns-in-Some-Timed-clause-refusal
returns-in-Some-Timed-clause-refusal g c =
    let deck = c.args.self.now in
    let n = c.args.number in
    c.greatest_walk-in-Some-Timed.ensures.refusal
    ∙ tell_passes (cards_of deck) n c.args.window (length c.args.work.now) (length c.args.jobs.now) (sym (stands_in_use deck n (Some c.in-Some-Timed.field-0) c.in-Some-Timed.ensures))

pub returns-in-Some-Timed-clause-told : goal.returns-in-Some-Timed-clause-told
returns-in-Some-Timed-clause-told g c =
    let deck = c.args.self.now in
    let n = c.args.number in
    let at = rw c.in-Some-Timed.field-0-is at c.in-Some-Timed.ensures in
    let walk = c.greatest_walk-in-Some-Timed in
    told_as _ _ c.args.window c.args.jobs.now _ _ walk.result
    (c.task-in-Some-Timed.ensures ∙ clock_told deck (g.G.Task.graph c.args.guest.now) n c.in-Some-Timed.at (ne_eqb n 0 c.if-number-eq0.false) c.index-self-at-in-Some-Timed.result at.0 at.1)
    walk.ensures.told
