use Rattle.std.proofs.Common.{◌+◌, ◌*◌, map, take}
use Rattle.engine.specs.Views.{numbers_of}
use Rattle.demand.specs.Table.{Spared}
use Rattle.deck.specs.Sums.{Grown}
use Rattle.deck.proofs.judging.add_cards.Given as goal

-- the cards so far are in the totals
abbrev pub invariant-loop-card : goal.invariant-loop-card
invariant-loop-card g l =
    Grown (map (g.C.TaskCard.graph (numbers_of l.engine)) (take l.card-index l.cards)) l.horizon l.initial.totals l.totals
    × Spared (24 * (l.horizon + 1)) l.initial.work l.work
