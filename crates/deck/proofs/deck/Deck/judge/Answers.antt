use Rattle.std.proofs.Common.{ℕ, ◌+◌, ◌*◌, ◌≤◌, [], ◌∷◌, ◌++◌, map, length, get_or, ◌∙◌, arith, length-append}
use Rattle.std.proofs.lemmas.List.{length-map}
use Rattle.task.specs.Graph.{Graph}
use Rattle.task.specs.Walks.{Total}
use Rattle.engine.specs.Views.{numbers_of}
use Rattle.demand.proofs.Lents.{lent_fits}
use Rattle.deck.specs.declared.deck.Deck.{Deck}
use Rattle.deck.specs.Tables.{crank_of, clock_of, cranks_in, clocks_in}
use Rattle.deck.specs.Cards.{cards_of}
use Rattle.deck.specs.Judging.{crank_graph, clock_graph, tasks, Says}
use Rattle.deck.specs.Sums.{Grown}
use Rattle.deck.proofs.Seen.{count_seen}
use Rattle.deck.proofs.OfDecks.{promised}
use Rattle.deck.proofs.Rights.{cranks_right}
use Rattle.deck.proofs.Totals.{grown_one, grown_then, grown_seen, spared_then, summed_from, says_from}
use Rattle.deck.proofs.deck.Deck.judge.Given as given
use Rattle.deck.proofs.deck.Deck.judge.Goals as goal
use Rattle.deck.proofs.deck.Deck.judge.Goals.{After-over}

-- a plan has few enough tasks
few_tasks : (d : Deck) (guest : Graph) → length (tasks (cards_of d) guest) ≤ 21
few_tasks d guest =
    let e = numbers_of d.engine in
    let one = map (crank_graph e) (cranks_in d.cranks) in
    let two = map (clock_graph e) (clocks_in d.timeds) in
    omega (
      arith,
      length-append (one ++ two) (guest ∷ []),
      length-append one two,
      length-map (cranks_in d.cranks) (crank_graph e),
      length-map (clocks_in d.timeds) (clock_graph e),
      count_seen crank_of d.cranks,
      count_seen clock_of d.timeds,
      d.cranks.few,
      d.timeds.few,
    )

pub add_cards-requires : goal.add_cards-requires
add_cards-requires g c = rw c.as_slice.ensures (cranks_right c.args.self.now)

-- the totals when the verdict is made
pub record Summed (g : given.Over) (c : goal.After-over g) : Type 0 where
  pub grown : Grown (tasks (cards_of c.args.self.now) (g.G.Task.graph c.args.guest.now)) c.args.horizon c.clear.new.totals c.add.new.totals
  pub summed : (t : ℕ) → t ≤ c.args.horizon → Total (tasks (cards_of c.args.self.now) (g.G.Task.graph c.args.guest.now)) t (get_or c.add.new.totals t 0)
  pub says : Says c.over.result (tasks (cards_of c.args.self.now) (g.G.Task.graph c.args.guest.now)) c.args.horizon

sums : (g : given.Over) (c : goal.After-over g) → Summed g c
sums g c =
    let deck = c.args.self.now in
    let e = numbers_of deck.engine in
    let guest = g.G.Task.graph c.args.guest.now in
    let horizon = c.args.horizon in
    let cranks = c.add_cards.new.totals in
    let timeds = c.add_cards-2.new.totals in
    let one = map (crank_graph e) (cranks_in deck.cranks) in
    let two = map (clock_graph e) (clocks_in deck.timeds) in
    let lent = lent_fits horizon (length c.args.work.now) (length c.args.totals.now) c.in_ok-check_lent.ensures in
    let grown =
    grown_then (one ++ two) (guest ∷ []) horizon c.clear.new.totals timeds c.add.new.totals
    (grown_then one two horizon c.clear.new.totals cranks timeds
    (grown_seen (crank_graph e) crank_of c.as_slice.result.now _ horizon c.clear.new.totals cranks c.as_slice.ensures c.in_ok-add_cards.ensures.0)
    (grown_seen (clock_graph e) clock_of c.as_slice-2.result.now _ horizon cranks timeds c.as_slice-2.ensures c.in_ok-add_cards-2.ensures.0))
    (grown_one guest (g.met.G.Task.lawful c.args.guest.now) horizon c.add_cards-2.new.work c.add.new.work timeds c.add.new.totals c.in_ok-add.ensures.added)
    in
    let summed = summed_from (tasks (cards_of deck) guest) horizon c.clear.new.totals c.add.new.totals (few_tasks deck guest) lent.most c.clear.ensures.cleared grown in
    record {
      grown = grown;
      summed = summed;
      says = says_from (tasks (cards_of deck) guest) horizon c.add.new.totals summed c.over.result c.over.ensures;
    }

pub returns-clause-judged : goal.returns-clause-judged
returns-clause-judged g c =
    let all = sums g (goal.at.returns-clause-judged g c).After-over in
    let cells = 24 * (c.args.horizon + 1) in
    record {
      summed = all.summed;
      beyond = λ t h. all.grown.beyond t h ∙ c.clear.ensures.beyond t h;
      spare =
          spared_then cells c.args.work.now c.add_cards-2.new.work c.add.new.work
          (spared_then cells c.args.work.now c.add_cards.new.work c.add_cards-2.new.work c.in_ok-add_cards.ensures.1 c.in_ok-add_cards-2.ensures.1)
          c.in_ok-add.ensures.added.spare;
      says = all.says;
    }

pub returns-clause-runs : goal.returns-clause-runs
returns-clause-runs g c =
    let guest = c.args.guest.now in
    promised c.args.self.now (g.G.Task.graph guest) (g.G.Task.lists guest) c.args.horizon (g.met.G.Task.lawful guest) (g.met.G.Task.follows guest) c.over.result
    (sums g (goal.at.returns-clause-runs g c).After-over).says
