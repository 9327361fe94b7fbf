-- The task of a number is that of the card that is found under it.
use Rattle.std.proofs.Common.{◌≡◌, ℕ, true, false, eqb, List, get_or, None, Ok, Err, Result, sym, ap, ◌∙◌, subst, MatchResult}
use Rattle.std.proofs.lemmas.Bool.{cond-false, or_right}
use Rattle.refusal.specs.declared.Refusal.{Refusal}
use Rattle.task.specs.Graph.{Graph}
use Rattle.engine.specs.Views.{numbers_of}
use Rattle.demand.specs.Told.{walk_refusal, Tells}
use Rattle.demand.specs.declared.walk.Told.{Told}
use Rattle.demand.specs.declared.walk.ToldJob.{ToldJob}
use Rattle.deck.specs.declared.cards.CrankCard.{CrankCard}
use Rattle.deck.specs.declared.cards.TimedCard.{TimedCard}
use Rattle.deck.specs.declared.deck.Deck.{Deck}
use Rattle.deck.specs.Tables.{crank_of, clock_of}
use Rattle.deck.specs.Cards.{Cards, cards_of}
use Rattle.deck.specs.Calls.{crank_at, clock_at, in_use}
use Rattle.deck.specs.Found.{AtCrank, AtTimed}
use Rattle.deck.specs.Judging.{crank_graph, clock_graph}
use Rattle.deck.specs.Telling.{tell_refused, clock_task, crank_task, task_at}
use Rattle.deck.proofs.Decks.{crank_found, clock_found}

-- a number in use passes the first check
pub tell_passes : (s : Cards) (n window work jobs : ℕ) → in_use s n ≡ true → walk_refusal window work jobs ≡ tell_refused s n window work jobs
tell_passes s n window work jobs here = let either = or_right (eqb n 0) (in_use s n) here in rw either

-- the task of the card at index i of its table
module _ (d : Deck) (guest : Graph) (n i : ℕ) (other : eqb n 0 ≡ false) where
  pub crank_told : (x : CrankCard) → AtCrank d.cranks n i → crank_graph (numbers_of d.engine) (crank_of (get_or d.cranks.table i x)) ≡ task_at (cards_of d) guest n
  crank_told x at =
      let e = numbers_of d.engine in
      let rest = clock_task e (clock_at (cards_of d) n) guest in
      sym (ap (λ o. crank_task e o rest) (crank_found d n i at x))
      ∙ sym (cond-false (eqb n 0) guest (crank_task e (crank_at (cards_of d) n) rest) other)

  pub clock_told : (x : TimedCard) → crank_at (cards_of d) n ≡ None → AtTimed d.timeds n i → clock_graph (numbers_of d.engine) (clock_of (get_or d.timeds.table i x)) ≡ task_at (cards_of d) guest n
  clock_told x none at =
      let e = numbers_of d.engine in
      let rest = clock_task e (clock_at (cards_of d) n) guest in
      sym (ap (λ o. clock_task e o guest) (clock_found d n i at x))
      ∙ sym (ap (λ o. crank_task e o rest) none)
      ∙ sym (cond-false (eqb n 0) guest (crank_task e (crank_at (cards_of d) n) rest) other)

-- what is told of one graph is told of an equal one
pub told_as : (g h : Graph) (t : ℕ) (jobs jobs' : List ToldJob) (Q : Refusal → Type 0) (r : Result Told Refusal) → g ≡ h → MatchResult r (λ x. Tells g t jobs jobs' x.count x.demand) Q → MatchResult r (λ x. Tells h t jobs jobs' x.count x.demand) Q
told_as g h t jobs jobs' Q (Ok x) e told = subst (λ k. Tells k t jobs jobs' x.count x.demand) e told
told_as g h t jobs jobs' Q (Err y) e told = told
