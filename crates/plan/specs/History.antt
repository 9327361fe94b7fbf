-- Histories of a plan: the calls that its maker applies to it, with their answers, and what stands after them,
-- counted from the calls alone.
use Rattle.std.specs.Prelude.{ℕ, Bool, true, false, not, ◌||◌, List, [], ◌∷◌, take, Some, None, Ok, Err, Option, Result}
use Rattle.refusal.specs.declared.Refusal.{Refusal}
use Rattle.ladder.specs.Rungs.{rung_speed}
use Rattle.task.specs.Graph.{Graph}
use Rattle.engine.specs.Views.{Numbers}
use Rattle.demand.specs.declared.walk.Told.{Told}
use Rattle.demand.specs.declared.walk.ToldJob.{ToldJob}
use Rattle.demand.specs.Judged.{lent_refusal}
use Rattle.deck.specs.declared.verdict.Verdict.{Verdict}
use Rattle.deck.specs.Tables.{Crank, Clock}
use Rattle.deck.specs.Cards.{Cards}
use Rattle.deck.specs.Calls.{engine_refused, with_engine, crank_refused, with_crank, clock_refused, with_clock, recost_refused, with_recost, cut_refused, with_cut, rung_cut_refused, with_rung_cut, drop_refused, with_drop}
use Rattle.deck.specs.Judging.{mark_of}
use Rattle.deck.specs.Telling.{tell_refused}
use Rattle.plan.specs.Standing.{Standing, new_plan, changed}

-- the calls that change engine or cards, with their arguments
pub data Change : Type 0 where
  set_engine : Numbers → Change
  add_engine_card : Crank → Change
  add_timed_card : Clock → Change
  recost : (number index cost : ℕ) → Change
  cut : (number speed : ℕ) → Change
  rung_cut : (number rung : ℕ) → Change
  drop_card : (number : ℕ) → Change

abbrev pub change_refused : Cards → Change → Option Refusal
change_refused s (set_engine e) = engine_refused s e
change_refused s (add_engine_card c) = crank_refused s c
change_refused s (add_timed_card c) = clock_refused s c
change_refused s (recost n index cost) = recost_refused s n index cost
change_refused s (cut n speed) = cut_refused s n speed
change_refused s (rung_cut n rung) = rung_cut_refused s n (rung_speed rung)
change_refused s (drop_card n) = drop_refused s n

abbrev pub with_change : Cards → Change → Cards
with_change s (set_engine e) = with_engine s e
with_change s (add_engine_card c) = with_crank s c
with_change s (add_timed_card c) = with_clock s c
with_change s (recost n index cost) = with_recost s n index cost
with_change s (cut n speed) = with_cut s n speed
with_change s (rung_cut n rung) = with_rung_cut s n (rung_speed rung)
with_change s (drop_card n) = with_drop s n

-- All calls. Each judge and each tell has a guest of its own, known by its graph; of lent memory only the length counts.
pub data Call : Type 0 where
  change : Change → Call
  judge : (guest : Graph) (horizon work totals : ℕ) → Call
  tell : (guest : Graph) (number window work jobs : ℕ) → Call
  seal : Call
  mark : Call

pub data Answer : Type 0 where
  done : Answer
  refused : Refusal → Answer
  verdict : Verdict → Answer
  -- how many jobs, their demand, and the jobs
  told : (count demand : ℕ) (jobs : List ToldJob) → Answer
  marked : (mark : ℕ) → Answer

pub record Event : Type 0 where
  pub call : Call
  pub answer : Answer

-- the latest event comes first
abbrev pub History : Type 0
History = List Event

-- whether a call is refused: by what stands and its arguments alone
abbrev pub refusal_of : Cards → Call → Option Refusal
refusal_of s (change c) = change_refused s c
refusal_of s (judge g horizon work totals) = lent_refusal horizon work totals
refusal_of s (tell g n window work jobs) = tell_refused s n window work jobs
refusal_of s seal = None
refusal_of s mark = None

-- a judging sets the mark: to its horizon, or to 0
abbrev pub mark_after : ℕ → Answer → ℕ
mark_after m done = m
mark_after m (refused r) = m
mark_after m (verdict v) = mark_of v
mark_after m (told count demand jobs) = m
mark_after m (marked n) = m

-- what a call leaves: a refused one, tell, seal and mark leave everything
abbrev pub left : Standing → Option Refusal → Call → Answer → Standing
left s (Some r) call a = s
left s None (change c) a = changed (with_change s.cards c)
left s None (judge g horizon work totals) a = record { cards = s.cards; mark = mark_after s.mark a }
left s None (tell g n window work jobs) a = s
left s None seal a = s
left s None mark a = s

abbrev pub after : Standing → Event → Standing
after s e = left s (refusal_of s.cards e.call) e.call e.answer

-- what stands after a history, from a new plan on
abbrev pub counted : History → Standing
counted [] = new_plan
counted (e ∷ h) = after (counted h) e

-- whether the plan has been sealed
abbrev pub is_seal : Call → Bool
is_seal (change c) = false
is_seal (judge g horizon work totals) = false
is_seal (tell g n window work jobs) = false
is_seal seal = true
is_seal mark = false

abbrev pub sealed_in : History → Bool
sealed_in [] = false
sealed_in (e ∷ h) = is_seal e.call || sealed_in h

-- a draft takes every call, a sealed plan only tell and mark
abbrev pub takes : Bool → Call → Bool
takes sealed (change c) = not sealed
takes sealed (judge g horizon work totals) = not sealed
takes sealed (tell g n window work jobs) = true
takes sealed seal = not sealed
takes sealed mark = true

-- ---- the event of a call, by its arguments and what it returned

abbrev pub answer_in : {U : Type 0} → Result U Refusal → Answer
answer_in (Ok u) = done
answer_in (Err r) = refused r

abbrev pub verdict_in : Result Verdict Refusal → Answer
verdict_in (Ok v) = verdict v
verdict_in (Err r) = refused r

-- the told jobs are the first of the lent list as it was left
abbrev pub told_in : Result Told Refusal → List ToldJob → Answer
told_in (Ok x) jobs = told x.count x.demand (take x.count jobs)
told_in (Err r) jobs = refused r

abbrev pub changing : {U : Type 0} → Change → Result U Refusal → Event
changing c r = record { call = change c; answer = answer_in r }

abbrev pub judging : Graph → ℕ → ℕ → ℕ → Result Verdict Refusal → Event
judging g horizon work totals r = record { call = judge g horizon work totals; answer = verdict_in r }

abbrev pub telling : Graph → ℕ → ℕ → ℕ → ℕ → Result Told Refusal → List ToldJob → Event
telling g n window work lent r jobs = record { call = tell g n window work lent; answer = told_in r jobs }

abbrev pub sealing : Event
sealing = record { call = seal; answer = done }

abbrev pub marking : ℕ → Event
marking m = record { call = mark; answer = marked m }
