-- The run of a plan file as a history of the plan's calls.
use Rattle.std.specs.Prelude.{ℕ, cond, List, [], ◌∷◌, length, Some, None, MatchBool, Option, nat_lt}
use Rattle.task.specs.Kinds.{empty_graph}
use Rattle.deck.specs.declared.verdict.Verdict.TheVariants as verdicts
use Rattle.plan.specs.Standing.{Standing, new_plan}
use Rattle.plan.specs.History as plans
use Rattle.plan.specs.History.{Call, History}
use Rattle.plan.specs.EveryHistory.{EveryAnswerHolds}
use Rattle.records.specs.declared.record.Record.{Record}
use Rattle.records.specs.declared.record.Record.TheVariants as records
use Rattle.planfile.specs.declared.turns.Open.{Open}
use Rattle.planfile.specs.declared.turns.Open.TheVariants as opens
use Rattle.planfile.specs.Reading.{open_after}
use Rattle.weighing.specs.declared.line.Line.{Line}
use Rattle.weighing.specs.declared.line.Line.TheVariants as lines
use Rattle.weighing.specs.Pending.{Pending, no_card, crank_said, noted}
use Rattle.weighing.specs.Running.{card_whole, engine_said, clock_said, Prints, finished, unfinished, faulty, taken, refused, stopped}

-- the call that a record makes on the plan, where it makes one
abbrev pub call_of : Pending → Open → Record → Option Call
call_of p o (records.Engine m M A D E) = Some (plans.change (plans.set_engine (engine_said m M A D E)))
call_of p o (records.Card n angle share modes bands) = None
call_of p o (records.Mode lower cost) = None
call_of p o (records.Band lower) = cond (card_whole o) (Some (plans.change (plans.add_engine_card (crank_said p)))) None
call_of p o (records.Timed n period deadline cost) =
    Some (plans.change (plans.add_timed_card (clock_said n period deadline cost)))
call_of p o (records.Recost n index cost) = Some (plans.change (plans.recost n index cost))
call_of p o (records.Cut n speed) = Some (plans.change (plans.cut n speed))
call_of p o (records.Drop n) = Some (plans.change (plans.drop_card n))
call_of p o (records.Judge horizon) = Some (plans.judge empty_graph horizon 14424 601)

-- the answer that a line reports
abbrev pub reported : Line → plans.Answer
reported lines.Done = plans.done
reported (lines.Fits horizon) = plans.verdict (verdicts.Fits horizon)
reported (lines.Over t total) = plans.verdict (verdicts.Over t total)
reported (lines.No refusal at) = plans.refused refusal

-- the answer of a call that was carried out
abbrev pub answered : Option Line → plans.Answer
answered None = plans.done
answered (Some line) = reported line

abbrev pub with_call : History → Option Call → plans.Answer → History
with_call h None a = h
with_call h (Some call) a = record { call = call; answer = a } ∷ h

-- the history that a run makes of the one before it: each record that makes a call adds it, with the answer that is printed
abbrev pub played : (bytes : List ℕ) (s : Standing) (p : Pending) (o : Open) (at : ℕ) (ls : List Line) → Prints bytes s p o at ls → History → History
played bytes _ _ _ _ _ (finished s p o at read whole) h = h
played bytes _ _ _ _ _ (unfinished s p o at read left) h = h
played bytes _ _ _ _ _ (faulty s p o at f read) h = h
played bytes _ _ _ _ _ (taken s p o at r s' line rest read takes next) h =
    played bytes s' (noted p at r) (open_after o r) _ rest next (with_call h (call_of (noted p at r) (open_after o r) r) (answered line))
played bytes _ _ _ _ _ (refused s p o at r s' f rest read takes on next) h =
    played bytes s' (noted p at r) (open_after o r) _ rest next (with_call h (call_of (noted p at r) (open_after o r) r) (plans.refused f.refusal))
played bytes _ _ _ _ _ (stopped s p o at r s' f read takes ends) h =
    with_call h (call_of (noted p at r) (open_after o r) r) (plans.refused f.refusal)

-- Of a file that is run: the answers that its lines report are those of a history of calls in which every answer holds.
abbrev pub LinesHold : List ℕ → List Line → Type 0
LinesHold bytes ls =
    MatchBool (nat_lt 2048 (length bytes)) (Unit {0})
    ((run : Prints bytes new_plan no_card opens.Start 0 ls) × EveryAnswerHolds (played bytes new_plan no_card opens.Start 0 ls run []))
