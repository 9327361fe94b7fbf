-- Every answer holds in the history that the run of a file makes.
use Rattle.std.proofs.Common.{◌≡◌, ℕ, ◌≤◌, false, List, [], ◌∷◌, length, Some, None, Ok, Err, MatchBool, Option, sym, refl, ap, ◌∙◌, subst}
use Rattle.std.proofs.lemmas.Bool.{le-ltb}
use Rattle.refusal.specs.declared.Refusal.{Refusal}
use Rattle.task.specs.Kinds.{empty_graph}
use Rattle.task.specs.Lawful.{empty_lawful}
use Rattle.demand.specs.Judged.{lent_refusal}
use Rattle.deck.specs.declared.verdict.Verdict.{Verdict}
use Rattle.deck.specs.declared.verdict.Verdict.TheVariants as verdicts
use Rattle.plan.specs.Standing.{Standing, new_plan}
use Rattle.plan.specs.History as plans
use Rattle.plan.specs.History.{Change, History, change_refused, with_change}
use Rattle.plan.specs.EveryHistory.{EveryAnswerHolds, Reaches}
use Rattle.plan.proofs.Histories.{new_reached}
use Rattle.plan.proofs.Carried.{done_carries, refused_carries, judge_carries}
use Rattle.records.specs.declared.head.Head.{Head}
use Rattle.records.specs.declared.record.Record.{Record}
use Rattle.records.specs.declared.record.Record.TheVariants as records
use Rattle.planfile.specs.declared.turns.Open.{Open}
use Rattle.planfile.specs.declared.turns.Open.TheVariants as opens
use Rattle.planfile.specs.Reading.{open_after}
use Rattle.weighing.specs.declared.line.Line.{Line}
use Rattle.weighing.specs.declared.line.Line.TheVariants.{Done}
use Rattle.weighing.specs.Lines.{verdict_line}
use Rattle.weighing.specs.Pending.{Pending, no_card, noted}
use Rattle.weighing.specs.Running.{Answer, after_call, answer_of, Judging, Takes, Prints, finished, unfinished, faulty, taken, refused, stopped}
use Rattle.weighing.specs.Played.{call_of, reported, answered, with_call, played, LinesHold}

-- the answer of the plan in the answer to a record
abbrev answer_said : Answer → plans.Answer
answer_said (Ok line) = answered line
answer_said (Err f) = plans.refused f.refusal

-- ---- one record
module _ (h : History) (s s' : Standing) (reach : Reaches h false s) where
  called_reaches : (head : Head) (c : Change) (a : Answer) (x : Option Refusal) → x ≡ change_refused s.cards c → s' ≡ after_call s x (with_change s.cards c) → a ≡ answer_of head (Some Done) x → Reaches (record { call = plans.change c; answer = answer_said a } ∷ h) false s'
  called_reaches head c a None none leaves is =
      subst (λ b. Reaches (record { call = plans.change c; answer = b } ∷ h) false s') (sym (ap answer_said is)) (done_carries s s' c none leaves h reach)
  called_reaches head c a (Some y) some leaves is =
      subst (λ b. Reaches (record { call = plans.change c; answer = b } ∷ h) false s') (sym (ap answer_said is)) (refused_carries s s' c y some leaves h reach)

  quiet_reaches : s' ≡ s → Reaches h false s'
  quiet_reaches e = subst (Reaches h false) (sym e) reach

  verdict_said : (v : Verdict) → reported (verdict_line v) ≡ plans.verdict v
  verdict_said (verdicts.Fits horizon) = refl
  verdict_said (verdicts.Over t n) = refl

  judged_reaches : (head : Head) (horizon : ℕ) (a : Answer) (x : Option Refusal) → x ≡ lent_refusal horizon 14424 601 → Judging head s horizon x s' a → Reaches (record { call = plans.judge empty_graph horizon 14424 601; answer = answer_said a } ∷ h) false s'
  judged_reaches head horizon a None none told =
      subst (λ b. Reaches (record { call = plans.judge empty_graph horizon 14424 601; answer = b } ∷ h) false s') (sym (ap answer_said told.3 ∙ verdict_said told.0))
      (judge_carries s s' empty_graph empty_lawful horizon 14424 601 (Ok told.0) none (told.1, told.2) h reach)
  judged_reaches head horizon a (Some y) some told =
      subst (λ b. Reaches (record { call = plans.judge empty_graph horizon 14424 601; answer = b } ∷ h) false s') (sym (ap answer_said told.1))
      (judge_carries s s' empty_graph empty_lawful horizon 14424 601 (Err y) some told.0 h reach)

  takes_reaches : (p : Pending) (o : Open) (r : Record) (a : Answer) → Takes s p o r s' a → Reaches (with_call h (call_of p o r) (answer_said a)) false s'
  takes_reaches p o (records.Engine m M A D E) a t = called_reaches _ _ a _ refl t.0 t.1
  takes_reaches p o (records.Card n angle share modes bands) a t = quiet_reaches t.0
  takes_reaches p o (records.Mode lower cost) a t = quiet_reaches t.0
  takes_reaches p opens.Start (records.Band lower) a t = quiet_reaches t.0
  takes_reaches p opens.Between (records.Band lower) a t = called_reaches _ _ a _ refl t.0 t.1
  takes_reaches p (opens.Modes m b) (records.Band lower) a t = quiet_reaches t.0
  takes_reaches p (opens.Bands b) (records.Band lower) a t = quiet_reaches t.0
  takes_reaches p o (records.Timed n period deadline cost) a t = called_reaches _ _ a _ refl t.0 t.1
  takes_reaches p o (records.Recost n index cost) a t = called_reaches _ _ a _ refl t.0 t.1
  takes_reaches p o (records.Cut n speed) a t = called_reaches _ _ a _ refl t.0 t.1
  takes_reaches p o (records.Drop n) a t = called_reaches _ _ a _ refl t.0 t.1
  takes_reaches p o (records.Judge horizon) a t = judged_reaches _ horizon a _ refl t

-- ---- all records
played_holds : (bytes : List ℕ) (s : Standing) (p : Pending) (o : Open) (at : ℕ) (ls : List Line) (run : Prints bytes s p o at ls) (h : History) → Reaches h false s → EveryAnswerHolds (played bytes s p o at ls run h)
played_holds bytes _ _ _ _ _ (finished s p o at read whole) h reach = reach.holds
played_holds bytes _ _ _ _ _ (unfinished s p o at read left) h reach = reach.holds
played_holds bytes _ _ _ _ _ (faulty s p o at f read) h reach = reach.holds
played_holds bytes _ _ _ _ _ (taken s p o at r s' line rest read takes next) h reach =
    played_holds bytes s' (noted p at r) (open_after o r) _ rest next _ (takes_reaches h s s' reach (noted p at r) (open_after o r) r (Ok line) takes)
played_holds bytes _ _ _ _ _ (refused s p o at r s' f rest read takes on next) h reach =
    played_holds bytes s' (noted p at r) (open_after o r) _ rest next _ (takes_reaches h s s' reach (noted p at r) (open_after o r) r (Err f) takes)
played_holds bytes _ _ _ _ _ (stopped s p o at r s' f read takes ends) h reach =
    (takes_reaches h s s' reach (noted p at r) (open_after o r) r (Err f) takes).holds

-- what is printed for a file that is not too long holds
pub printed_hold : (bytes : List ℕ) (ls : List Line) → length bytes ≤ 2048 → Prints bytes new_plan no_card opens.Start 0 ls → LinesHold bytes ls
printed_hold bytes ls short run =
    subst (λ b. MatchBool b (Unit {0}) ((r : Prints bytes new_plan no_card opens.Start 0 ls) × EveryAnswerHolds (played bytes new_plan no_card opens.Start 0 ls r [])))
    (sym (le-ltb 2048 (length bytes) short)) (run, played_holds bytes new_plan no_card opens.Start 0 ls run [] new_reached)
