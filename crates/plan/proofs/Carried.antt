-- Each call carries every history on.
use Rattle.std.proofs.Common.{◌≡◌, ℕ, ◌+◌, Bool, true, false, List, [], ◌∷◌, length, take, Some, None, Ok, Err, Result, sym, refl, ap, ◌∙◌, subst, inl, inr, ⊎_elim, arith, MatchResult}
use Rattle.refusal.specs.declared.Refusal.{Refusal}
use Rattle.refusal.specs.Numbers.{refusal_in}
use Rattle.task.specs.Graph.{Graph, Lawful}
use Rattle.task.specs.Walks.{ticks}
use Rattle.demand.specs.declared.walk.Told.{Told}
use Rattle.demand.specs.declared.walk.ToldJob.{ToldJob}
use Rattle.demand.specs.Judged.{lent_refusal}
use Rattle.demand.specs.Told.{told_from, Tells}
use Rattle.deck.specs.declared.verdict.Verdict.{Verdict}
use Rattle.deck.specs.Judging.{tasks, Says, mark_of}
use Rattle.deck.specs.Telling.{tell_refused, task_at}
use Rattle.plan.specs.Standing.{Standing, changed}
use Rattle.plan.specs.History.{Change, change, judge, tell, done, refused, verdict, told, marked, change_refused, with_change, left, changing, judging, telling, sealing, marking}
use Rattle.plan.specs.EveryHistory.{ToldWalk, ByTable, Carries}
use Rattle.plan.proofs.Histories.{carries}

module _ (s s' : Standing) (c : Change) where
  pub done_carries : None ≡ change_refused s.cards c → s' ≡ changed (with_change s.cards c) → Carries false s (record { call = change c; answer = done }) false s'
  done_carries none leaves =
      carries false s (record { call = change c; answer = done }) s' refl
      (subst (λ o. ByTable s o (record { call = change c; answer = done })) none refl)
      (ap (λ o. left s o (change c) done) (sym none) ∙ sym leaves)

  pub refused_carries : (x : Refusal) → Some x ≡ change_refused s.cards c → s' ≡ s → Carries false s (record { call = change c; answer = refused x }) false s'
  refused_carries x some leaves =
      carries false s (record { call = change c; answer = refused x }) s' refl
      (subst (λ o. ByTable s o (record { call = change c; answer = refused x })) some refl)
      (ap (λ o. left s o (change c) (refused x)) (sym some) ∙ sym leaves)

-- a change is done, or refused, as its call answers
pub change_carries : {U : Type 0} (s s' : Standing) (c : Change) (r : Result U Refusal) → refusal_in r ≡ change_refused s.cards c → MatchResult r (λ _. s' ≡ changed (with_change s.cards c)) (λ _. s' ≡ s) → Carries false s (changing c r) false s'
change_carries s s' c (Ok u) none leaves = done_carries s s' c none leaves
change_carries s s' c (Err x) some leaves = refused_carries s s' c x some leaves

module _ (s s' : Standing) (g : Graph) (law : Lawful g) (horizon work totals : ℕ) where
  pub judge_carries : (r : Result Verdict Refusal) → refusal_in r ≡ lent_refusal horizon work totals → MatchResult r (λ v. Says v (tasks s.cards g) horizon × (s' ≡ record { cards = s.cards; mark = mark_of v })) (λ _. s' ≡ s) → Carries false s (judging g horizon work totals r) false s'
  judge_carries (Ok v) none leaves =
      carries false s (judging g horizon work totals (Ok v)) s' refl
      (subst (λ o. ByTable s o (judging g horizon work totals (Ok v))) none (law, (v, refl, leaves.0)))
      (ap (λ o. left s o (judge g horizon work totals) (verdict v)) (sym none) ∙ sym leaves.1)
  judge_carries (Err x) some leaves =
      carries false s (judging g horizon work totals (Err x)) s' refl
      (subst (λ o. ByTable s o (judging g horizon work totals (Err x))) some refl)
      (ap (λ o. left s o (judge g horizon work totals) (refused x)) (sym some) ∙ sym leaves)

-- as many jobs are told as the walk has places
told_length : (g : Graph) (r p : ℕ) (ps : List ℕ) → length (told_from g r p ps) ≡ length (p ∷ ps)
told_length g r p [] = refl
told_length g r p (q ∷ ps) = let h = told_length g (r + ticks (g.gap p q)) q ps in omega (arith, h)

told_walk : (g : Graph) (window : ℕ) (jobs jobs' : List ToldJob) (n d : ℕ) → Tells g window jobs jobs' n d → ToldWalk g window n d (take n jobs')
told_walk g window jobs jobs' n d tells =
    ⊎_elim
    (λ none.
    let nothing : take n jobs' ≡ [] = ap (λ k. take k jobs') none.count in
    record { greatest = tells.greatest; counts = none.count ∙ sym (ap length nothing); walk = inl (nothing, none.demand, none.none) })
    (λ walk. record {
      greatest = tells.greatest;
      counts = sym (ap length walk.told ∙ told_length g 0 walk.place walk.places ∙ walk.count);
      walk = inr (walk.place, walk.places, walk.inside, walk.told, walk.demand);
    })
    tells.told

module _ (sealed : Bool) (s : Standing) (g : Graph) (n window work : ℕ) (jobs jobs' : List ToldJob) where
  pub tell_carries : (Q : Refusal → Type 0) (r : Result Told Refusal) → refusal_in r ≡ tell_refused s.cards n window work (length jobs) → MatchResult r (λ x. Tells (task_at s.cards g n) window jobs jobs' x.count x.demand) Q → Carries sealed s (telling g n window work (length jobs) r jobs') sealed s
  tell_carries Q (Ok x) none tells =
      carries sealed s (telling g n window work (length jobs) (Ok x) jobs') s refl
      (subst (λ o. ByTable s o (telling g n window work (length jobs) (Ok x) jobs')) none
      (x.count, x.demand, take x.count jobs', refl, told_walk (task_at s.cards g n) window jobs jobs' x.count x.demand tells))
      (ap (λ o. left s o (tell g n window work (length jobs)) (told x.count x.demand (take x.count jobs'))) (sym none))
  tell_carries Q (Err x) some tells =
      carries sealed s (telling g n window work (length jobs) (Err x) jobs') s refl
      (subst (λ o. ByTable s o (telling g n window work (length jobs) (Err x) jobs')) some refl)
      (ap (λ o. left s o (tell g n window work (length jobs)) (refused x)) (sym some))

pub mark_carries : (sealed : Bool) (s : Standing) (m : ℕ) → m ≡ s.mark → Carries sealed s (marking m) sealed s
mark_carries sealed s m e = carries sealed s (marking m) s refl (ap marked e) refl

pub seal_carries : (s s' : Standing) → s' ≡ s → Carries false s sealing true s'
seal_carries s s' e = carries false s sealing s' refl refl (sym e)
