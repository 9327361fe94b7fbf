-- The promise over every history: it follows from each call being answered by the table, and so every call keeps it.
use Rattle.std.proofs.Common.{◌≡◌, ℕ, ◌≤◌, Bool, true, false, ◌||◌, List, [], ◌∷◌, ◌++◌, Some, None, Option, sym, refl, ap, ◌∙◌, subst, ⊎_elim, arith}
use Rattle.std.specs.List.{AllByRecursion as All}
use Rattle.std.proofs.lemmas.Bool.{or_right, false≢true}
use Rattle.refusal.specs.declared.Refusal.{Refusal}
use Rattle.task.specs.Graph.{Graph, Lawful}
use Rattle.task.specs.Jobs.{Follows}
use Rattle.demand.specs.declared.walk.ToldJob.{ToldJob}
use Rattle.demand.specs.Judged.{lent_refusal}
use Rattle.demand.proofs.Lents.{lent_fits}
use Rattle.deck.specs.declared.verdict.Verdict.{Verdict}
use Rattle.deck.specs.declared.verdict.Verdict.TheVariants.{Fits, Over}
use Rattle.deck.specs.Cards.{Cards}
use Rattle.deck.specs.Judging.{tasks, Says}
use Rattle.deck.specs.Telling.{tell_refused, task_at}
use Rattle.deck.specs.EveryRun.{FitsEveryRunAlone}
use Rattle.deck.proofs.Sound.{Sound}
use Rattle.deck.proofs.Totals.{total_one}
use Rattle.deck.proofs.Runs.{tasks_lawful, promised, fits_nothing, judged_fits}
use Rattle.plan.specs.Standing.{Standing}
use Rattle.plan.specs.History.{Change, Call, change, judge, tell, seal, mark, Answer, done, refused, verdict, told, Event, History, with_change, refusal_of, mark_after, left, after, counted, is_seal, sealed_in, takes}
use Rattle.plan.specs.EveryHistory.{ToldWalk, ByTable, Answered, Among, ToldOf, Unchanged, Explained, EveryAnswerHolds, Reaches, Carries}
use Rattle.plan.proofs.Apart.{Apart}
use Rattle.plan.proofs.Counted.{change_sound, counted_apart, counted_sound}
use Rattle.plan.proofs.Explained.{chosen_most, total_exists, over_some, told_granted, asked_total}

-- ---- every call was answered by the table
abbrev pub Made : History → Type 0
Made [] = Unit {0}
Made (e ∷ h) = Made h × Answered (sealed_in h) (counted h) e

pub made_at : (later earlier : History) (e : Event) → Made (later ++ e ∷ earlier) → Answered (sealed_in earlier) (counted earlier) e
made_at [] earlier e m = m.1
made_at (x ∷ later) earlier e m = made_at later earlier e m.0

made_after : (later earlier : History) → Made (later ++ earlier) → Made earlier
made_after [] earlier m = m
made_after (x ∷ later) earlier m = made_after later earlier m.0

made_from : (h : History) → ((later earlier : History) (e : Event) → h ≡ later ++ e ∷ earlier → Answered (sealed_in earlier) (counted earlier) e) → Made h
made_from [] f = tt
made_from (x ∷ h) f =
    (made_from h (λ later earlier e p. f (x ∷ later) earlier e (ap (λ l. x ∷ l) p)), f [] h x refl)

-- ---- one answer
not_refused : {v : Verdict} {r : Refusal} → verdict v ≡ refused r → ⊥
not_refused {v} {r} e = let z : ◌≡◌ {A = ℕ} 0 1 = cc in omega arith

-- what a verdict says of what stood
pub judge_says : (s : Standing) (g : Graph) (horizon work totals : ℕ) (v : Verdict) (r : Option Refusal) → lent_refusal horizon work totals ≡ r → ByTable s r (record { call = judge g horizon work totals; answer = verdict v }) → (None ≡ lent_refusal horizon work totals) × Lawful g × Says v (tasks s.cards g) horizon
judge_says s g horizon work totals v (Some x) e b = absurd (not_refused b)
judge_says s g horizon work totals v None e b =
    let same : b.1.0 ≡ v = cc in
    (sym e, b.0, subst (λ x. Says x (tasks s.cards g) horizon) same b.1.2)

not_told : {count demand : ℕ} {jobs : List ToldJob} {r : Refusal} → told count demand jobs ≡ refused r → ⊥
not_told {count} {demand} {jobs} {r} e = let z : ◌≡◌ {A = ℕ} 0 1 = cc in omega arith

told_at : (s : Standing) (g : Graph) (n window work lent count demand : ℕ) (jobs : List ToldJob) (r : Option Refusal) → ByTable s r (record { call = tell g n window work lent; answer = told count demand jobs }) → ToldWalk (task_at s.cards g n) window count demand jobs
told_at s g n window work lent count demand jobs (Some x) b = absurd (not_told b)
told_at s g n window work lent count demand jobs None b =
    let one : b.0 ≡ count = cc in
    let two : b.1 ≡ demand = cc in
    let three : b.2 ≡ jobs = cc in
    subst (λ x. ToldWalk (task_at s.cards g n) window x demand jobs) one
    (subst (λ x. ToldWalk (task_at s.cards g n) window b.0 x jobs) two
    (subst (λ x. ToldWalk (task_at s.cards g n) window b.0 b.1 x) three b.4))

told_right : (s : Standing) (e : Event) → ByTable s (refusal_of s.cards e.call) e → ToldOf s.cards e
told_right s e b g n window work lent count demand jobs is =
    told_at s g n window work lent count demand jobs (tell_refused s.cards n window work lent)
    (subst (λ x. ByTable s (refusal_of s.cards x.call) x) is b)

-- ---- what stands where no change is accepted
keeps_cards : (s : Standing) (r : Option Refusal) (call : Call) (a : Answer) → ByTable s r (record { call = call; answer = a }) → ((c : Change) → call ≡ change c → a ≡ done → ⊥) → (left s r call a).cards ≡ s.cards
keeps_cards s (Some r) call a b quiet = refl
keeps_cards s None (change c) a b quiet = absurd (quiet c refl b)
keeps_cards s None (judge g horizon work totals) a b quiet = refl
keeps_cards s None (tell g n window work lent) a b quiet = refl
keeps_cards s None seal a b quiet = refl
keeps_cards s None mark a b quiet = refl

since_stands : (since h : History) → Made (since ++ h) → Unchanged since → (counted (since ++ h)).cards ≡ (counted h).cards
since_stands [] h m u = refl
since_stands (e ∷ since) h m u =
    keeps_cards (counted (since ++ h)) (refusal_of (counted (since ++ h)).cards e.call) e.call e.answer m.1.1 u.0
    ∙ since_stands since h m.0 u.1

since_told : (since h : History) → Made (since ++ h) → Unchanged since → All (ToldOf (counted h).cards) since
since_told [] h m u = tt
since_told (e ∷ since) h m u = (
  subst (λ s. ToldOf s e) (since_stands since h m.0 u.1) (told_right (counted (since ++ h)) e m.1.1),
  since_told since h m.0 u.1,
)

judge_keeps : (s : Standing) (r : Option Refusal) (g : Graph) (horizon work totals : ℕ) (a : Answer) → (left s r (judge g horizon work totals) a).cards ≡ s.cards
judge_keeps s (Some r) g horizon work totals a = refl
judge_keeps s None g horizon work totals a = refl

-- ---- over
among_all : (P : Event → Type 0) (e : Event) (h : History) → All P h → Among e h → P e
among_all P e [] a i = absurd i
among_all P e (x ∷ h) a i = ⊎_elim (λ p. subst P (sym p) a.0) (λ j. among_all P e h a.1 j) i

explained : (s : Cards) (g : Graph) (t n horizon : ℕ) (since : History) → Sound s → Apart s → Lawful g → horizon ≤ 20000 → Says (Over t n) (tasks s g) horizon → All (ToldOf s) since → Explained s g t n since
explained s g t n horizon since sound apart law most says walks =
    let all = tasks_lawful s g sound law in
    record {
      exceeds = says.1;
      never_refused = λ number work lent here room jobs.
          told_granted s number t work lent here (over_some (tasks s g) all t n says.2 says.1) (omega (arith, says.0)) room jobs;
      walks = walks;
      together = λ demand tells.
          total_one (tasks s g) t _ n
          (asked_total s apart g t demand
          (λ number here.
          let one = tells number here in
          let event = one.2 in
          (one.0, one.1, (among_all (ToldOf s) _ since walks event.4 one.0 number t event.0 event.1 event.2 (demand number) event.3 refl).greatest)))
          says.2;
      most = λ m chosen. chosen_most (tasks s g) t n m says.2 chosen;
      shorter = λ u m below chosen.
          let total = total_exists (tasks s g) all u in
          let most = chosen_most (tasks s g) u total.0 m total.1 chosen in
          let fits = says.3 u total.0 below total.1 in
          omega arith;
    }

over_explained : (since earlier : History) (g : Graph) (horizon work totals t n : ℕ) → Made (since ++ record { call = judge g horizon work totals; answer = verdict (Over t n) } ∷ earlier) → Unchanged since → Explained (counted earlier).cards g t n since
over_explained since earlier g horizon work totals t n m u =
    let event : Event = record { call = judge g horizon work totals; answer = verdict (Over t n) } in
    let says = judge_says (counted earlier) g horizon work totals (Over t n) _ refl (made_at since earlier event m).1 in
    let lent = lent_fits horizon work totals says.0 in
    let same = judge_keeps (counted earlier) (lent_refusal horizon work totals) g horizon work totals (verdict (Over t n)) in
    explained (counted earlier).cards g t n horizon since (counted_sound earlier) (counted_apart earlier) says.1 lent.most says.2
    (subst (λ s. All (ToldOf s) since) same (since_told since (event ∷ earlier) m u))

-- ---- the mark
left_fits : (s : Standing) → Sound s.cards → (r : Option Refusal) (call : Call) (a : Answer) → refusal_of s.cards call ≡ r → ByTable s r (record { call = call; answer = a }) → FitsEveryRunAlone s.cards s.mark → FitsEveryRunAlone (left s r call a).cards (left s r call a).mark
left_fits s sound (Some r) call a e b f = f
left_fits s sound None (change c) a e b f = fits_nothing (with_change s.cards c) (change_sound s.cards c e sound)
left_fits s sound None (judge g horizon work totals) a e b f =
    subst (λ x. FitsEveryRunAlone s.cards (mark_after s.mark x)) (sym b.1.1) (judged_fits s.cards sound g horizon b.0 b.1.0 b.1.2)
left_fits s sound None (tell g n window work lent) a e b f = f
left_fits s sound None seal a e b f = f
left_fits s sound None mark a e b f = f

counted_fits : (h : History) → Made h → FitsEveryRunAlone (counted h).cards (counted h).mark
counted_fits [] m = fits_nothing (counted []).cards (counted_sound [])
counted_fits (e ∷ h) m =
    left_fits (counted h) (counted_sound h) (refusal_of (counted h).cards e.call) e.call e.answer refl m.1.1 (counted_fits h m.0)

-- ---- the seal
sealed_later : (later earlier : History) → sealed_in (later ++ record { call = seal; answer = done } ∷ earlier) ≡ true
sealed_later [] earlier = refl
sealed_later (e ∷ later) earlier = or_right (is_seal e.call) _ (sealed_later later earlier)

-- what a sealed plan takes leaves everything
sealed_keeps : (s : Standing) (r : Option Refusal) (call : Call) (a : Answer) → takes true call ≡ true → left s r call a ≡ s
sealed_keeps s (Some r) call a t = refl
sealed_keeps s None (change c) a t = absurd (false≢true t)
sealed_keeps s None (judge g horizon work totals) a t = absurd (false≢true t)
sealed_keeps s None (tell g n window work lent) a t = refl
sealed_keeps s None seal a t = refl
sealed_keeps s None mark a t = refl

cast_stands : (later earlier : History) → Made (later ++ record { call = seal; answer = done } ∷ earlier) → counted (later ++ record { call = seal; answer = done } ∷ earlier) ≡ counted earlier
cast_stands [] earlier m = refl
cast_stands (e ∷ later) earlier m =
    let h = later ++ record { call = seal; answer = done } ∷ earlier in
    sealed_keeps (counted h) (refusal_of (counted h).cards e.call) e.call e.answer (subst (λ b. takes b e.call ≡ true) (sealed_later later earlier) m.1.0)
    ∙ cast_stands later earlier m.0

-- ---- the promise
made_holds : (h : History) → Made h → EveryAnswerHolds h
made_holds h m = record {
  answered = λ later earlier e p. made_at later earlier e (subst Made p m);
  fits = λ later earlier g horizon work totals p.
      let says = judge_says (counted earlier) g horizon work totals (Fits horizon) _ refl (made_at later earlier _ (subst Made p m)).1 in
      promised (counted earlier).cards (counted_sound earlier) g (Follows g) horizon says.1 (λ k js o f. f) (Fits horizon) says.2;
  over = λ later since earlier g horizon work totals t n p u.
      over_explained since earlier g horizon work totals t n (made_after later _ (subst Made p m)) u;
  kept = counted_fits h m;
  cast = λ later earlier p. ap counted p ∙ cast_stands later earlier (subst Made p m);
}

-- a new plan is reached by no call
pub new_reached : Reaches [] false (counted [])
new_reached = record { stands = refl; seals = refl; holds = made_holds [] tt }

-- a call that is answered by the table carries every history on
pub carries : (sealed : Bool) (s : Standing) (e : Event) (s' : Standing) → takes sealed e.call ≡ true → ByTable s (refusal_of s.cards e.call) e → after s e ≡ s' → Carries sealed s e (is_seal e.call || sealed) s'
carries sealed s e s' taken by leaves h reach =
    let now = subst (λ x. ByTable x (refusal_of x.cards e.call) e) (sym reach.stands) by in
    let free = subst (λ b. takes b e.call ≡ true) (sym reach.seals) taken in
    record {
      stands = ap (λ x. after x e) reach.stands ∙ leaves;
      seals = ap (λ b. is_seal e.call || b) reach.seals;
      holds = made_holds (e ∷ h) (made_from h reach.holds.answered, (free, now));
    }
