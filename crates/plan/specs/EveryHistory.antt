-- The promise: whatever calls are made, in whatever order, refused ones among them, every answer holds.
use Rattle.std.specs.Prelude.{◌≡◌, ℕ, ◌+◌, ◌*◌, ◌<◌, ◌≤◌, Bool, true, false, ◌⊎◌, List, [], ◌∷◌, ◌++◌, map, length, Some, None, Ok, Option, ◌≢◌}
use Rattle.std.specs.List.{AllByRecursion}
use Rattle.refusal.specs.declared.Refusal.{Refusal}
use Rattle.task.specs.Graph.{Graph, Lawful}
use Rattle.task.specs.Jobs.{Follows}
use Rattle.task.specs.Walks.{Inside, demand_of, Greatest}
use Rattle.demand.specs.declared.walk.ToldJob.{ToldJob}
use Rattle.demand.specs.Told.{told_from}
use Rattle.deck.specs.declared.verdict.Verdict.{Verdict}
use Rattle.deck.specs.declared.verdict.Verdict.TheVariants.{Fits, Over}
use Rattle.deck.specs.Cards.{Cards}
use Rattle.deck.specs.Judging.{tasks, Says}
use Rattle.deck.specs.Telling.{named, tell_refused, task_at}
use Rattle.deck.specs.EveryRun.{FitsEveryRun, FitsEveryRunAlone}
use Rattle.plan.specs.Standing.{Standing}
use Rattle.plan.specs.History.{Change, Call, change, judge, tell, seal, mark, Answer, done, refused, verdict, told, marked, Event, History, refusal_of, counted, sealed_in, takes, judging, sealing}

-- ---- one answer

-- A told walk of the graph g: it is inside the window and has the greatest demand there, its first release is at 0 and
-- each other its gap later; no job is told where no walk is inside.
pub record ToldWalk (g : Graph) (window count demand : ℕ) (jobs : List ToldJob) : Type 0 where
  pub greatest : Greatest g window demand
  pub counts : count ≡ length jobs
  pub walk : ((jobs ≡ []) × (demand ≡ 0) × ((p : ℕ) (ps : List ℕ) → Inside g window p ps → ⊥)) ⊎ ((p : ℕ) × (ps : List ℕ) × Inside g window p ps × (jobs ≡ told_from g 0 p ps) × (demand_of g p ps ≡ demand))

-- the answer to a call that is not refused, by what stood when it was made
abbrev pub RightAnswer : Standing → Call → Answer → Type 0
RightAnswer s (change c) a = a ≡ done
RightAnswer s (judge g horizon work totals) a = Lawful g × ((v : Verdict) × (a ≡ verdict v) × Says v (tasks s.cards g) horizon)
RightAnswer s (tell g n window work lent) a =
    (count : ℕ) × (demand : ℕ) × (jobs : List ToldJob) × (a ≡ told count demand jobs) × ToldWalk (task_at s.cards g n) window count demand jobs
RightAnswer s seal a = a ≡ done
RightAnswer s mark a = a ≡ marked s.mark

-- a call is refused where the table says so, with the refusal that it gives, and else answered right
abbrev pub ByTable : Standing → Option Refusal → Event → Type 0
ByTable s (Some r) e = e.answer ≡ refused r
ByTable s None e = RightAnswer s e.call e.answer

abbrev pub Answered : Bool → Standing → Event → Type 0
Answered sealed s e = (takes sealed e.call ≡ true) × ByTable s (refusal_of s.cards e.call) e

-- ---- why a plan is over

-- the numbers of the cards
abbrev pub numbers : Cards → List ℕ
numbers s = map (λ c. c.number) s.cranks ++ map (λ c. c.number) s.clocks

-- the demands of these numbers, added up
abbrev pub asked_of : (ℕ → ℕ) → List ℕ → ℕ
asked_of demand [] = 0
asked_of demand (n ∷ ns) = demand n + asked_of demand ns

-- m is the demand of some choice of a walk inside t, or none, for each of the tasks
abbrev pub Chosen : List Graph → ℕ → ℕ → Type 0
Chosen [] t m = m ≡ 0
Chosen (g ∷ gs) t m =
    (a : ℕ) × (b : ℕ) × ((a ≡ 0) ⊎ ((p : ℕ) × (ps : List ℕ) × Inside g t p ps × (demand_of g p ps ≡ a))) × Chosen gs t b × (m ≡ a + b)

-- an event is one of these
abbrev pub Among : Event → History → Type 0
Among e [] = ⊥
Among e (x ∷ h) = (e ≡ x) ⊎ Among e h

-- one of these events told the walk of number n at t, of this guest where n is 0, and its demand was d
abbrev pub ToldDemand : History → Graph → ℕ → ℕ → ℕ → Type 0
ToldDemand h guest n t d =
    (g : Graph) × (n ≡ 0 → g ≡ guest) × ((work : ℕ) × (lent : ℕ) × (count : ℕ) × (jobs : List ToldJob) × Among (record { call = tell g n t work lent; answer = told count d jobs }) h)

-- a tell among these events told a walk of the engine and cards s
abbrev pub ToldOf : Cards → Event → Type 0
ToldOf s e =
    (g : Graph) (n window work lent count demand : ℕ) (jobs : List ToldJob) → e ≡ record { call = tell g n window work lent; answer = told count demand jobs } → ToldWalk (task_at s g n) window count demand jobs

-- no change was accepted
abbrev pub Unchanged : History → Type 0
Unchanged h = AllByRecursion (λ e. (c : Change) → e.call ≡ change c → e.answer ≢ done) h

-- Judge answered "over" at t with the total n, for engine and cards s and a guest. What the tells since then say of it:
pub record Explained (s : Cards) (guest : Graph) (t n : ℕ) (since : History) : Type 0 where
  -- the total is more than the window's length
  pub exceeds : t < n
  -- a tell at t is never refused, with memory enough
  pub never_refused : (number work lent : ℕ) → named s number ≡ true → 24 * (t + 1) ≤ work → t ≤ lent → tell_refused s number t work lent ≡ None
  -- every tell gave a walk of these cards, or none
  pub walks : AllByRecursion (ToldOf s) since
  -- told at t for each card and for the same guest, the walks together demand the total
  pub together : (demand : ℕ → ℕ) → ((number : ℕ) → named s number ≡ true → ToldDemand since guest number t (demand number)) → asked_of demand (numbers s) + demand 0 ≡ n
  -- no choice of walks inside t demands more
  pub most : (m : ℕ) → Chosen (tasks s guest) t m → m ≤ n
  -- no shorter window is over
  pub shorter : (u m : ℕ) → u < t → Chosen (tasks s guest) u m → m ≤ u

-- ---- the promise

pub record EveryAnswerHolds (h : History) : Type 0 where
  -- each call was answered by what stood, as counted from the calls before it
  pub answered : (later earlier : History) (e : Event) → h ≡ later ++ e ∷ earlier → Answered (sealed_in earlier) (counted earlier) e
  -- Wherever judge answered "fits", no window up to its horizon demands more than its length: whatever drives the
  -- engine makes, whatever lawful timings the timed cards keep, whatever jobs follow the guest's graph.
  pub fits : (later earlier : History) (g : Graph) (horizon work totals : ℕ) → h ≡ later ++ judging g horizon work totals (Ok (Fits horizon)) ∷ earlier → FitsEveryRun (counted earlier).cards (Follows g) horizon
  -- Wherever judge answered "over", the tells since then explain it, until a change is accepted.
  pub over : (later since earlier : History) (g : Graph) (horizon work totals t n : ℕ) → h ≡ later ++ (since ++ judging g horizon work totals (Ok (Over t n)) ∷ earlier) → Unchanged since → Explained (counted earlier).cards g t n since
  -- Up to the mark the same holds without a guest, for engine and cards as they stand;
  pub kept : FitsEveryRunAlone (counted h).cards (counted h).mark
  -- and of a sealed plan everything stands as it stood at the seal.
  pub cast : (later earlier : History) → h ≡ later ++ sealing ∷ earlier → counted h ≡ counted earlier

-- ---- on the contracts

-- A history reaches a plan: what is counted from it is what stands there, and every answer in it holds.
pub record Reaches (h : History) (sealed : Bool) (s : Standing) : Type 0 where
  pub stands : counted h ≡ s
  pub seals : sealed_in h ≡ sealed
  pub holds : EveryAnswerHolds h

-- A call carries every history that reaches a plan as passed to one that reaches it as left.
abbrev pub Carries : Bool → Standing → Event → Bool → Standing → Type 0
Carries sealed s e sealed' s' = (h : History) → Reaches h sealed s → Reaches (e ∷ h) sealed' s'

-- So does every call of a draft; of a sealed plan, which no call changes; and the seal, which makes one of the other.
abbrev pub DraftCarries : Standing → Event → Standing → Type 0
DraftCarries s e s' = Carries false s e false s'

abbrev pub SealedCarries : Standing → Event → Type 0
SealedCarries s e = Carries true s e true s

abbrev pub SealCarries : Standing → Standing → Type 0
SealCarries s s' = Carries false s sealing true s'
