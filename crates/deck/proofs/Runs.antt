-- A verdict about walks is one about every run: the jobs of every run follow the graphs of the cards.
use Rattle.std.proofs.Common.{◌≡◌, ℕ, ◌+◌, ◌*◌, ◌≤◌, true, List, [], ◌∷◌, ◌++◌, map, refl, subst, mul-add, arith}
use Rattle.std.proofs.lemmas.Bool.{and_parts}
use Rattle.task.specs.Graph.{Graph, Lawful}
use Rattle.task.specs.Walks.{Total}
use Rattle.task.specs.Jobs.{Job, Follows, AllFollow, AllLawful, Entered, Timing}
use Rattle.task.specs.Lawful.{entry_lawful, share_lawful, timed_lawful}
use Rattle.task.specs.Following.{entered_follow, shared_follow, timing_follows}
use Rattle.task.proofs.Windows.{lawful_windows_fit}
use Rattle.task.proofs.Existing.{greatest_exists}
use Rattle.engine.specs.Limits.{every, between}
use Rattle.engine.specs.Views.{Numbers}
use Rattle.bands.specs.Graphs.{bands_graph}
use Rattle.bands.specs.Drives.{DrivesJudged}
use Rattle.bands.specs.Laws.Ready.{Ready}
use Rattle.bands.specs.Laws.Lawful.{bands_lawful}
use Rattle.bands.specs.Laws.Drives.{drives_follow, judged_lists}
use Rattle.deck.specs.Tables.{Crank, Clock, right_card}
use Rattle.deck.specs.Cards.{Cards}
use Rattle.deck.specs.Calls.{clock_ok}
use Rattle.deck.specs.declared.verdict.Verdict.{Verdict}
use Rattle.deck.specs.declared.verdict.Verdict.TheVariants.{Fits, Over}
use Rattle.deck.specs.Judging.{crank_graph, clock_graph, tasks, Says, mark_of}
use Rattle.deck.specs.EveryRun.{TimingJudged, Each, RunOf, FitsEveryRun, FitsEveryRunAlone, Promises}
use Rattle.deck.proofs.Sound.{Sound, numbers_ok, crank_ok, between_says, ready_card}
use Rattle.deck.proofs.Totals.{total_append, greatest_most}

-- ---- one card
crank_follows : (e : Numbers) (c : Crank) (k : ℕ) → 1 ≤ k → Ready e c.parts → (js : List Job) → DrivesJudged e c.share c.parts k js → Follows (crank_graph e c) k js
crank_follows e c k o ready js d =
    let l = judged_lists e c.share c.parts k o js d in
    shared_follow _ k c.share l.0 js o
    (entered_follow (bands_graph e c.parts) k e.entry l.1.0 l.0 (drives_follow e c.parts ready k o l.1.0 l.1.1) l.1.2)
    l.2

-- a job of a timed card without the entry cost
bare : Clock → ℕ → Job → Job
bare c k j = record { release = j.release; cost = k * c.cost; due = j.due }

module _ (e : Numbers) (c : Clock) (k : ℕ) where
  bare_timing : (js : List Job) → TimingJudged e c k js → Timing k c.period c.deadline c.cost (map (bare c k) js)
  unfolding bare
  bare_timing [] t = tt
  bare_timing (j ∷ []) t = record { asks = omega arith; due = t.due }
  bare_timing (j ∷ i ∷ js) t = (record { asks = omega arith; due = t.0.due }, t.1, bare_timing (i ∷ js) t.2)

  bare_entered : (js : List Job) → TimingJudged e c k js → Entered k e.entry (map (bare c k) js) js
  unfolding bare
  bare_entered [] t = tt
  bare_entered (j ∷ []) t =
      (record { release = refl; due = refl; more = omega (arith, t.asks, mul-add k e.entry c.cost); most = t.most }, tt)
  bare_entered (j ∷ i ∷ js) t = (
    record { release = refl; due = refl; more = omega (arith, t.0.asks, mul-add k e.entry c.cost); most = t.0.most },
    bare_entered (i ∷ js) t.2,
  )

  clock_follows : (js : List Job) → TimingJudged e c k js → Follows (clock_graph e c) k js
  clock_follows js t =
      entered_follow _ k e.entry (map (bare c k) js) js (timing_follows k c.period c.deadline c.cost (map (bare c k) js) (bare_timing js t)) (bare_entered js t)

-- ---- all cards
cranks_follow : (e : Numbers) (k : ℕ) → 1 ≤ k → numbers_ok e ≡ true → (cs : List Crank) → every (crank_ok e) cs ≡ true → (jss : List (List Job)) → Each (λ c. DrivesJudged e c.share c.parts k) cs jss → AllFollow (map (crank_graph e) cs) k jss
cranks_follow e k o ok [] h [] d = tt
cranks_follow e k o ok [] h (js ∷ jss) d = absurd d
cranks_follow e k o ok (c ∷ cs) h [] d = absurd d
cranks_follow e k o ok (c ∷ cs) h (js ∷ jss) d =
    let parts = and_parts (crank_ok e c) (every (crank_ok e) cs) h in
    let right = and_parts (right_card e c) _ parts.0 in
    (crank_follows e c k o (ready_card e c ok right.0) js d.0, cranks_follow e k o ok cs parts.1 jss d.1)

clocks_follow : (e : Numbers) (k : ℕ) (cs : List Clock) (jss : List (List Job)) → Each (λ c. TimingJudged e c k) cs jss → AllFollow (map (clock_graph e) cs) k jss
clocks_follow e k [] [] d = tt
clocks_follow e k [] (js ∷ jss) d = absurd d
clocks_follow e k (c ∷ cs) [] d = absurd d
clocks_follow e k (c ∷ cs) (js ∷ jss) d = (clock_follows e c k js d.0, clocks_follow e k cs jss d.1)

follow_append : (gs hs : List Graph) (k : ℕ) (xs ys : List (List Job)) → AllFollow gs k xs → AllFollow hs k ys → AllFollow (gs ++ hs) k (xs ++ ys)
follow_append [] hs k [] ys p q = q
follow_append [] hs k (x ∷ xs) ys p q = absurd p
follow_append (g ∷ gs) hs k [] ys p q = absurd p
follow_append (g ∷ gs) hs k (x ∷ xs) ys p q = (p.0, follow_append gs hs k xs ys p.1 q)

-- ---- all graphs are lawful
cranks_lawful : (e : Numbers) → numbers_ok e ≡ true → (cs : List Crank) → every (crank_ok e) cs ≡ true → AllLawful (map (crank_graph e) cs)
cranks_lawful e ok [] h = tt
cranks_lawful e ok (c ∷ cs) h =
    let parts = and_parts (crank_ok e c) (every (crank_ok e) cs) h in
    let right = and_parts (right_card e c) _ parts.0 in (
      share_lawful c.share _ (between_says 1 1000 c.share right.1).1 (entry_lawful e.entry _ (bands_lawful e c.parts (ready_card e c ok right.0))),
      cranks_lawful e ok cs parts.1,
    )

clocks_lawful : (e : Numbers) (cs : List Clock) → every clock_ok cs ≡ true → AllLawful (map (clock_graph e) cs)
clocks_lawful e [] h = tt
clocks_lawful e (c ∷ cs) h =
    let parts = and_parts (clock_ok c) (every clock_ok cs) h in
    let one = and_parts (between 1 100000000 c.period) _ parts.0 in
    let two = and_parts (between 1 c.period c.deadline) _ one.1 in
    let period = between_says 1 100000000 c.period one.0 in
    let deadline = between_says 1 c.period c.deadline two.0 in
    let cost = between_says 1 100000 c.cost two.1 in (
      entry_lawful e.entry _ (timed_lawful c.period c.deadline c.cost period.1 deadline.0 deadline.1 cost.0 cost.1),
      clocks_lawful e cs parts.1,
    )

lawful_append : (gs hs : List Graph) → AllLawful gs → AllLawful hs → AllLawful (gs ++ hs)
lawful_append [] hs p q = q
lawful_append (g ∷ gs) hs p q = (p.0, lawful_append gs hs p.1 q)

-- the tasks of a plan's cards, without a guest
abbrev pub card_tasks : Cards → List Graph
card_tasks s = map (crank_graph s.engine) s.cranks ++ map (clock_graph s.engine) s.clocks

pub cards_lawful : (s : Cards) → Sound s → AllLawful (card_tasks s)
cards_lawful s sound =
    lawful_append _ _ (cranks_lawful s.engine sound.engine s.cranks sound.cranks) (clocks_lawful s.engine s.clocks sound.clocks)

pub tasks_lawful : (s : Cards) (g : Graph) → Sound s → Lawful g → AllLawful (tasks s g)
tasks_lawful s g sound law = lawful_append (card_tasks s) (g ∷ []) (cards_lawful s sound) (law, tt)

cards_follow : (s : Cards) → Sound s → (k : ℕ) → 1 ≤ k → (cranks clocks : List (List Job)) → RunOf s k cranks clocks → AllFollow (card_tasks s) k (cranks ++ clocks)
cards_follow s sound k o cranks clocks run =
    follow_append _ _ k cranks clocks (cranks_follow s.engine k o sound.engine s.cranks sound.cranks cranks run.drives)
    (clocks_follow s.engine k s.clocks clocks run.timings)

-- totals that stay within their t fit every run
pub fits_from : (s : Cards) → Sound s → (g : Graph) (lists : ℕ → List Job → Type 0) (horizon : ℕ) → Lawful g → ((k : ℕ) (js : List Job) → 1 ≤ k → lists k js → Follows g k js) → ((t n : ℕ) → t ≤ horizon → Total (tasks s g) t n → n ≤ t) → FitsEveryRun s lists horizon
fits_from s sound g lists horizon law follows within k o cranks clocks own run mine a b h near =
    lawful_windows_fit (tasks s g) k a b horizon (cranks ++ clocks ++ own ∷ [])
    (tasks_lawful s g sound law) o
    (follow_append (card_tasks s) (g ∷ []) k (cranks ++ clocks) (own ∷ []) (cards_follow s sound k o cranks clocks run) (follows k own o mine, tt))
    within near

pub fits_alone_from : (s : Cards) → Sound s → (horizon : ℕ) → ((t n : ℕ) → t ≤ horizon → Total (card_tasks s) t n → n ≤ t) → FitsEveryRunAlone s horizon
fits_alone_from s sound horizon within k o cranks clocks run a b h near =
    lawful_windows_fit (card_tasks s) k a b horizon (cranks ++ clocks) (cards_lawful s sound) o (cards_follow s sound k o cranks clocks run) within near

-- what fits with a guest fits without it
pub without_guest : (s : Cards) → Sound s → (g : Graph) (horizon : ℕ) → Lawful g → ((t n : ℕ) → t ≤ horizon → Total (tasks s g) t n → n ≤ t) → (t n : ℕ) → t ≤ horizon → Total (card_tasks s) t n → n ≤ t
without_guest s sound g horizon law within t n h total =
    let own = greatest_exists g law t in
    let all = within t (n + own.0) h (total_append (card_tasks s) (g ∷ []) t n own.0 total (own.0, 0, own.1, refl, omega arith)) in
    omega arith

-- a window of no length is demanded nothing
pub total_none : (gs : List Graph) → AllLawful gs → (n : ℕ) → Total gs 0 n → n ≤ 0
total_none [] l n t = omega (arith, t)
total_none (g ∷ gs) l n t =
    let first = greatest_most g l.0 0 t.0 t.2 in
    let rest = total_none gs l.1 t.1 t.3 in
    omega (arith, t.4)

pub fits_nothing : (s : Cards) → Sound s → FitsEveryRunAlone s 0
fits_nothing s sound =
    fits_alone_from s sound 0 (λ t n h total.
    let z : t ≡ 0 = omega arith in
    let none = total_none (card_tasks s) (cards_lawful s sound) n (subst (λ u. Total (card_tasks s) u n) z total) in
    omega arith)

-- what a verdict says, it promises
pub promised : (s : Cards) → Sound s → (g : Graph) (lists : ℕ → List Job → Type 0) (horizon : ℕ) → Lawful g → ((k : ℕ) (js : List Job) → 1 ≤ k → lists k js → Follows g k js) → (v : Verdict) → Says v (tasks s g) horizon → Promises v s lists
promised s sound g lists horizon law follows (Fits h) says =
    fits_from s sound g lists h law follows (λ t n near total. says.1 t n (omega (arith, says.0)) total)
promised s sound g lists horizon law follows (Over t n) says = tt

-- and the mark that it sets holds without a guest
pub judged_fits : (s : Cards) → Sound s → (g : Graph) (horizon : ℕ) → Lawful g → (v : Verdict) → Says v (tasks s g) horizon → FitsEveryRunAlone s (mark_of v)
judged_fits s sound g horizon law (Fits h) says =
    fits_alone_from s sound h (without_guest s sound g h law (λ t n near total. says.1 t n (omega (arith, says.0)) total))
judged_fits s sound g horizon law (Over t n) says = fits_nothing s sound
