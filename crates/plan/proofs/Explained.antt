-- Why a plan is over: the tasks' walks add up to the total, and no choice of walks demands more.
use Rattle.std.proofs.Common.{◌≡◌, ℕ, ◌+◌, ◌*◌, ◌<◌, ◌≤◌, true, ◌&&◌, eqb, ltb, leb, List, [], ◌∷◌, ◌++◌, map, is_some, Some, None, sym, refl, ap, ◌∙◌, subst, ⊎_elim, arith}
use Rattle.std.specs.List.{AllByRecursion as All}
use Rattle.std.proofs.lemmas.Bool.{cond-false, eq-eqb, ne_eqb, or_left, or_right, or_from, not_from_true, and_from, le-leb, le-ltb, cases_eq}
use Rattle.task.specs.Graph.{Graph}
use Rattle.task.specs.Jobs.{AllLawful}
use Rattle.task.specs.Walks.{Greatest, Total}
use Rattle.task.proofs.Existing.{greatest_exists}
use Rattle.deck.specs.Tables.{Crank, Clock}
use Rattle.deck.specs.Cards.{Cards}
use Rattle.deck.specs.Calls.{crank_at, clock_at, in_use}
use Rattle.deck.specs.Judging.{crank_graph, clock_graph, tasks}
use Rattle.deck.specs.Telling.{named, tell_refused, task_at, crank_task, clock_task}
use Rattle.deck.proofs.Totals.{total_append}
use Rattle.deck.proofs.Runs.{total_none}
use Rattle.plan.specs.EveryHistory.{numbers, asked_of, Chosen}
use Rattle.plan.proofs.Apart.{Apart, found_self, fresh_find, all_zip}

-- ---- choices of walks
pub chosen_most : (gs : List Graph) (t n m : ℕ) → Total gs t n → Chosen gs t m → m ≤ n
chosen_most [] t n m total chosen = omega (arith, total, chosen)
chosen_most (g ∷ gs) t n m total chosen =
    let one : chosen.0 ≤ total.0 =
    ⊎_elim (λ z. omega (arith, z)) (λ w. omega (arith, total.2.bounds w.0 w.1 w.2, w.3)) chosen.2
    in
    let rest = chosen_most gs t total.1 chosen.1 total.3 chosen.3 in
    omega (arith, total.4, chosen.4)

pub total_exists : (gs : List Graph) → AllLawful gs → (t : ℕ) → (n : ℕ) × Total gs t n
total_exists [] l t = (0, refl)
total_exists (g ∷ gs) l t =
    let one = greatest_exists g l.0 t in
    let rest = total_exists gs l.1 t in
    (one.0 + rest.0, (one.0, rest.0, one.1, rest.1, refl))

-- a total that exceeds its window is that of a window of some length
pub over_some : (gs : List Graph) → AllLawful gs → (t n : ℕ) → Total gs t n → t < n → 1 ≤ t
over_some gs l t n total h =
    ⊎_elim
    (λ z. let none = total_none gs l n (subst (λ u. Total gs u n) z total) in omega arith)
    (λ z. omega (arith, z))
    (cases_eq t 0)

pub told_granted : (s : Cards) (n window work lent : ℕ) → named s n ≡ true → 1 ≤ window → window ≤ 20000 → 24 * (window + 1) ≤ work → window ≤ lent → tell_refused s n window work lent ≡ None
told_granted s n window work lent here least most room jobs =
    let one = not_from_true (named s n) here in
    let two = not_from_true (leb 1 window && leb window 20000) (and_from _ _ (le-leb 1 window least) (le-leb window 20000 most)) in
    let three = or_from (ltb work (24 * (window + 1))) (ltb lent window) (le-ltb work (24 * (window + 1)) room) (le-ltb lent window jobs) in
    rw (one, two, three)

-- ---- the walks of all tasks, by their numbers
asked_append : (f : ℕ → ℕ) (xs ys : List ℕ) → asked_of f (xs ++ ys) ≡ asked_of f xs + asked_of f ys
asked_append f [] ys = omega arith
asked_append f (x ∷ xs) ys = let h = asked_append f xs ys in omega (arith, h)

map_total : {X : Type 0} (G : X → Graph) (key : X → ℕ) (t : ℕ) (demand : ℕ → ℕ) (xs : List X) → All (λ x. Greatest (G x) t (demand (key x))) xs → Total (map G xs) t (asked_of demand (map key xs))
map_total G key t demand [] a = refl
map_total G key t demand (x ∷ xs) a =
    (demand (key x), asked_of demand (map key xs), a.0, map_total G key t demand xs a.1, refl)

-- each number's greatest demand, and for 0 that of the guest
abbrev pub Asked : Cards → Graph → ℕ → (ℕ → ℕ) → Type 0
Asked s guest t demand =
    (n : ℕ) → named s n ≡ true → (g : Graph) × (n ≡ 0 → g ≡ guest) × Greatest (task_at s g n) t (demand n)

module _ (s : Cards) (apart : Apart s) (guest : Graph) (t : ℕ) (demand : ℕ → ℕ) (asked : Asked s guest t demand) where
  crank_asked : (c : Crank) → crank_at s c.number ≡ Some c → (c.number ≡ 0 → ⊥) → Greatest (crank_graph s.engine c) t (demand c.number)
  crank_asked c found some =
      let n = c.number in
      let used = or_left (is_some (crank_at s n)) (is_some (clock_at s n)) (ap is_some found) in
      let told = asked n (or_right (eqb n 0) (in_use s n) used) in
      let rest = clock_task s.engine (clock_at s n) told.0 in
      let is : task_at s told.0 n ≡ crank_graph s.engine c =
      cond-false (eqb n 0) told.0 (crank_task s.engine (crank_at s n) rest) (ne_eqb n 0 some)
      ∙ ap (λ o. crank_task s.engine o rest) found
      in
      subst (λ g. Greatest g t (demand n)) is told.2

  clock_asked : (c : Clock) → clock_at s c.number ≡ Some c → crank_at s c.number ≡ None → (c.number ≡ 0 → ⊥) → Greatest (clock_graph s.engine c) t (demand c.number)
  clock_asked c found none some =
      let n = c.number in
      let used = or_right (is_some (crank_at s n)) (is_some (clock_at s n)) (ap is_some found) in
      let told = asked n (or_right (eqb n 0) (in_use s n) used) in
      let rest = clock_task s.engine (clock_at s n) told.0 in
      let is : task_at s told.0 n ≡ clock_graph s.engine c =
      cond-false (eqb n 0) told.0 (crank_task s.engine (crank_at s n) rest) (ne_eqb n 0 some)
      ∙ ap (λ o. crank_task s.engine o rest) none
      ∙ ap (λ o. clock_task s.engine o told.0) found
      in
      subst (λ g. Greatest g t (demand n)) is told.2

  guest_asked : Greatest guest t (demand 0)
  guest_asked =
      let told = asked 0 (or_left (eqb 0 0) (in_use s 0) (eq-eqb 0 0 refl)) in
      subst (λ g. Greatest g t (demand 0)) (told.1 refl) told.2

  -- a timed card that is found under its number, which is not the guest's
  abbrev Known : Clock → Type 0
  Known c = (clock_at s c.number ≡ Some c) × (c.number ≡ 0 → ⊥)

  pub asked_total : Total (tasks s guest) t (asked_of demand (numbers s) + demand 0)
  asked_total =
      let e = s.engine in
      let cranks = all_zip s.cranks crank_asked (found_self (λ c. c.number) s.cranks apart.cranks) apart.crank_numbers in
      let clocks =
      all_zip {P = Known} s.clocks (λ c known fresh. clock_asked c known.0 (fresh_find (λ x. x.number) c.number s.cranks fresh) known.1)
      (all_zip s.clocks (λ c found some. (found, some)) (found_self (λ c. c.number) s.clocks apart.clocks) apart.clock_numbers)
      apart.across
      in
      let one = map_total (crank_graph e) (λ c. c.number) t demand s.cranks cranks in
      let two = map_total (clock_graph e) (λ c. c.number) t demand s.clocks clocks in
      let sum = asked_append demand (map (λ c. c.number) s.cranks) (map (λ c. c.number) s.clocks) in
      subst (λ n. Total (tasks s guest) t (n + demand 0)) (sym sum)
      (total_append (map (crank_graph e) s.cranks ++ map (clock_graph e) s.clocks) (guest ∷ []) t _ (demand 0)
      (total_append (map (crank_graph e) s.cranks) (map (clock_graph e) s.clocks) t _ _ one two)
      (demand 0, 0, guest_asked, refl, omega arith))
