-- What a window demands of the jobs that follow a task's graph.
use Rattle.std.proofs.Common.{◌≡◌, ℕ, ◌+◌, ◌-◌, ◌*◌, ◌/◌, ◌<◌, ◌≤◌, leb, ◌⊎◌, List, [], ◌∷◌, sym, refl, ap, subst, inl, inr, ⊎_elim, mul-le-mul_left, mul-add, arith}
use native.Mathlib.Nat.{lt_of_mul-lt-mul_left, le_of_mul-le-mul_left, mul-div-le, lt-mul-div-succ}
use Rattle.std.proofs.lemmas.Bool.{leb-true, and_parts, and_left, lt-leb, cond_both, cond-false, cases_lt}
use Rattle.task.specs.Graph.{Graph}
use Rattle.task.specs.Walks.{Walk, ticks, length_of, demand_of, Greatest, Total}
use Rattle.task.proofs.Existing.{greatest_exists}
use Rattle.task.specs.Jobs.{Job, Suits, FollowsFrom, Follows, AllFollow, AllLawful, demands, asked, window_demand, windows_demand, Whole}

-- a walk from the place p of a job released at r, which is over at b, and covers the demand n
record Covers (g : Graph) (k b r n p : ℕ) (ps : List ℕ) : Type 0 where
  walk : Walk g p ps
  over : r + k * length_of g p ps ≤ b
  covers : n ≤ k * demand_of g p ps

-- the window demands nothing of a job, or the walk of its place alone covers that
alone : (g : Graph) (k a b p : ℕ) (j : Job) → Suits g k p j
    → (asked a b j ≡ 0) ⊎ (Covers g k b j.release (asked a b j) p [])
alone g k a b p j f =
    cond_both (demands a b j) j.cost 0 (λ n. (n ≡ 0) ⊎ Covers g k b j.release n p [])
    (λ e.
    let early = leb-true j.due b (and_parts (leb a j.release) (leb j.due b) e).1 in
    inr record { walk = f.place; over = omega (arith, f.allows); covers = f.asks })
    (λ _. inl refl)

asked_most : (g : Graph) (k a b p : ℕ) (j : Job) → Suits g k p j → asked a b j ≤ k * g.cost p
asked_most g k a b p j f = cond_both (demands a b j) j.cost 0 (λ n. n ≤ k * g.cost p) (λ _. f.asks) (λ _. omega arith)

-- the demand is none, or a walk from p covers it
abbrev Covered : Graph → ℕ → ℕ → ℕ → ℕ → ℕ → Type 0
Covered g k b r n p = (n ≡ 0) ⊎ ((ps : List ℕ) × Covers g k b r n p ps)

covered : (g : Graph) (k a b p : ℕ) (j : Job) (js : List Job) → FollowsFrom g k p j js
    → Covered g k b j.release (window_demand a b (j ∷ js)) p
covered g k a b p j [] f =
    ⊎_elim (λ z. inl (omega arith))
    (λ c. inr ([], record { walk = c.walk; over = c.over; covers = omega (arith, c.covers) }))
    (alone g k a b p j f)
covered g k a b p j (i ∷ js) f =
    let s = f.1 in
    ⊎_elim
    (λ z. ⊎_elim (λ y. inl (omega arith))
    (λ c. inr ([], record { walk = c.walk; over = c.over; covers = omega (arith, c.covers) }))
    (alone g k a b p j f.0))
    (λ r. let c = r.1 in
    let e : ticks (g.gap p s.0) ≡ s.1.ticks = ap ticks s.1.gap in
    inr (
      s.0 ∷ r.0,
      record {
        walk = (f.0.place, (s.1.ticks, s.1.gap), c.walk);
        over = rw (e, mul-add) (omega (arith, s.1.waits, c.over));
        covers = rw mul-add (omega (arith, c.covers, asked_most g k a b p j f.0));
      },
    ))
    (covered g k a b s.0 i js s.2)

-- the same of a walk from the first job released in the window
abbrev CoveredIn : Graph → ℕ → ℕ → ℕ → ℕ → Type 0
CoveredIn g k a b n = (n ≡ 0) ⊎ ((r : ℕ) × (p : ℕ) × (ps : List ℕ) × (a ≤ r) × Covers g k b r n p ps)

-- a job released before the window is not demanded
before : (a b : ℕ) (j : Job) → j.release < a → asked a b j ≡ 0
before a b j h = cond-false (demands a b j) j.cost 0 (and_left (leb a j.release) (leb j.due b) (lt-leb a j.release h))

zero_and : (x y : ℕ) → x ≡ 0 → x + y ≡ y
zero_and x y e = omega arith

covered_in : (g : Graph) (k a b p : ℕ) (j : Job) (js : List Job) → FollowsFrom g k p j js
    → CoveredIn g k a b (window_demand a b (j ∷ js))
covered_in g k a b p j [] f =
    ⊎_elim
    (λ h. inl (omega (arith, before a b j h)))
    (λ h. ⊎_elim inl (λ r. inr (j.release, p, r.0, h, r.1)) (covered g k a b p j [] f))
    (cases_lt j.release a)
covered_in g k a b p j (i ∷ js) f =
    ⊎_elim
    (λ h. subst (λ (n : ℕ). CoveredIn g k a b n)
    (sym (zero_and (asked a b j) (window_demand a b (i ∷ js)) (before a b j h)))
    (covered_in g k a b f.1.0 i js f.1.2))
    (λ h. ⊎_elim inl (λ r. inr (j.release, p, r.0, h, r.1)) (covered g k a b p j (i ∷ js) f))
    (cases_lt j.release a)

-- A window of t whole ticks demands no more than the greatest demand at t.
pub window_demand_most : (g : Graph) (k a b t n : ℕ) (js : List Job) → Follows g k js → Whole k (b - a) t → Greatest g t n
    → window_demand a b js ≤ k * n
window_demand_most g k a b t n [] f w m = omega arith
window_demand_most g k a b t n (j ∷ js) f w m =
    ⊎_elim (λ z. omega arith)
    (λ r. let c = r.4 in
    let short : k * length_of g r.1 r.2 < k * (t + 1) = omega (arith, w.beyond, c.over, r.3) in
    let less = lt_of_mul-lt-mul_left k short in
    let most = m.bounds r.1 r.2 (c.walk, omega arith) in
    let times = mul-le-mul_left k most in
    omega (arith, c.covers))
    (covered_in g k a b f.0 j js f.1)

-- whole ticks by division
pub whole_div : (k n : ℕ) → 1 ≤ k → Whole k n (n / k)
whole_div k n h = record { within = mul-div-le n k; beyond = omega (arith, lt-mul-div-succ n h) }

pub window_demand_div : (g : Graph) (k a b n : ℕ) (js : List Job) → 1 ≤ k → Follows g k js → Greatest g ((b - a) / k) n
    → window_demand a b js ≤ k * n
window_demand_div g k a b n js h f m = window_demand_most g k a b ((b - a) / k) n js f (whole_div k (b - a) h) m

-- The same of all tasks: the window demands no more than the total at t.
pub windows_demand_most : (gs : List Graph) (k a b t n : ℕ) (jss : List (List Job)) → AllFollow gs k jss → Whole k (b - a) t → Total gs t n
    → windows_demand a b jss ≤ k * n
windows_demand_most [] k a b t n [] f w m = omega arith
windows_demand_most [] k a b t n (js ∷ jss) f w m = absurd f
windows_demand_most (g ∷ gs) k a b t n [] f w m = absurd f
windows_demand_most (g ∷ gs) k a b t n (js ∷ jss) f w m =
    let one = window_demand_most g k a b t m.0 js f.0 w m.2 in
    let others = windows_demand_most gs k a b t m.1 jss f.1 w m.3 in
    rw (m.4, mul-add) (omega arith)

-- a window no longer than h ticks has at most h whole ticks
whole_most : (k n t h : ℕ) → 1 ≤ k → Whole k n t → n ≤ k * h → t ≤ h
whole_most k n t h o w m = let x : k * t ≤ k * h = omega (arith, w.within) in le_of_mul-le-mul_left {m = t} {n = h} {k = k} x o

-- Where every t up to the horizon has a total within it, no window up to the horizon demands more than its length.
pub windows_fit : (gs : List Graph) (k a b h : ℕ) (jss : List (List Job)) → 1 ≤ k → AllFollow gs k jss
    → ((t : ℕ) → t ≤ h → (n : ℕ) × Total gs t n × (n ≤ t)) → b - a ≤ k * h
    → windows_demand a b jss ≤ b - a
windows_fit gs k a b h jss o f most short =
    let w = whole_div k (b - a) o in
    let m = most ((b - a) / k) (whole_most k (b - a) ((b - a) / k) h o w short) in
    let times = mul-le-mul_left k m.2 in
    omega (arith, windows_demand_most gs k a b ((b - a) / k) m.0 jss f w m.1, w.within)

-- lawful graphs have a total at every t
pub total_exists : (gs : List Graph) → AllLawful gs → (t : ℕ) → (n : ℕ) × Total gs t n
total_exists [] l t = (0, refl)
total_exists (g ∷ gs) l t =
    let one = greatest_exists g l.0 t in
    let others = total_exists gs l.1 t in
    (one.0 + others.0, (one.0, others.0, one.1, others.1, refl))

-- Where no total up to the horizon exceeds its t, no window up to the horizon demands more than its length.
pub lawful_windows_fit : (gs : List Graph) (k a b h : ℕ) (jss : List (List Job)) → AllLawful gs → 1 ≤ k → AllFollow gs k jss
    → ((t n : ℕ) → t ≤ h → Total gs t n → n ≤ t) → b - a ≤ k * h
    → windows_demand a b jss ≤ b - a
lawful_windows_fit gs k a b h jss l o f most short =
    windows_fit gs k a b h jss o f (λ t u. let s = total_exists gs l t in (s.0, s.1, most t s.0 u s.1)) short
