-- The jobs of a task under a layer follow the layer's graph.
use Rattle.std.specs.Prelude.{◌≡◌, ℕ, ◌+◌, ◌-◌, ◌*◌, ◌/◌, ◌<◌, ◌≤◌, cond, List, [], ◌∷◌, refl}
use Rattle.std.proofs.Common.{sym, subst, ⊎_elim, mul-add, mul_comm, mul-le-mul_left, mul-le-mul_right, le-div_iff_mul-le, arith, lit≤}
use Rattle.std.proofs.lemmas.Bool.{cond-true, cases_lt}
use Rattle.task.specs.Graph.{Graph, Place, is_place}
use Rattle.task.specs.Kinds.{raised, entry_graph, reduced, share_graph, timed_graph}
use Rattle.task.specs.Jobs.{Job, Suits, Steps, FollowsFrom, Follows, EnteredJob, Entered, SharedJob, SharedDue, TimedJob, Timing}
use Rattle.task.specs.Lawful.{place_true}

at_place : (g : Graph) (p x : ℕ) (P : ℕ → Type 0) → Place g p → P x → P (cond (is_place g p) x 0)
at_place g p x P h v = subst P (sym (cond-true (is_place g p) x 0 (place_true g p h))) v

-- a gap between two jobs depends on their releases alone
steps_same : (g g' : Graph) (k p q : ℕ) (j i j' i' : Job) → g'.gap ≡ g.gap → j'.release ≡ j.release → i'.release ≡ i.release
    → Steps g k p q j i → Steps g' k p q j' i'
steps_same g g' k p q j i j' i' e r r' s = record {
  ticks = s.ticks;
  gap = rw e s.gap;
  waits = omega (arith, s.waits);
}

raised_most : (k e c x y : ℕ) → x ≤ k * c → y ≤ x + k * e → y ≤ k * 100000 → y ≤ k * raised e c
raised_most k e c x y h m l =
    ⊎_elim
    (λ (low : c + e < 100000). let s : raised e c ≡ c + e = omega arith in rw (s, mul-add) (omega arith))
    (λ (high : 100000 ≤ c + e). let s : raised e c ≡ 100000 = omega arith in rw s l)
    (cases_lt (c + e) 100000)

entered_suits : (g : Graph) (k e p : ℕ) (j i : Job) → Suits g k p j → EnteredJob k e j i → Suits (entry_graph e g) k p i
entered_suits g k e p j i s r = record {
  place = s.place;
  asks = at_place g p (raised e (g.cost p)) (λ n. i.cost ≤ k * n) s.place
      (raised_most k e (g.cost p) j.cost i.cost s.asks r.more r.most);
  allows = omega (arith, s.allows, r.release, r.due);
}

entered_follow_from : (g : Graph) (k e p : ℕ) (j i : Job) (js is : List Job) → FollowsFrom g k p j js → EnteredJob k e j i → Entered k e js is
    → FollowsFrom (entry_graph e g) k p i is
entered_follow_from g k e p j i [] [] f r rs = entered_suits g k e p j i f r
entered_follow_from g k e p j i [] (i' ∷ is) f r rs = absurd rs
entered_follow_from g k e p j i (j' ∷ js) [] f r rs = absurd rs
entered_follow_from g k e p j i (j' ∷ js) (i' ∷ is) f r rs =
    let n = f.1 in (
      entered_suits g k e p j i f.0 r,
      (
        n.0,
        steps_same g (entry_graph e g) k p n.0 j j' i i' refl r.release rs.0.release n.1,
        entered_follow_from g k e n.0 j' i' js is n.2 rs.0 rs.1,
      ),
    )

-- Jobs that ask for the entry cost too follow the entry layer's graph.
pub entered_follow : (g : Graph) (k e : ℕ) (js is : List Job) → Follows g k js → Entered k e js is → Follows (entry_graph e g) k is
entered_follow g k e [] [] f r = tt
entered_follow g k e [] (i ∷ is) f r = absurd r
entered_follow g k e (j ∷ js) [] f r = absurd r
entered_follow g k e (j ∷ js) (i ∷ is) f r = (f.0, entered_follow_from g k e f.0 j i js is f.1 r.0 r.1)

-- a longer deadline is reduced to no less
pub reduced_mono : (s d d' : ℕ) → d ≤ d' → reduced s d ≤ reduced s d'
reduced_mono s d d' h = let k : d * s ≤ d' * s = mul-le-mul_right s h in omega arith

shared_suits : (g : Graph) (k s p : ℕ) (j i : Job) → 1 ≤ k → Suits g k p j → SharedJob k s j i → Suits (share_graph s g) k p i
shared_suits g k s p j i o w r = record {
  place = w.place;
  asks = omega (arith, w.asks, r.cost);
  allows = at_place g p (reduced s (g.deadline p)) (λ n. i.release + k * n ≤ i.due) w.place
      (let a : g.deadline p * k ≤ j.due - j.release = rw mul_comm (omega (arith, w.allows)) in
      let b : g.deadline p ≤ (j.due - j.release) / k = (le-div_iff_mul-le o).1 a in
      let c = mul-le-mul_left k (reduced_mono s (g.deadline p) ((j.due - j.release) / k) b) in
      omega (arith, r.due, r.release));
}

shared_follow_from : (g : Graph) (k s p : ℕ) (j i : Job) (js is : List Job) → 1 ≤ k → FollowsFrom g k p j js → SharedJob k s j i → SharedDue k s js is
    → FollowsFrom (share_graph s g) k p i is
shared_follow_from g k s p j i [] [] o f r rs = shared_suits g k s p j i o f r
shared_follow_from g k s p j i [] (i' ∷ is) o f r rs = absurd rs
shared_follow_from g k s p j i (j' ∷ js) [] o f r rs = absurd rs
shared_follow_from g k s p j i (j' ∷ js) (i' ∷ is) o f r rs =
    let n = f.1 in (
      shared_suits g k s p j i o f.0 r,
      (
        n.0,
        steps_same g (share_graph s g) k p n.0 j j' i i' refl r.release rs.0.release n.1,
        shared_follow_from g k s n.0 j' i' js is o n.2 rs.0 rs.1,
      ),
    )

-- Jobs whose time to be done is shared follow the share layer's graph.
pub shared_follow : (g : Graph) (k s : ℕ) (js is : List Job) → 1 ≤ k → Follows g k js → SharedDue k s js is → Follows (share_graph s g) k is
shared_follow g k s [] [] o f r = tt
shared_follow g k s [] (i ∷ is) o f r = absurd r
shared_follow g k s (j ∷ js) [] o f r = absurd r
shared_follow g k s (j ∷ js) (i ∷ is) o f r = (f.0, shared_follow_from g k s f.0 j i js is o f.1 r.0 r.1)

-- A lawful timing follows the timed task's graph.
timed_suits : (k p d c : ℕ) (j : Job) → TimedJob k d c j → Suits (timed_graph p d c) k 1 j
timed_suits k p d c j t = record { place = (lit≤ tt, lit≤ tt); asks = t.asks; allows = omega (arith, t.due) }

timing_from : (k p d c : ℕ) (j : Job) (js : List Job) → Timing k p d c (j ∷ js) → FollowsFrom (timed_graph p d c) k 1 j js
timing_from k p d c j [] t = timed_suits k p d c j t
timing_from k p d c j (i ∷ js) t =
    (timed_suits k p d c j t.0, (1, record { ticks = p; gap = refl; waits = t.1 }, timing_from k p d c i js t.2))

pub timing_follows : (k p d c : ℕ) (js : List Job) → Timing k p d c js → Follows (timed_graph p d c) k js
timing_follows k p d c [] t = tt
timing_follows k p d c (j ∷ js) t = (1, timing_from k p d c j js t)

pub none_follow : (g : Graph) (k : ℕ) (js : List Job) → js ≡ [] → Follows g k js
none_follow g k js e = subst (Follows g k) (sym e) tt
