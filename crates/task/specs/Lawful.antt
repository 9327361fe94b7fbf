-- The layers keep a graph lawful.
use Rattle.std.specs.Prelude.{◌≡◌, ℕ, ◌*◌, ◌≤◌, true, cond, ◌&&◌, ◌⊎◌, Some, None, ◌==◌, nat_le, refl}
use Rattle.std.proofs.Common.{sym, subst, ◌∙◌, inl, inr, ⊎_elim, mul-le-mul_left, arith}
use Rattle.std.proofs.lemmas.Bool.{le-leb, leb-true, eq-eqb, eqb-true, and_from, and_parts, cond-true, cond_both, cases_Bool, both_ways}
use Rattle.task.specs.Graph.{Graph, Place, is_place, Lawful}
use Rattle.task.specs.Kinds.{raised, entry_graph, reduced, share_graph, timed_graph, empty_graph}

pub place_true : (g : Graph) (p : ℕ) → Place g p → is_place g p ≡ true
place_true g p h = and_from (nat_le 1 p) (nat_le p g.places) (le-leb 1 p h.0) (le-leb p g.places h.1)

pub true_place : (g : Graph) (p : ℕ) → is_place g p ≡ true → Place g p
true_place g p e =
    let both = and_parts (nat_le 1 p) (nat_le p g.places) e in
    (leb-true 1 p both.0, leb-true p g.places both.1)

-- what is answered only at a place is 0 elsewhere
lacking : (g : Graph) (p x : ℕ) → (Place g p → ⊥) → cond (is_place g p) x 0 ≡ 0
lacking g p x h = cond_both (is_place g p) x 0 (λ n. n ≡ 0) (λ e. absurd (h (true_place g p e))) (λ _. refl)

at_place : (g : Graph) (p x : ℕ) (P : ℕ → Type 0) → Place g p → P x → P (cond (is_place g p) x 0)
at_place g p x P h v = subst P (sym (cond-true (is_place g p) x 0 (place_true g p h))) v

pub entry_lawful : (e : ℕ) (g : Graph) → Lawful g → Lawful (entry_graph e g)
entry_lawful e g l = record {
  few = l.few;
  costs = λ p h. at_place g p (raised e (g.cost p)) (λ n. (1 ≤ n) × (n ≤ 100000)) h (let c = l.costs p h in (omega arith, omega arith));
  deadlines = l.deadlines;
  gaps = l.gaps;
  no_cost = λ p h. lacking g p (raised e (g.cost p)) h;
  no_deadline = l.no_deadline;
  no_gap = l.no_gap;
}

-- a share of at most a thousand thousandths shortens what is at least 1
pub reduced_le : (s d : ℕ) → s ≤ 1000 → 1 ≤ d → reduced s d ≤ d
reduced_le s d h o = let k : d * s ≤ d * 1000 = mul-le-mul_left d h in omega arith

pub share_lawful : (s : ℕ) (g : Graph) → s ≤ 1000 → Lawful g → Lawful (share_graph s g)
share_lawful s g h l = record {
  few = l.few;
  costs = l.costs;
  deadlines = λ p w.
      at_place g p (reduced s (g.deadline p)) (λ n. (1 ≤ n) × (n ≤ 100000000)) w
      (let d = l.deadlines p w in let k = reduced_le s (g.deadline p) h d.0 in (omega arith, omega arith));
  gaps = λ p q d w v e.
      let at = l.gaps p q d w v e in
      let k = reduced_le s (g.deadline p) h (l.deadlines p w).0 in
      (at.0, at.1, at_place g p (reduced s (g.deadline p)) (λ n. n ≤ d) w (omega arith));
  no_cost = l.no_cost;
  no_deadline = λ p w. lacking g p (reduced s (g.deadline p)) w;
  no_gap = l.no_gap;
}

place_or_not : (g : Graph) (p : ℕ) → Place g p ⊎ (Place g p → ⊥)
place_or_not g p =
    ⊎_elim (λ e. inl (true_place g p e)) (λ e. inr (λ h. both_ways (is_place g p) e (place_true g p h))) (cases_Bool (is_place g p))

-- the limits hold of every number, since a place that the task lacks has 0
pub cost_most : (g : Graph) → Lawful g → (p : ℕ) → g.cost p ≤ 100000
cost_most g l p = ⊎_elim (λ h. (l.costs p h).1) (λ h. omega (arith, l.no_cost p h)) (place_or_not g p)

pub deadline_most : (g : Graph) → Lawful g → (p : ℕ) → g.deadline p ≤ 100000000
deadline_most g l p = ⊎_elim (λ h. (l.deadlines p h).1) (λ h. omega (arith, l.no_deadline p h)) (place_or_not g p)

-- a timed task within its limits is lawful
pub timed_lawful : (period deadline cost : ℕ) → period ≤ 100000000 → 1 ≤ deadline → deadline ≤ period → 1 ≤ cost → cost ≤ 100000 → Lawful (timed_graph period deadline cost)
timed_lawful period deadline cost a b c d e = record {
  few = omega arith;
  costs = λ p h. at_one p h cost (λ n. (1 ≤ n) × (n ≤ 100000)) (d, e);
  deadlines = λ p h. at_one p h deadline (λ n. (1 ≤ n) × (n ≤ 100000000)) (b, omega arith);
  gaps = λ p q n h k s.
      let same : n ≡ period = only p q h k n s in
      (omega arith, omega arith, at_one p h deadline (λ m. m ≤ n) (omega arith));
  no_cost = λ p h. not_one p h cost;
  no_deadline = λ p h. not_one p h deadline;
  no_gap = λ p q h. apart p q h;
}
  where
    one : (p : ℕ) → (1 ≤ p) × (p ≤ 1) → (p == 1) ≡ true
    one p h = eq-eqb p 1 (omega arith)

    at_one : (p : ℕ) → (1 ≤ p) × (p ≤ 1) → (x : ℕ) (P : ℕ → Type 0) → P x → P (cond (p == 1) x 0)
    at_one p h x P v = subst P (sym (cond-true (p == 1) x 0 (one p h))) v

    not_one : (p : ℕ) → ((1 ≤ p) × (p ≤ 1) → ⊥) → (x : ℕ) → cond (p == 1) x 0 ≡ 0
    not_one p h x = cond_both (p == 1) x 0 (λ n. n ≡ 0) (λ t. absurd (let s = eqb-true p 1 t in h (omega arith, omega arith))) (λ _. refl)

    only : (p q : ℕ) → (1 ≤ p) × (p ≤ 1) → (1 ≤ q) × (q ≤ 1) → (n : ℕ) → cond (p == 1 && q == 1) (Some period) None ≡ Some n → n ≡ period
    only p q h k n s =
        let yes : cond (p == 1 && q == 1) (Some period) None ≡ Some period = cond-true _ _ _ (and_from _ _ (one p h) (one q k)) in
        let both : Some n ≡ Some period = sym s ∙ yes in
        cc

    apart : (p q : ℕ) → (((1 ≤ p) × (p ≤ 1)) × ((1 ≤ q) × (q ≤ 1)) → ⊥) → cond (p == 1 && q == 1) (Some period) None ≡ None
    apart p q h =
        cond_both (p == 1 && q == 1) (Some period) None (λ x. x ≡ None)
        (λ t.
        let parts = and_parts (p == 1) (q == 1) t in
        let s = eqb-true p 1 parts.0 in
        let r = eqb-true q 1 parts.1 in
        absurd (h ((omega arith, omega arith), (omega arith, omega arith))))
        (λ _. refl)

-- the task that releases nothing is lawful
pub empty_lawful : Lawful empty_graph
empty_lawful = record {
  few = omega arith;
  costs = λ p h. absurd (omega arith);
  deadlines = λ p h. absurd (omega arith);
  gaps = λ p q d h k e. absurd (omega arith);
  no_cost = λ p h. refl;
  no_deadline = λ p h. refl;
  no_gap = λ p q h. refl;
}
