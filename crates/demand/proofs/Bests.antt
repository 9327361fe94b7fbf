-- How the greatest demand of a cell comes from the cells before it.
use Rattle.std.proofs.Common.{◌≡◌, ℕ, ◌+◌, ◌-◌, ◌*◌, ◌<◌, ◌≤◌, max, List, [], ◌∷◌, length, get_or, Some, None, sym, refl, ap, ◌∙◌, subst, inl, inr, ⊎_elim, arith}
use Rattle.std.specs.List.{Contains}
use Rattle.std.proofs.lemmas.Bool.{cases_lt}
use Rattle.std.proofs.lemmas.List.{get_or_default}
use Rattle.task.specs.Graph.{Graph, Place, Lawful}
use Rattle.task.specs.Walks.{Walk, Inside, ticks, length_of, demand_of, Greatest}
use Rattle.demand.specs.Table.{Best, Onward, Rest, Most}

-- a walk starts at a place
pub walk_place : (g : Graph) (p : ℕ) (ps : List ℕ) → Walk g p ps → Place g p
walk_place g p [] w = w
walk_place g p (q ∷ ps) w = w.0

-- every place of a walk takes at least one tick, and costs at most 100,000
pub demand_most : (g : Graph) → Lawful g → (p : ℕ) (ps : List ℕ) → Walk g p ps → demand_of g p ps ≤ 100000 * length_of g p ps
demand_most g l p [] w = grind arith
demand_most g l p (q ∷ ps) w = grind (arith, demand_most g l q ps w.2)

pub demand_least : (g : Graph) → Lawful g → (p : ℕ) (ps : List ℕ) → Walk g p ps → 1 ≤ demand_of g p ps
demand_least g l p [] w = (l.costs p w).0
demand_least g l p (q ∷ ps) w = omega (arith, l.costs p w.0)

-- a bound on what goes on to k + 1 is all that a step adds
rest_bounds : (g : Graph) (t p k n x : ℕ) → Rest g t p k n → n ≤ x → ((ps : List ℕ) → Onward g t p (k + 1) ps → demand_of g (k + 1) ps ≤ x)
    → (q : ℕ) (ps : List ℕ) → q ≤ k + 1 → Onward g t p q ps → demand_of g q ps ≤ x
rest_bounds g t p k n x r h last q ps u o = grind arith

-- where there is no gap to k + 1
pub rest_absent : (g : Graph) (t p k n : ℕ) → Rest g t p k n → g.gap p (k + 1) ≡ None → Rest g t p (k + 1) n
rest_absent g t p k n r e = grind arith

-- where the gap to k + 1 is too long
pub rest_late : (g : Graph) (t p k n d : ℕ) → Rest g t p k n → g.gap p (k + 1) ≡ Some d → t < d → Rest g t p (k + 1) n
rest_late g t p k n d r e h = grind arith

-- where a walk can go on to k + 1, whose best is m
pub rest_more : (g : Graph) (t p k n m d x : ℕ) → Rest g t p k n → g.gap p (k + 1) ≡ Some d → d ≤ t → Best g (t - d) (k + 1) m
    → x ≡ max n m → Rest g t p (k + 1) x
rest_more g t p k n m d x r e h b greater = record {
  reached = ⊎_elim
      (λ less. ⊎_elim
      (λ z. inl (omega arith))
      (λ s. inr (k + 1, s.0, record { ticks = d; gap = e; early = h; inside = s.1 }, omega (arith, s.2)))
      b.reached)
      (λ more. ⊎_elim (λ z. inl (omega arith)) (λ s. inr (s.0, s.1, s.2, omega (arith, s.3))) r.reached)
      (cases_lt n m);
  bounds = rest_bounds g t p k n x r (omega arith) (λ ps o. grind arith);
}

-- a cell whose deadline comes too late
best_late_bounds : (g : Graph) → Lawful g → (t p : ℕ) → t < g.deadline p → (ps : List ℕ) → Inside g t p ps → demand_of g p ps ≤ 0
best_late_bounds g l t p h [] i = grind arith
best_late_bounds g l t p h (q ∷ ps) i = grind arith

pub best_late : (g : Graph) → Lawful g → (t p : ℕ) → t < g.deadline p → Best g t p 0
best_late g l t p h = record { reached = inl refl; bounds = best_late_bounds g l t p h }

-- a cell whose deadline is met: the place alone, or the place and the best that it can go on with
best_bounds : (g : Graph) (t p n : ℕ) → Rest g t p g.places n → (ps : List ℕ) → Inside g t p ps → demand_of g p ps ≤ g.cost p + n
best_bounds g t p n r [] i = omega arith
best_bounds g t p n r (q ∷ ps) i = grind (arith, walk_place)

pub best_of_rest : (g : Graph) (t p n x : ℕ) → Place g p → g.deadline p ≤ t → Rest g t p g.places n → x ≡ g.cost p + n → Best g t p x
best_of_rest g t p n x place met r same = record {
  reached = inr (⊎_elim
      (λ z. ([], (place, met), omega arith))
      (λ s.
      let o = s.2 in
      let e : ticks (g.gap p s.0) ≡ o.ticks = ap ticks o.gap in
      (s.0 ∷ s.1, ((place, (o.ticks, o.gap), o.inside.0), omega (arith, o.inside.1, o.early)), omega (arith, s.3)))
      r.reached);
  bounds = λ ps i. omega (arith, best_bounds g t p n r ps i);
}

-- what a walk that goes on demands fits its cell
pub rest_most : (g : Graph) → Lawful g → (t p k n : ℕ) → Rest g t p k n → n ≤ 100000 * t
rest_most g l t p k n r = grind (arith, demand_most)

-- what bounds every cell of a row, and stands in it where it is not 0
pub most_row : (g : Graph) (t n : ℕ) (cells : List ℕ) → length cells ≡ g.places
    → ((v : ℕ) → v < g.places → Best g t (v + 1) (get_or cells v 0)) → ((v : ℕ) → v < g.places → get_or cells v 0 ≤ n)
    → (1 ≤ n → Contains cells n) → Most g t g.places n
most_row g t n cells count best most found = record {
  reached = ⊎_elim
      (λ more.
      let at = found more in
      let e : get_or cells at.0 0 ≡ n = get_or_default cells at.0 0 n at.1 ∙ at.2 in
      ⊎_elim
      (λ z. absurd (omega arith))
      (λ s. inr (at.0 + 1, s.0, s.1, s.2 ∙ e))
      (best at.0 (omega arith)).reached)
      (λ none. inl (omega arith))
      (cases_lt 0 n);
  bounds = λ p ps h i.
      let place = walk_place g p ps i.0 in
      let e : p - 1 + 1 ≡ p = omega arith in
      let low = (best (p - 1) (omega arith)).bounds ps (subst (λ (j : ℕ). Inside g t j ps) (sym e) i) in
      let high = most (p - 1) (omega arith) in
      subst (λ (j : ℕ). demand_of g j ps ≤ n) e (omega arith);
}

pub most_all : (g : Graph) → Lawful g → (t n : ℕ) → Most g t g.places n → Greatest g t n
most_all g l t n r = grind (arith, walk_place, demand_least)
