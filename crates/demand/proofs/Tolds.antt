-- How a greatest walk is followed through the worktable, and its jobs are written.
use Rattle.std.proofs.Common.{◌≡◌, ℕ, ◌+◌, ◌-◌, ◌<◌, ◌≤◌, Bool, true, not, ◌&&◌, eqb, ltb, List, [], ◌∷◌, ◌++◌, length, get_or, take, drop, set, Some, None, Option, MatchOption, sym, ap, ◌∙◌, subst, ⊎_elim, arith}
use Rattle.std.specs.List.{position, position_or_len}
use Rattle.std.proofs.lemmas.List.{append_assoc, take_more_set}
use Rattle.std.proofs.lemmas.List.Quantifiers.{position-Some}
use Rattle.std.proofs.lemmas.List.Sums.{prefix_len_passes}
use Rattle.std.proofs.lemmas.Bool.{cases_lt, not-true, both_ways}
use Rattle.std.proofs.lemmas.Bool.Decides.{nat_tests}
use Rattle.std.proofs.lemmas.Grind.{common_steps}
use Rattle.task.specs.Graph.{Graph, Place, Lawful}
use Rattle.task.specs.Walks.{Inside, ticks, demand_of, Greatest}
use Rattle.demand.specs.declared.local.Stop.{Stop}
use Rattle.demand.specs.declared.walk.ToldJob.{ToldJob}
use Rattle.demand.specs.Stops.{StopOf}
use Rattle.demand.specs.Table.{Best, Rows, cell_at, Firsts, Nexts}
use Rattle.demand.specs.Told.{told_at, told_from, WalkTold, Tells}
use Rattle.demand.proofs.Bests.{walk_place, best_late, demand_least}

-- a cell above 0 holds the demand of a walk
pub cell_walk : (g : Graph) (t p n : ℕ) → Best g t p n → 1 ≤ n → (ps : List ℕ) × Inside g t p ps × (demand_of g p ps ≡ n)
cell_walk g t p n b h = ⊎_elim (λ z. absurd (omega arith)) (λ s. s) b.reached

-- then the deadline of its place is met
pub cell_met : (g : Graph) → Lawful g → (t p n : ℕ) → Best g t p n → 1 ≤ n → g.deadline p ≤ t
cell_met g l t p n b h =
    let s = cell_walk g t p n b h in
    ⊎_elim
    (λ late. absurd (let z = (best_late g l t p late).bounds s.0 s.1 in omega (arith, s.2)))
    (λ met. met)
    (cases_lt t (g.deadline p))

cost_least : (g : Graph) (p : ℕ) (ps : List ℕ) → g.cost p ≤ demand_of g p ps
cost_least g p [] = grind arith
cost_least g p (q ∷ ps) = grind arith

-- and the cell holds at least its cost
pub cell_cost : (g : Graph) (work : List ℕ) (n s v : ℕ) → Rows g work n 0 → s < n → v < g.places → 1 ≤ cell_at work s v → g.cost (v + 1) ≤ cell_at work s v
cell_cost g work n s v r row place more =
    let walk = cell_walk g s (v + 1) (cell_at work s v) (r.above s v row place) more in
    omega (arith, cost_least g (v + 1) walk.0, walk.2)

-- a greatest demand above 0 stands in some cell of its row
pub greatest_cell : (g : Graph) (t n : ℕ) → Greatest g t n → 1 ≤ n → (cell : ℕ → ℕ) → ((v : ℕ) → v < g.places → Best g t (v + 1) (cell v))
    → (v : ℕ) × (v < g.places) × (cell v ≡ n)
greatest_cell g t n most more cell best =
    ⊎_elim
    (λ s.
    let ps = s.1.0 in
    let place = walk_place g s.0 ps s.1.1.0 in
    let e : s.0 ≡ s.0 - 1 + 1 = omega arith in
    let here = best (s.0 - 1) (omega arith) in
    let low = here.bounds ps (subst (λ (j : ℕ). Inside g t j ps) e s.1.1) in
    let same : demand_of g (s.0 - 1 + 1) ps ≡ n = subst (λ (j : ℕ). demand_of g j ps ≡ n) e s.1.2 in
    let on = cell_walk g t (s.0 - 1 + 1) (cell (s.0 - 1)) here (omega arith) in
    (s.0 - 1, omega arith, omega (arith, most.bounds (s.0 - 1 + 1) on.0 on.1, on.2)))
    (λ z. absurd (omega (arith, z.0)))
    most.reached

-- whether a cell holds a demand that is not 0
abbrev holds : ℕ → ℕ → Bool
holds n x = ltb 0 x && eqb x n

holds_true : (n x : ℕ) → 1 ≤ n → x ≡ n → holds n x ≡ true
holds_true n x more e = grind (arith, nat_tests)

holds_is : (n x : ℕ) → holds n x ≡ true → (1 ≤ n) × (x ≡ n)
holds_is n x e = grind (arith, nat_tests)

-- the first cell that holds a greatest demand above 0
pub place_found : (g : Graph) (t n : ℕ) → Greatest g t n → (work : List ℕ) → ((v : ℕ) → v < g.places → Best g t (v + 1) (cell_at work t v))
    → (cells : List ℕ) → length cells ≡ g.places → ((v : ℕ) → v < g.places → get_or cells v 0 ≡ cell_at work t v)
    → (r : Option ℕ) → r ≡ position (holds n) cells → MatchOption r (n ≡ 0) (λ v. (1 ≤ n) × Firsts g work t v n)
place_found g t n most work best cells count same None e =
    ⊎_elim
    (λ more.
    let at = greatest_cell g t n most more (cell_at work t) best in
    let here = holds_true n (get_or cells at.0 0) more (same at.0 at.1 ∙ at.2) in
    let first = position_or_len (holds n) cells in
    ⊎_elim
    (λ before. absurd (both_ways (holds n (get_or cells at.0 0)) (not-true (holds n (get_or cells at.0 0)) (prefix_len_passes (λ x. not (holds n x)) cells at.0 0 before)) here))
    (λ low. absurd (grind (arith, nat_tests, e)))
    (cases_lt at.0 first))
    (λ none. omega arith)
    (cases_lt 0 n)
place_found g t n most work best cells count same (Some v) e =
    let at = position-Some (holds n) cells v 0 (sym e) in
    let is = holds_is n (get_or cells v 0) at.1 in
    (is.0, record { greatest = most; here = λ _. (omega arith, sym (same v (omega arith)) ∙ is.1) })

-- a walk that starts a gap earlier
extend : (g : Graph) (s p q d : ℕ) (ps : List ℕ) → Place g p → g.gap p q ≡ Some d → d ≤ s → Inside g (s - d) q ps → Inside g s p (q ∷ ps)
extend g s p q d ps place gap early i = grind arith

-- no place up to k goes on with this rest
abbrev pub NoneBefore : Graph → List ℕ → ℕ → ℕ → ℕ → ℕ → Type 0
NoneBefore g work s v rest k = (u : ℕ) → u < k → (d : ℕ) → g.gap (v + 1) (u + 1) ≡ Some d → d ≤ s → cell_at work (s - d) u ≡ rest → ⊥

found_at : (g : Graph) (work : List ℕ) (n s v rest : ℕ) → v < g.places → s < n → Rows g work n 0 → cell_at work s v ≡ g.cost (v + 1) + rest → 1 ≤ rest
    → NoneBefore g work s v rest g.places
    → (u d : ℕ) (ps : List ℕ) → u < g.places → g.gap (v + 1) (u + 1) ≡ Some d
    → Inside g s (v + 1) ((u + 1) ∷ ps) → demand_of g (v + 1) ((u + 1) ∷ ps) ≡ cell_at work s v → ⊥
found_at g work n s v rest h row r e pos nowhere u d ps k gap i full =
    let tick : ticks (g.gap (v + 1) (u + 1)) ≡ d = ap ticks gap in
    let early : d ≤ s = omega (arith, i.1) in
    let best = r.above (s - d) u (omega arith) k in
    let low = best.bounds ps (i.0.2, omega (arith, i.1)) in
    let on = cell_walk g (s - d) (u + 1) (cell_at work (s - d) u) best (omega arith) in
    let whole = extend g s (v + 1) (u + 1) d on.0 (omega arith, omega arith) gap early on.1 in
    let high = (r.above s v (omega arith) h).bounds ((u + 1) ∷ on.0) whole in
    nowhere u k d gap early (omega (arith, on.2))

found_from : (g : Graph) (work : List ℕ) (n s v rest : ℕ) → v < g.places → s < n → Rows g work n 0 → cell_at work s v ≡ g.cost (v + 1) + rest → 1 ≤ rest
    → NoneBefore g work s v rest g.places
    → (ps : List ℕ) → Inside g s (v + 1) ps → demand_of g (v + 1) ps ≡ cell_at work s v → ⊥
found_from g work n s v rest h row r e pos nowhere [] i full = omega arith
found_from g work n s v rest h row r e pos nowhere (q ∷ ps) i full =
    let place = walk_place g q ps i.0.2 in
    let back : q ≡ q - 1 + 1 = omega arith in
    found_at g work n s v rest h row r e pos nowhere (q - 1) i.0.1.0 ps (omega arith)
    (subst (λ (j : ℕ). g.gap (v + 1) j ≡ Some i.0.1.0) back i.0.1.1)
    (subst (λ (j : ℕ). Inside g s (v + 1) (j ∷ ps)) back i)
    (subst (λ (j : ℕ). demand_of g (v + 1) (j ∷ ps) ≡ cell_at work s v) back full)

-- a rest above 0 is found at some place
pub rest_found : (g : Graph) (work : List ℕ) (n s v rest : ℕ) → v < g.places → s < n → Rows g work n 0 → cell_at work s v ≡ g.cost (v + 1) + rest → 1 ≤ rest
    → NoneBefore g work s v rest g.places → ⊥
rest_found g work n s v rest h row r e pos nowhere =
    let w = cell_walk g s (v + 1) (cell_at work s v) (r.above s v (omega arith) h) (omega arith) in
    found_from g work n s v rest h row r e pos nowhere w.0 w.1 w.2

-- Every greatest walk on from v, with s ticks left, makes one from the first place, whose first i jobs are written.
pub record Walked (g : Graph) (work : List ℕ) (window first s v i : ℕ) (jobs : List ToldJob) : Type 0 where
  pub ahead : (ps : List ℕ) → Inside g s (v + 1) ps → demand_of g (v + 1) ps ≡ cell_at work s v
      → (qs : List ℕ) × Inside g window (first + 1) qs × (demand_of g (first + 1) qs ≡ cell_at work window first)
      × (length qs ≡ i + length ps) × (told_from g 0 (first + 1) qs ≡ take i jobs ++ told_from g (window - s) (v + 1) ps)

-- the job at v is written, and the walk goes on at u
pub walked_more : (g : Graph) (work : List ℕ) (window first s v i u d : ℕ) (jobs : List ToldJob) → v < g.places → s ≤ window → i < length jobs
    → Walked g work window first s v i jobs → Nexts g work s v u d
    → Walked g work window first (s - d) u (i + 1) (set jobs i (told_at g (window - s) (v + 1)))
walked_more g work window first s v i u d jobs h most room w n = record {
  ahead = λ ps ins full.
      let job = told_at g (window - s) (v + 1) in
      let on = extend g s (v + 1) (u + 1) d ps (omega arith, omega arith) n.gap n.early ins in
      let all = w.ahead ((u + 1) ∷ ps) on (omega (arith, n.sum)) in
      let tick : ticks (g.gap (v + 1) (u + 1)) ≡ d = ap ticks n.gap in
      let later : window - s + ticks (g.gap (v + 1) (u + 1)) ≡ window - (s - d) = omega (arith, n.early) in
      let more = told_from g (window - (s - d)) (u + 1) ps in
      let told = all.4
      ∙ ap (λ (r : ℕ). take i jobs ++ (job ∷ told_from g r (u + 1) ps)) later
      ∙ sym (append_assoc (take i jobs) (job ∷ []) more)
      ∙ ap (λ (ys : List ToldJob). ys ++ more) (sym (take_more_set jobs i job room)) in
      (all.0, all.1, all.2, omega (arith, all.3), told);
}

-- one more job is written, and those after it are as they were
pub others_more : (jobs jobs₀ : List ToldJob) (i : ℕ) (job : ToldJob) → drop i jobs ≡ drop i jobs₀ → drop (i + 1) (set jobs i job) ≡ drop (i + 1) jobs₀
others_more jobs jobs₀ i job same = grind (arith, common_steps)

-- the job at v is written, and it is the last
pub walked_all : (g : Graph) (work : List ℕ) (window first s v i : ℕ) (jobs jobs₀ : List ToldJob) → v < g.places → g.deadline (v + 1) ≤ s → i < length jobs
    → Walked g work window first s v i jobs → cell_at work s v ≡ g.cost (v + 1) → drop i jobs ≡ drop i jobs₀
    → WalkTold g window jobs₀ (set jobs i (told_at g (window - s) (v + 1))) (i + 1) (cell_at work window first)
walked_all g work window first s v i jobs jobs₀ h met room w e same =
    let job = told_at g (window - s) (v + 1) in
    let all = w.ahead [] ((omega arith, omega arith), met) (sym e) in
    record {
      place = first + 1;
      places = all.0;
      inside = all.1;
      count = omega (arith, all.3);
      demand = all.2;
      told = take_more_set jobs i job room ∙ sym all.4;
      others = others_more jobs jobs₀ i job same;
    }

-- the job that is written is the one to tell
pub told_is : (g : Graph) (n r v : ℕ) (stop : Stop) → StopOf g n (v + 1) stop
    → ◌≡◌ {A = ToldJob} (record { place = v + 1; release = r; cost = stop.cost; due = r + stop.deadline }) (told_at g r (v + 1))
told_is g n r v stop s = grind arith

-- a cell above 0 leaves time for its deadline
pub cell_left : (g : Graph) → Lawful g → (work : List ℕ) (n s v : ℕ) → Rows g work n 0 → s < n → v < g.places → 1 ≤ cell_at work s v
    → (1 ≤ g.deadline (v + 1)) × (g.deadline (v + 1) ≤ s)
cell_left g l work n s v r row h more = (
  (l.deadlines (v + 1) (omega arith, omega arith)).0,
  cell_met g l s (v + 1) (cell_at work s v) (r.above s v row h) more,
)

-- a greatest demand of 0 is that of no walk
pub tells_none : (g : Graph) → Lawful g → (t d : ℕ) (jobs : List ToldJob) → Greatest g t d → d ≡ 0 → Tells g t jobs jobs 0 d
tells_none g l t d jobs most e = grind (arith, demand_least)
