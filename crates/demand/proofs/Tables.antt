-- How the rows of the worktable fill up.
use Rattle.std.proofs.Common.{◌≡◌, ℕ, ◌+◌, ◌*◌, ◌<◌, ◌≤◌, List, ◌++◌, length, get_or, set, subst, ⊎_elim, arith}
use Rattle.std.proofs.lemmas.Bool.{cases_lt}
use Rattle.std.proofs.lemmas.Grind.{common_steps}
use Rattle.task.specs.Graph.{Graph}
use Rattle.demand.specs.Judged.{Added}
use Rattle.demand.specs.Table.{Best, Rows, Grown, Spared}

-- the rows before row t stay, and row t is written
pub rows_more : (g : Graph) (before row row' : List ℕ) (t : ℕ) → g.places ≤ 24 → length before ≡ t * 24 → Rows g (before ++ row) t 0
    → ((v : ℕ) → v < g.places → Best g t (v + 1) (get_or row' v 0)) → Rows g (before ++ row') (t + 1) 0
rows_more g before row row' t few long r here = record {
  above = λ s v h p. ⊎_elim
      (λ a.
      let same : get_or (before ++ row) (s * 24 + v) 0 ≡ get_or (before ++ row') (s * 24 + v) 0 = grind (arith, common_steps) in
      subst (Best g s (v + 1)) same (r.above s v a p))
      (λ a.
      let e : t ≡ s = omega arith in
      let same : get_or row' v 0 ≡ get_or (before ++ row') (t * 24 + v) 0 = grind (arith, common_steps) in
      subst (λ (j : ℕ). Best g j (v + 1) (get_or (before ++ row') (j * 24 + v) 0)) e (subst (Best g t (v + 1)) same (here v p)))
      (cases_lt s t);
  here = λ v b. absurd (omega arith);
}

-- what holds of every cell before i, and of what is written at i, holds of every cell before i + 1
pub below_set : {X : Type 0} (P : ℕ → X → Type 0) (xs : List X) (i : ℕ) (x d : X) → i < length xs
    → ((k : ℕ) → k < i → P k (get_or xs k d)) → P i x → (k : ℕ) → k < i + 1 → P k (get_or (set xs i x) k d)
below_set P xs i x d room before here k h = grind (arith, common_steps)

-- what the filled table and the grown totals come to
pub added_from : (g : Graph) (horizon : ℕ) (work work' totals totals' : List ℕ)
    → Spared ((horizon + 1) * 24) work work' → Grown g (horizon + 1) totals totals' → Spared (horizon + 1) totals totals'
    → Added g horizon work work' totals totals'
added_from g horizon work work' totals totals' spare grown beyond = record {
  grown = λ t h. grown.at t (omega arith);
  beyond = λ t h. beyond t (omega arith);
  spare = λ i h. spare i (omega arith);
}
