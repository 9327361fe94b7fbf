-- The rows of the table of worked examples hold.
use Rattle.std.proofs.Common.{◌≡◌, ℕ, zero, suc, ◌+◌, ◌<◌, ◌≤◌, List, [], ◌∷◌, ◌++◌, map, Some, refl, ap, inl, inr, ⊎_elim, arith, lit<, lit≤}
use Rattle.std.specs.List.{AllByRecursion as All}
use Rattle.task.specs.Graph.{Graph, Place}
use Rattle.task.specs.Walks.{Walk, ticks, length_of, demand_of, Inside, Greatest}
use Rattle.task.specs.Kinds.{empty_graph, entry_graph, share_graph, reduced}
use Rattle.bands.specs.Examples.{three_graph, worked_rows, Row as Answer, Holds as Answered}
use Rattle.bands.proofs.Examples.{three_deadline_1, three_deadline_2, three_deadline_3, three_lawful, worked}
use Rattle.deck.specs.declared.verdict.Verdict.TheVariants.{Over}
use Rattle.deck.specs.Judging.{tasks, Says}
use Rattle.deck.specs.Examples.{one_card, answer, Holds, verdict_rows, WorkedTable}

-- ---- walks with no room for a second place
walk_start : (g : Graph) (p : ℕ) (ps : List ℕ) → Walk g p ps → Place g p
walk_start g p [] w = w
walk_start g p (q ∷ ps) w = w.0

-- every gap is at least a, and every deadline at least b
record Wide (g : Graph) (a b : ℕ) : Type 0 where
  gaps : (p q d : ℕ) → Place g p → Place g q → g.gap p q ≡ Some d → a ≤ d
  deadlines : (p : ℕ) → Place g p → b ≤ g.deadline p

walk_length : (g : Graph) (a b : ℕ) → Wide g a b → (p : ℕ) (ps : List ℕ) → Walk g p ps → b ≤ length_of g p ps
walk_length g a b w p [] h = w.deadlines p h
walk_length g a b w p (q ∷ ps) h = omega (arith, walk_length g a b w q ps h.2)

-- A walk inside t, which is too short for two places, is one place alone: so its demand is at most n where no place
-- with a deadline up to t costs more.
alone_most : (g : Graph) (a b t n : ℕ) → Wide g a b → t < a + b
    → ((p : ℕ) → Place g p → g.deadline p ≤ t → g.cost p ≤ n)
    → (p : ℕ) (ps : List ℕ) → Inside g t p ps → demand_of g p ps ≤ n
alone_most g a b t n w short most p [] i = most p i.0 i.1
alone_most g a b t n w short most p (q ∷ ps) i =
    let step = i.0.1 in
    let long = w.gaps p q step.0 i.0.0 (walk_start g q ps i.0.2) step.1 in
    let rest = walk_length g a b w q ps i.0.2 in
    let same : ticks (g.gap p q) ≡ step.0 = ap ticks step.1 in
    absurd (omega (arith, i.1))

-- what bounds the demand of every walk inside t bounds the greatest
greatest_under : (g : Graph) (t n k : ℕ) → Greatest g t n
    → ((p : ℕ) (ps : List ℕ) → Inside g t p ps → demand_of g p ps ≤ k) → n ≤ k
greatest_under g t n k h most =
    ⊎_elim (λ w. omega (arith, most w.0 w.1.0 w.1.1, w.1.2)) (λ z. omega (arith, z.0)) h.reached

-- the empty task has no walk
no_walk : (t p : ℕ) (ps : List ℕ) → Inside empty_graph t p ps → ⊥
no_walk t p ps i = let h = walk_start empty_graph p ps i.0 in omega (arith, h.0, h.1)

empty_none : (t : ℕ) → Greatest empty_graph t 0
empty_none t = record { reached = inr (refl, no_walk t); bounds = λ p ps i. absurd (no_walk t p ps i) }

-- ---- the card of three bands
three : (P : ℕ → Type 0) → P 1 → P 2 → P 3 → (p : ℕ) → 1 ≤ p → p ≤ 3 → P p
three P a b c zero l h = absurd (omega arith)
three P a b c (suc zero) l h = a
three P a b c (suc (suc zero)) l h = b
three P a b c (suc (suc (suc zero))) l h = c
three P a b c (suc (suc (suc (suc p)))) l h = absurd (omega arith)

abbrev card : ℕ → ℕ → Graph
card entry share = share_graph share (entry_graph entry three_graph)

three_gaps : (p q d : ℕ) → Place three_graph p → Place three_graph q → three_graph.gap p q ≡ Some d → 2 ≤ d
three_gaps p q d a b e =
    let h = three_lawful.gaps p q d a b e in
    let least : 2 ≤ three_graph.deadline p = three (λ r. 2 ≤ three_graph.deadline r) (omega (arith, three_deadline_1)) (omega (arith, three_deadline_2)) (omega (arith, three_deadline_3)) p a.0 a.1 in
    omega (arith, h.2)

-- The verdict is "over t n" where t is too short for two places, n is the greatest cost of the places with a deadline
-- up to t, and at every shorter length those costs are within it.
over : (entry share b t n p : ℕ)
    → ((q : ℕ) → Place (card entry share) q → b ≤ (card entry share).deadline q)
    → t < 2 + b → t < n
    → Place (card entry share) p → (card entry share).deadline p ≤ t → (card entry share).cost p ≡ n
    → ((q : ℕ) → Place (card entry share) q → (card entry share).deadline q ≤ t → (card entry share).cost q ≤ n)
    → ((s q : ℕ) → s < t → Place (card entry share) q → (card entry share).deadline q ≤ s → (card entry share).cost q ≤ s)
    → (horizon : ℕ) → t ≤ horizon → Says (Over t n) (tasks (one_card entry share) empty_graph) horizon
over entry share b t n p late short exceeds place due cost most below horizon h =
    let g = card entry share in
    let wide : Wide g 2 b = record { gaps = three_gaps; deadlines = late } in
    let greatest : Greatest g t n = record {
      reached = inl (p, ([], (place, due), cost));
      bounds = alone_most g 2 b t n wide short most;
    } in (
      h,
      exceeds,
      (n, 0, greatest, (0, 0, empty_none t, refl, refl), omega arith),
      λ s m near total.
          let one = greatest_under g s total.0 s total.2 (alone_most g 2 b s s wide (omega arith) (λ q. below s q near)) in
          let guest = total.3 in
          let none = greatest_under empty_graph s guest.0 0 guest.2 (λ q qs i. absurd (no_walk s q qs i)) in
          omega (arith, total.4, guest.3, guest.4),
    )

-- a deadline of the card, from the one of its bands
due : (share p d : ℕ) → three_graph.deadline p ≡ d → reduced share (three_graph.deadline p) ≡ reduced share d
due share p d e = ap (reduced share) e

-- with an entry cost of 1 at the full share
pub first_verdict : (horizon : ℕ) → 3 ≤ horizon → Says (Over 3 4) (tasks (one_card 1 1000) empty_graph) horizon
first_verdict =
    let d1 = due 1000 1 4 three_deadline_1 in
    let d2 = due 1000 2 3 three_deadline_2 in
    let d3 = due 1000 3 2 three_deadline_3 in
    over 1 1000 2 3 4 2
    (λ q h. three (λ r. 2 ≤ (card 1 1000).deadline r) (omega arith) (omega arith) (omega arith) q h.0 h.1)
    (lit< tt) (lit< tt) (lit≤ tt, lit≤ tt) (omega arith) refl
    (λ q h. three (λ r. (card 1 1000).deadline r ≤ 3 → (card 1 1000).cost r ≤ 4) (λ l. lit≤ tt) (λ l. lit≤ tt) (λ l. lit≤ tt) q h.0 h.1)
    (λ s q near h. three (λ r. (card 1 1000).deadline r ≤ s → (card 1 1000).cost r ≤ s) (λ l. absurd (omega arith)) (λ l. absurd (omega arith)) (λ l. omega arith) q h.0 h.1)

-- with no entry cost at half the share
pub second_verdict : (horizon : ℕ) → 1 ≤ horizon → Says (Over 1 3) (tasks (one_card 0 500) empty_graph) horizon
second_verdict =
    let d1 = due 500 1 4 three_deadline_1 in
    let d2 = due 500 2 3 three_deadline_2 in
    let d3 = due 500 3 2 three_deadline_3 in
    over 0 500 1 1 3 2
    (λ q h. three (λ r. 1 ≤ (card 0 500).deadline r) (omega arith) (omega arith) (omega arith) q h.0 h.1)
    (lit< tt) (lit< tt) (lit≤ tt, lit≤ tt) (omega arith) refl
    (λ q h. three (λ r. (card 0 500).deadline r ≤ 1 → (card 0 500).cost r ≤ 3) (λ l. lit≤ tt) (λ l. lit≤ tt) (λ l. lit≤ tt) q h.0 h.1)
    (λ s q near h. three (λ r. (card 0 500).deadline r ≤ s → (card 0 500).cost r ≤ s) (λ l. absurd (omega arith)) (λ l. absurd (omega arith)) (λ l. absurd (omega arith)) q h.0 h.1)

-- ---- the table
verdicts : All Holds verdict_rows
verdicts = (λ horizon h near. first_verdict horizon h, (λ horizon h near. second_verdict horizon h, tt))

with_verdicts : (rows : List Answer) → All Answered rows → All Holds (map answer rows ++ verdict_rows)
with_verdicts [] h = verdicts
with_verdicts (a ∷ rows) h = (h.0, with_verdicts rows h.1)

pub worked_table : WorkedTable
worked_table = with_verdicts worked_rows worked
