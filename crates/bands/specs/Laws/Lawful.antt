-- The graph of a right card is lawful.
use Rattle.std.proofs.Common.{◌≡◌, ℕ, ◌≤◌, sym, refl, subst, arith}
use Rattle.std.proofs.lemmas.Bool.{cond-true, cond_both}
use Rattle.engine.specs.Views.{Numbers, Parts}
use Rattle.bands.specs.Laws.Ready.{Ready}
use Rattle.task.specs.Graph.{Lawful}
use Rattle.bands.specs.Graphs.{lower_end, upper_end, band_here, cost_between, band_cost, GreatestCost, band_deadline, bands_graph}
use Rattle.bands.specs.Laws.Ends.{BandAt, card_few}
use Rattle.bands.specs.Laws.Costs.{band_cost_least, band_cost_most, cost_greatest}
use Rattle.bands.specs.Laws.Leaving.{here_true, true_here, gap_is, gap_none_from, deadline_none, deadline_least}

pub cost_at : (e : Numbers) (c : Parts) (p : ℕ) → BandAt c p → band_cost e c p ≡ cost_between e.greatest (lower_end c p) (upper_end e c p) c.modes
cost_at e c p h =
    cond-true (band_here c p) (cost_between e.greatest (lower_end c p) (upper_end e c p) c.modes) 0 (here_true c p h)

pub cost_none : (e : Numbers) (c : Parts) (p : ℕ) → (BandAt c p → ⊥) → band_cost e c p ≡ 0
cost_none e c p h =
    cond_both (band_here c p) (cost_between e.greatest (lower_end c p) (upper_end e c p) c.modes) 0 (λ n. n ≡ 0)
    (λ b. absurd (h (true_here c p b))) (λ _. refl)

pub cost_is : (e : Numbers) (c : Parts) → Ready e c → (p : ℕ) → BandAt c p → GreatestCost e c p (band_cost e c p)
cost_is e c r p h = subst (GreatestCost e c p) (sym (cost_at e c p h)) (cost_greatest e c r p h)

-- the least gap is one of the gaps
deadline_limits : (e : Numbers) (c : Parts) → Ready e c → (p : ℕ) → BandAt c p → (1 ≤ band_deadline e c p) × (band_deadline e c p ≤ 100000000)
deadline_limits e c r p h =
    let at = (deadline_least e c r p h).reached in
    let g = gap_is e c r p at.0 (band_deadline e c p) at.1 in
    (g.least, g.most)

pub bands_lawful : (e : Numbers) (c : Parts) → Ready e c → Lawful (bands_graph e c)
bands_lawful e c r = record {
  few = card_few e c r;
  costs = λ p h.
      let s = cost_at e c p h in
      let l = band_cost_least e c r p h in
      let m = band_cost_most e c r p h in
      (omega (arith, s, l), omega (arith, s, m));
  deadlines = λ p h. deadline_limits e c r p h;
  gaps = λ p q d h k w.
      let g = gap_is e c r p q d w in
      (g.least, g.most, (deadline_least e c r p h).bounds q d w);
  no_cost = λ p h. cost_none e c p h;
  no_deadline = λ p h. deadline_none e c p h;
  no_gap = λ p q h. gap_none_from e c p q h;
}
