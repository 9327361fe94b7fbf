use Rattle.std.proofs.Common.{◌≡◌, ℕ, ◌+◌, ◌-◌, ◌^◌, min, get_or, ap, ◌∙◌, arith}
use Rattle.std.proofs.lemmas.List.{get_or-set_other}
use Rattle.std.proofs.lemmas.Grind.{common_steps}
use Rattle.task.specs.Walks.{Greatest}
use Rattle.demand.specs.Copied.{graph_of}
use Rattle.demand.proofs.Tables.{below_set}
use Rattle.demand.proofs.filled.Filled.add_to.Goals as goal

pub loop-t-preserved : goal.loop-t-preserved
loop-t-preserved c =
    let graph = graph_of c.args.self.now.local.now in
    let before = c.args.totals.now in
    let totals = c.loop-t.total-items in
    let t = c.loop-t.t in
    let sum = c.saturating_add.result in
    let most = c.greatest.result in (
      record {
        at = below_set (λ k n. (m : ℕ) × Greatest graph k m × (n ≡ min (get_or before k 0 + m) (2 ^ 64 - 1))) totals t sum 0
            (omega arith)
            c.loop-t.invariant.0.at (
              most,
              c.greatest.ensures,
              c.saturating_add.ensures
                  ∙ ap (λ (n : ℕ). min (n + c.from.result) (2 ^ 64 - 1)) (c.loop-t.invariant.1 t (omega arith) (omega arith))
                  ∙ ap (λ (m : ℕ). min (get_or before t 0 + m) (2 ^ 64 - 1)) c.from.ensures,
            );
      },
      λ i low high. get_or-set_other totals t i sum 0 (omega arith) ∙ c.loop-t.invariant.1 i (omega arith) high,
    )

pub returns-clause-grown : goal.returns-clause-grown
returns-clause-grown c =
    record { at = λ t h. let a = c.loop-t.invariant.0.at t (grind (arith, common_steps)) in (a.0, a.1, grind (arith, common_steps)) }
