use Rattle.std.proofs.Common.{ℕ, ◌+◌, sym, subst, arith}
use Rattle.demand.specs.Copied.{graph_of}
use Rattle.demand.specs.Table.{Best}
use Rattle.demand.proofs.Bests.{most_row, most_all}
use Rattle.demand.proofs.filled.Filled.greatest.Goals as goal

pub returns : goal.returns
returns c =
    let local = c.args.self.now.local.now in
    let t = c.args.t in
    most_all (graph_of local) local.lawful t c.greatest_of.result
    (most_row (graph_of local) t c.greatest_of.result c.row.result.now c.row.ensures.count
    (λ v h. subst (λ (n : ℕ). Best (graph_of local) t (v + 1) n) (sym (c.row.ensures.cells v h)) (c.requires.full.above t v c.requires.row h))
    (λ v h. c.greatest_of.ensures.bounds v 0 (omega (arith, c.row.ensures.count)))
    c.greatest_of.ensures.reached)
