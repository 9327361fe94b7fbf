use Rattle.std.proofs.Common.{◌-◌, ◌*◌, subst, arith}
use Rattle.std.proofs.lemmas.Grind.{common_steps}
use Rattle.demand.specs.Copied.{graph_of}
use Rattle.demand.specs.Table.{Rows}
use Rattle.demand.proofs.Tables.{rows_more}
use Rattle.demand.proofs.local.Local.fill.Goals as goal

pub loop-t-preserved : goal.loop-t-preserved
loop-t-preserved c =
    let graph = graph_of c.args.self.now in
    let t = c.loop-t.t in
    let before = c.split_at_mut-before.result.0.now in
    let row = c.split_at_mut-before.result.1.now in
    let row' = c.fill_row.new.row in
    let whole = c.split_at_mut-before.ensures.value in
    let long = c.split_at_mut-before.ensures.front_len in (
      rows_more graph before row row' t c.args.self.now.lawful.few long (subst (λ work. Rows graph work t 0) whole c.loop-t.invariant.0) c.fill_row.ensures.row,
      λ i h. let same = c.fill_row.ensures.spare (i - t * 24) in let kept = c.loop-t.invariant.1 i h in grind (arith, common_steps),
    )
