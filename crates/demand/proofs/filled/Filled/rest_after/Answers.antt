use Rattle.std.proofs.Common.{◌≡◌, ◌+◌, ◌-◌, max, get_or, take, None, sym, ap, ◌∙◌, subst, arith, rules}
use Rattle.std.proofs.lemmas.List.{get_or-take}
use Rattle.demand.specs.Copied.{graph_of}
use Rattle.demand.specs.Table.{Rest, cell_at}
use Rattle.demand.proofs.Bests.{rest_absent, rest_late, rest_more}
use Rattle.demand.proofs.Copies.{gap_ticks}
use Rattle.demand.proofs.filled.Filled.rest_after.Goals as goal
use Rattle.demand.proofs.filled.Filled.rest_after.Goals.{in-Some+then-gap-t, in_default, in_default-via-in-None-1, in_default-via-in-Some+else-gap-t}

pub loop-u-preserved : goal.loop-u-preserved
loop-u-preserved c =
    let local = c.args.self.now.local.now in
    let graph = graph_of local in
    let t = c.args.self.now.rows in
    let v = c.args.v in
    let u = c.loop-u.u in
    let rest = c.loop-u.rest in
    let gaps = take local.stops.used c.stop-stop.result.now.gaps in
    let gap = sym (c.stop-stop.ensures.gaps u (omega arith)) ∙ sym (get_or-take local.stops.used c.stop-stop.result.now.gaps u None (omega arith)) in
    elim c.match-gap.branch [
      | in-Some+then-gap-t w ↦
          let d = w.in-Some.gap in
          let is = gap ∙ w.in-Some.is in
          let least = gap_ticks graph local.lawful v u d c.requires.place (omega arith) is in
          let cell = cell_at c.args.self.now.work.now (t - d) u in
          rest_more graph t (v + 1) u rest cell d c.match-gap.rest c.loop-u.invariant is (omega (arith, w.if-gap-t.true))
          (c.requires.full.above (t - d) u (omega (arith, w.if-gap-t.true)) (omega arith))
          (w.rest-is ∙ w.max-rest.ensures ∙ ap (max rest) (w.row.ensures.cells u (omega arith)))
      | in_default w ↦
          subst (λ n. Rest graph t (v + 1) (u + 1) n) (sym w.rest-is)
          (elim w.in_default.branch [
            | in_default-via-in-Some+else-gap-t w' ↦
                rest_late graph t (v + 1) u rest w'.in-Some.gap c.loop-u.invariant (gap ∙ w'.in-Some.is) (omega (arith, w'.if-gap-t.false))
            | in_default-via-in-None-1 w' ↦
                let none : get_or gaps u None ≡ None = search rules in
                rest_absent graph t (v + 1) u rest c.loop-u.invariant (gap ∙ none)
          ])
    ]
