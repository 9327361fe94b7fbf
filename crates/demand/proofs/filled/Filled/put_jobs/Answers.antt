use Rattle.std.proofs.Common.{◌+◌, ◌-◌, ◌<◌, ◌≤◌, length, set, sym, subst, arith}
use Rattle.demand.specs.declared.walk.ToldJob.{ToldJob}
use Rattle.demand.specs.Copied.{graph_of}
use Rattle.demand.specs.Told.{WalkTold}
use Rattle.demand.specs.Table.{cell_at}
use Rattle.demand.proofs.Tolds.{Walked, cell_left, walked_more, walked_all, others_more, told_is}
use Rattle.demand.proofs.Copies.{gap_ticks}
use Rattle.demand.proofs.filled.Filled.put_jobs.Goals as goal

pub bounds-jobs-count : goal.bounds-jobs-count
bounds-jobs-count c =
    let filled = c.args.self.now in
    let local = filled.local.now in
    let time = cell_left (graph_of local) local.lawful filled.work.now filled.rows c.loop-u.left c.loop-u.v c.requires.full (omega (arith, c.loop-u.invariant.time, c.requires.row)) c.loop-u.invariant.inside c.loop-u.invariant.starts in
    omega (arith, time.0, time.1, c.requires.room, c.loop-u.invariant.time, c.loop-u.auto.jobs)

pub loop-u-preserved : goal.loop-u-preserved
loop-u-preserved c =
    let filled = c.args.self.now in
    let local = filled.local.now in
    let graph = graph_of local in
    let work = filled.work.now in
    let window = c.args.window in
    let left = c.loop-u.left in
    let v = c.loop-u.v in
    let count = c.loop-u.count in
    let jobs = c.loop-u.jobs in
    let next = c.in-Some.ensures in
    let u = c.in-Some.u in
    let d = c.in-Some.gap in
    let h = c.loop-u.invariant.inside in
    let most : left ≤ window = omega (arith, c.loop-u.invariant.time) in
    let time = cell_left graph local.lawful work filled.rows left v c.requires.full (omega (arith, c.requires.row)) h c.loop-u.invariant.starts in
    let room : count < length jobs = omega (arith, time.0, time.1, c.requires.room, c.loop-u.invariant.time, c.loop-u.auto.jobs) in
    let least = gap_ticks graph local.lawful v u d h next.place next.gap in
    record {
      inside = next.place;
      time = omega (arith, next.early, c.loop-u.invariant.time);
      starts = next.on;
      walked = subst (λ (job : ToldJob). Walked graph work window c.args.first (left - d) u (count + 1) (set jobs count job))
          (sym (told_is graph local.stops.used (window - left) v c.stop-stop.result.now c.stop-stop.ensures))
          (walked_more graph work window c.args.first left v count u d jobs h most room c.loop-u.invariant.walked next);
      others = others_more jobs c.args.jobs.now count _ c.loop-u.invariant.others;
    }

pub returns-in-None : goal.returns-in-None
returns-in-None c =
    let filled = c.args.self.now in
    let local = filled.local.now in
    let graph = graph_of local in
    let work = filled.work.now in
    let window = c.args.window in
    let left = c.loop-u.left in
    let v = c.loop-u.v in
    let count = c.loop-u.count in
    let jobs = c.loop-u.jobs in
    let h = c.loop-u.invariant.inside in
    let time = cell_left graph local.lawful work filled.rows left v c.requires.full (omega (arith, c.loop-u.invariant.time, c.requires.row)) h c.loop-u.invariant.starts in
    let room : count < length jobs = omega (arith, time.0, time.1, c.requires.room, c.loop-u.invariant.time, c.loop-u.auto.jobs) in
    subst (λ (job : ToldJob). WalkTold graph window c.args.jobs.now (set jobs count job) (count + 1) (cell_at work window c.args.first))
    (sym (told_is graph local.stops.used (window - left) v c.stop-stop.result.now c.stop-stop.ensures))
    (walked_all graph work window c.args.first left v count jobs c.args.jobs.now h time.1 room c.loop-u.invariant.walked c.in-None.ensures c.loop-u.invariant.others)
