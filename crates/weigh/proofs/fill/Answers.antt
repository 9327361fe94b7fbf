use Rattle.std.proofs.Common.{sym, subst, rules}
use Rattle.std.specs.Io.KnownBytes.{Consumes}
use Rattle.std.proofs.KnownBytes.{Consumes-trans}
use Rattle.weigh.proofs.Reading.{take-put_mid_more}
use Rattle.weigh.proofs.fill.Goals as goal

pub loop-preserved : goal.loop-preserved
loop-preserved g c =
    let before = c.loop.invariant in
    let read = c.in_ok-n.ensures in
    (search rules, search rules, subst (Consumes _ _) (sym (take-put_mid_more _ _ _ _ _ before.1 read.bound.0)) (Consumes-trans _ _ _ _ _ before.2 read.bytes.0))
