use Rattle.std.proofs.Common.{Err, refl}
use Rattle.std.specs.Fn.{FnOnceReturnsAtMut}
use Rattle.std.proofs.lemmas.Result.{err_from_is_err_and}
use Rattle.plan.proofs.Kept.{kept_none, kept_same}
use Rattle.plan.proofs.drafted.Draft.change.Goals as goal

pub invariant_of-self : goal.invariant_of-self
invariant_of-self g c =
    let draft = c.args.self.now in
    let did : FnOnceReturnsAtMut g.F.FnOnce c.args.change draft.deck (Err c.in_err-change.field-0.0) c.change.new.arg2 = record { shown = _; shows = refl; left = _; met = c.in_err-change.ensures; leaves = refl } in
    record { kept = kept_same draft.deck c.change.new.arg2 draft.mark (c.requires.leaves draft.deck c.change.new.arg2 c.in_err-change.field-0.0 did) draft.kept }

pub returns-in_err-change-clause-did : goal.returns-in_err-change-clause-did
returns-in_err-change-clause-did g c =
    let p = err_from_is_err_and c.from_residual.result c.from_residual.ensures.1 in
    rw (p.1, p.2) (record { shown = _; shows = refl; left = _; met = c.in_err-change.ensures; leaves = refl })

pub invariant_of-self-2 : goal.invariant_of-self-2
invariant_of-self-2 g c = record { kept = kept_none c.change.new.arg2 }
