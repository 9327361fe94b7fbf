use Rattle.std.proofs.Common.{◌≤◌, length, vec_items, rules}
use Rattle.std.proofs.lemmas.Result.{IfOk-weaker}
use Rattle.weighing.proofs.Playing.{printed_hold}
use Rattle.weighing.proofs.run.weigh.Goals as goal

pub returns-clause-history : goal.returns-clause-history
returns-clause-history c =
    let bytes = c.args.bytes.now in
    let short : length bytes ≤ 2048 = search rules in
    IfOk-weaker c.run_file.result _ _ (λ v. printed_hold bytes (vec_items v) short) c.run_file.ensures
