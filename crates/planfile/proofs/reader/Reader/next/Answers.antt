-- Where a byte is left that stands for a kind, the answer about the record there is what is read.
use Rattle.std.proofs.Common.{◌<◌, length, sym, ◌∙◌, rules}
use Rattle.std.proofs.lemmas.Result.{err_from_is_err_and}
use Rattle.planfile.proofs.Answered.{left, answered, filed_ok, filed_err}
use Rattle.planfile.proofs.reader.Reader.next.Goals as goal

pub returns-in_err-record-in-len1-up-clause-what : goal.returns-in_err-record-in-len1-up-clause-what
returns-in_err-record-in-len1-up-clause-what c =
    let s = c.args.self.now in
    let h : 0 < length (left s.at s.bytes.now) = search rules in
    let all = answered s.state s.at s.bytes.now c.in_ok-kind-in-len1-up.kind c.try_from.result c.read.result h c.try_from.ensures c.in_ok-kind-in-len1-up.ensures c.read.ensures in
    let fault = filed_err _ _ _ c.in_err-record-in-len1-up.ensures in
    let p = err_from_is_err_and c.from_residual-in_err-record-in-len1-up.result c.from_residual-in_err-record-in-len1-up.ensures.1 in
    rw (p.1, p.2) (sym fault ∙ all)

pub returns-in_ok-record-in-len1-up-clause-what : goal.returns-in_ok-record-in-len1-up-clause-what
returns-in_ok-record-in-len1-up-clause-what c =
    let s = c.args.self.now in
    let h : 0 < length (left s.at s.bytes.now) = search rules in
    let all = answered s.state s.at s.bytes.now c.in_ok-kind-in-len1-up.kind c.try_from.result c.read.result h c.try_from.ensures c.in_ok-kind-in-len1-up.ensures c.read.ensures in
    sym (filed_ok _ _ _ c.in_ok-record-in-len1-up.ensures) ∙ all
