use Rattle.std.proofs.Common.{sym, arith}
use Rattle.bands.specs.Laws.Rules.{last_most, last_is_gap, value_some, value_none}
use Rattle.bands.specs.Views.{pair_of}
use Rattle.bands.proofs.gaps.Turn.gap.Goals as goal

pub overflow_cast-result : goal.overflow_cast-result
overflow_cast-result c =
    let t = c.args.self.now in
    omega (arith, last_most (pair_of t) t.fits c.most_ticks.result c.most_ticks.ensures)

pub returns-then-leads : goal.returns-then-leads
returns-then-leads c =
    let t = c.args.self.now in
    let leads = sym c.if-leads.ensures in
    let last = c.most_ticks.ensures in
    record {
      value = sym (value_some (pair_of t) c.most_ticks.result leads last (last_most (pair_of t) t.fits c.most_ticks.result last));
      rules = last_is_gap (pair_of t) t.fits c.most_ticks.result leads last;
    }

pub returns-else-leads-clause-value : goal.returns-else-leads-clause-value
returns-else-leads-clause-value c = sym (value_none (pair_of c.args.self.now) (sym c.if-leads.ensures))
