use Rattle.std.proofs.Common.{◌∙◌, sym, rules}
use Rattle.std.proofs.lemmas.Iterator.{YieldsList-from_slice}
use Rattle.std.proofs.lemmas.Iterator.Search.{all_from_yields_List}
use borrow.Author.Tests.{tests}
use Rattle.engine.specs.Limits.{cost_ok}
use Rattle.engine.proofs.Rising.{every_is}
use Rattle.engine.proofs.checks.costs_right.Goals as goal

pub returns : goal.returns
returns c =
    all_from_yields_List (λ m. cost_ok m.cost) _ _ c.all.result c.all.ensures.ran (YieldsList-from_slice c.args.modes.now c.iter.ensures.rest) (λ x b q k. search (rules, tests))
    ∙ sym (every_is (λ m. cost_ok m.cost) c.args.modes.now)
