use Rattle.std.proofs.Common.{ltb, sym, ◌∙◌, rules, arith}
use borrow.Author.Tests.{tests}
use Rattle.std.proofs.lemmas.List.Sorted.{answers_always}
use Rattle.engine.proofs.Rising.{speeds_begin, speeds_end, speeds_between}
use Rattle.engine.proofs.checks.speeds_right.Goals as goal
use Rattle.engine.proofs.checks.speeds_right.Goals.{then-key-least-via-then-key-least, then-key-least-via-else-key-least+then-key-greatest}

pub returns-then-key-least : goal.returns-then-key-least
returns-then-key-least g c =
    let ends = c.in-Some-Some in
    elim c.then-key-least.branch [
      | then-key-least-via-then-key-least w ↦
          speeds_begin g.T.Keyed.key c.args.greatest c.args.least ends.first.now c.args.items.now ends.ensures.item.3
          (λ e. w.if-key-least.true (c.key.ensures ∙ e))
      | then-key-least-via-else-key-least+then-key-greatest w ↦
          speeds_end g.T.Keyed.key c.args.greatest c.args.least ends.last.now c.args.items.now ends.ensures'.item.3
          (omega (arith, w.if-key-greatest.true, w.key-else-key-least.ensures))
    ]

pub returns : goal.returns
returns g c =
    let key = g.T.Keyed.key in
    let ends = c.in-Some-Some in
    let below = λ (p q : _). ltb (key p) (key q) in
    let rises = c.is_sorted_by.ensures.cases below (answers_always _ _ _ (λ f a r f' k. search (rules, tests))) in
    speeds_between key c.args.greatest c.args.least ends.first.now ends.last.now c.args.items.now c.is_sorted_by.result ends.ensures.item.3
    (sym c.key.ensures ∙ c.if-key-least.false) ends.ensures'.item.3.1
    (omega (arith, c.if-key-greatest.false, c.key-else-key-least.ensures)) rises
