use Rattle.std.proofs.Common.{Ok, Err, sym, refl, ap, subst}
use Rattle.std.proofs.lemmas.Result.{err_from_is_err_and}
use Rattle.deck.specs.Cards.{cards_of}
use Rattle.plan.specs.Standing.{stands}
use Rattle.plan.proofs.Kept.{Kept, kept_judged}
use Rattle.plan.proofs.Carried.{judge_carries}
use Rattle.plan.proofs.drafted.Draft.judge.Goals as goal

pub invariant_of-self : goal.invariant_of-self
invariant_of-self g c =
    let deck = c.args.self.now.deck in
    let guest = c.args.guest.now in
    let told = c.in_ok-verdict.ensures in record {
      kept =
          subst (Kept deck) (sym c.mark-self.ensures)
          (kept_judged deck (g.G.Task.graph guest) c.args.horizon (g.met.G.Task.lawful guest) c.in_ok-verdict.verdict told.judged.says);
    }

pub returns-in_err-verdict-clause-history : goal.returns-in_err-verdict-clause-history
returns-in_err-verdict-clause-history g c =
    let draft = c.args.self.now in
    let guest = c.args.guest.now in
    let p = err_from_is_err_and c.from_residual.result c.from_residual.ensures.1 in
    rw (p.1, p.2) (judge_carries (stands draft) (stands draft) (g.G.Task.graph guest) (g.met.G.Task.lawful guest) c.args.horizon _ _ (Err _) c.in_err-verdict.ensures.refusal refl)

pub returns-clause-history : goal.returns-clause-history
returns-clause-history g c =
    let draft = c.args.self.now in
    let guest = c.args.guest.now in
    let told = c.in_ok-verdict.ensures in
    judge_carries (stands draft) _ (g.G.Task.graph guest) (g.met.G.Task.lawful guest) c.args.horizon _ _ (Ok c.in_ok-verdict.verdict) told.refusal
    (told.judged.says, ap (λ m. record { cards = cards_of draft.deck; mark = m }) c.mark-self.ensures)
