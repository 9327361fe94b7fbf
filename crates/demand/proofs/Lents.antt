-- What a horizon and lent memory that are not refused have.
use Rattle.std.proofs.Common.{◌≡◌, ℕ, ◌+◌, ◌*◌, ◌≤◌, None, rules, arith}
use Rattle.std.proofs.lemmas.Grind.{common_steps}
use Rattle.demand.specs.Judged.{lent_refusal}

pub record Lent (horizon work totals : ℕ) : Type 0 where
  pub most : horizon ≤ 20000
  pub work_room : 24 * (horizon + 1) ≤ work
  pub totals_room : horizon + 1 ≤ totals

pub lent_fits : (horizon work totals : ℕ) → None ≡ lent_refusal horizon work totals → Lent horizon work totals
lent_fits horizon work totals e = record {
  most = search rules;
  work_room = grind (arith, common_steps);
  totals_room = search rules;
}
