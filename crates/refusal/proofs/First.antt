-- How a call's order of checks comes out, check by check.
use Rattle.std.proofs.Common.{◌≡◌, Bool, true, false, List, ◌∷◌, Some}
use Rattle.refusal.specs.declared.Refusal.{Refusal}
use Rattle.refusal.specs.Numbers.{Check, first_of, ◌gives◌}

-- the check's condition holds
pub first_here : (b : Bool) (r : Refusal) (cs : List Check) → b ≡ true → Some r ≡ first_of (b gives r ∷ cs)
first_here b r cs e = rw e

-- it does not, so the next check decides
pub first_next : (b : Bool) (r : Refusal) (cs : List Check) → b ≡ false → first_of cs ≡ first_of (b gives r ∷ cs)
first_next b r cs e = rw e
