-- A card's tables and its lists.
use Rattle.std.proofs.Common.{◌≡◌, ℕ, zero, suc, ◌<◌, true, false, List, [], ◌∷◌, get_or, take, set, is_some, Some, None, Option, sym, refl, ap, arith, MatchOption}
use Rattle.std.proofs.lemmas.Bool.{eq-eqb, ne_eqb, or_left, or_right, or_from}
use Rattle.table.specs.Found.{Lacks, First}
use Rattle.table.proofs.Ordered.{first_take}
use Rattle.engine.specs.declared.card.Mode.{Mode}
use Rattle.engine.specs.Changes.{holds_number, recosted}

-- the mode that recost writes
abbrev pub with_cost : Mode → ℕ → Mode
with_cost m cost = record { lower = m.lower; cost = cost }

pub recosted_set : (n : ℕ) (ms : List Mode) (i cost : ℕ) (d : Mode) → take n (set ms i (with_cost (get_or ms i d) cost)) ≡ recosted (take n ms) i cost
recosted_set zero ms i cost d = refl
recosted_set (suc n) [] i cost d = refl
recosted_set (suc n) (m ∷ ms) zero cost d = refl
recosted_set (suc n) (m ∷ ms) (suc i) cost d = ap (λ l. m ∷ l) (recosted_set n ms i cost d)

pub lacks_number : (n : ℕ) (xs : List ℕ) → Lacks (λ x. x) n xs → holds_number n xs ≡ false
lacks_number n [] no_item = refl
lacks_number n (x ∷ xs) no_item =
    or_from _ _ (ne_eqb x n (no_item 0 0 (omega arith))) (lacks_number n xs (λ j d h. no_item (suc j) d (omega arith)))

pub first_number : (n : ℕ) (xs : List ℕ) (i : ℕ) → First (λ x. x) n xs i → holds_number n xs ≡ true
first_number n [] i at = absurd (omega arith)
first_number n (x ∷ xs) zero at = or_left _ _ (eq-eqb x n (at.1 0))
first_number n (x ∷ xs) (suc i) at =
    or_right _ _ (first_number n xs i (omega arith, λ d. at.1 d, λ j d h. at.2 (suc j) d (omega arith)))

pub found_number : (n used : ℕ) (xs : List ℕ) (r : Option ℕ) → MatchOption r (Lacks (λ x. x) n (take used xs)) (λ i. (i < used) × First (λ x. x) n xs i) → is_some r ≡ holds_number n (take used xs)
found_number n used xs None h = sym (lacks_number n (take used xs) h)
found_number n used xs (Some i) h = sym (first_number n (take used xs) i (first_take (λ x. x) n used xs i h.0 h.1))
