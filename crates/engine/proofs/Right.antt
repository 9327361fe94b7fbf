-- A cut and a new cost leave a card right for its engine.
use Rattle.std.proofs.Common.{◌≡◌, ℕ, zero, suc, ◌<◌, true, false, cond, not, ◌&&◌, ◌||◌, eqb, ltb, leb, List, [], ◌∷◌, length, sym, refl, ap, ◌∙◌, subst, arith}
use Rattle.std.proofs.lemmas.Bool.{ltb-true, ltb-false, leb-false, eqb-true, eqb-false, lt-ltb, le-ltb, le-leb, and_parts, and_from, or_parts, not-false, cases_Bool}
use Rattle.table.specs.Ordered.{insert_by}
use Rattle.table.proofs.Ordered.{length_insert_by}
use Rattle.engine.specs.declared.card.Mode.{Mode}
use Rattle.engine.specs.Limits.{rising, speeds_ok, every, cost_ok}
use Rattle.engine.specs.Views.{Numbers, Parts, Right}
use Rattle.engine.specs.Changes.{holds_number, cut_wrong, cut, recosted, recost}

-- a new speed between l and M, which is none of the others, keeps the order
rising_insert : (M l s : ℕ) (bs : List ℕ) → rising (λ b. b) M l bs ≡ true → l < s → s < M → holds_number s bs ≡ false → rising (λ b. b) M l (insert_by (λ b. b) s bs) ≡ true
rising_insert M l s [] r up low new = and_from _ _ (lt-ltb l s up) (lt-ltb s M low)
rising_insert M l s (b ∷ bs) r up low new =
    let parts = and_parts (ltb l b) (rising (λ x. x) M b bs) r in
    let apart = or_parts (eqb b s) (holds_number s bs) new in
    elim (cases_Bool (ltb s b)) [
      | mathlib.Core.Logic.inl e ↦
          subst (λ l'. rising (λ x. x) M l l' ≡ true) (sym (ap (λ t. cond t (s ∷ b ∷ bs) (b ∷ insert_by (λ x. x) s bs)) e))
          (and_from (ltb l s) _ (lt-ltb l s up) (and_from (ltb s b) _ e parts.1))
      | mathlib.Core.Logic.inr e ↦
          let ne : b ≡ s → ⊥ = eqb-false b s apart.0 in
          let above : b < s = omega (arith, ltb-false s b e) in
          subst (λ l'. rising (λ x. x) M l l' ≡ true) (sym (ap (λ t. cond t (s ∷ b ∷ bs) (b ∷ insert_by (λ x. x) s bs)) e))
          (and_from (ltb l b) _ parts.0 (rising_insert M b s bs parts.1 above low apart.1))
    ]

speeds_insert : (m M s : ℕ) (bs : List ℕ) → speeds_ok (λ b. b) m M bs ≡ true → m < s → s < M → holds_number s bs ≡ false → speeds_ok (λ b. b) m M (insert_by (λ b. b) s bs) ≡ true
speeds_insert m M s [] r up low new = absurd (Rattle.std.proofs.lemmas.Bool.false≢true r)
speeds_insert m M s (b ∷ bs) r up low new =
    let parts = and_parts (eqb b m) (rising (λ x. x) M b bs) r in
    let at : b ≡ m = eqb-true b m parts.0 in
    let apart = or_parts (eqb b s) (holds_number s bs) new in
    subst (λ l. speeds_ok (λ x. x) m M l ≡ true) (sym (ap (λ t. cond t (s ∷ b ∷ bs) (b ∷ insert_by (λ x. x) s bs)) (le-ltb s b (omega arith))))
    (and_from (eqb b m) _ parts.0 (rising_insert M b s bs parts.1 (omega arith) low apart.1))

pub cut_right : (e : Numbers) (c : Parts) (s : ℕ) → Right e c → cut_wrong e c s ≡ false → Right e (cut c s)
cut_right e c s right fine =
    let ways = or_parts (not (ltb e.least s && ltb s e.greatest)) (holds_number s c.bands || leb 24 (length c.bands)) fine in
    let inside = and_parts (ltb e.least s) (ltb s e.greatest) (not-false _ ways.0) in
    let more = or_parts (holds_number s c.bands) (leb 24 (length c.bands)) ways.1 in
    let bands = and_parts (leb (length c.bands) 24) (speeds_ok (λ b. b) e.least e.greatest c.bands) right.2 in
    let long = length_insert_by (λ (b : ℕ). b) s c.bands in
    let few : length c.bands < 24 = leb-false 24 (length c.bands) more.1 in (
      right.0,
      right.1,
      and_from _ _ (le-leb _ 24 (omega arith))
          (speeds_insert e.least e.greatest s c.bands bands.1 (ltb-true _ _ inside.0) (ltb-true _ _ inside.1) more.0),
    )

length_recosted : (ms : List Mode) (i cost : ℕ) → length (recosted ms i cost) ≡ length ms
length_recosted [] i cost = refl
length_recosted (m ∷ ms) zero cost = refl
length_recosted (m ∷ ms) (suc i) cost = ap suc (length_recosted ms i cost)

rising_recosted : (M l : ℕ) (ms : List Mode) (i cost : ℕ) → rising (λ (x : Mode). x.lower) M l (recosted ms i cost) ≡ rising (λ (x : Mode). x.lower) M l ms
rising_recosted M l [] i cost = refl
rising_recosted M l (m ∷ ms) zero cost = refl
rising_recosted M l (m ∷ ms) (suc i) cost = ap (λ t. ltb l m.lower && t) (rising_recosted M m.lower ms i cost)

speeds_recosted : (m M : ℕ) (ms : List Mode) (i cost : ℕ) → speeds_ok (λ (x : Mode). x.lower) m M (recosted ms i cost) ≡ speeds_ok (λ (x : Mode). x.lower) m M ms
speeds_recosted m M [] i cost = refl
speeds_recosted m M (x ∷ ms) zero cost = refl
speeds_recosted m M (x ∷ ms) (suc i) cost = ap (λ t. eqb x.lower m && t) (rising_recosted M x.lower ms i cost)

costs_recosted : (ms : List Mode) (i cost : ℕ) → cost_ok cost ≡ true → every (λ (x : Mode). cost_ok x.cost) ms ≡ true → every (λ (x : Mode). cost_ok x.cost) (recosted ms i cost) ≡ true
costs_recosted [] i cost ok all = refl
costs_recosted (m ∷ ms) zero cost ok all =
    let parts = and_parts (cost_ok m.cost) (every (λ (x : Mode). cost_ok x.cost) ms) all in
    and_from (cost_ok cost) _ ok parts.1
costs_recosted (m ∷ ms) (suc i) cost ok all =
    let parts = and_parts (cost_ok m.cost) (every (λ (x : Mode). cost_ok x.cost) ms) all in
    and_from (cost_ok m.cost) _ parts.0 (costs_recosted ms i cost ok parts.1)

pub recost_right : (e : Numbers) (c : Parts) (i cost : ℕ) → Right e c → cost_ok cost ≡ true → Right e (recost c i cost)
recost_right e c i cost right ok =
    let first = and_parts (leb (length c.modes) 8) _ right.1 in
    let second = and_parts (speeds_ok (λ (x : Mode). x.lower) e.least e.greatest c.modes) _ first.1 in (
      right.0,
      and_from _ _ (ap (λ n. leb n 8) (length_recosted c.modes i cost) ∙ first.0)
          (and_from _ _ (speeds_recosted e.least e.greatest c.modes i cost ∙ second.0) (costs_recosted c.modes i cost ok second.1)),
      right.2,
    )
