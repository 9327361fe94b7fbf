-- A deck's engine cards stay right for its engine.
use Rattle.std.proofs.Common.{◌≡◌, ℕ, zero, suc, ◌<◌, Bool, true, false, cond, not, eqb, ltb, List, [], ◌∷◌, length, get_or, take, Some, None, sym, refl, subst, arith, get_or-take}
use Rattle.std.specs.List.{AllPass}
use Rattle.std.proofs.lemmas.List.{length-take-le}
use Rattle.std.proofs.lemmas.Bool.{and_parts, and_from}
use Rattle.table.specs.Ordered.{insert_by, find_by, without, change_by}
use Rattle.engine.specs.Limits.{every, cost_ok, angle_ok, bands_ok}
use Rattle.engine.specs.Views.{Numbers, Parts, Right, modes_ok, numbers_of}
use Rattle.engine.specs.Changes.{cut_wrong, card_refusal}
use Rattle.refusal.specs.Numbers.{first_of, ◌gives◌}
use Rattle.refusal.specs.declared.Refusal.TheVariants.{AngleLimits, ModeList, BandList}
use Rattle.deck.proofs.Refused.{none_some}
use Rattle.engine.proofs.Right.{cut_right, recost_right}
use Rattle.deck.specs.declared.cards.CrankCard.{CrankCard}
use Rattle.deck.specs.declared.deck.Deck.{Deck}
use Rattle.deck.specs.Tables.{Crank, right_card, crank_of, cranks_in}
use Rattle.deck.proofs.Seen.{count_seen, item_seen}
use Rattle.deck.specs.Calls.{crank_recosted, crank_cut}

module _ {X : Type 0} (test : X → Bool) (key : X → ℕ) where
  pub every_insert : (x : X) (xs : List X) → test x ≡ true → every test xs ≡ true → every test (insert_by key x xs) ≡ true
  every_insert x [] h all = and_from _ _ h all
  every_insert x (y ∷ ys) h all =
      let parts = and_parts (test y) (every test ys) all in
      elim (ltb (key x) (key y)) as (λ b. every test (cond b (x ∷ y ∷ ys) (y ∷ insert_by key x ys)) ≡ true) [
        | true ↦ and_from (test x) _ h all
        | false ↦ and_from (test y) _ parts.0 (every_insert x ys h parts.1)
      ]

  pub every_without : (n : ℕ) (xs : List X) → every test xs ≡ true → every test (without key n xs) ≡ true
  every_without n [] all = refl
  every_without n (y ∷ ys) all =
      let parts = and_parts (test y) (every test ys) all in
      elim (eqb (key y) n) as (λ b. every test (cond b ys (y ∷ without key n ys)) ≡ true) [
        | true ↦ parts.1
        | false ↦ and_from (test y) _ parts.0 (every_without n ys parts.1)
      ]

  -- g keeps the test for the item that is found
  pub every_change : (n : ℕ) (g : X → X) (xs : List X) → ((x : X) → find_by key n xs ≡ Some x → test x ≡ true → test (g x) ≡ true) → every test xs ≡ true → every test (change_by key n g xs) ≡ true
  every_change n g [] keeps all = refl
  every_change n g (y ∷ ys) keeps all =
      let parts = and_parts (test y) (every test ys) all in
      let P : Bool → Type 0 = λ b. ((x : X) → cond b (Some y) (find_by key n ys) ≡ Some x → test x ≡ true → test (g x) ≡ true) → every test (cond b (g y ∷ ys) (y ∷ change_by key n g ys)) ≡ true in
      elim (eqb (key y) n) as P [
        | true ↦ λ k. and_from (test (g y)) _ (k y refl parts.0) parts.1
        | false ↦ λ k. and_from (test y) _ parts.0 (every_change n g ys k parts.1)
      ] keeps

pub right_parts : (e : Numbers) (c : Crank) → right_card e c ≡ true → Right e c.parts
right_parts e c h =
    let one = and_parts (angle_ok e.greatest c.parts.angle) _ h in
    let two = and_parts (modes_ok e.least e.greatest c.parts.modes) _ one.1 in
    (one.0, two.0, two.1)

pub parts_right : (e : Numbers) (c : Crank) → Right e c.parts → right_card e c ≡ true
parts_right e c r =
    and_from (angle_ok e.greatest c.parts.angle) _ r.0
    (and_from (modes_ok e.least e.greatest c.parts.modes) _ r.1 r.2)

pub recosted_right : (e : Numbers) (c : Crank) (index cost : ℕ) → cost_ok cost ≡ true → right_card e c ≡ true → right_card e (crank_recosted index cost c) ≡ true
recosted_right e c index cost ok h =
    parts_right e (crank_recosted index cost c) (recost_right e c.parts index cost (right_parts e c h) ok)

pub cut_card_right : (e : Numbers) (c : Crank) (speed : ℕ) → cut_wrong e c.parts speed ≡ false → right_card e c ≡ true → right_card e (crank_cut speed c) ≡ true
cut_card_right e c speed fine h = parts_right e (crank_cut speed c) (cut_right e c.parts speed (right_parts e c h) fine)

pub every_none : {X : Type 0} (test : X → Bool) (xs : List X) → length xs ≡ 0 → every test xs ≡ true
every_none test [] e = refl
every_none test (x ∷ xs) e = absurd (omega arith)

pub every_at : {X : Type 0} (test : X → Bool) (xs : List X) (i : ℕ) (d : X) → every test xs ≡ true → i < length xs → test (get_or xs i d) ≡ true
every_at test [] i d all h = absurd (omega arith)
every_at test (x ∷ xs) zero d all h = (and_parts (test x) (every test xs) all).0
every_at test (x ∷ xs) (suc i) d all h = every_at test xs i d (and_parts (test x) (every test xs) all).1 (omega arith)

-- a card whose parts are refused nothing is right
pub made_right : (e : Numbers) (c : Crank) (p : Parts) → c.parts ≡ p → None ≡ card_refusal e p → right_card e c ≡ true
made_right e c p same fine =
    parts_right e c (subst (Right e) (sym same) (all_pass (angle_ok e.greatest p.angle) (modes_ok e.least e.greatest p.modes) (bands_ok e.least e.greatest p.bands) fine))
  where
    all_pass : (a m b : Bool) → None ≡ first_of (not a gives AngleLimits ∷ not m gives ModeList ∷ not b gives BandList ∷ []) → (a ≡ true) × (m ≡ true) × (b ≡ true)
    all_pass true true true h = (refl, refl, refl)
    all_pass true true false h = absurd (none_some h)
    all_pass true false true h = absurd (none_some h)
    all_pass true false false h = absurd (none_some h)
    all_pass false true true h = absurd (none_some h)
    all_pass false true false h = absurd (none_some h)
    all_pass false false true h = absurd (none_some h)
    all_pass false false false h = absurd (none_some h)

-- the engine cards of a deck are right for its engine
pub crank_right : (d : Deck) (i : ℕ) (x : CrankCard) → i < d.cranks.used → right_card (numbers_of d.engine) (crank_of (get_or d.cranks.table i x)) ≡ true
crank_right d i x h =
    let e = numbers_of d.engine in
    let many = count_seen crank_of d.cranks in
    let ok = every_at (right_card e) (cranks_in d.cranks) i (crank_of x) d.right (omega arith) in
    subst (λ c. right_card e c ≡ true) (item_seen crank_of d.cranks i x (crank_of x) h) ok

pub cranks_right : (d : Deck) → AllPass (λ c. right_card (numbers_of d.engine) (crank_of c)) (take d.cranks.used d.cranks.table)
cranks_right d i x h =
    let many = length-take-le d.cranks.used d.cranks.table (omega (arith, d.cranks.whole, d.cranks.few)) in
    let inside : i < d.cranks.used = omega arith in
    subst (λ c. right_card (numbers_of d.engine) (crank_of c) ≡ true) (sym (get_or-take d.cranks.used d.cranks.table i x inside)) (crank_right d i x inside)
