-- The numbers of a plan's cards: none is 0, and no two are the same.
use Rattle.std.proofs.Common.{◌≡◌, ℕ, eqb, ltb, List, [], ◌∷◌, Some, None, sym, refl, ◌∙◌, subst, inl, inr}
use Rattle.std.specs.List.{AllByRecursion as All}
use Rattle.std.proofs.lemmas.Bool.{cases_Bool, eq-eqb, ne_eqb, eqb-false, cond-true, cond-false, cond_both}
use Rattle.table.specs.Ordered.{insert_by, find_by, without, change_by}
use Rattle.table.proofs.Ordered.{all_insert_by, all_without, all_change_by}
use Rattle.deck.specs.Tables.{Crank, Clock}
use Rattle.deck.specs.Cards.{Cards}
use Rattle.deck.specs.Calls.{with_cranks, with_clocks}
use Rattle.deck.proofs.Refused.{none_some}

pub all_map : {X : Type 0} {P Q : X → Type 0} (xs : List X) → ((x : X) → P x → Q x) → All P xs → All Q xs
all_map [] f a = tt
all_map (x ∷ xs) f a = (f x a.0, all_map xs f a.1)

pub all_zip : {X : Type 0} {P Q R : X → Type 0} (xs : List X) → ((x : X) → P x → Q x → R x) → All P xs → All Q xs → All R xs
all_zip [] f a b = tt
all_zip (x ∷ xs) f a b = (f x a.0 b.0, all_zip xs f a.1 b.1)

-- no item has the key n
abbrev pub Fresh : {X : Type 0} → (X → ℕ) → ℕ → List X → Type 0
Fresh key n xs = All (λ x. key x ≡ n → ⊥) xs

abbrev pub Distinct : {X : Type 0} → (X → ℕ) → List X → Type 0
Distinct key [] = Unit {0}
Distinct key (x ∷ xs) = Fresh key (key x) xs × Distinct key xs

module _ {X : Type 0} (key : X → ℕ) where
  pub fresh_find : (n : ℕ) (xs : List X) → Fresh key n xs → find_by key n xs ≡ None
  fresh_find n [] f = refl
  fresh_find n (x ∷ xs) f =
      cond-false (eqb (key x) n) _ _ (ne_eqb (key x) n f.0) ∙ fresh_find n xs f.1

  pub find_fresh : (n : ℕ) (xs : List X) → find_by key n xs ≡ None → Fresh key n xs
  find_fresh n [] h = tt
  find_fresh n (x ∷ xs) h =
      elim (cases_Bool (eqb (key x) n)) [
        | inl e ↦ absurd (none_some (sym h ∙ cond-true (eqb (key x) n) (Some x) (find_by key n xs) e))
        | inr e ↦ (eqb-false (key x) n e, find_fresh n xs (sym (cond-false (eqb (key x) n) (Some x) (find_by key n xs) e) ∙ h))
      ]

  pub distinct_insert : (x : X) (xs : List X) → Fresh key (key x) xs → Distinct key xs → Distinct key (insert_by key x xs)
  distinct_insert x [] f d = (tt, tt)
  distinct_insert x (y ∷ ys) f d =
      cond_both (ltb (key x) (key y)) (x ∷ y ∷ ys) (y ∷ insert_by key x ys) (Distinct key) (λ _. (f, d))
      (λ _. (all_insert_by key (λ z. key z ≡ key y → ⊥) x ys (λ e. f.0 (sym e)) d.0, distinct_insert x ys f.1 d.1))

  pub distinct_without : (n : ℕ) (xs : List X) → Distinct key xs → Distinct key (without key n xs)
  distinct_without n [] d = tt
  distinct_without n (y ∷ ys) d =
      cond_both (eqb (key y) n) ys (y ∷ without key n ys) (Distinct key) (λ _. d.1)
      (λ _. (all_without key n (λ z. key z ≡ key y → ⊥) ys d.0, distinct_without n ys d.1))

  -- f keeps the keys
  module _ (n : ℕ) (f : X → X) (same : (x : X) → key (f x) ≡ key x) where
    pub fresh_change : (m : ℕ) (xs : List X) → Fresh key m xs → Fresh key m (change_by key n f xs)
    fresh_change m xs a = all_change_by key n (λ z. key z ≡ m → ⊥) f xs (λ z _ h e. h (sym (same z) ∙ e)) a

    pub distinct_change : (xs : List X) → Distinct key xs → Distinct key (change_by key n f xs)
    distinct_change [] d = tt
    distinct_change (y ∷ ys) d =
        cond_both (eqb (key y) n) (f y ∷ ys) (y ∷ change_by key n f ys) (Distinct key)
        (λ _. (subst (λ k. Fresh key k ys) (sym (same y)) d.0, d.1))
        (λ _. (fresh_change (key y) ys d.0, distinct_change ys d.1))

  -- each item is the one that is found under its key
  pub found_self : (xs : List X) → Distinct key xs → All (λ x. find_by key (key x) xs ≡ Some x) xs
  found_self [] d = tt
  found_self (x ∷ xs) d = (
    cond-true (eqb (key x) (key x)) (Some x) (find_by key (key x) xs) (eq-eqb (key x) (key x) refl),
    all_zip xs
        (λ y other found. cond-false (eqb (key x) (key y)) (Some x) (find_by key (key y) xs) (ne_eqb (key x) (key y) (λ e. other (sym e))) ∙ found)
        d.0 (found_self xs d.1),
  )

abbrev crank_key : Crank → ℕ
crank_key c = c.number

abbrev clock_key : Clock → ℕ
clock_key c = c.number

pub record Apart (s : Cards) : Type 0 where
  pub cranks : Distinct (λ c. c.number) s.cranks
  pub clocks : Distinct (λ c. c.number) s.clocks
  pub crank_numbers : Fresh (λ c. c.number) 0 s.cranks
  pub clock_numbers : Fresh (λ c. c.number) 0 s.clocks
  pub across : All (λ c. Fresh (λ x. x.number) c.number s.cranks) s.clocks

module _ (s : Cards) (a : Apart s) where
  -- a new engine card of a number that is not in use
  pub apart_crank : (c : Crank) → (c.number ≡ 0 → ⊥) → Fresh crank_key c.number s.cranks → Fresh clock_key c.number s.clocks → Apart (with_cranks s (insert_by (λ x. x.number) c s.cranks))
  apart_crank c some own others = record {
    cranks = distinct_insert crank_key c s.cranks own a.cranks;
    clocks = a.clocks;
    crank_numbers = all_insert_by crank_key (λ x. x.number ≡ 0 → ⊥) c s.cranks some a.crank_numbers;
    clock_numbers = a.clock_numbers;
    across = all_zip s.clocks (λ k other f. all_insert_by crank_key (λ x. x.number ≡ k.number → ⊥) c s.cranks (λ e. other (sym e)) f) others a.across;
  }

  pub apart_clock : (c : Clock) → (c.number ≡ 0 → ⊥) → Fresh crank_key c.number s.cranks → Fresh clock_key c.number s.clocks → Apart (with_clocks s (insert_by (λ x. x.number) c s.clocks))
  apart_clock c some others own = record {
    cranks = a.cranks;
    clocks = distinct_insert clock_key c s.clocks own a.clocks;
    crank_numbers = a.crank_numbers;
    clock_numbers = all_insert_by clock_key (λ x. x.number ≡ 0 → ⊥) c s.clocks some a.clock_numbers;
    across = all_insert_by clock_key (λ k. Fresh crank_key k.number s.cranks) c s.clocks others a.across;
  }

  -- a changed card keeps its number
  pub apart_cranks : (n : ℕ) (f : Crank → Crank) → ((c : Crank) → (f c).number ≡ c.number) → Apart (with_cranks s (change_by (λ x. x.number) n f s.cranks))
  apart_cranks n f same = record {
    cranks = distinct_change crank_key n f same s.cranks a.cranks;
    clocks = a.clocks;
    crank_numbers = fresh_change crank_key n f same 0 s.cranks a.crank_numbers;
    clock_numbers = a.clock_numbers;
    across = all_map s.clocks (λ k h. fresh_change crank_key n f same k.number s.cranks h) a.across;
  }

  pub apart_clocks : (n : ℕ) (f : Clock → Clock) → ((c : Clock) → (f c).number ≡ c.number) → Apart (with_clocks s (change_by (λ x. x.number) n f s.clocks))
  apart_clocks n f same = record {
    cranks = a.cranks;
    clocks = distinct_change clock_key n f same s.clocks a.clocks;
    crank_numbers = a.crank_numbers;
    clock_numbers = fresh_change clock_key n f same 0 s.clocks a.clock_numbers;
    across =
        all_change_by clock_key n (λ k. Fresh crank_key k.number s.cranks) f s.clocks
        (λ k _ h. subst (λ m. Fresh crank_key m s.cranks) (sym (same k)) h) a.across;
  }

  -- without a card
  pub apart_crank_out : (n : ℕ) → Apart (with_cranks s (without (λ x. x.number) n s.cranks))
  apart_crank_out n = record {
    cranks = distinct_without crank_key n s.cranks a.cranks;
    clocks = a.clocks;
    crank_numbers = all_without crank_key n (λ x. x.number ≡ 0 → ⊥) s.cranks a.crank_numbers;
    clock_numbers = a.clock_numbers;
    across = all_map s.clocks (λ k h. all_without crank_key n (λ x. x.number ≡ k.number → ⊥) s.cranks h) a.across;
  }

  pub apart_clock_out : (n : ℕ) → Apart (with_clocks s (without (λ x. x.number) n s.clocks))
  apart_clock_out n = record {
    cranks = a.cranks;
    clocks = distinct_without clock_key n s.clocks a.clocks;
    crank_numbers = a.crank_numbers;
    clock_numbers = all_without clock_key n (λ x. x.number ≡ 0 → ⊥) s.clocks a.clock_numbers;
    across = all_without clock_key n (λ k. Fresh crank_key k.number s.cranks) s.clocks a.across;
  }
