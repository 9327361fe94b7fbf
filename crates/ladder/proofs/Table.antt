-- The rule of the ladder, tested at each entry of a table by one test that antt computes.
use Rattle.std.proofs.Common.{◌≡◌, ℕ, zero, suc, ◌+◌, ◌*◌, ◌<◌, ◌≤◌, Bool, true, ◌&&◌, ltb, leb, List, [], ◌∷◌, length, get_or, Some, None, Option, Bor, sym, ◌∙◌, subst, le_of_suc-le-suc, not-suc-le-zero, add-zero, add-suc, suc-add, zero-add, arith}
use Rattle.std.proofs.lemmas.Bool.{and_parts, leb-true, ltb-true}
use Rattle.std.specs.Slice.{IsItemAt}
use Rattle.std.specs.Option.{option_copied}
use Rattle.ladder.specs.Rungs.{rung_square, rung_speed, IsRung, OnLadder}
use Rattle.ladder.proofs.Roots.{speed_some, speed_none}

-- v is the speed of rung n
abbrev pub fits : ℕ → ℕ → Bool
fits n v = leb (v * v) (rung_square n) && ltb (rung_square n) ((v + 1) * (v + 1))

-- each entry is the speed of its rung, counted from rung n
abbrev pub all_fit : ℕ → List ℕ → Bool
all_fit n [] = true
all_fit n (v ∷ vs) = fits n v && all_fit (suc n) vs

fit_from : (vs : List ℕ) (n : ℕ) → all_fit n vs ≡ true → (k : ℕ) → k < length vs → fits (n + k) (get_or vs k 0) ≡ true
fit_from [] n t k h = absurd (not-suc-le-zero h)
fit_from (v ∷ vs) n t zero h = subst (λ m. fits m v ≡ true) (sym (add-zero n)) (and_parts (fits n v) (all_fit (suc n) vs) t).0
fit_from (v ∷ vs) n t (suc k) h =
    subst (λ m. fits m (get_or vs k 0) ≡ true) (suc-add n k ∙ sym (add-suc n k))
    (fit_from vs (suc n) (and_parts (fits n v) (all_fit (suc n) vs) t).1 k (le_of_suc-le-suc h))

-- so each rung of a table that passes has its speed there
pub rung_in : (vs : List ℕ) → all_fit 0 vs ≡ true → length vs ≡ 281 → (n : ℕ) → n ≤ 280 → IsRung n (get_or vs n 0)
rung_in vs t e n h =
    let v = get_or vs n 0 in
    let fit = subst (λ m. fits m v ≡ true) (zero-add n) (fit_from vs 0 t n (omega (arith, e, h))) in
    let both = and_parts (leb (v * v) (rung_square n)) (ltb (rung_square n) ((v + 1) * (v + 1))) fit in
    record { within = leb-true (v * v) (rung_square n) both.0; next_past = ltb-true (rung_square n) ((v + 1) * (v + 1)) both.1 }

-- so what is read of such a table, at any number, is what the ladder has there
module _ (vs : List ℕ) (n : ℕ) (r : Option (Bor ℕ)) (v : Option ℕ) (copied : v ≡ option_copied r) (t : all_fit 0 vs ≡ true) (e : length vs ≡ 281) (at : IsItemAt vs n r) where
  pub greatest_read : OnLadder n v
  greatest_read = subst (OnLadder n) (sym copied) (reads r at)
    where
      reads : (s : Option (Bor ℕ)) → IsItemAt vs n s → OnLadder n (option_copied s)
      reads None past = omega arith
      reads (Some x) here =
          let low : n ≤ 280 = omega arith in
          (low, subst (IsRung n) (sym (here.4 (omega arith) 0)) (rung_in vs t e n low))

  pub speed_read : v ≡ rung_speed n
  speed_read = the_speed v greatest_read
    where
      the_speed : (w : Option ℕ) → OnLadder n w → w ≡ rung_speed n
      the_speed None past = speed_none n past
      the_speed (Some w) rung = speed_some n w rung.0 rung.1
