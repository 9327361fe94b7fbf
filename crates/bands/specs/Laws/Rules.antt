-- What every gap has: it is the greatest number that its rule allows, and it lies from 1 to 100,000,000.
use Rattle.std.proofs.Common.{◌≡◌, ℕ, zero, suc, ◌+◌, ◌-◌, ◌*◌, ◌/◌, ◌<◌, ◌≤◌, Bool, true, false, cond, ltb, leb, Some, None, sym, ap, ◌∙◌, subst, ⊎_elim, mul-le-mul, mul-le-mul_left, arith}
use native.Mathlib.Nat.{mul-div-le, lt-mul-div-succ}
use Rattle.std.proofs.lemmas.Bool.{cases_lt, cases_order, leb-true, leb-false, le-leb, lt-leb, lt-ltb, and_parts, cond-true, cond-false, cond_both, both_ways, cases_Bool, and_cases}
use Rattle.bands.specs.Gaps.{Pair, square, has_gap, rule_1, rule_2, rule_3, peak, allows, IsGap, GapByRules, greatest_upto, gap_value, allows_1, allows_2, allows_3, allows_4}
use Rattle.bands.specs.Rules.{Last, Fits}
use Rattle.bands.specs.Laws.Squares.{steady_most, steady_one, near, peaked_most, peaked_one, capped_most, capped_one}

-- whatever holds of the first rule that applies holds of the gap's test
pub by_rules : (x : Pair) (T : ℕ) (P : Bool → Type 0) → (rule_1 x ≡ true → P (allows_1 x T)) → (rule_1 x ≡ false → rule_2 x ≡ true → P (allows_2 x T)) → (rule_1 x ≡ false → rule_2 x ≡ false → rule_3 x ≡ true → P (allows_3 x T)) → (rule_1 x ≡ false → rule_2 x ≡ false → rule_3 x ≡ false → P (allows_4 x T)) → P (allows x T)
by_rules x T P f1 f2 f3 f4 =
    cond_both (rule_1 x) (allows_1 x T) (cond (rule_2 x) (allows_2 x T) (cond (rule_3 x) (allows_3 x T) (allows_4 x T))) P f1
    (λ n.
    cond_both (rule_2 x) (allows_2 x T) (cond (rule_3 x) (allows_3 x T) (allows_4 x T)) P (f2 n)
    (λ m. cond_both (rule_3 x) (allows_3 x T) (allows_4 x T) P (f3 n m) (f4 n m)))

-- ---- every smaller number is allowed too
leb_down : (a b n : ℕ) → a ≤ b → leb b n ≡ true → leb a n ≡ true
leb_down a b n h e = le-leb a n (omega (arith, leb-true b n e))

square_down : (a b n : ℕ) → a ≤ b → leb (square b) n ≡ true → leb (square a) n ≡ true
square_down a b n h e = leb_down (square a) (square b) n (mul-le-mul h h) e

cond_down : (b p q r s : Bool) → (p ≡ true → q ≡ true) → (r ≡ true → s ≡ true) → cond b p r ≡ true → cond b q s ≡ true
cond_down true p q r s f g e = f e
cond_down false p q r s f g e = g e

pub allows_down : (x : Pair) (S T : ℕ) → S ≤ T → allows x T ≡ true → allows x S ≡ true
allows_down x S T h =
    cond_down (rule_1 x) _ _ _ _
    (square_down (x.A * S + x.ui) (x.A * T + x.ui) (square x.ui + 2 * x.A * x.G) (omega (arith, mul-le-mul_left x.A h)))
    (cond_down (rule_2 x) _ _ _ _
    (square_down (x.D * S + x.uj) (x.D * T + x.uj) (square x.uj + 2 * x.D * x.G) (omega (arith, mul-le-mul_left x.D h)))
    (cond_down (rule_3 x) _ _ _ _
    (square_down (x.A * x.D * S + x.D * x.ui + x.A * x.uj) (x.A * x.D * T + x.D * x.ui + x.A * x.uj) ((x.A + x.D) * peak x) (omega (arith, mul-le-mul_left (x.A * x.D) h)))
    (leb_down (2 * x.A * x.D * x.M * S) (2 * x.A * x.D * x.M * T) (2 * x.A * x.D * x.G + x.D * square (x.M - x.ui) + x.A * square (x.M - x.uj)) (mul-le-mul_left (2 * x.A * x.D * x.M) h))))

pub last_greatest : (x : Pair) (r : ℕ) → Last (allows x) r → (S : ℕ) → allows x S ≡ true → S ≤ r
last_greatest x r l S e =
    ⊎_elim (λ h. absurd (both_ways (allows x (r + 1)) l.past (allows_down x (r + 1) S (omega arith) e))) (λ h. h) (cases_lt r S)

-- ---- each rule's number, as the code computes it
pub steps_last : (s b N M r : ℕ) → N ≡ M → square (s * r + b) ≤ N → N < square (s * (r + 1) + b) → Last (λ T. leb (square (s * T + b)) M) r
steps_last s b N M r e h k = record {
  within = le-leb (square (s * r + b)) M (omega (arith, e, h));
  past = lt-leb (square (s * (r + 1) + b)) M (omega (arith, e, k));
}

-- the same with a base of two parts
pub two_steps_last : (s a b N M r : ℕ) → N ≡ M → square (s * r + (a + b)) ≤ N → N < square (s * (r + 1) + (a + b)) → Last (λ T. leb (square (s * T + a + b)) M) r
two_steps_last s a b N M r e h k = record {
  within = le-leb (square (s * r + a + b)) M (omega (arith, e, h));
  past = lt-leb (square (s * (r + 1) + a + b)) M (omega (arith, e, k));
}

pub quotient_last : (d n m : ℕ) → 1 ≤ d → n ≡ m → Last (λ T. leb (d * T) m) (n / d)
quotient_last d n m p e =
    let h = mul-div-le n d in
    let k = lt-mul-div-succ n p in
    record { within = le-leb (d * (n / d)) m (omega (arith, e, h)); past = lt-leb (d * (n / d + 1)) m (omega (arith, e, k)) }

-- ---- the value
pub greatest_is : (test : ℕ → Bool) (T n : ℕ) → T ≤ n → test T ≡ true → ((S : ℕ) → test S ≡ true → S ≤ T) → greatest_upto test n ≡ T
unfolding greatest_upto
greatest_is test T zero h t most = omega arith
greatest_is test T (suc n) h t most =
    cond_both (test (suc n)) (suc n) (greatest_upto test n) (λ v. v ≡ T) (λ e. omega (arith, most (suc n) e))
    (λ e.
    greatest_is test T n
    (⊎_elim (λ l. absurd (both_ways (test (suc n)) e (subst (λ v. test v ≡ true) (omega arith) t))) (λ l. l) (cases_lt n T))
    t most)

upto_bounds : (test : ℕ → Bool) (n S : ℕ) → S ≤ n → test S ≡ true → S ≤ greatest_upto test n
unfolding greatest_upto
upto_bounds test zero S h t = h
upto_bounds test (suc n) S h t =
    cond_both (test (suc n)) (suc n) (greatest_upto test n) (λ v. S ≤ v) (λ _. h)
    (λ e.
    upto_bounds test n S
    (⊎_elim (λ l. absurd (both_ways (test (suc n)) e (subst (λ v. test v ≡ true) (omega arith) t))) (λ l. l) (cases_lt n S)) t)

upto_within : (test : ℕ → Bool) (n : ℕ) → test 0 ≡ true → test (greatest_upto test n) ≡ true
unfolding greatest_upto
upto_within test zero t = t
upto_within test (suc n) t =
    cond_both (test (suc n)) (suc n) (greatest_upto test n) (λ v. test v ≡ true) (λ e. e) (λ _. upto_within test n t)

pub value_some : (x : Pair) (T : ℕ) → has_gap x ≡ true → Last (allows x) T → T ≤ 100000000 → gap_value x ≡ Some T
unfolding gap_value
value_some x T e l h =
    cond-true (has_gap x) (Some (greatest_upto (allows x) 100000000)) None e
    ∙ ap Some (greatest_is (allows x) T 100000000 h l.within (last_greatest x T l))

pub value_none : (x : Pair) → has_gap x ≡ false → gap_value x ≡ None
unfolding gap_value
value_none x e = cond-false (has_gap x) (Some (greatest_upto (allows x) 100000000)) None e

-- ---- the limits of every gap
module _ (x : Pair) (f : Fits x) where
  from_rest : x.ui + (x.M - x.ui) ≡ x.M
  from_rest = let h = f.from_most in omega arith

  to_rest : x.uj + (x.M - x.uj) ≡ x.M
  to_rest = let h = f.to_most in omega arith

  -- where neither rule 1 nor rule 2 applies, a turn is long enough to change the one speed into the other
  close : rule_1 x ≡ false → rule_2 x ≡ false → square x.ui + square x.uj ≤ 2 * (x.ui * x.uj) + 2 * ((x.A + x.D) * x.G)
  close n m =
      ⊎_elim (λ e. level e) (⊎_elim (λ l. upward l) (λ l. downward l)) (cases_order x.i x.j)
    where
      level : x.i ≡ x.j → square x.ui + square x.uj ≤ 2 * (x.ui * x.uj) + 2 * ((x.A + x.D) * x.G)
      level e =
          let s = f.same e in
          let p : x.ui * x.uj ≡ x.ui * x.ui = ap (λ v. x.ui * v) (sym s) in
          let q : x.uj * x.uj ≡ x.ui * x.ui = ap square (sym s) in
          omega (arith, p, q)

      upward : x.i < x.j → square x.ui + square x.uj ≤ 2 * (x.ui * x.uj) + 2 * ((x.A + x.D) * x.G)
      upward l =
          near x.A x.D x.G x.ui x.uj (f.up l)
          (⊎_elim (λ e. absurd (both_ways (ltb x.i x.j) e (lt-ltb x.i x.j l)))
          (λ e. let k = leb-false (square x.ui + 2 * x.A * x.G) (square x.uj) e in omega (arith, k))
          (and_cases (ltb x.i x.j) (leb (square x.ui + 2 * x.A * x.G) (square x.uj)) n))

      downward : x.j < x.i → square x.ui + square x.uj ≤ 2 * (x.ui * x.uj) + 2 * ((x.A + x.D) * x.G)
      downward l =
          let k =
          near x.D x.A x.G x.uj x.ui (f.down l)
          (⊎_elim (λ e. absurd (both_ways (ltb x.j x.i) e (lt-ltb x.j x.i l)))
          (λ e. let k = leb-false (square x.uj + 2 * x.D * x.G) (square x.ui) e in omega (arith, k))
          (and_cases (ltb x.j x.i) (leb (square x.uj + 2 * x.D * x.G) (square x.ui)) m)) in
          omega (arith, k)

  pub allowed_most : (T : ℕ) → allows x T ≡ true → T ≤ 100000000
  allowed_most T =
      by_rules x T (λ b. b ≡ true → T ≤ 100000000)
      (λ _ e. let k = steady_most x.A x.G x.ui T f.rise_least f.from_least (leb-true _ _ e) in omega (arith, k, f.angle_most))
      (λ _ _ e. let k = steady_most x.D x.G x.uj T f.fall_least f.to_least (leb-true _ _ e) in omega (arith, k, f.angle_most))
      (λ n m _ e.
      let k = peaked_most x.A x.D x.G x.ui x.uj T f.rise_least f.fall_least f.from_least f.to_least (close n m) (leb-true _ _ e) in
      omega (arith, k, f.angle_most))
      (λ n m s e.
      let k = capped_most x.A x.D x.G x.M x.ui x.uj (x.M - x.ui) (x.M - x.uj) T f.rise_least f.fall_least (omega (arith, f.from_least, f.from_most)) from_rest to_rest (leb-false _ _ s) (leb-true _ _ e) in
      omega (arith, k, f.angle_most))

  pub allowed_one : allows x 1 ≡ true
  allowed_one =
      let o : 1 ≤ x.M = omega (arith, f.from_least, f.from_most) in
      by_rules x 1 (λ b. b ≡ true)
      (λ e.
      let p = and_parts (ltb x.i x.j) (leb (square x.ui + 2 * x.A * x.G) (square x.uj)) e in
      le-leb _ _ (steady_one x.A x.G x.M x.ui x.uj (x.M - x.ui) from_rest f.to_most o f.angle_least (leb-true _ _ p.1)))
      (λ _ e.
      let p = and_parts (ltb x.j x.i) (leb (square x.uj + 2 * x.D * x.G) (square x.ui)) e in
      le-leb _ _ (steady_one x.D x.G x.M x.uj x.ui (x.M - x.uj) to_rest f.from_most o f.angle_least (leb-true _ _ p.1)))
      (λ _ _ e.
      le-leb _ _ (peaked_one x.A x.D x.G x.M x.ui x.uj (x.M - x.ui) (x.M - x.uj) from_rest to_rest o f.angle_least (leb-true _ _ e)))
      (λ _ _ _.
      le-leb _ _ (capped_one x.A x.D x.G x.M (x.D * square (x.M - x.ui)) (x.A * square (x.M - x.uj)) f.angle_least))

  pub last_least : (T : ℕ) → Last (allows x) T → 1 ≤ T
  last_least T l = last_greatest x T l 1 allowed_one

  pub last_most : (T : ℕ) → Last (allows x) T → T ≤ 100000000
  last_most T l = allowed_most T l.within

  pub last_is_gap : (T : ℕ) → has_gap x ≡ true → Last (allows x) T → IsGap x T
  last_is_gap T e l = record {
    exists = e;
    allowed = l.within;
    greatest = last_greatest x T l;
    least = last_least T l;
    most = last_most T l;
  }

  -- the greatest number up to the limit is the greatest of all
  upto_last : (n : ℕ) → 100000000 ≤ n → Last (allows x) (greatest_upto (allows x) n)
  upto_last n h = record {
    within = upto_within (allows x) n (allows_down x 0 1 (omega arith) allowed_one);
    past =
        ⊎_elim
        (λ e.
        let k = allowed_most (greatest_upto (allows x) n + 1) e in
        let l = upto_bounds (allows x) n (greatest_upto (allows x) n + 1) (omega (arith, k)) e in
        absurd (omega (arith, l)))
        (λ e. e) (cases_Bool (allows x (greatest_upto (allows x) n + 1)));
  }

  -- the value is the gap
  pub value_by_rules : GapByRules x (gap_value x)
  value_by_rules =
      ⊎_elim
      (λ e.
      let last = upto_last 100000000 (omega arith) in
      let T = greatest_upto (allows x) 100000000 in
      subst (GapByRules x) (sym (value_some x T e last (last_most T last))) (last_is_gap T e last))
      (λ e. subst (GapByRules x) (sym (value_none x e)) e) (cases_Bool (has_gap x))

  pub value_is_gap : (d : ℕ) → gap_value x ≡ Some d → IsGap x d
  value_is_gap d e = subst (GapByRules x) e value_by_rules
