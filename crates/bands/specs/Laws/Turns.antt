-- No turn from a band to a band is faster than the gap between them, and where the gap is absent there is none.
use Rattle.std.proofs.Common.{◌≡◌, ℕ, ◌+◌, ◌-◌, ◌*◌, ◌<◌, ◌≤◌, true, false, ltb, leb, List, [], ◌∷◌, length, Some, None, Option, sym, refl, ap, ◌∙◌, subst, inl, inr, ⊎_elim, mul-le-mul_left, mul-pos, arith}
use Rattle.std.specs.List.{AllByRecursion}
use Rattle.std.proofs.lemmas.List.{get_or_past}
use Rattle.std.proofs.lemmas.Bool.{leb-true, leb-false, ltb-false, lt-ltb, le-ltb, and_cases, cond-true, cond-false, both_ways, cases_lt, cases_order}
use Rattle.engine.specs.Views.{Numbers, Parts}
use Rattle.bands.specs.Gaps.{Pair, square, has_gap, rule_1, rule_2, allows, GapByRules}
use Rattle.bands.specs.Graphs.{upper_end, pair_at, band_gap}
use Rattle.bands.specs.Rules.{Fits}
use Rattle.bands.specs.Turns.{pairs, end_speed, Turn, InBand, Leads}
use Rattle.bands.specs.Laws.Ready.{Ready}
use Rattle.bands.specs.Laws.Ends.{BandAt, pair_fits}
use Rattle.bands.specs.Laws.Rules.{by_rules}
use Rattle.bands.specs.Laws.Leaving.{gap_by_rules}
use Rattle.bands.specs.Laws.TurnsArith.{Peak, steady_turn, peaked_turn, capped_turn, passing, high_peak, low_peak, rise_part, fall_part, from_rise, from_fall, finer_squares, out_of_reach}
use Rattle.bands.specs.Laws.TurnsSpeeds.{end_above, end_below, sum_rising, sum_falling, greatest_of, peak_sum, Among}

-- What a turn between a pair of bands has: n steps that sum to S, from the speed v to the speed w with the greatest
-- speed p.
record Run (x : Pair) (k n S v w p : ℕ) : Type 0 where
  finer : 1 ≤ k
  sum : S ≡ 2 * (k * k) * x.G
  starts : v ≤ k * x.ui
  starts_low : k * x.li ≤ v
  starts_below : x.i < x.j → v < k * x.ui
  ends : w ≤ k * x.uj
  ends_low : k * x.lj ≤ w
  ends_below : x.j < x.i → w < k * x.uj
  above : square w ≤ square v + x.A * S
  below : square v ≤ square w + x.D * S
  rising : S ≤ 2 * v * n + x.A * (n * n)
  falling : S ≤ 2 * w * n + x.D * (n * n)
  some : 1 ≤ p
  most : p ≤ k * x.M
  from_peak : v ≤ p
  to_peak : w ≤ p
  peaked : x.A * x.D * S + x.D * square (p - v) + x.A * square (p - w) ≤ 2 * x.A * x.D * p * n

swapped : (u v w n R : ℕ) → v ≤ w → R ≤ 2 * v * n + u → R ≤ 2 * w * n + u
swapped u v w n R h k = let m = mul-le-mul_left n h in omega (arith, m, k)

module _ (x : Pair) (f : Fits x) (k n S v w p : ℕ) (r : Run x k n S v w p) where
  -- ---- where the gap is absent there is no turn
  absent : has_gap x ≡ false → ⊥
  absent e =
      ⊎_elim (λ s. level s) (⊎_elim (λ l. upward l) (λ l. downward l)) (cases_order x.i x.j)
    where
      level : x.i ≡ x.j → ⊥
      level s =
          let a = le-ltb x.i x.j (omega (arith, s)) in
          let b = le-ltb x.j x.i (omega (arith, s)) in
          both_ways (has_gap x) e (cond-false (ltb x.i x.j) _ _ a ∙ cond-false (ltb x.j x.i) _ _ b)

      upward : x.i < x.j → ⊥
      upward l =
          out_of_reach x.A x.G k x.ui x.lj v w S r.sum
          (ltb-false _ _ (sym (cond-true (ltb x.i x.j) _ _ (lt-ltb x.i x.j l)) ∙ e))
          (r.starts_below l) r.ends_low r.above

      downward : x.j < x.i → ⊥
      downward l =
          let a = le-ltb x.i x.j (omega (arith, l)) in
          out_of_reach x.D x.G k x.uj x.li w v S r.sum
          (ltb-false _ _ (sym (cond-false (ltb x.i x.j) _ _ a ∙ cond-true (ltb x.j x.i) _ _ (lt-ltb x.j x.i l)) ∙ e))
          (r.ends_below l) r.starts_low r.below

  -- ---- a speed that passes the test where neither rule 1 nor rule 2 applies
  Passed : Type 0
  Passed = (q : ℕ) × (q ≤ k * x.M) × Peak x.A x.D x.G k x.ui x.uj n q

  by_peak : k * x.ui ≤ p → k * x.uj ≤ p → Passed
  unfolding Passed
  by_peak h g =
      (p, r.most, high_peak x.A x.D x.G k x.ui x.uj n S p v w r.sum r.some r.starts h r.ends g r.peaked)

  upward_passed : x.ui ≤ x.uj → square x.uj ≤ square x.ui + 2 * x.A * x.G → Passed
  unfolding Passed
  upward_passed l h =
      let L : k * x.ui ≤ k * x.uj = mul-le-mul_left k l in
      ⊎_elim
      (λ b.
      let t = rise_part x.A x.D S p n (square (p - v)) (square (p - w)) f.fall_least r.peaked in
      let s = low_peak x.A (k * x.ui) (k * x.uj) p n S v r.some L (omega (arith, b)) r.starts r.from_peak (finer_squares x.A x.G k x.ui x.uj S r.sum h) t in (
        k * x.uj,
        mul-le-mul_left k f.to_most,
        passing x.A x.D x.G k x.ui x.uj n (k * x.uj) S (k * x.uj - k * x.ui) 0 r.sum (mul-pos r.finer f.to_least) (omega (arith, L)) (omega arith)
            (from_rise x.A x.D S (k * x.uj) n (square (k * x.uj - k * x.ui)) s),
      ))
      (λ b. by_peak (omega (arith, L, b)) b)
      (cases_lt p (k * x.uj))

  downward_passed : x.uj ≤ x.ui → square x.ui ≤ square x.uj + 2 * x.D * x.G → Passed
  unfolding Passed
  downward_passed l h =
      let L : k * x.uj ≤ k * x.ui = mul-le-mul_left k l in
      ⊎_elim
      (λ b.
      let t = fall_part x.A x.D S p n (square (p - v)) (square (p - w)) f.rise_least r.peaked in
      let s = low_peak x.D (k * x.uj) (k * x.ui) p n S w r.some L (omega (arith, b)) r.ends r.to_peak (finer_squares x.D x.G k x.uj x.ui S r.sum h) t in (
        k * x.ui,
        mul-le-mul_left k f.from_most,
        passing x.A x.D x.G k x.ui x.uj n (k * x.ui) S 0 (k * x.ui - k * x.uj) r.sum (mul-pos r.finer f.from_least) (omega arith) (omega (arith, L))
            (from_fall x.A x.D S (k * x.ui) n (square (k * x.ui - k * x.uj)) s),
      ))
      (λ b. by_peak b (omega (arith, L, b)))
      (cases_lt p (k * x.ui))

  passed : rule_1 x ≡ false → rule_2 x ≡ false → Passed
  passed a b =
      ⊎_elim (λ s. level s) (⊎_elim (λ l. up l) (λ l. down l)) (cases_order x.i x.j)
    where
      level : x.i ≡ x.j → Passed
      level s =
          let e = f.same s in
          let q : square x.ui ≡ square x.uj = ap square e in
          upward_passed (omega (arith, e)) (omega (arith, q))

      up : x.i < x.j → Passed
      up l =
          upward_passed (f.up l)
          (⊎_elim (λ e. absurd (both_ways (ltb x.i x.j) e (lt-ltb x.i x.j l)))
          (λ e. let h = leb-false (square x.ui + 2 * x.A * x.G) (square x.uj) e in omega (arith, h))
          (and_cases (ltb x.i x.j) (leb (square x.ui + 2 * x.A * x.G) (square x.uj)) a))

      down : x.j < x.i → Passed
      down l =
          downward_passed (f.down l)
          (⊎_elim (λ e. absurd (both_ways (ltb x.j x.i) e (lt-ltb x.j x.i l)))
          (λ e. let h = leb-false (square x.uj + 2 * x.D * x.G) (square x.ui) e in omega (arith, h))
          (and_cases (ltb x.j x.i) (leb (square x.uj + 2 * x.D * x.G) (square x.ui)) b))

  -- ---- and no turn is faster than what its rule allows
  no_faster : (T : ℕ) → allows x T ≡ true → k * T ≤ n
  unfolding Passed
  no_faster T =
      by_rules x T (λ b. b ≡ true → k * T ≤ n)
      (λ _ e.
      steady_turn x.A x.G k x.ui n T f.rise_least r.finer f.from_least (leb-true _ _ e)
      (subst (λ z. z ≤ 2 * (k * x.ui) * n + x.A * (n * n)) r.sum (swapped (x.A * (n * n)) v (k * x.ui) n S r.starts r.rising)))
      (λ _ _ e.
      steady_turn x.D x.G k x.uj n T f.fall_least r.finer f.to_least (leb-true _ _ e)
      (subst (λ z. z ≤ 2 * (k * x.uj) * n + x.D * (n * n)) r.sum (swapped (x.D * (n * n)) w (k * x.uj) n S r.ends r.falling)))
      (λ a b _ e.
      let q = passed a b in
      peaked_turn x.A x.D x.G k x.ui x.uj n q.0 T f.rise_least f.fall_least q.2 (leb-true _ _ e))
      (λ a b s e.
      let q = passed a b in
      capped_turn x.A x.D x.G x.M k x.ui x.uj n q.0 T (x.M - x.ui) (x.M - x.uj) f.rise_least f.fall_least (omega (arith, f.from_least, f.from_most)) r.finer (omega (arith, f.from_most)) (omega (arith, f.to_most)) q.1 q.2 (leb-false _ _ s) (leb-true _ _ e))

-- ---- a turn between two bands is such a run
in_upper : (e : Numbers) (c : Parts) (k p v : ℕ) → InBand e c k p v → v ≤ k * upper_end e c p
in_upper e c k p v h =
    ⊎_elim (λ l. omega (arith, l))
    (λ l.
    let d = get_or_past c.bands p e.greatest (omega (arith, l.0)) in
    subst (λ z. v ≤ k * z) (sym d) l.1)
    h.1

in_below : (e : Numbers) (c : Parts) (k p q v : ℕ) → BandAt c q → InBand e c k p v → p < q → v < k * upper_end e c p
in_below e c k p q v b h l = ⊎_elim (λ s. s) (λ s. absurd (omega (arith, s.0, b.1, l))) h.1

-- what holds of all speeds holds of the greatest
of_among : (P : ℕ → Type 0) (p v : ℕ) (ws : List ℕ) → Among p v ws → AllByRecursion P (v ∷ ws) → P p
of_among P p v [] r a = subst P r a.0
of_among P p v (w ∷ ws) (inl r) a = subst P r a.0
of_among P p v (w ∷ ws) (inr r) a = of_among P p w ws r a.1

end_most : (p v : ℕ) (ws : List ℕ) → AllByRecursion (λ s. s ≤ p) (v ∷ ws) → end_speed v ws ≤ p
end_most p v [] a = a.0
end_most p v (w ∷ ws) a = end_most p w ws a.1

run_of : (e : Numbers) (c : Parts) → Ready e c → (k p q : ℕ) → 1 ≤ k → BandAt c p → BandAt c q → (v : ℕ) (vs : List ℕ) → Turn e c.angle k v vs → InBand e c k p v → InBand e c k q (end_speed v vs) → Run (pair_at e c p q) k (length vs) (pairs v vs) v (end_speed v vs) (greatest_of v vs).0
run_of e c r k p q pk hp hq v vs t h g =
    let top = greatest_of v vs in
    let m = of_among (λ s. (k * e.least ≤ s) × (s ≤ k * e.greatest)) top.0 v vs top.1.reached t.within in
    let o : 1 ≤ k * e.least = mul-pos pk r.turns in
    record {
      finer = pk;
      sum = t.turned;
      starts = in_upper e c k p v h;
      starts_low = h.0;
      starts_below = in_below e c k p q v hq h;
      ends = in_upper e c k q (end_speed v vs) g;
      ends_low = g.0;
      ends_below = in_below e c k q p (end_speed v vs) hp g;
      above = end_above e.rise e.fall v vs t.changes;
      below = end_below e.rise e.fall v vs t.changes;
      rising = sum_rising e.rise e.fall v vs t.changes;
      falling = sum_falling e.rise e.fall v vs t.changes;
      some = omega (arith, o, m.0);
      most = m.1;
      from_peak = top.1.most.0;
      to_peak = end_most top.0 v vs top.1.most;
      peaked = peak_sum e.rise e.fall top.0 v vs top.1.most top.1.reached t.changes;
    }

-- ---- the theorem
pub no_turn_beats_its_gap : (e : Numbers) (c : Parts) → Ready e c → (k p q : ℕ) → 1 ≤ k → BandAt c p → BandAt c q → (v : ℕ) (vs : List ℕ) → Turn e c.angle k v vs → InBand e c k p v → InBand e c k q (end_speed v vs) → (T : ℕ) × (band_gap e c p q ≡ Some T) × (k * T ≤ length vs)
no_turn_beats_its_gap e c r k p q pk hp hq v vs t h g =
    go (band_gap e c p q) (gap_by_rules e c r p q hp hq)
  where
    run : Run (pair_at e c p q) k (length vs) (pairs v vs) v (end_speed v vs) (greatest_of v vs).0
    run = run_of e c r k p q pk hp hq v vs t h g

    go : (a : Option ℕ) → GapByRules (pair_at e c p q) a → (T : ℕ) × (a ≡ Some T) × (k * T ≤ length vs)
    go None b = absurd (absent (pair_at e c p q) (pair_fits e c r p q hp hq) k (length vs) (pairs v vs) v (end_speed v vs) (greatest_of v vs).0 run b)
    go (Some T) b =
        (T, refl, no_faster (pair_at e c p q) (pair_fits e c r p q hp hq) k (length vs) (pairs v vs) v (end_speed v vs) (greatest_of v vs).0 run T b.allowed)

-- in particular, where the gap is absent no turn leads from the one band to the other
pub no_turn_where_absent : (e : Numbers) (c : Parts) → Ready e c → (k p q : ℕ) → 1 ≤ k → BandAt c p → BandAt c q → band_gap e c p q ≡ None → (v : ℕ) (vs : List ℕ) → Leads e c k p q v vs → ⊥
no_turn_where_absent e c r k p q pk hp hq a v vs l =
    let b = no_turn_beats_its_gap e c r k p q pk hp hq v vs l.turn l.starts l.ends in
    none_not_some b.0 (sym a ∙ b.1)
  where
    none_not_some : (d : ℕ) → ◌≡◌ {A = Option ℕ} None (Some d) → ⊥
    none_not_some d e = let z : ◌≡◌ {A = ℕ} 0 1 = cc in omega arith
