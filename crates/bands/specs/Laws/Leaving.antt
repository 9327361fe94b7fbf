-- The least gap that leaves a band.
use Rattle.std.proofs.Common.{◌≡◌, ℕ, zero, suc, ◌+◌, ◌≤◌, min, true, ◌&&◌, ltb, leb, length, Some, None, Option, unwrap_or, sym, refl, ap, ◌∙◌, subst, ⊎_elim, add-one, arith}
use Rattle.std.proofs.lemmas.Bool.{leb-true, le-leb, le-ltb, and_parts, and_from, cond-true, cond-false, cond_both, cases_lt, cases_Bool, both_ways}
use Rattle.engine.specs.Views.{Numbers, Parts}
use Rattle.bands.specs.Laws.Ready.{Ready}
use Rattle.task.specs.Walks.{ticks}
use Rattle.bands.specs.Gaps.{has_gap, IsGap, GapByRules, gap_value}
use Rattle.bands.specs.Graphs.{pair_at, band_here, band_gap, LeastGap, lesser, least_leaving, band_deadline}
use Rattle.bands.specs.Laws.Ends.{BandAt, pair_fits}
use Rattle.bands.specs.Laws.Rules.{value_by_rules}

some_not_none : (d : ℕ) → ◌≡◌ {A = Option ℕ} (Some d) None → ⊥
some_not_none d e = cc

some_same : (a b : ℕ) → ◌≡◌ {A = Option ℕ} (Some a) (Some b) → a ≡ b
some_same a b e = cc

pub here_true : (c : Parts) (p : ℕ) → BandAt c p → band_here c p ≡ true
here_true c p h =
    and_from (leb 1 p) (leb p (length c.bands)) (le-leb 1 p h.0) (le-leb p (length c.bands) h.1)

pub true_here : (c : Parts) (p : ℕ) → band_here c p ≡ true → BandAt c p
true_here c p e =
    let both = and_parts (leb 1 p) (leb p (length c.bands)) e in
    (leb-true 1 p both.0, leb-true p (length c.bands) both.1)

-- ---- a gap between two bands is that of their pair, and there is none elsewhere
pub gap_at : (e : Numbers) (c : Parts) (p q : ℕ) → BandAt c p → BandAt c q → band_gap e c p q ≡ gap_value (pair_at e c p q)
gap_at e c p q h k =
    cond-true (band_here c p && band_here c q) (gap_value (pair_at e c p q)) None
    (and_from (band_here c p) (band_here c q) (here_true c p h) (here_true c q k))

pub gap_bands : (e : Numbers) (c : Parts) (p q d : ℕ) → band_gap e c p q ≡ Some d → BandAt c p × BandAt c q
gap_bands e c p q d w =
    ⊎_elim
    (λ b. let both = and_parts (band_here c p) (band_here c q) b in (true_here c p both.0, true_here c q both.1))
    (λ b.
    absurd
    (some_not_none d (sym w ∙ cond-false (band_here c p && band_here c q) (gap_value (pair_at e c p q)) None b)))
    (cases_Bool (band_here c p && band_here c q))

pub gap_none_from : (e : Numbers) (c : Parts) (p q : ℕ) → (BandAt c p × BandAt c q → ⊥) → band_gap e c p q ≡ None
gap_none_from e c p q h =
    cond_both (band_here c p && band_here c q) (gap_value (pair_at e c p q)) None (λ v. v ≡ None)
    (λ b.
    let both = and_parts (band_here c p) (band_here c q) b in
    absurd (h (true_here c p both.0, true_here c q both.1)))
    (λ _. refl)

-- ---- the least of them
lesser_reached : (P : ℕ → Type 0) (a b : Option ℕ) (d : ℕ) → ((n : ℕ) → a ≡ Some n → P n) → ((n : ℕ) → b ≡ Some n → P n) → lesser a b ≡ Some d → P d
lesser_reached P None b d f g e = g d e
lesser_reached P (Some x) None d f g e = f d e
lesser_reached P (Some x) (Some y) d f g e =
    let m = some_same (min x y) d e in
    ⊎_elim (λ l. let s : x ≡ d = omega arith in subst P s (f x refl)) (λ l. let s : y ≡ d = omega arith in subst P s (g y refl))
    (cases_lt x y)

-- one band more
pub leaving_more : (e : Numbers) (c : Parts) (p n : ℕ) → least_leaving e c p (n + 1) ≡ lesser (least_leaving e c p n) (band_gap e c p (n + 1))
leaving_more e c p n =
    ap (least_leaving e c p) (add-one n) ∙ ap (λ q. lesser (least_leaving e c p n) (band_gap e c p q)) (sym (add-one n))

pub ticks_or : (a : Option ℕ) → unwrap_or a 0 ≡ ticks a
ticks_or None = refl
ticks_or (Some d) = refl

-- a bound of one of two gaps
abbrev AtMost : Option ℕ → ℕ → Type 0
AtMost a n = (d : ℕ) × (a ≡ Some d) × (d ≤ n)

lesser_left : (a b : Option ℕ) (n : ℕ) → AtMost a n → AtMost (lesser a b) n
lesser_left None b n h = absurd (some_not_none h.0 (sym h.1))
lesser_left (Some x) None n h = h
lesser_left (Some x) (Some y) n h =
    let s = some_same x h.0 h.1 in
    (min x y, refl, omega (arith, s, h.2))

lesser_right : (a b : Option ℕ) (n : ℕ) → AtMost b n → AtMost (lesser a b) n
lesser_right None b n h = h
lesser_right (Some x) None n h = absurd (some_not_none h.0 (sym h.1))
lesser_right (Some x) (Some y) n h =
    let s = some_same y h.0 h.1 in
    (min x y, refl, omega (arith, s, h.2))

leaving_reached : (e : Numbers) (c : Parts) (p n d : ℕ) → least_leaving e c p n ≡ Some d → (q : ℕ) × (band_gap e c p q ≡ Some d)
leaving_reached e c p zero d w = absurd (some_not_none d (sym w))
leaving_reached e c p (suc n) d w =
    lesser_reached (λ v. (q : ℕ) × (band_gap e c p q ≡ Some v)) (least_leaving e c p n) (band_gap e c p (suc n)) d
    (λ v h. leaving_reached e c p n v h) (λ v h. (suc n, h)) w

leaving_most : (e : Numbers) (c : Parts) (p n q g : ℕ) → 1 ≤ q → q ≤ n → band_gap e c p q ≡ Some g → AtMost (least_leaving e c p n) g
leaving_most e c p zero q g o h w = absurd (omega arith)
leaving_most e c p (suc n) q g o h w =
    ⊎_elim
    (λ l.
    let s : q ≡ suc n = omega arith in
    lesser_right (least_leaving e c p n) (band_gap e c p (suc n)) g
    (g, subst (λ v. band_gap e c p v ≡ Some g) s w, omega arith))
    (λ l. lesser_left (least_leaving e c p n) (band_gap e c p (suc n)) g (leaving_most e c p n q g o l w))
    (cases_lt n q)

-- the least gap is present exactly where some gap is, and 0 stands for none
leaving_least : (e : Numbers) (c : Parts) (p : ℕ) → (a : Option ℕ) → least_leaving e c p (length c.bands) ≡ a → (q g : ℕ) → band_gap e c p q ≡ Some g → LeastGap e c p (ticks a)
leaving_least e c p None s q g w =
    let at = (gap_bands e c p q g w).1 in
    let m = leaving_most e c p (length c.bands) q g at.0 at.1 w in
    absurd (some_not_none m.0 (sym m.1 ∙ s))
leaving_least e c p (Some d) s q g w = record {
  reached = leaving_reached e c p (length c.bands) d s;
  bounds = λ r n v.
      let at = (gap_bands e c p r n v).1 in
      let m = leaving_most e c p (length c.bands) r n at.0 at.1 v in
      let t = some_same m.0 d (sym m.1 ∙ s) in
      omega (arith, t, m.2);
}

leaving_none : (e : Numbers) (c : Parts) (p n : ℕ) → (BandAt c p → ⊥) → least_leaving e c p n ≡ None
leaving_none e c p zero h = refl
leaving_none e c p (suc n) h =
    rw (leaving_none e c p n h, gap_none_from e c p (suc n) (λ b. h b.0))

pub deadline_none : (e : Numbers) (c : Parts) (p : ℕ) → (BandAt c p → ⊥) → band_deadline e c p ≡ 0
deadline_none e c p h = ap ticks (leaving_none e c p (length c.bands) h)

module _ (e : Numbers) (c : Parts) (r : Ready e c) where
  pub gap_by_rules : (p q : ℕ) → BandAt c p → BandAt c q → GapByRules (pair_at e c p q) (band_gap e c p q)
  gap_by_rules p q h k =
      subst (GapByRules (pair_at e c p q)) (sym (gap_at e c p q h k)) (value_by_rules (pair_at e c p q) (pair_fits e c r p q h k))

  pub gap_is : (p q d : ℕ) → band_gap e c p q ≡ Some d → IsGap (pair_at e c p q) d
  gap_is p q d w =
      let b = gap_bands e c p q d w in
      subst (GapByRules (pair_at e c p q)) w (gap_by_rules p q b.0 b.1)

  -- a band leads to itself
  self_gap : (p : ℕ) (a : Option ℕ) → GapByRules (pair_at e c p p) a → (d : ℕ) × (a ≡ Some d)
  self_gap p None g =
      let l = le-ltb p p (omega arith) in
      let t : has_gap (pair_at e c p p) ≡ true = cond-false (ltb p p) _ _ l ∙ cond-false (ltb p p) _ _ l in
      absurd (both_ways (has_gap (pair_at e c p p)) g t)
  self_gap p (Some d) g = (d, refl)

  pub deadline_least : (p : ℕ) → BandAt c p → LeastGap e c p (band_deadline e c p)
  deadline_least p h =
      let s = self_gap p (band_gap e c p p) (gap_by_rules p p h h) in
      leaving_least e c p (least_leaving e c p (length c.bands)) refl p s.0 s.1
