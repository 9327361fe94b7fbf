-- Turns, to show that there are some: one at a steady speed, one that takes exactly its gap, and for each gap of a
-- worked card one that takes less than a tick more.
use Rattle.std.proofs.Common.{◌≡◌, ℕ, zero, suc, ◌+◌, ◌*◌, ◌≤◌, Bool, true, ◌&&◌, ltb, leb, List, [], ◌∷◌, length, replicate, Some, refl, ◌∙◌, inl, inr, arith, lit<, lit≤}
use lib.ListN.{length-replicate}
use Rattle.std.specs.List.{AllByRecursion as All}
use Rattle.std.proofs.lemmas.Bool.{leb-true, ltb-true, and_parts}
use Rattle.engine.specs.Views.{Numbers, Parts, house_engine}
use Rattle.bands.specs.Graphs.{pair_at, band_gap}
use Rattle.bands.specs.Examples.{small_engine, three_bands}
use Rattle.bands.specs.Turns.{Changes, pairs, end_speed, Turn, InBand, Leads, Beaten}
use Rattle.bands.specs.Laws.Rules.{value_some}

-- ---- at a steady speed
steady_within : (low high s : ℕ) → low ≤ s → s ≤ high → (n : ℕ) → All (λ v. (low ≤ v) × (v ≤ high)) (replicate n s)
steady_within low high s h k zero = tt
steady_within low high s h k (suc n) = ((h, k), steady_within low high s h k n)

steady_changes : (A D s n : ℕ) → Changes A D s (replicate n s)
steady_changes A D s zero = tt
steady_changes A D s (suc n) = (omega arith, omega arith, steady_changes A D s n)

steady_pairs : (s n : ℕ) → pairs s (replicate n s) ≡ 2 * s * n
steady_pairs s zero = omega arith
steady_pairs s (suc n) = let h = steady_pairs s n in omega (arith, h)

pub steady_turn : (e : Numbers) (angle k s n : ℕ) → 1 ≤ n → k * e.least ≤ s → s ≤ k * e.greatest → 2 * s * n ≡ 2 * (k * k) * angle → Turn e angle k s (replicate n s)
steady_turn e angle k s n o l h t = record {
  longer = omega (arith, length-replicate n s, o);
  within = ((l, h), steady_within (k * e.least) (k * e.greatest) s l h n);
  changes = steady_changes e.rise e.fall s n;
  turned = steady_pairs s n ∙ t;
}

-- the house engine turns 6,000,000 steps in 600 ticks at 10,000 steps per tick
pub house_turn : Turn house_engine 6000000 1 10000 (replicate 600 10000)
house_turn = steady_turn house_engine 6000000 1 10000 600 (lit≤ tt) (lit≤ tt) (lit≤ tt) refl

-- ---- by computation
speeds_test : ℕ → ℕ → ℕ → ℕ → ℕ → List ℕ → Bool
speeds_test low high A D v [] = leb low v && leb v high
speeds_test low high A D v (w ∷ ws) =
    (leb low v && leb v high) && ((leb w (v + A) && leb v (w + D)) && speeds_test low high A D w ws)

tested_within : (low high A D v : ℕ) (vs : List ℕ) → speeds_test low high A D v vs ≡ true → All (λ s. (low ≤ s) × (s ≤ high)) (v ∷ vs)
unfolding speeds_test
tested_within low high A D v [] t =
    let a = and_parts (leb low v) (leb v high) t in
    ((leb-true low v a.0, leb-true v high a.1), tt)
tested_within low high A D v (w ∷ ws) t =
    let b = and_parts (leb low v && leb v high) ((leb w (v + A) && leb v (w + D)) && speeds_test low high A D w ws) t in
    let a = and_parts (leb low v) (leb v high) b.0 in
    let c = and_parts (leb w (v + A) && leb v (w + D)) (speeds_test low high A D w ws) b.1 in
    ((leb-true low v a.0, leb-true v high a.1), tested_within low high A D w ws c.1)

tested_changes : (low high A D v : ℕ) (vs : List ℕ) → speeds_test low high A D v vs ≡ true → Changes A D v vs
unfolding speeds_test
tested_changes low high A D v [] t = tt
tested_changes low high A D v (w ∷ ws) t =
    let b = and_parts (leb low v && leb v high) ((leb w (v + A) && leb v (w + D)) && speeds_test low high A D w ws) t in
    let c = and_parts (leb w (v + A) && leb v (w + D)) (speeds_test low high A D w ws) b.1 in
    let a = and_parts (leb w (v + A)) (leb v (w + D)) c.0 in
    (leb-true w (v + A) a.0, leb-true v (w + D) a.1, tested_changes low high A D w ws c.1)

turn_by : (e : Numbers) (angle k v : ℕ) (vs : List ℕ) → leb 1 (length vs) ≡ true → speeds_test (k * e.least) (k * e.greatest) e.rise e.fall v vs ≡ true → pairs v vs ≡ 2 * (k * k) * angle → Turn e angle k v vs
turn_by e angle k v vs l t s = record {
  longer = leb-true 1 (length vs) l;
  within = tested_within (k * e.least) (k * e.greatest) e.rise e.fall v vs t;
  changes = tested_changes (k * e.least) (k * e.greatest) e.rise e.fall v vs t;
  turned = s;
}

beaten_by : (e : Numbers) (c : Parts) (k p q n v : ℕ) (vs : List ℕ) → leb 1 (length vs) ≡ true → speeds_test (k * e.least) (k * e.greatest) e.rise e.fall v vs ≡ true → pairs v vs ≡ 2 * (k * k) * c.angle → ltb (length vs) (k * n) ≡ true → InBand e c k p v → InBand e c k q (end_speed v vs) → Beaten e c p q n
beaten_by e c k p q n v vs l t s b h g =
    (k, v, vs, record { turn = turn_by e c.angle k v vs l t s; starts = h; ends = g }, ltb-true (length vs) (k * n) b)

-- ---- a turn that takes exactly its gap: at an angle of 1,200, three ticks at the greatest speed
pub exact_gap : band_gap small_engine (three_bands 1200) 3 3 ≡ Some 3
exact_gap = value_some (pair_at small_engine (three_bands 1200) 3 3) 3 refl (record { within = refl; past = refl }) (lit≤ tt)

pub exact_turn : Leads small_engine (three_bands 1200) 1 3 3 400 (replicate 3 400)
exact_turn = record {
  turn = steady_turn small_engine 1200 1 400 3 (lit≤ tt) (lit≤ tt) (lit≤ tt) refl;
  starts = (lit≤ tt, inr (refl, lit≤ tt));
  ends = (lit≤ tt, inr (refl, lit≤ tt));
}

-- ---- each gap of the worked card with three bands is beaten as soon as it is made a tick longer
pub beaten_1_1 : Beaten small_engine (three_bands 1000) 1 1 5
unfolding speeds_test
beaten_1_1 =
    beaten_by small_engine (three_bands 1000) 15 1 1 5 2999
    (3001 ∷ 3003 ∷ 3005 ∷ 3007 ∷ 3009 ∷ 3011 ∷ 3013 ∷ 3015 ∷ 3017 ∷ 3019 ∷ 3021 ∷ 3023 ∷ 3025 ∷ 3027 ∷ 3029 ∷
    3031 ∷ 3033 ∷ 3035 ∷ 3037 ∷ 3039 ∷ 3041 ∷ 3043 ∷ 3045 ∷ 3047 ∷ 3049 ∷ 3051 ∷ 3053 ∷ 3055 ∷ 3057 ∷ 3059 ∷
    3061 ∷ 3063 ∷ 3065 ∷ 3065 ∷ 3065 ∷ 3065 ∷ 3065 ∷ 3065 ∷ 3065 ∷ 3065 ∷ 3065 ∷ 3065 ∷ 3065 ∷ 3065 ∷ 3065 ∷
    3065 ∷ 3066 ∷ 3066 ∷ 3066 ∷ 3066 ∷ 3066 ∷ 3065 ∷ 3062 ∷ 3059 ∷ 3056 ∷ 3053 ∷ 3050 ∷ 3047 ∷ 3044 ∷ 3041 ∷
    3038 ∷ 3035 ∷ 3032 ∷ 3029 ∷ 3026 ∷ 3023 ∷ 3020 ∷ 3017 ∷ 3014 ∷ 3011 ∷ 3008 ∷ 3005 ∷ 3002 ∷ 2999 ∷ [])
    refl refl refl refl (lit≤ tt, inl (lit< tt)) (lit≤ tt, inl (lit< tt))

pub beaten_1_2 : Beaten small_engine (three_bands 1000) 1 2 5
unfolding speeds_test
beaten_1_2 =
    beaten_by small_engine (three_bands 1000) 9 1 2 5 1799
    (1801 ∷ 1803 ∷ 1805 ∷ 1807 ∷ 1809 ∷ 1811 ∷ 1813 ∷ 1815 ∷ 1817 ∷ 1819 ∷ 1821 ∷ 1823 ∷ 1825 ∷ 1827 ∷ 1829 ∷
    1831 ∷ 1833 ∷ 1835 ∷ 1837 ∷ 1839 ∷ 1841 ∷ 1843 ∷ 1845 ∷ 1847 ∷ 1849 ∷ 1851 ∷ 1853 ∷ 1855 ∷ 1857 ∷ 1859 ∷
    1861 ∷ 1863 ∷ 1865 ∷ 1867 ∷ 1867 ∷ 1868 ∷ 1868 ∷ 1868 ∷ 1868 ∷ 1868 ∷ 1868 ∷ 1868 ∷ 1868 ∷ 1867 ∷ [])
    refl refl refl refl (lit≤ tt, inl (lit< tt)) (lit≤ tt, inl (lit< tt))

pub beaten_2_1 : Beaten small_engine (three_bands 1000) 2 1 5
unfolding speeds_test
beaten_2_1 =
    beaten_by small_engine (three_bands 1000) 6 2 1 5 1271
    (1272 ∷ 1272 ∷ 1272 ∷ 1273 ∷ 1271 ∷ 1268 ∷ 1265 ∷ 1262 ∷ 1259 ∷ 1256 ∷ 1253 ∷ 1250 ∷ 1247 ∷ 1244 ∷ 1241 ∷
    1238 ∷ 1235 ∷ 1232 ∷ 1229 ∷ 1226 ∷ 1223 ∷ 1220 ∷ 1217 ∷ 1214 ∷ 1211 ∷ 1208 ∷ 1205 ∷ 1202 ∷ 1199 ∷ [])
    refl refl refl refl (lit≤ tt, inl (lit< tt)) (lit≤ tt, inl (lit< tt))

pub beaten_2_2 : Beaten small_engine (three_bands 1000) 2 2 4
unfolding speeds_test
beaten_2_2 =
    beaten_by small_engine (three_bands 1000) 2 2 2 4 571
    (571 ∷ 571 ∷ 571 ∷ 572 ∷ 572 ∷ 572 ∷ 571 ∷ [])
    refl refl refl refl (lit≤ tt, inl (lit< tt)) (lit≤ tt, inl (lit< tt))

pub beaten_2_3 : Beaten small_engine (three_bands 1000) 2 3 4
unfolding speeds_test
beaten_2_3 =
    beaten_by small_engine (three_bands 1000) 3 2 3 4 899
    (900 ∷ 900 ∷ 900 ∷ 900 ∷ 900 ∷ 900 ∷ 900 ∷ 900 ∷ 900 ∷ 901 ∷ [])
    refl refl refl refl (lit≤ tt, inl (lit< tt)) (lit≤ tt, inl (lit< tt))

pub beaten_3_2 : Beaten small_engine (three_bands 1000) 3 2 4
unfolding speeds_test
beaten_3_2 =
    beaten_by small_engine (three_bands 1000) 3 3 2 4 900
    (900 ∷ 900 ∷ 900 ∷ 900 ∷ 900 ∷ 900 ∷ 900 ∷ 900 ∷ 901 ∷ 898 ∷ [])
    refl refl refl refl (lit≤ tt, inl (lit< tt)) (lit≤ tt, inl (lit< tt))

pub beaten_3_3 : Beaten small_engine (three_bands 1000) 3 3 3
unfolding speeds_test
beaten_3_3 =
    beaten_by small_engine (three_bands 1000) 2 3 3 3 800
    (800 ∷ 800 ∷ 800 ∷ 800 ∷ 800 ∷ [])
    refl refl refl refl (lit≤ tt, inr (refl, lit≤ tt)) (lit≤ tt, inr (refl, lit≤ tt))
