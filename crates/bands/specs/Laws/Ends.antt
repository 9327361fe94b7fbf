-- The ends of a card's bands: they rise from the least speed to the greatest.
use Rattle.std.proofs.Common.{◌≡◌, ℕ, zero, suc, ◌-◌, ◌<◌, ◌≤◌, true, eqb, ltb, leb, List, [], ◌∷◌, length, get_or, ap, subst, arith}
use Rattle.std.proofs.lemmas.List.{get_or_default}
use Rattle.std.proofs.lemmas.Bool.{false≢true, ltb-true, leb-true, eqb-true, and_parts}
use Rattle.engine.specs.Limits.{rising, speeds_ok}
use Rattle.engine.specs.Views.{Numbers, Parts}
use Rattle.bands.specs.Laws.Ready.{Ready}
use Rattle.bands.specs.Graphs.{lower_end, upper_end, pair_at}
use Rattle.bands.specs.Rules.{Fits}

-- lower speeds that rise from l on and stay below M; after the first of them they rise from there
abbrev pub Rising : {X : Type 0} → (X → ℕ) → ℕ → ℕ → List X → Type 0
Rising lower M l xs = rising lower M l xs ≡ true

pub rising_parts : {X : Type 0} (lower : X → ℕ) (M l : ℕ) (x : X) (xs : List X) → Rising lower M l (x ∷ xs) → (l < lower x) × Rising lower M (lower x) xs
rising_parts lower M l x xs h =
    let both = and_parts (ltb l (lower x)) (rising lower M (lower x) xs) h in
    (ltb-true l (lower x) both.0, both.1)

-- each band ends above where it begins
rises : (M l : ℕ) (xs : List ℕ) → Rising (λ b. b) M l xs → (k : ℕ) → k < length (l ∷ xs) → get_or (l ∷ xs) k 0 < get_or (l ∷ xs) (suc k) M
rises M l [] h zero b = ltb-true l M h
rises M l [] h (suc k) b = omega arith
rises M l (x ∷ xs) h zero b = (rising_parts (λ b. b) M l x xs h).0
rises M l (x ∷ xs) h (suc k) b = rises M x xs (rising_parts (λ b. b) M l x xs h).1 k (omega arith)

-- no end is above M, nor below the first
below : (M l : ℕ) (xs : List ℕ) → Rising (λ b. b) M l xs → (k : ℕ) → get_or (l ∷ xs) k M ≤ M
below M l [] h zero = let k = ltb-true l M h in omega arith
below M l [] h (suc k) = omega arith
below M l (x ∷ xs) h zero =
    let p = rising_parts (λ b. b) M l x xs h in
    let k = below M x xs p.1 zero in
    omega arith
below M l (x ∷ xs) h (suc k) = below M x xs (rising_parts (λ b. b) M l x xs h).1 k

above : (M l : ℕ) (xs : List ℕ) → Rising (λ b. b) M l xs → (k : ℕ) → l ≤ get_or (l ∷ xs) k M
above M l [] h zero = omega arith
above M l [] h (suc k) = let k = ltb-true l M h in omega arith
above M l (x ∷ xs) h zero = omega arith
above M l (x ∷ xs) h (suc k) =
    let p = rising_parts (λ b. b) M l x xs h in
    let k = above M x xs p.1 k in
    omega arith

-- a later end is no lower
climbs : (M l : ℕ) (xs : List ℕ) → Rising (λ b. b) M l xs → (k n : ℕ) → k ≤ n → get_or (l ∷ xs) k M ≤ get_or (l ∷ xs) n M
climbs M l xs h zero n b = above M l xs h n
climbs M l xs h (suc k) zero b = omega arith
climbs M l [] h (suc k) (suc n) b = omega arith
climbs M l (x ∷ xs) h (suc k) (suc n) b = climbs M x xs (rising_parts (λ b. b) M l x xs h).1 k n (omega arith)

-- what a list of lower speeds that is right has
pub record Ends (m M : ℕ) (bs : List ℕ) : Type 0 where
  pub first : get_or bs 0 0 ≡ m
  pub widens : (k : ℕ) → k < length bs → get_or bs k 0 < get_or bs (suc k) M
  pub most : (k : ℕ) → get_or bs k M ≤ M
  pub least : (k : ℕ) → m ≤ get_or bs k M
  pub orders : (k n : ℕ) → k ≤ n → get_or bs k M ≤ get_or bs n M

pub ends_of : (m M : ℕ) (bs : List ℕ) → speeds_ok (λ b. b) m M bs ≡ true → Ends m M bs
ends_of m M [] h = absurd (false≢true h)
ends_of m M (l ∷ xs) h =
    let both = and_parts (eqb l m) (rising (λ b. b) M l xs) h in
    let e = eqb-true l m both.0 in
    record {
      first = e;
      widens = rises M l xs both.1;
      most = below M l xs both.1;
      least = λ k. let j = above M l xs both.1 k in omega arith;
      orders = climbs M l xs both.1;
    }

pub card_ends : (e : Numbers) (c : Parts) → Ready e c → Ends e.least e.greatest c.bands
card_ends e c r =
    ends_of e.least e.greatest c.bands
    (and_parts (leb (length c.bands) 24) (speeds_ok (λ b. b) e.least e.greatest c.bands) r.bands).1

pub card_few : (e : Numbers) (c : Parts) → Ready e c → length c.bands ≤ 24
card_few e c r =
    leb-true (length c.bands) 24
    (and_parts (leb (length c.bands) 24) (speeds_ok (λ b. b) e.least e.greatest c.bands) r.bands).0

pub card_angle : (e : Numbers) (c : Parts) → Ready e c → (e.greatest ≤ c.angle) × (c.angle ≤ 24000000)
card_angle e c r =
    let both = and_parts (leb e.greatest c.angle) (leb c.angle 24000000) r.angle in
    (leb-true e.greatest c.angle both.0, leb-true c.angle 24000000 both.1)

-- the p-th band, counted from 1
abbrev pub BandAt : Parts → ℕ → Type 0
BandAt c p = (1 ≤ p) × (p ≤ length c.bands)

pub band_widens : (e : Numbers) (c : Parts) → Ready e c → (p : ℕ) → BandAt c p → lower_end c p < upper_end e c p
band_widens e c r p h =
    let k = (card_ends e c r).widens (p - 1) (omega arith) in
    let s : suc (p - 1) ≡ p = omega arith in
    subst (λ n. lower_end c p < get_or c.bands n e.greatest) s k

pub band_least : (e : Numbers) (c : Parts) → Ready e c → (p : ℕ) → BandAt c p → e.least ≤ lower_end c p
band_least e c r p h =
    let k = (card_ends e c r).least (p - 1) in
    let d = get_or_default c.bands (p - 1) 0 e.greatest (omega arith) in
    omega (arith, k, d)

pub pair_fits : (e : Numbers) (c : Parts) → Ready e c → (p q : ℕ) → BandAt c p → BandAt c q → Fits (pair_at e c p q)
pair_fits e c r p q h k =
    let ends = card_ends e c r in
    let angle = card_angle e c r in
    let x = band_widens e c r p h in
    let y = band_widens e c r q k in
    let v = ends.most p in
    let w = ends.most q in
    let m = ends.least p in
    let n = ends.least q in
    record {
      rise_least = r.rises;
      rise_most = r.sharpest;
      fall_least = r.falls;
      fall_most = r.hardest;
      speed_most = r.bounded;
      angle_least = angle.0;
      angle_most = angle.1;
      from_low = omega (arith, x, v);
      from_least = omega (arith, m, r.turns);
      from_most = v;
      to_low = omega (arith, y, w);
      to_least = omega (arith, n, r.turns);
      to_most = w;
      up = λ l. ends.orders p q (omega (arith, l));
      down = λ l. ends.orders q p (omega (arith, l));
      same = λ s. ap (upper_end e c) s;
    }
