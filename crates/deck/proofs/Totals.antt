-- Sums of greatest demands: they are unique, they add up, and they stay small.
use Rattle.std.proofs.Common.{◌≡◌, ℕ, ◌+◌, ◌*◌, ◌<◌, ◌≤◌, List, [], ◌∷◌, ◌++◌, map, length, get_or, take, sym, refl, ap, ◌∙◌, subst, ⊎_elim, mul-le-mul_right, mul-le-mul_left, arith, length-append}
use Rattle.std.proofs.lemmas.List.{take_more, map-append}
use Rattle.std.proofs.lemmas.Simd.{map-map}
use Rattle.task.specs.Graph.{Graph, Lawful}
use Rattle.task.specs.Walks.{Greatest, Total}
use Rattle.demand.specs.Judged.{Added}
use Rattle.demand.proofs.Bests.{demand_most}
use Rattle.deck.specs.declared.verdict.Verdict.{Verdict}
use Rattle.deck.specs.declared.verdict.Verdict.TheVariants.{Fits, Over}
use Rattle.deck.specs.Judging.{Says}
use Rattle.demand.specs.Table.{Spared}
use Rattle.deck.specs.Sums.{Grown, Decides}

-- two greatest demands are one
pub greatest_one : (g : Graph) (t m n : ℕ) → Greatest g t m → Greatest g t n → m ≤ n
greatest_one g t m n a b =
    ⊎_elim
    (λ w. omega (arith, b.bounds w.0 w.1.0 w.1.1, w.1.2))
    (λ z. omega (arith, z.0))
    a.reached

pub total_one : (gs : List Graph) (t m n : ℕ) → Total gs t m → Total gs t n → m ≡ n
total_one [] t m n a b = a ∙ sym b
total_one (g ∷ gs) t m n a b =
    let p = greatest_one g t a.0 b.0 a.2 b.2 in
    let q = greatest_one g t b.0 a.0 b.2 a.2 in
    let r = total_one gs t a.1 b.1 a.3 b.3 in
    omega (arith, a.4, b.4)

pub total_append : (gs hs : List Graph) (t a b : ℕ) → Total gs t a → Total hs t b → Total (gs ++ hs) t (a + b)
total_append [] hs t a b p q = subst (Total hs t) (omega (arith, p)) q
total_append (g ∷ gs) hs t a b p q =
    (p.0, p.1 + b, p.2, total_append gs hs t p.1 b p.3 q, omega (arith, p.4))

pub greatest_most : (g : Graph) → Lawful g → (t n : ℕ) → Greatest g t n → n ≤ 100000 * t
greatest_most g l t n h =
    ⊎_elim
    (λ w.
    let inside = w.1.1 in
    let most = demand_most g l w.0 w.1.0 inside.0 in
    let wide = mul-le-mul_left 100000 inside.1 in
    omega (arith, w.1.2))
    (λ z. omega (arith, z.0))
    h.reached

pub grown_none : (horizon : ℕ) (xs : List ℕ) → Grown [] horizon xs xs
grown_none horizon xs = record { at = λ t h. (0, refl, omega arith, λ k. omega arith); beyond = λ t h. refl }

-- one task's demand
pub grown_one : (g : Graph) → Lawful g → (horizon : ℕ) (work work' xs ys : List ℕ) → Added g horizon work work' xs ys → Grown (g ∷ []) horizon xs ys
grown_one g l horizon work work' xs ys a = record {
  at = λ t h.
      let k = a.grown t h in
      let most = greatest_most g l t k.0 k.1 in
      (k.0, (k.0, 0, k.1, refl, omega arith), omega arith, λ fits. omega (arith, k.2));
  beyond = a.beyond;
}

-- some tasks, and then others
pub grown_then : (gs hs : List Graph) (horizon : ℕ) (xs ys zs : List ℕ) → Grown gs horizon xs ys → Grown hs horizon ys zs → Grown (gs ++ hs) horizon xs zs
grown_then gs hs horizon xs ys zs p q = record {
  at = λ t h.
      let a = p.at t h in
      let b = q.at t h in
      let long = length-append gs hs in
      let wide : length (gs ++ hs) * (100000 * t) ≡ length gs * (100000 * t) + length hs * (100000 * t) = ap (λ n. n * (100000 * t)) long ∙ native.Mathlib.Nat.add-mul (length gs) (length hs) (100000 * t) in (
        a.0 + b.0,
        total_append gs hs t a.0 b.0 a.1 b.1,
        omega (arith, a.2, b.2),
        λ fits.
            let first = a.3 (omega arith) in
            let second = b.3 (omega arith) in
            omega arith,
      );
  beyond = λ t h. q.beyond t h ∙ p.beyond t h;
}

pub spared_then : (n : ℕ) (xs ys zs : List ℕ) → Spared n xs ys → Spared n ys zs → Spared n xs zs
spared_then n xs ys zs p q i h = q i h ∙ p i h

-- the same of cards as they are seen
pub grown_seen : {X Y : Type 0} (f : Y → Graph) (seen : X → Y) (xs ys : List X) (horizon : ℕ) (zs zs' : List ℕ) → xs ≡ ys → Grown (map (λ x. f (seen x)) xs) horizon zs zs' → Grown (map f (map seen ys)) horizon zs zs'
grown_seen f seen xs ys horizon zs zs' e p =
    subst (λ gs. Grown gs horizon zs zs') (ap (map (λ x. f (seen x))) e ∙ sym (map-map f seen ys)) p

-- one card more of a list
pub grown_more : {X : Type 0} (f : X → Graph) (xs : List X) (i : ℕ) (d : X) (g : Graph) (horizon : ℕ) (xs₀ ys zs : List ℕ) → i < length xs → g ≡ f (get_or xs i d) → Grown (map f (take i xs)) horizon xs₀ ys → Grown (g ∷ []) horizon ys zs → Grown (map f (take (i + 1) xs)) horizon xs₀ zs
grown_more f xs i d g horizon xs₀ ys zs h e p q =
    let list = ap (map f) (take_more xs i d h) ∙ map-append f (take i xs) (get_or xs i d ∷ []) ∙ ap (λ x. map f (take i xs) ++ x ∷ []) (sym e) in
    subst (λ l. Grown l horizon xs₀ zs) (sym list) (grown_then (map f (take i xs)) (g ∷ []) horizon xs₀ ys zs p q)

-- totals that grew from 0 by the demands of few enough tasks are those demands
pub summed_from : (gs : List Graph) (horizon : ℕ) (xs ys : List ℕ) → length gs ≤ 21 → horizon ≤ 20000 → ((t : ℕ) → t ≤ horizon → get_or xs t 0 ≡ 0) → Grown gs horizon xs ys → (t : ℕ) → t ≤ horizon → Total gs t (get_or ys t 0)
summed_from gs horizon xs ys few near zero grown t h =
    let a = grown.at t h in
    let z = zero t h in
    let wide = mul-le-mul_right (100000 * t) few in
    let same : a.0 ≡ get_or ys t 0 = omega (arith, a.2, a.3 (omega (arith, a.2))) in
    subst (Total gs t) same a.1

-- a verdict over the totals is one over the tasks
pub says_from : (gs : List Graph) (horizon : ℕ) (ys : List ℕ) → ((t : ℕ) → t ≤ horizon → Total gs t (get_or ys t 0)) → (v : Verdict) → Decides v ys horizon → Says v gs horizon
says_from gs horizon ys summed (Fits h) d =
    (d.0, λ t n below total. omega (arith, total_one gs t n (get_or ys t 0) total (summed t below), d.1 t below))
says_from gs horizon ys summed (Over t n) d =
    let at = d.0 in (
      at.inside,
      omega (arith, at.exceeds, d.1),
      subst (Total gs t) d.1 (summed t at.inside),
      λ s m below total.
          let near : s ≤ horizon = omega (arith, at.inside) in
          omega (arith, total_one gs s m (get_or ys s 0) total (summed s near), at.least s below),
    )
