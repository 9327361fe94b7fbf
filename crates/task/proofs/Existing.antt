-- Every lawful graph has a greatest demand at every t.
use Rattle.std.proofs.Common.{◌≡◌, ℕ, zero, suc, ◌+◌, ◌-◌, ◌<◌, ◌≤◌, ◌⊎◌, List, [], ◌∷◌, Some, None, Option, refl, ap, subst, inl, inr, ⊎_elim, arith}
use Rattle.std.proofs.lemmas.Bool.{cases_lt}
use Rattle.task.specs.Graph.{Graph, Place, Lawful}
use Rattle.task.specs.Walks.{Walk, ticks, demand_of, Inside, Greatest}

-- a collection of numbers has a greatest, or is empty
abbrev Most : (ℕ → Type 0) → Type 0
Most S = ((n : ℕ) × S n × ((m : ℕ) → S m → m ≤ n)) ⊎ ((m : ℕ) → S m → ⊥)

-- of the same numbers
same : (S T : ℕ → Type 0) → ((n : ℕ) → S n → T n) → ((n : ℕ) → T n → S n) → Most S → Most T
same S T to back =
    ⊎_elim (λ s. inl (s.0, to s.0 s.1, λ m t. s.2 m (back m t))) (λ e. inr (λ m t. e m (back m t)))

-- of two collections
either : (S T : ℕ → Type 0) → Most S → Most T → Most (λ n. S n ⊎ T n)
either S T (inl s) (inl t) =
    ⊎_elim
    (λ h. inl (t.0, inr t.1, λ m. ⊎_elim (λ x. omega (arith, s.2 m x)) (λ y. t.2 m y)))
    (λ h. inl (s.0, inl s.1, λ m. ⊎_elim (λ x. s.2 m x) (λ y. omega (arith, t.2 m y))))
    (cases_lt s.0 t.0)
either S T (inl s) (inr f) = inl (s.0, inl s.1, λ m. ⊎_elim (λ x. s.2 m x) (λ y. absurd (f m y)))
either S T (inr e) (inl t) = inl (t.0, inr t.1, λ m. ⊎_elim (λ x. absurd (e m x)) (λ y. t.2 m y))
either S T (inr e) (inr f) = inr (λ m. ⊎_elim (e m) (f m))

-- of a collection for each place up to k
abbrev UpTo : (ℕ → ℕ → Type 0) → ℕ → ℕ → Type 0
UpTo S k n = (q : ℕ) × (1 ≤ q) × (q ≤ k) × S q n

up_to : (S : ℕ → ℕ → Type 0) (k : ℕ) → ((q : ℕ) → 1 ≤ q → q ≤ k → Most (S q)) → Most (UpTo S k)
up_to S zero h = inr (λ m u. let x = u.1 in let y = u.2 in omega arith)
up_to S (suc k) h =
    same (λ n. UpTo S k n ⊎ S (suc k) n) (UpTo S (suc k))
    (λ n. ⊎_elim (λ u. (u.0, u.1, omega (arith, u.2), u.3)) (λ s. (suc k, omega arith, omega arith, s)))
    (λ n u. ⊎_elim
    (λ l. inl (u.0, u.1, omega arith, u.3))
    (λ l. let e : u.0 ≡ suc k = omega (arith, u.2) in inr (subst (λ (q : ℕ). S q n) e u.3))
    (cases_lt u.0 (suc k)))
    (either (UpTo S k) (S (suc k)) (up_to S k (λ q a b. h q a (omega arith))) (h (suc k) (omega arith) (omega arith)))

-- each number raised by c
abbrev Raised : ℕ → (ℕ → Type 0) → ℕ → Type 0
Raised c S n = (m : ℕ) × S m × (c + m ≡ n)

raise : (c : ℕ) (S : ℕ → Type 0) → Most S → Most (Raised c S)
raise c S =
    ⊎_elim
    (λ s. inl (c + s.0, (s.0, s.1, refl), λ m r. omega (arith, s.2 r.0 r.1, r.2)))
    (λ e. inr (λ m r. e r.0 r.1))

-- the demands of the walks from p inside t
abbrev From : Graph → ℕ → ℕ → ℕ → Type 0
From g t p n = (ps : List ℕ) × Inside g t p ps × (demand_of g p ps ≡ n)

-- the demands of the walks that go on from q after the gap from p
abbrev Onward : Graph → ℕ → ℕ → ℕ → ℕ → Type 0
Onward g t p q n = (d : ℕ) × (g.gap p q ≡ Some d) × (d ≤ t) × From g (t - d) q n

walk_place : (g : Graph) (p : ℕ) (ps : List ℕ) → Walk g p ps → Place g p
walk_place g p [] w = w
walk_place g p (q ∷ ps) w = w.0

same_gap : (o : Option ℕ) (a b : ℕ) → o ≡ Some a → o ≡ Some b → a ≡ b
same_gap o a b p q = cc

no_gap : (o : Option ℕ) (a : ℕ) → o ≡ Some a → o ≡ None → ⊥
no_gap o a p q = let z : ◌≡◌ {A = ℕ} 0 1 = cc in omega arith

onward : (g : Graph) (t p q : ℕ) → ((d : ℕ) → g.gap p q ≡ Some d → d ≤ t → Most (From g (t - d) q)) → Most (Onward g t p q)
onward g t p q h = go (g.gap p q) refl
  where
    go : (o : Option ℕ) → g.gap p q ≡ o → Most (Onward g t p q)
    go None e = inr (λ m w. no_gap (g.gap p q) w.0 w.1 e)
    go (Some d) e =
        ⊎_elim
        (λ late. inr (λ m w. let s = same_gap (g.gap p q) w.0 d w.1 e in omega (arith, w.2)))
        (λ early. same (From g (t - d) q) (Onward g t p q) (λ n f. (d, e, early, f))
        (λ n w. subst (λ (x : ℕ). From g (t - x) q n) (same_gap (g.gap p q) w.0 d w.1 e) w.3)
        (h d e early))
        (cases_lt t d)

-- the walk of one place, or one that goes on
abbrev Split : Graph → ℕ → ℕ → ℕ → Type 0
Split g t p n = (((g.deadline p ≤ t) × (g.cost p ≡ n)) ⊎ Raised (g.cost p) (UpTo (Onward g t p) g.places) n)

joined : (g : Graph) (t p : ℕ) → Place g p → (n : ℕ) → Split g t p n → From g t p n
joined g t p h n (inl a) = ([], (h, a.0), a.1)
joined g t p h n (inr r) =
    let u = r.1 in let w = u.3 in let f = w.3 in
    let e : ticks (g.gap p u.0) ≡ w.0 = ap ticks w.1 in
    (u.0 ∷ f.0, ((h, (w.0, w.1), f.1.0), omega (arith, f.1.1, w.2)), omega (arith, f.2, r.2))

parted : (g : Graph) (t p n : ℕ) (ps : List ℕ) → Inside g t p ps → demand_of g p ps ≡ n → Split g t p n
parted g t p n [] i e = inl (i.1, e)
parted g t p n (q ∷ ps) i e =
    let h = walk_place g q ps i.0.2 in
    let s : ticks (g.gap p q) ≡ i.0.1.0 = ap ticks i.0.1.1 in
    inr (demand_of g q ps, (q, h.0, h.1, (i.0.1.0, i.0.1.1, omega (arith, i.1), (ps, (i.0.2, omega (arith, i.1)), refl))), e)

one_place : (d c t : ℕ) → Most (λ n. (d ≤ t) × (c ≡ n))
one_place d c t =
    ⊎_elim (λ l. inr (λ m x. omega arith)) (λ l. inl (c, (l, refl), λ m x. omega (arith, x.1))) (cases_lt t d)

-- by recursion on a bound of t
from_most : (g : Graph) → Lawful g → (u t : ℕ) → t < u → (p : ℕ) → Place g p → Most (From g t p)
from_most g l zero t b p h = absurd (omega arith)
from_most g l (suc u) t b p h =
    same (Split g t p) (From g t p) (joined g t p h) (λ n f. parted g t p n f.0 f.1 f.2)
    (either (λ n. (g.deadline p ≤ t) × (g.cost p ≡ n)) (Raised (g.cost p) (UpTo (Onward g t p) g.places))
    (one_place (g.deadline p) (g.cost p) t)
    (raise (g.cost p) (UpTo (Onward g t p) g.places)
    (up_to (Onward g t p) g.places
    (λ q x y. onward g t p q
    (λ d e early. from_most g l u (t - d) (let v = l.gaps p q d h (x, y) e in omega arith) q (x, y))))))

pub greatest_exists : (g : Graph) → Lawful g → (t : ℕ) → (n : ℕ) × Greatest g t n
greatest_exists g l t =
    ⊎_elim
    (λ s. (
      s.0,
      record {
        reached = inl (s.1.0, s.1.3);
        bounds = λ p ps i. let h = walk_place g p ps i.0 in s.2 (demand_of g p ps) (p, h.0, h.1, (ps, i, refl));
      },
    ))
    (λ e.
    let never : (p : ℕ) (ps : List ℕ) → Inside g t p ps → ⊥ = λ p ps i.
    let h = walk_place g p ps i.0 in e (demand_of g p ps) (p, h.0, h.1, (ps, i, refl)) in
    (0, record { reached = inr (refl, never); bounds = λ p ps i. absurd (never p ps i) }))
    (up_to (From g t) g.places (λ p x y. from_most g l (t + 1) t (omega arith) p (x, y)))
