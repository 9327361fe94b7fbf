-- The least of the numbers that a function gives at 1 to n.
use Rattle.std.proofs.Common.{◌≡◌, ℕ, zero, suc, ◌+◌, ◌-◌, min, Bool, true, false, List, [], ◌∷◌, ◌++◌, length, Some, None, Option, ◌⊎◌, inl, inr, refl, ap, ◌∙◌, arith}
use Rattle.std.proofs.lemmas.List.{append-nil}
use Rattle.std.specs.List.{range_with_len, filter_map, reduce, fold, cons_option}
use Rattle.std.specs.Range.{range_inclusive_len, range_inclusive_left, range_inclusive_steps}
use Rattle.std.specs.declared.ops.RangeInclusive.{RangeInclusive}
use Rattle.std.proofs.lemmas.Iterator.{YieldsList}
use Rattle.std.proofs.lemmas.Iterator.Consumers.{YieldsList-from_shown}
use Rattle.std.proofs.lemmas.List.Elements.{filter_map-append}
use Rattle.std.proofs.lemmas.List.Sums.{fold-append}
use Rattle.engine.specs.Views.{Numbers, Parts}
use Rattle.bands.specs.Graphs.{band_gap, lesser, least_leaving}

-- ---- a..=b gives its numbers
abbrev pub left : RangeInclusive ℕ → ℕ
left = range_inclusive_left (λ a b. b - a)

abbrev pub steps : RangeInclusive ℕ → Option ℕ → RangeInclusive ℕ → Type 0
steps = range_inclusive_steps (λ a b. b - a) (λ a b. b ≡ a + 1)

-- a range that is used up has nothing left
spent : (a b : ℕ) (x : Bool) (P : Type 0) → (x ≡ false → P) → P ⊎ (range_inclusive_len (λ a b. b - a) a b x ≡ 0)
spent a b true P f = inr refl
spent a b false P f = inl (f refl)

counted : (a n b m x : ℕ) → m + 1 ≡ n → x ≡ a → (b ≡ a + 1) ⊎ (m ≡ 0) → range_with_len a n ≡ x ∷ range_with_len b m
counted a n b m x e f (inl g) = let k : n ≡ suc m = omega arith in rw (k, f, g) refl
counted a n b m x e f (inr g) = let k : n ≡ suc 0 = omega arith in rw (k, f, g) refl

pub YieldsList-from_inclusive : (s : RangeInclusive ℕ) → YieldsList steps (λ x. x) s (range_with_len s.start (left s))
YieldsList-from_inclusive =
    YieldsList-from_shown steps (λ x. x) (λ s. range_with_len s.start (left s))
    (λ s t p. ap (λ n. length (range_with_len s.start n)) p.1.0)
    (λ s x t p. counted s.start (left s) t.start (left t) x p.1.1 p.1.0 (spent t.start t.end t.exhausted (t.start ≡ s.start + 1) p.1.2))

-- ---- the least of them, one more at a time
range_push : (a n : ℕ) → range_with_len a (suc n) ≡ range_with_len a n ++ (a + n) ∷ []
range_push a zero = let e : a ≡ a + 0 = omega arith in ap (λ k. k ∷ []) e
range_push a (suc n) =
    let e : a + 1 + n ≡ a + suc n = omega arith in
    ap (λ ks. a ∷ ks) (range_push (a + 1) n ∙ ap (λ k. range_with_len (a + 1) n ++ k ∷ []) e)

least_push : (xs : List ℕ) (o : Option ℕ) → reduce min (xs ++ cons_option o []) ≡ lesser (reduce min xs) o
least_push [] None = refl
least_push [] (Some y) = refl
least_push (x ∷ xs) None = ap (λ ys. Some (fold min x ys)) (append-nil xs)
least_push (x ∷ xs) (Some y) = ap Some (fold-append min x xs (y ∷ []))

reduce-leaving : (e : Numbers) (c : Parts) (p n : ℕ) → reduce min (filter_map (band_gap e c p) (range_with_len 1 n)) ≡ least_leaving e c p n
reduce-leaving e c p zero = refl
reduce-leaving e c p (suc n) =
    let h : ℕ → Option ℕ = band_gap e c p in
    let k : 1 + n ≡ suc n = omega arith in
    ap (λ ks. reduce min (filter_map h ks)) (range_push 1 n)
    ∙ ap (reduce min) (filter_map-append h (range_with_len 1 n) ((1 + n) ∷ []))
    ∙ least_push (filter_map h (range_with_len 1 n)) (h (1 + n))
    ∙ ap (λ o. lesser o (h (1 + n))) (reduce-leaving e c p n)
    ∙ ap (λ q. lesser (least_leaving e c p n) (h q)) k

-- of a whole range from 1 on
pub reduce-whole : (e : Numbers) (c : Parts) (p n : ℕ) (s : RangeInclusive ℕ) → s.start ≡ 1 → s.end ≡ n → s.exhausted ≡ false → reduce min (filter_map (band_gap e c p) (range_with_len s.start (left s))) ≡ least_leaving e c p n
reduce-whole e c p n s first last fresh =
    let k : left s ≡ n = rw (first, last, fresh) (omega arith) in
    ap (λ a. reduce min (filter_map (band_gap e c p) (range_with_len a (left s)))) first
    ∙ ap (λ m. reduce min (filter_map (band_gap e c p) (range_with_len 1 m))) k
    ∙ reduce-leaving e c p n
