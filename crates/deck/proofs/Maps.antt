-- Lists in order of a key, seen through a map that keeps the key.
use Rattle.std.proofs.Common.{◌≡◌, ℕ, ◌<◌, ◌≤◌, Bool, true, false, cond, ltb, List, [], ◌∷◌, map, length, get_or, take, set, None, sym, refl, ap, ◌∙◌, arith, get_or-take}
use Rattle.std.proofs.Math.Seq.{take-set-lt}
use Rattle.std.specs.List.{remove}
use Rattle.std.proofs.lemmas.List.{get_or-map, map-set, map-append, take-map, drop-map, length-map, length-take-le}
use Rattle.table.specs.Ordered.{insert_by, find_by}
use Rattle.table.specs.Found.{Lacks, First}
use Rattle.table.proofs.Ordered.{find_none, first_take}

cond_map : {X Y : Type 0} (f : X → Y) (b : Bool) (x y : X) → f (cond b x y) ≡ cond b (f x) (f y)
cond_map f true x y = refl
cond_map f false x y = refl

-- an item of a list that has one
pub some_item : {X : Type 0} (xs : List X) (i : ℕ) → i < length xs → X
some_item [] i h = absurd (omega arith)
some_item (x ∷ xs) i h = x

module _ {X Y : Type 0} (f : X → Y) where
  pub map_remove : (xs : List X) (i : ℕ) → map f (remove xs i) ≡ remove (map f xs) i
  map_remove xs i = simp (map-append, take-map, drop-map)

  -- an item among the first used, as it is seen
  pub seen_at : (used : ℕ) (xs : List X) (i : ℕ) (d : X) (z : Y) → i < used → used ≤ length xs → get_or (map f (take used xs)) i z ≡ f (get_or xs i d)
  seen_at used xs i d z below within =
      let long = length-take-le used xs within in
      get_or-map f (take used xs) i d z (omega arith) ∙ ap f (get_or-take used xs i d below)

  -- the item x was is replaced by y, which is seen as g of what was seen there
  pub seen_set : (used : ℕ) (xs : List X) (i : ℕ) (x y : X) (z : Y) (g : Y → Y) → i < used → used ≤ length xs → f y ≡ g (f (get_or xs i x)) → map f (take used (set xs i y)) ≡ set (map f (take used xs)) i (g (get_or (map f (take used xs)) i z))
  seen_set used xs i x y z g below within e =
      ap (map f) (take-set-lt used xs i y below)
      ∙ map-set f (take used xs) i y
      ∙ ap (set (map f (take used xs)) i) (e ∙ ap g (sym (seen_at used xs i x z below within)))

module _ {X Y : Type 0} (f : X → Y) (key : Y → ℕ) where
  pub map_insert : (x : X) (xs : List X) → map f (insert_by (λ c. key (f c)) x xs) ≡ insert_by key (f x) (map f xs)
  map_insert x [] = refl
  map_insert x (y ∷ ys) =
      cond_map (map f) (ltb (key (f x)) (key (f y))) (x ∷ y ∷ ys) (y ∷ insert_by (λ c. key (f c)) x ys)
      ∙ ap (λ l. cond (ltb (key (f x)) (key (f y))) (f x ∷ f y ∷ map f ys) (f y ∷ l)) (map_insert x ys)

  -- what a search by key tells of what is seen
  pub lacks_seen : (n k : ℕ) (xs : List X) → k ≡ n → Lacks (λ c. key (f c)) k xs → find_by key n (map f xs) ≡ None
  lacks_seen n k xs e h =
      find_none key n (map f xs)
      (λ j d below here.
      let long = length-map xs f in
      let x = some_item xs j (omega arith) in
      h j x (omega arith) (sym (ap key (get_or-map f xs j x d (omega arith))) ∙ here ∙ sym e))

  pub first_map : (n used : ℕ) (xs : List X) (i : ℕ) → i < used → First (λ c. key (f c)) n xs i → First key n (map f (take used xs)) i
  first_map n used xs i below h =
      let first = first_take (λ c. key (f c)) n used xs i below h in
      let long = length-map (take used xs) f in
      let x = some_item (take used xs) i first.0 in (
        omega (arith, first.0),
        λ d. ap key (get_or-map f (take used xs) i x d first.0) ∙ first.1 x,
        λ j d before here. first.2 j x before (sym (ap key (get_or-map f (take used xs) j x d (omega (arith, first.0)))) ∙ here),
      )
