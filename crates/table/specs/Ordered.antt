-- Lists in rising order of a key: where a new item goes, and what is left without one.
use Rattle.std.specs.Prelude.{ℕ, cond, List, [], ◌∷◌, Some, None, Option, ◌==◌, nat_lt}

-- the list with x before the first item whose key is greater
abbrev pub insert_by : {X : Type 0} → (X → ℕ) → X → List X → List X
insert_by key x [] = x ∷ []
insert_by key x (y ∷ ys) = cond (nat_lt (key x) (key y)) (x ∷ y ∷ ys) (y ∷ insert_by key x ys)

-- the first item of that key
abbrev pub find_by : {X : Type 0} → (X → ℕ) → ℕ → List X → Option X
find_by key n [] = None
find_by key n (x ∷ xs) = cond (key x == n) (Some x) (find_by key n xs)

-- the list without its first item of that key
abbrev pub without : {X : Type 0} → (X → ℕ) → ℕ → List X → List X
without key n [] = []
without key n (x ∷ xs) = cond (key x == n) xs (x ∷ without key n xs)

-- the list with its first item of that key changed by f
abbrev pub change_by : {X : Type 0} → (X → ℕ) → ℕ → (X → X) → List X → List X
change_by key n f [] = []
change_by key n f (x ∷ xs) = cond (key x == n) (f x ∷ xs) (x ∷ change_by key n f xs)
