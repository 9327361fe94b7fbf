-- What a search by key finds.
use Rattle.std.specs.Prelude.{◌≡◌, ℕ, ◌<◌, List, length, ◌≢◌, slice_index_or}

-- no item of xs has the key n
abbrev pub Lacks : {X : Type 0} → (X → ℕ) → ℕ → List X → Type 0
Lacks {X} key n xs = (j : ℕ) (d : X) → j < length xs → key (slice_index_or xs j d) ≢ n

-- the first item of xs with the key n is at i
abbrev pub First : {X : Type 0} → (X → ℕ) → ℕ → List X → ℕ → Type 0
First {X} key n xs i =
    (i < length xs) × ((d : X) → key (slice_index_or xs i d) ≡ n) × ((j : ℕ) (d : X) → j < i → key (slice_index_or xs j d) ≢ n)
