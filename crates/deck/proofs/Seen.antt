-- What a search in a table, and an item changed in it, mean for the list that is seen of it.
use Rattle.std.proofs.Common.{◌≡◌, ℕ, ◌<◌, ◌≤◌, true, List, map, length, get_or, set, is_some, Some, Ok, Err, Result, sym, ap, ◌∙◌, subst, arith, MatchResult}
use native.Mathlib.Bridge.{le_prop}
use Rattle.std.proofs.Math.Nat.{ℕ_set}
use Rattle.std.proofs.lemmas.List.{length-map, length-take-le, set-get_or}
use Rattle.refusal.specs.declared.Refusal.{Refusal}
use Rattle.table.specs.declared.few.Few.{Few}
use Rattle.table.specs.Few.{items_of}
use Rattle.table.specs.Found.{First}
use Rattle.table.specs.Ordered.{find_by, change_by}
use Rattle.table.proofs.Ordered.{find_first, change_first}
use Rattle.deck.proofs.Maps.{some_item, seen_at, seen_set, first_map}

module _ {T Y : Type 0} {N : ℕ} (f : T → Y) (t : Few T N) where
  -- how many items are seen
  pub count_seen : length (map f (items_of t)) ≡ t.used
  count_seen = length-map (items_of t) f ∙ length-take-le t.used t.table (omega (arith, t.whole, t.few))

  -- an item, as it is seen
  pub item_seen : (i : ℕ) (d : T) (z : Y) → i < t.used → get_or (map f (items_of t)) i z ≡ f (get_or t.table i d)
  item_seen i d z below = seen_at f t.used t.table i d z below (omega (arith, t.whole, t.few))

-- the first item of key n is at i
module _ {T Y : Type 0} {N : ℕ} (f : T → Y) (key : Y → ℕ) (t : Few T N) (n i : ℕ) (at : (i < t.used) × First (λ c. key (f c)) n t.table i) where
  pub first_seen : First key n (map f (items_of t)) i
  first_seen = first_map f key n t.used t.table i at.0 at.1

  pub found_seen : (x : T) → find_by key n (map f (items_of t)) ≡ Some (f (get_or t.table i x))
  found_seen x = find_first key n (map f (items_of t)) i (f x) first_seen ∙ ap Some (item_seen f t i x (f x) at.0)

  pub some_seen : is_some (find_by key n (map f (items_of t))) ≡ true
  some_seen = ap is_some (found_seen (some_item t.table i at.1.0))

  -- the item there, x, becomes y
  module _ (x y : T) (w : length (set t.table i y) ≡ N) (k : t.used ≤ N) where
    abbrev pub stored : Few T N
    stored = record { table = set t.table i y; used = t.used; whole = w; few = k }

    -- it is changed in place, or left where the change is refused
    pub changed_seen : {U : Type 0} (g : Y → Y) (r : Result U Refusal) → MatchResult r (λ _. f y ≡ g (f (get_or t.table i x))) (λ _. y ≡ get_or t.table i x) → MatchResult r (λ _. map f (items_of stored) ≡ change_by key n g (map f (items_of t))) (λ _. stored ≡ t)
    changed_seen g (Ok u) h =
        seen_set f t.used t.table i x y (f x) g at.0 (omega (arith, t.whole, t.few)) h
        ∙ sym (change_first key n g (map f (items_of t)) i (f x) first_seen)
    changed_seen g (Err e) h =
        let same = ap (set t.table i) h ∙ set-get_or t.table i x in
        let P : List T → Type 0 = λ l. (v : length l ≡ N) → ◌≡◌ {A = Few T N} (record { table = l; used = t.used; whole = v; few = k }) t in
        subst P (sym same) (λ v j. record { table = t.table; used = t.used; whole = ℕ_set _ _ v t.whole j; few = le_prop k t.few j }) w
