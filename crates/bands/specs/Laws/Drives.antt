-- Every drive's job list follows the graph of the card's bands; and a drive as it is judged is a job list of the share
-- over the entry cost over the bands.
use Rattle.std.proofs.Common.{◌≡◌, ℕ, ◌+◌, ◌-◌, ◌*◌, ◌/◌, ◌<◌, ◌≤◌, max, ◌⊎◌, List, [], ◌∷◌, length, sym, refl, ap, ◌∙◌, subst, inl, inr, ⊎_elim, mul-le-mul_left, mul-add, arith}
use native.Mathlib.Nat.{add-sub_cancel_left, mul-div_cancel_left}
use Rattle.std.proofs.lemmas.List.{drop_all, get_or_past}
use Rattle.std.proofs.lemmas.Bool.{cases_lt}
use Rattle.task.specs.Kinds.{reduced}
use Rattle.task.specs.Jobs.{Job, Suits, FollowsFrom, Follows, Entered, EnteredJob, SharedDue, SharedJob, EntryLists, ShareLists}
use Rattle.engine.specs.Views.{Numbers, Parts}
use Rattle.bands.specs.Graphs.{lower_end, upper_end, InRange, mode_at, mode_end, next_lower, Meets, band_deadline, bands_graph}
use Rattle.bands.specs.Turns.{Turn, InBand, end_speed}
use Rattle.bands.specs.Drives.{InMode, Drive, Releases, BandsLists, ReleasesJudged, DrivesJudged}
use Rattle.bands.specs.Laws.Ready.{Ready}
use Rattle.bands.specs.Laws.Squares.{cancel}
use Rattle.bands.specs.Laws.Lawful.{cost_is}
use Rattle.bands.specs.Laws.Turns.{no_turn_beats_its_gap}

-- a k-fold below a k-fold
k_below : (k a b : ℕ) → k * a < k * b → a < b
k_below k a b h = ⊎_elim (λ l. l) (λ g. let m = mul-le-mul_left k g in absurd (omega arith)) (cases_lt a b)

-- a whole speed w at or below v, in k-ths, lies in the range that v lies in
in_whole : (M k low up w v : ℕ) → 1 ≤ k → low ≤ w → k * w ≤ v → (v < k * up) ⊎ ((up ≡ M) × (v ≤ k * M)) → InRange M low up w
in_whole M k low up w v o h l (inl b) = (h, inl (k_below k w up (omega arith)))
in_whole M k low up w v o h l (inr b) =
    let most : w ≤ M = cancel k w M o (omega (arith, b.1)) in
    (h, ⊎_elim (λ (lt : w < M). inl (omega (arith, b.0))) (λ (ge : M ≤ w). inr (b.0, omega arith)) (cases_lt w M))

-- the mode of a speed shares a speed with the band of that speed
meets : (e : Numbers) (c : Parts) (k i p v : ℕ) → 1 ≤ k → InMode e c k i v → InBand e c k p v → Meets e c p i
meets e c k i p v o m b =
    let M = e.greatest in
    let low = (mode_at c.modes i).lower in
    let w = max low (lower_end c p) in
    let under : k * w ≤ v = max_under k low (lower_end c p) v m.above b.0 in (
      w,
      in_whole M k low (mode_end M c.modes i) w v o (omega arith) under
          (⊎_elim (λ x. inl x) (λ x. inr (ap (next_lower M) (drop_all (i + 1) c.modes (omega (arith, x.0))), x.1)) m.below),
      in_whole M k (lower_end c p) (upper_end e c p) w v o (omega arith) under
          (⊎_elim (λ x. inl x) (λ x. inr (get_or_past c.bands p M (omega (arith, x.0)), x.1)) b.1),
    )
  where
    max_under : (k a b v : ℕ) → k * a ≤ v → k * b ≤ v → k * max a b ≤ v
    max_under k a b v p q =
        ⊎_elim
        (λ (lt : a < b). let s : max a b ≡ b = omega arith in subst (λ n. k * n ≤ v) (sym s) q)
        (λ (ge : b ≤ a). let s : max a b ≡ a = omega arith in subst (λ n. k * n ≤ v) (sym s) p)
        (cases_lt a b)

module _ (e : Numbers) (c : Parts) (ready : Ready e c) (k : ℕ) (o : 1 ≤ k) where
  suits : (time v : ℕ) (j : Job) (r : Releases e c k time v j) → Suits (bands_graph e c) k r.band j
  suits time v j r =
      let most = (cost_is e c ready r.band r.is_band).bounds r.mode r.in_mode.here (meets e c k r.mode r.band v o r.in_mode r.in_band) in
      let wide = mul-le-mul_left k most in
      record { place = r.is_band; asks = omega (arith, r.asks); allows = omega (arith, r.release, r.due) }

  drive_from : (time v : ℕ) (vs : List ℕ) (turns : List (List ℕ)) (j : Job) (js : List Job) → Turn e c.angle k v vs → (r : Releases e c k time v j) → Drive e c.angle k (Releases e c k) (time + length vs) (end_speed v vs) turns js → FollowsFrom (bands_graph e c) k r.band j js
  drive_from time v vs [] j [] t r d = suits time v j r
  drive_from time v vs [] j (i ∷ js) t r d = absurd d
  drive_from time v vs (ws ∷ turns) j [] t r d = absurd d
  drive_from time v vs (ws ∷ turns) j (i ∷ js) t r d =
      let next = d.1 in
      let gap = no_turn_beats_its_gap e c ready k r.band next.band o r.is_band next.is_band v vs t r.in_band next.in_band in (
        suits time v j r,
        (
          next.band,
          record { ticks = gap.0; gap = gap.1; waits = omega (arith, r.release, next.release, gap.2) },
          drive_from (time + length vs) (end_speed v vs) ws turns i js d.0 next d.2,
        ),
      )

  drive_follows : (time v : ℕ) (turns : List (List ℕ)) (js : List Job) → Drive e c.angle k (Releases e c k) time v turns js → Follows (bands_graph e c) k js
  drive_follows time v [] [] d = tt
  drive_follows time v [] (j ∷ js) d = absurd d
  drive_follows time v (vs ∷ turns) [] d = absurd d
  drive_follows time v (vs ∷ turns) (j ∷ js) d = (d.1.band, drive_from time v vs turns j js d.0 d.1 d.2)

  -- Every job list of the card's drives follows the graph of its bands.
  pub drives_follow : (js : List Job) → BandsLists e c k js → Follows (bands_graph e c) k js
  drives_follow js l = drive_follows l.0 l.1 l.2.0 js l.2.1

-- the time to a due of whole ticks, cut to whole ticks
whole_ticks : (k d time : ℕ) → 1 ≤ k → (time + k * d - time) / k ≡ d
whole_ticks k d time o = ap (λ n. n / k) (add-sub_cancel_left time (k * d)) ∙ mul-div_cancel_left d o

-- A drive as it is judged is a job list of the share over the entry cost over the bands.
module _ (e : Numbers) (share : ℕ) (c : Parts) (k : ℕ) (o : 1 ≤ k) where
  -- the jobs of the bare bands, and those with the entry cost, on the same drive
  abbrev Beneath : ℕ → ℕ → List (List ℕ) → List Job → Type 0
  Beneath time v turns js =
      (bare : List Job) × ((entered : List Job) × Drive e c.angle k (Releases e c k) time v turns bare × Entered k e.entry bare entered × SharedDue k share entered js)

  beneath : (time v : ℕ) (turns : List (List ℕ)) (js : List Job) → Drive e c.angle k (ReleasesJudged e share c k) time v turns js → Beneath time v turns js
  beneath time v [] [] d = ([], ([], tt, tt, tt))
  beneath time v [] (j ∷ js) d = absurd d
  beneath time v (vs ∷ turns) [] d = absurd d
  beneath time v (vs ∷ turns) (j ∷ js) d =
      let r = d.1 in
      let rest = beneath (time + length vs) (end_speed v vs) turns js d.2 in
      let cost = (mode_at c.modes r.mode).cost in
      let due = time + k * band_deadline e c r.band in
      let bare : Job = record { release = time; cost = k * cost; due = due } in
      let entered : Job = record { release = time; cost = j.cost; due = due } in
      let mine : Releases e c k time v bare =
      record { release = refl; mode = r.mode; in_mode = r.in_mode; asks = omega arith; band = r.band; is_band = r.is_band; in_band = r.in_band; due = refl }
      in
      let more : EnteredJob k e.entry bare entered =
      record { release = refl; due = refl; more = omega (arith, r.asks, mul-add k e.entry cost); most = r.most }
      in
      let turned : SharedJob k share entered j =
      record {
        release = r.release;
        cost = refl;
        due = r.due ∙ ap (λ n. time + k * reduced share n) (sym (whole_ticks k (band_deadline e c r.band) time o));
      }
      in
      (bare ∷ rest.0, (entered ∷ rest.1.0, (d.0, mine, rest.1.1), (more, rest.1.2), (turned, rest.1.3)))

  pub judged_lists : (js : List Job) → DrivesJudged e share c k js → ShareLists share (EntryLists e.entry (BandsLists e c)) k js
  judged_lists js l =
      let b = beneath l.0 l.1 l.2.0 js l.2.1 in
      (b.1.0, (b.0, (l.0, l.1, (l.2.0, b.1.1)), b.1.2), b.1.3)
