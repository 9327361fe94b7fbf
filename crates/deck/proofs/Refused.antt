-- How the checks of a call come out.
use Rattle.std.proofs.Common.{◌≡◌, ℕ, ◌<◌, ◌≤◌, true, false, Some, None, Ok, Err, Option, Result, sym, ◌∙◌, inl, inr, arith, MatchResult}
use Rattle.std.proofs.lemmas.Bool.{le-leb, lt-leb, cases_Bool, cases_lt}
use Rattle.refusal.specs.declared.Refusal.{Refusal}
use Rattle.refusal.specs.Numbers.{refusal_in}
use Rattle.refusal.specs.declared.Refusal.TheVariants.{ModeList, ValueLimits, BandList}
use Rattle.engine.specs.Limits.{cost_ok}
use Rattle.engine.specs.Views.{Numbers}
use Rattle.engine.specs.Changes.{cut_wrong}
use Rattle.deck.specs.Tables.{Crank}
use Rattle.deck.specs.Calls.{modes_in, mode_refused, band_refused}

pub none_some : {X : Type 0} {x : X} → None ≡ Some x → ⊥
none_some {X} {x} e = let z : ◌≡◌ {A = ℕ} 0 1 = cc in omega arith

module _ (o : Option Crank) (index cost : ℕ) where
  pub no_mode : modes_in o ≤ index → Some ModeList ≡ mode_refused o index cost
  no_mode h = let late = le-leb (modes_in o) index h in rw late

  pub wrong_cost : index < modes_in o → cost_ok cost ≡ false → Some ValueLimits ≡ mode_refused o index cost
  wrong_cost h e = let here = lt-leb (modes_in o) index h in rw (here, e)

  pub recost_fine : index < modes_in o → cost_ok cost ≡ true → None ≡ mode_refused o index cost
  recost_fine h e = let here = lt-leb (modes_in o) index h in rw (here, e)

-- what an answer without a refusal tells
pub recost_told : (o : Option Crank) (index cost : ℕ) → None ≡ mode_refused o index cost → cost_ok cost ≡ true
recost_told o index cost h =
    elim (cases_Bool (cost_ok cost)) [
      | inl e ↦ e
      | inr e ↦ absurd (elim (cases_lt index (modes_in o)) [ inl lt ↦ none_some (h ∙ sym (wrong_cost o index cost lt e)) | inr le ↦ none_some (h ∙ sym (no_mode o index cost le)) ])
    ]

pub cut_told : (e : Numbers) (c : Crank) (speed : ℕ) → None ≡ band_refused e (Some c) speed → cut_wrong e c.parts speed ≡ false
cut_told e c speed h =
    elim (cases_Bool (cut_wrong e c.parts speed)) [
      | inl t ↦ absurd (none_some (h ∙ sym (let P : Some BandList ≡ band_refused e (Some c) speed = rw t in P)))
      | inr f ↦ f
    ]

-- an answer that is refused nothing is done
pub when_done : {U : Type 0} (P : U → Type 0) (Q : Refusal → Type 0) (r : Result U Refusal) → refusal_in r ≡ None → MatchResult r P Q → (u : U) × P u
when_done P Q (Ok u) e h = (u, h)
when_done P Q (Err y) e h = absurd (none_some (sym e))
