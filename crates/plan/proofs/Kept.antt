-- What every draft keeps: up to its mark no window ever demands more than its length.
use Rattle.std.proofs.Common.{◌≡◌, ℕ, sym, ap, subst}
use mathlib.Core.Logic.{∥∥₁_elim}
use native.Mathlib.Bridge.{le_prop}
use Rattle.task.specs.Graph.{Graph, Lawful}
use Rattle.deck.specs.declared.deck.Deck.{Deck}
use Rattle.deck.specs.declared.verdict.Verdict.{Verdict}
use Rattle.deck.specs.Cards.{Cards, cards_of}
use Rattle.deck.specs.Judging.{tasks, Says, mark_of}
use Rattle.deck.specs.EveryRun.{FitsEveryRunAlone}
use Rattle.plan.specs.Marked.{fits_prop}
use Rattle.plan.specs.declared.drafted.Draft.{Draft}
use Rattle.deck.proofs.Sound.{deck_sound}
use Rattle.deck.proofs.Runs.{fits_nothing, judged_fits}

abbrev pub Kept : Deck → ℕ → Type 0
Kept d mark = FitsEveryRunAlone (cards_of d) mark

-- what is known to hold for some proof or other holds
pub kept_says : (s : Cards) (mark : ℕ) → ∥ FitsEveryRunAlone s mark ∥₁ → FitsEveryRunAlone s mark
kept_says s mark h k o cranks clocks run a b below near = ∥∥₁_elim h le_prop (λ f. f k o cranks clocks run a b below near)

-- after a change
pub kept_none : (d : Deck) → Kept d 0
kept_none d = fits_nothing (cards_of d) (deck_sound d)

-- after a refusal
pub kept_same : (d e : Deck) (mark : ℕ) → e ≡ d → Kept d mark → Kept e mark
kept_same d e mark p h = subst (λ x. Kept x mark) (sym p) h

pub same_draft : (x : Draft) (d : Deck) (q : Kept d x.mark) → d ≡ x.deck → record { deck = d; mark = x.mark; kept = q } ≡ x
same_draft x d q p =
    let P : Deck → Type 0 = λ e. (k : Kept e x.mark) → ◌≡◌ {A = Draft} (record { deck = e; mark = x.mark; kept = k }) x in
    subst P (sym p) (λ k. ap (λ h. record { deck = x.deck; mark = x.mark; kept = h }) (fits_prop (cards_of x.deck) x.mark k x.kept)) q

-- after a judging
pub kept_judged : (d : Deck) (g : Graph) (horizon : ℕ) → Lawful g → (v : Verdict) → Says v (tasks (cards_of d) g) horizon → Kept d (mark_of v)
kept_judged d g horizon law v says = judged_fits (cards_of d) (deck_sound d) g horizon law v says
