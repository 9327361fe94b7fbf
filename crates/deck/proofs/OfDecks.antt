-- What is proved of sound cards, of a deck that a program holds: its cards are sound.
use Rattle.std.proofs.Common.{◌≡◌, ℕ, ◌≤◌, true, List}
use Rattle.task.specs.Graph.{Graph, Lawful}
use Rattle.task.specs.Walks.{Total}
use Rattle.task.specs.Jobs.{Job, Follows, AllLawful}
use Rattle.engine.specs.declared.engine.Engine.{Engine}
use Rattle.engine.specs.Views.{numbers_of}
use Rattle.bands.specs.Laws.Ready.{Ready}
use Rattle.deck.specs.declared.verdict.Verdict.{Verdict}
use Rattle.deck.specs.declared.deck.Deck.{Deck}
use Rattle.deck.specs.Tables.{Crank, right_card}
use Rattle.deck.specs.Cards.{cards_of}
use Rattle.deck.specs.Judging.{tasks, Says}
use Rattle.deck.specs.EveryRun.{FitsEveryRun, FitsEveryRunAlone, Promises}
use Rattle.deck.proofs.Sound.{engine_sound, deck_sound, ready_card as sound_ready_card}
use Rattle.deck.proofs.Runs.{card_tasks, cards_lawful as sound_cards_lawful, fits_from as sound_fits_from, fits_alone_from as sound_fits_alone_from, without_guest as sound_without_guest, fits_nothing as sound_fits_nothing, promised as sound_promised}

pub ready_card : (e : Engine) (c : Crank) → right_card (numbers_of e) c ≡ true → Ready (numbers_of e) c.parts
ready_card e c = sound_ready_card (numbers_of e) c (engine_sound e)

pub cards_lawful : (d : Deck) → AllLawful (card_tasks (cards_of d))
cards_lawful d = sound_cards_lawful (cards_of d) (deck_sound d)

pub fits_from :
    (d : Deck) (g : Graph) (lists : ℕ → List Job → Type 0) (horizon : ℕ) → Lawful g → ((k : ℕ) (js : List Job) → 1 ≤ k → lists k js → Follows g k js) → ((t n : ℕ) → t ≤ horizon → Total (tasks (cards_of d) g) t n → n ≤ t) → FitsEveryRun (cards_of d) lists horizon
fits_from d = sound_fits_from (cards_of d) (deck_sound d)

pub fits_alone_from :
    (d : Deck) (horizon : ℕ) → ((t n : ℕ) → t ≤ horizon → Total (card_tasks (cards_of d)) t n → n ≤ t) → FitsEveryRunAlone (cards_of d) horizon
fits_alone_from d = sound_fits_alone_from (cards_of d) (deck_sound d)

pub without_guest :
    (d : Deck) (g : Graph) (horizon : ℕ) → Lawful g → ((t n : ℕ) → t ≤ horizon → Total (tasks (cards_of d) g) t n → n ≤ t) → (t n : ℕ) → t ≤ horizon → Total (card_tasks (cards_of d)) t n → n ≤ t
without_guest d = sound_without_guest (cards_of d) (deck_sound d)

pub fits_nothing : (d : Deck) → FitsEveryRunAlone (cards_of d) 0
fits_nothing d = sound_fits_nothing (cards_of d) (deck_sound d)

pub promised :
    (d : Deck) (g : Graph) (lists : ℕ → List Job → Type 0) (horizon : ℕ) → Lawful g → ((k : ℕ) (js : List Job) → 1 ≤ k → lists k js → Follows g k js) → (v : Verdict) → Says v (tasks (cards_of d) g) horizon → Promises v (cards_of d) lists
promised d = sound_promised (cards_of d) (deck_sound d)
