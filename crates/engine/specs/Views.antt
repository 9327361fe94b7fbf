-- Engines and engine cards as plain numbers and lists, and when a card is right for an engine.
use Rattle.std.specs.Prelude.{◌≡◌, ℕ, Bool, true, ◌&&◌, List, length, nat_le}
use Rattle.table.specs.Few.{items_of}
use Rattle.engine.specs.declared.engine.Engine.{Engine}
use Rattle.engine.specs.declared.numbers.Numbers as declared
use Rattle.engine.specs.declared.card.Mode.{Mode}
use Rattle.engine.specs.declared.card.Card.{Card}
use Rattle.engine.specs.declared.card.CardParts.{CardParts}
use Rattle.engine.specs.Limits.{angle_ok, speeds_ok, cost_ok, every, bands_ok}

-- an engine's five numbers, as a caller gives them
abbrev pub Numbers : Type 0
Numbers = declared.Numbers

abbrev pub numbers_of : Engine → Numbers
numbers_of e = record { least = e.least; greatest = e.greatest; rise = e.rise; fall = e.fall; entry = e.entry.ticks }

-- the engine that a new plan holds
abbrev pub house_engine : Numbers
house_engine = record { least = 5000; greatest = 65000; rise = 10; fall = 10; entry = 0 }

-- An engine card's parts: its angle, its modes by rising lower speed, and the lower speeds of its bands, rising.
pub record Parts : Type 0 where
  pub angle : ℕ
  pub modes : List Mode
  pub bands : List ℕ

abbrev pub modes_of : Card → List Mode
modes_of c = items_of c.modes

abbrev pub bands_of : Card → List ℕ
bands_of c = items_of c.bands

abbrev pub parts_of : Card → Parts
parts_of c = record { angle = c.angle; modes = modes_of c; bands = bands_of c }

-- the parts as a caller gives them
abbrev pub parts_given : CardParts → Parts
parts_given p = record { angle = p.angle; modes = p.modes.now; bands = p.bands.now }

-- 1 to 8 modes
abbrev pub modes_ok : ℕ → ℕ → List Mode → Bool
modes_ok m M ms = nat_le (length ms) 8 && (speeds_ok (λ x. x.lower) m M ms && every (λ x. cost_ok x.cost) ms)

-- the parts of a card are right for an engine
abbrev pub Right : Numbers → Parts → Type 0
Right e c =
    (angle_ok e.greatest c.angle ≡ true)
    × (modes_ok e.least e.greatest c.modes ≡ true)
    × (bands_ok e.least e.greatest c.bands ≡ true)
