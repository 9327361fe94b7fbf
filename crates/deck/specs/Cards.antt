-- An engine with its cards, as plain numbers and lists.
use Rattle.std.specs.Prelude.{List}
use Rattle.engine.specs.Views.{Numbers, numbers_of}
use Rattle.deck.specs.declared.deck.Deck.{Deck}
use Rattle.deck.specs.Tables.{Crank, Clock, cranks_in, clocks_in}

-- an engine with its cards, each sort in rising order of the numbers
pub record Cards : Type 0 where
  pub engine : Numbers
  pub cranks : List Crank
  pub clocks : List Clock

abbrev pub cards_of : Deck → Cards
cards_of d = record { engine = numbers_of d.engine; cranks = cranks_in d.cranks; clocks = clocks_in d.timeds }
