-- The engine card that is being read.
use Rattle.std.specs.Prelude.{ℕ, List, [], ◌∷◌, ◌++◌, vec_items}
use Rattle.engine.specs.declared.card.Mode.{Mode}
use Rattle.deck.specs.Tables.{Crank}
use Rattle.records.specs.declared.record.Record.{Record}
use Rattle.records.specs.declared.record.Record.TheVariants as records
use Rattle.weighing.specs.declared.open_card.OpenCard.{OpenCard}

-- what its records have said so far, and the byte place of its own
pub record Pending : Type 0 where
  pub at : ℕ
  pub number : ℕ
  pub angle : ℕ
  pub share : ℕ
  pub modes : List Mode
  pub bands : List ℕ

abbrev pub pending_of : OpenCard → Pending
pending_of c = record {
  at = c.at;
  number = c.number;
  angle = c.angle;
  share = c.share;
  modes = vec_items c.modes;
  bands = vec_items c.bands;
}

-- before any card
abbrev pub no_card : Pending
no_card = record { at = 0; number = 0; angle = 0; share = 0; modes = []; bands = [] }

-- the card that they say
abbrev pub crank_said : Pending → Crank
crank_said p = record {
  number = p.number;
  share = p.share;
  parts = record { angle = p.angle; modes = p.modes; bands = p.bands };
}

abbrev pub with_mode : Pending → Mode → Pending
with_mode p m = record { at = p.at; number = p.number; angle = p.angle; share = p.share; modes = p.modes ++ m ∷ []; bands = p.bands }

abbrev pub with_band : Pending → ℕ → Pending
with_band p b = record { at = p.at; number = p.number; angle = p.angle; share = p.share; modes = p.modes; bands = p.bands ++ b ∷ [] }

-- what a record at a byte place adds: a card opens, a mode or a band joins it, any other leaves it
abbrev pub noted : Pending → ℕ → Record → Pending
noted p at (records.Engine m M A D E) = p
noted p at (records.Card n angle share modes bands) = record { at = at; number = n; angle = angle; share = share; modes = []; bands = [] }
noted p at (records.Mode lower cost) = with_mode p (record { lower = lower; cost = cost })
noted p at (records.Band lower) = with_band p lower
noted p at (records.Timed n period deadline cost) = p
noted p at (records.Recost n index cost) = p
noted p at (records.Cut n speed) = p
noted p at (records.Drop n) = p
noted p at (records.Judge horizon) = p
