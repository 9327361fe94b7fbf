-- A card that is right for an engine within its limits.
use Rattle.std.proofs.Common.{◌≡◌, ◌<◌, ◌≤◌, true}
use Rattle.engine.specs.Limits.{angle_ok, bands_ok}
use Rattle.engine.specs.Views.{Numbers, Parts, modes_ok, numbers_of, parts_of}
use Rattle.bands.specs.declared.kind.Bands.{Bands}

pub record Ready (e : Numbers) (c : Parts) : Type 0 where
  pub angle : angle_ok e.greatest c.angle ≡ true
  pub modes : modes_ok e.least e.greatest c.modes ≡ true
  pub bands : bands_ok e.least e.greatest c.bands ≡ true
  pub turns : 1 ≤ e.least
  pub varies : e.least < e.greatest
  pub bounded : e.greatest ≤ 150000
  pub rises : 1 ≤ e.rise
  pub sharpest : e.rise ≤ 500
  pub falls : 1 ≤ e.fall
  pub hardest : e.fall ≤ 500

-- a value of the kind is one
pub ready_of : (b : Bands) → Ready (numbers_of b.engine) (parts_of b.card)
ready_of b = record {
  angle = b.angled;
  modes = b.moded;
  bands = b.banded;
  turns = b.engine.turns;
  varies = b.engine.varies;
  bounded = b.engine.bounded;
  rises = b.engine.rises;
  sharpest = b.engine.sharpest;
  falls = b.engine.falls;
  hardest = b.engine.hardest;
}
