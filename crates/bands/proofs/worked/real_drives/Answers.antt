use Rattle.std.proofs.Common.{ℕ, [], ◌∷◌, replicate, refl, inl, inr, arith, lit<, lit≤, rules}
use Rattle.engine.specs.Views.{house_engine}
use Rattle.bands.specs.Examples.{house_bands}
use Rattle.bands.specs.Drives.{Releases}
use Rattle.bands.specs.Real.{steady_job}
use Rattle.bands.proofs.TurnsExamples.{house_turn, exact_gap, exact_turn, beaten_1_1, beaten_1_2, beaten_2_1, beaten_2_2, beaten_2_3, beaten_3_2, beaten_3_3}
use Rattle.bands.proofs.worked.real_drives.Goals as goal

released : (time : ℕ) → Releases house_engine house_bands 1 time 10000 (steady_job time)
released time = record {
  release = refl;
  mode = 0;
  in_mode = record { here = lit< tt; above = lit≤ tt; below = inr (refl, lit≤ tt) };
  asks = lit≤ tt;
  band = 1;
  is_band = (lit≤ tt, lit≤ tt);
  in_band = (lit≤ tt, inl (lit< tt));
  due = omega arith;
}

pub returns : goal.returns
returns c = (
  search rules,
  record {
    steady = (7, 10000, (replicate 600 10000 ∷ replicate 600 10000 ∷ [], (house_turn, released 7, (house_turn, released 607, tt))));
    exact_gap = exact_gap;
    exact_turn = exact_turn;
    beaten_1_1 = beaten_1_1;
    beaten_1_2 = beaten_1_2;
    beaten_2_1 = beaten_2_1;
    beaten_2_2 = beaten_2_2;
    beaten_2_3 = beaten_2_3;
    beaten_3_2 = beaten_3_2;
    beaten_3_3 = beaten_3_3;
  },
)
