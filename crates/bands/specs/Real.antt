-- The definitions of turns and drives are met by real ones.
use Rattle.std.specs.Prelude.{◌≡◌, ℕ, ◌+◌, [], ◌∷◌, replicate, Some}
use Rattle.task.specs.Jobs.{Job}
use Rattle.engine.specs.Views.{house_engine}
use Rattle.bands.specs.Examples.{small_engine, three_bands, house_bands}
use Rattle.bands.specs.Graphs.{band_gap, band_deadline}
use Rattle.bands.specs.Turns.{Leads, Beaten}
use Rattle.bands.specs.Drives.{BandsLists}

-- the job of a turn of the house engine at a steady 10,000 steps per tick, at a time
abbrev pub steady_job : ℕ → Job
steady_job time = record { release = time; cost = 20; due = time + band_deadline house_engine house_bands 1 }

pub record RealDrives : Type 0 where
  -- two turns of the house engine at a steady speed, each through a revolution in 600 ticks
  pub steady : BandsLists house_engine house_bands 1 (steady_job 7 ∷ steady_job 607 ∷ [])
  -- a turn of the small engine that takes exactly its gap, 3 ticks at the greatest speed
  pub exact_gap : band_gap small_engine (three_bands 1200) 3 3 ≡ Some 3
  pub exact_turn : Leads small_engine (three_bands 1200) 1 3 3 400 (replicate 3 400)
  -- at the angle of the worked card a turn for each gap that takes less than a tick more
  pub beaten_1_1 : Beaten small_engine (three_bands 1000) 1 1 5
  pub beaten_1_2 : Beaten small_engine (three_bands 1000) 1 2 5
  pub beaten_2_1 : Beaten small_engine (three_bands 1000) 2 1 5
  pub beaten_2_2 : Beaten small_engine (three_bands 1000) 2 2 4
  pub beaten_2_3 : Beaten small_engine (three_bands 1000) 2 3 4
  pub beaten_3_2 : Beaten small_engine (three_bands 1000) 3 2 4
  pub beaten_3_3 : Beaten small_engine (three_bands 1000) 3 3 3
