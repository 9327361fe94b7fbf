-- The worked rows hold, and the worked cards are right for their engines.
use Rattle.std.proofs.Common.{◌≡◌, ℕ, ◌+◌, ◌≤◌, true, false, List, [], ◌∷◌, ◌++◌, Some, None, Option, refl, ap₂, arith, lit≤}
use Rattle.std.specs.List.{AllByRecursion as All}
use Rattle.task.specs.Walks.{ticks}
use Rattle.task.specs.Graph.{Lawful}
use Rattle.std.proofs.lemmas.Bool.Decides.{nat_tests}
use Rattle.engine.specs.Limits.{engine_ok, angle_ok, bands_ok}
use Rattle.engine.specs.Views.{Numbers, Parts, modes_ok, house_engine}
use Rattle.bands.specs.Laws.Ready.{Ready}
use Rattle.bands.specs.Gaps.{Pair, has_gap, allows, gap_value}
use Rattle.bands.specs.Graphs.{pair_at, lesser}
use Rattle.bands.specs.Examples.{small_engine, two_bands, three_bands, house_bands, two_graph, three_graph, house_graph, Holds, two_rows, three_rows, far_rows, Worked}
use Rattle.bands.specs.Laws.Rules.{value_some, value_none}
use Rattle.bands.specs.Laws.Lawful.{bands_lawful}

-- a row of the table: T ticks are allowed, and one more is not
row : (x : Pair) (T : ℕ) → has_gap x ≡ true → allows x T ≡ true → allows x (T + 1) ≡ false → T ≤ 100000000 → gap_value x ≡ Some T
row x T e h k l = value_some x T e (record { within = h; past = k }) l

least_of_two : (a b c d : Option ℕ) → a ≡ c → b ≡ d → ticks (lesser a b) ≡ ticks (lesser c d)
least_of_two a b c d p q = ap₂ (λ (x y : Option ℕ). ticks (lesser x y)) p q

least_of_three : (a b c x y z : Option ℕ) → a ≡ x → b ≡ y → c ≡ z → ticks (lesser (lesser a b) c) ≡ ticks (lesser (lesser x y) z)
least_of_three a b c x y z p q r = least_of_two (lesser a b) c (lesser x y) z (ap₂ lesser p q) r

-- ---- two bands
pub two_1_1 : two_graph.gap 1 1 ≡ Some 4
two_1_1 = row (pair_at small_engine two_bands 1 1) 4 refl refl refl (lit≤ tt)

pub two_1_2 : two_graph.gap 1 2 ≡ Some 4
two_1_2 = row (pair_at small_engine two_bands 1 2) 4 refl refl refl (lit≤ tt)

pub two_2_1 : two_graph.gap 2 1 ≡ Some 4
two_2_1 = row (pair_at small_engine two_bands 2 1) 4 refl refl refl (lit≤ tt)

pub two_2_2 : two_graph.gap 2 2 ≡ Some 2
two_2_2 = row (pair_at small_engine two_bands 2 2) 2 refl refl refl (lit≤ tt)

pub two_hold : All Holds two_rows
two_hold =
    (two_1_1, (two_1_2, (two_2_1, (two_2_2, (least_of_two _ _ _ _ two_1_1 two_1_2, (least_of_two _ _ _ _ two_2_1 two_2_2, (refl, (refl, tt))))))))

-- ---- three bands
pub three_1_1 : three_graph.gap 1 1 ≡ Some 4
three_1_1 = row (pair_at small_engine (three_bands 1000) 1 1) 4 refl refl refl (lit≤ tt)

pub three_1_2 : three_graph.gap 1 2 ≡ Some 4
three_1_2 = row (pair_at small_engine (three_bands 1000) 1 2) 4 refl refl refl (lit≤ tt)

pub three_1_3 : three_graph.gap 1 3 ≡ None
three_1_3 = value_none (pair_at small_engine (three_bands 1000) 1 3) refl

pub three_2_1 : three_graph.gap 2 1 ≡ Some 4
three_2_1 = row (pair_at small_engine (three_bands 1000) 2 1) 4 refl refl refl (lit≤ tt)

pub three_2_2 : three_graph.gap 2 2 ≡ Some 3
three_2_2 = row (pair_at small_engine (three_bands 1000) 2 2) 3 refl refl refl (lit≤ tt)

pub three_2_3 : three_graph.gap 2 3 ≡ Some 3
three_2_3 = row (pair_at small_engine (three_bands 1000) 2 3) 3 refl refl refl (lit≤ tt)

pub three_3_1 : three_graph.gap 3 1 ≡ None
three_3_1 = value_none (pair_at small_engine (three_bands 1000) 3 1) refl

pub three_3_2 : three_graph.gap 3 2 ≡ Some 3
three_3_2 = row (pair_at small_engine (three_bands 1000) 3 2) 3 refl refl refl (lit≤ tt)

pub three_3_3 : three_graph.gap 3 3 ≡ Some 2
three_3_3 = row (pair_at small_engine (three_bands 1000) 3 3) 2 refl refl refl (lit≤ tt)

pub three_deadline_1 : three_graph.deadline 1 ≡ 4
three_deadline_1 = least_of_three _ _ _ _ _ _ three_1_1 three_1_2 three_1_3

pub three_deadline_2 : three_graph.deadline 2 ≡ 3
three_deadline_2 = least_of_three _ _ _ _ _ _ three_2_1 three_2_2 three_2_3

pub three_deadline_3 : three_graph.deadline 3 ≡ 2
three_deadline_3 = least_of_three _ _ _ _ _ _ three_3_1 three_3_2 three_3_3

pub three_hold : All Holds three_rows
three_hold = (
  three_1_1,
  (
    three_1_2,
    (
      three_1_3,
      (
        three_2_1,
        (
          three_2_2,
          (three_2_3, (three_3_1, (three_3_2, (three_3_3, (three_deadline_1, (three_deadline_2, (three_deadline_3, (refl, (refl, (refl, tt)))))))))),
        ),
      ),
    ),
  ),
)

-- ---- the edge of reach, and the house engine
pub far_hold : All Holds far_rows
far_hold = (
  value_none (pair_at small_engine (three_bands 12500) 1 3) refl,
  (
    row (pair_at small_engine (three_bands 12501) 1 3) 50 refl refl refl (lit≤ tt),
    (
      row (pair_at house_engine house_bands 1 1) 234 refl refl refl (lit≤ tt),
      (row (pair_at house_engine house_bands 2 2) 92 refl refl refl (lit≤ tt), tt),
    ),
  ),
)

all_both : {X : Type 0} (P : X → Type 0) (xs ys : List X) → All P xs → All P ys → All P (xs ++ ys)
all_both P [] ys h k = k
all_both P (x ∷ xs) ys h k = (h.0, all_both P xs ys h.1 k)

pub worked : Worked
worked = all_both Holds (two_rows ++ three_rows) far_rows (all_both Holds two_rows three_rows two_hold three_hold) far_hold

-- ---- the cards are right, so their graphs are lawful
ready : (e : Numbers) (c : Parts) → engine_ok e.least e.greatest e.rise e.fall e.entry ≡ true → angle_ok e.greatest c.angle ≡ true → modes_ok e.least e.greatest c.modes ≡ true → bands_ok e.least e.greatest c.bands ≡ true → Ready e c
ready e c limits angle modes bands = record {
  angle = angle;
  modes = modes;
  bands = bands;
  turns = grind (arith, nat_tests);
  varies = grind (arith, nat_tests);
  bounded = grind (arith, nat_tests);
  rises = grind (arith, nat_tests);
  sharpest = grind (arith, nat_tests);
  falls = grind (arith, nat_tests);
  hardest = grind (arith, nat_tests);
}

pub two_lawful : Lawful two_graph
two_lawful = bands_lawful small_engine two_bands (ready small_engine two_bands refl refl refl refl)

pub three_lawful : Lawful three_graph
three_lawful =
    bands_lawful small_engine (three_bands 1000) (ready small_engine (three_bands 1000) refl refl refl refl)

pub house_lawful : Lawful house_graph
house_lawful = bands_lawful house_engine house_bands (ready house_engine house_bands refl refl refl refl)
