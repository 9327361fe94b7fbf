use Rattle.std.proofs.Common.{◌≡◌, ◌-◌, List, ◌++◌, length, vec_items}
use Rattle.plan.specs.Standing.{new_plan}
use Rattle.planfile.specs.declared.turns.Open.TheVariants as opens
use Rattle.weighing.specs.declared.line.Line.{Line}
use Rattle.weighing.specs.Pending.{no_card}
use Rattle.weighing.specs.Running.{Prints}
use Rattle.weighing.specs.Turns.{state_of, PrintsOn}
use Rattle.weighing.proofs.run.run_file.Given as goal

-- the lines so far, and then whatever is printed from here on, are what the file prints
abbrev pub invariant-loop-run : goal.invariant-loop-run
invariant-loop-run l =
    ((rest : List Line) → PrintsOn l.bytes (state_of l.run) rest → Prints l.bytes new_plan no_card opens.Start 0 (vec_items l.lines ++ rest))
    × (l.run.reader.bytes.now ≡ l.bytes)

abbrev pub decreases-loop-run : goal.decreases-loop-run
decreases-loop-run l = length l.bytes - l.run.reader.at
