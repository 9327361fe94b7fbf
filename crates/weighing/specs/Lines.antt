-- The text of each line, by the case of the answer and its values.
use Rattle.std.specs.Prelude.{ℕ, List, ◌++◌, codes, decimal}
use Rattle.refusal.specs.Numbers.{number}
use Rattle.deck.specs.declared.verdict.Verdict.{Verdict}
use Rattle.deck.specs.declared.verdict.Verdict.TheVariants as verdicts
use Rattle.weighing.specs.declared.line.Line.{Line}
use Rattle.weighing.specs.declared.line.Line.TheVariants.{Done, Fits, Over, No}

abbrev pub line_text : Line → List ℕ
line_text Done = codes "ok"
line_text (Fits horizon) = codes "fits " ++ decimal horizon
line_text (Over t total) = codes "over " ++ (decimal t ++ (codes " " ++ decimal total))
line_text (No refusal place) = codes "no " ++ (decimal (number refusal) ++ (codes " at " ++ decimal place))

-- the line of a verdict
abbrev pub verdict_line : Verdict → Line
verdict_line (verdicts.Fits horizon) = Fits horizon
verdict_line (verdicts.Over t total) = Over t total
