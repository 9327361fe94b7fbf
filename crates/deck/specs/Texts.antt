-- How a verdict is written.
use Rattle.std.specs.Prelude.{ℕ, List, ◌++◌, codes, decimal}
use Rattle.deck.specs.declared.verdict.Verdict.{Verdict}
use Rattle.deck.specs.declared.verdict.Verdict.TheVariants.{Fits, Over}

abbrev pub verdict_text : Verdict → List ℕ
verdict_text (Fits horizon) = codes "fits " ++ decimal horizon
verdict_text (Over t total) = codes "over " ++ (decimal t ++ (codes " " ++ decimal total))
