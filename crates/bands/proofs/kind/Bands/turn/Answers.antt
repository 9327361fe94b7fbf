use Rattle.std.proofs.Common.{ℕ, sym, ◌∙◌}
use Rattle.std.proofs.lemmas.Option.{cond_some}
use Rattle.engine.specs.Views.{numbers_of, parts_of}
use Rattle.bands.specs.Gaps.{Pair}
use Rattle.bands.specs.declared.gaps.Band.{Band}
use Rattle.bands.specs.Graphs.{band_here}
use Rattle.bands.specs.Rules.{Fits}
use Rattle.bands.specs.Laws.Ends.{pair_fits}
use Rattle.bands.specs.Laws.Leaving.{true_here}
use Rattle.bands.specs.Laws.Ready.{ready_of}
use Rattle.bands.proofs.kind.Bands.turn.Goals as goal

abbrev pair : Band → Band → ℕ → ℕ → ℕ → ℕ → Pair
pair b d A D G M = record { A = A; D = D; G = G; M = M; i = b.number; j = d.number; li = b.low; ui = b.high; lj = d.low; uj = d.high }

pub invariant_of-result : goal.invariant_of-result
invariant_of-result c =
    let b = c.args.self.now in
    let e = numbers_of b.engine in
    let parts = parts_of b.card in
    let p = c.args.from in
    let q = c.args.to in
    let (here, from) = cond_some (band_here parts p) _ _ (sym c.band.ensures ∙ c.in_ok-from.was) in
    let (there, to) = cond_some (band_here parts q) _ _ (sym c.band-2.ensures ∙ c.in_ok-to.was) in
    let fits = pair_fits e parts (ready_of b) p q (true_here parts p here) (true_here parts q there) in
    let h : Fits (pair c.in_ok-from.from c.in_ok-to.to c.from.result c.from-2.result c.from-3.result c.from-4.result) = rw (c.from.ensures, c.from-2.ensures, c.from-3.ensures, c.from-4.ensures, ← from, ← to) fits in
    record { fits = h }
