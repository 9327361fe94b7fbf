use Rattle.std.proofs.Common.{◌≡◌, sym, ap, ◌∙◌, subst, rules, tests}
use Rattle.std.proofs.lemmas.Iterator.Adapters.{option_map_id}
use Rattle.std.proofs.lemmas.Iterator.Consumers.{YieldsList-at, YieldsList-from_filter_map, min_from_yields_List}
use Rattle.engine.specs.Views.{numbers_of, parts_of}
use Rattle.task.specs.Walks.{ticks}
use Rattle.bands.specs.Graphs.{band_gap, least_leaving, band_deadline, LeastGap}
use Rattle.bands.specs.Laws.Leaving.{deadline_least, ticks_or}
use Rattle.bands.specs.Laws.Ready.{ready_of}
use Rattle.bands.proofs.Least.{YieldsList-from_inclusive, reduce-whole}
use Rattle.bands.proofs.kind.Bands.band_deadline.Goals as goal

pub returns : goal.returns
returns c =
    let b = c.args.self.now in
    let e = numbers_of b.engine in
    let parts = parts_of b.card in
    let p = c.args.place in
    let least =
    sym (option_map_id c.min.result)
    ∙ min_from_yields_List c.filter_map.result c.min.result c.min.ensures.ran
    (YieldsList-from_filter_map _ (band_gap e parts p)
    (YieldsList-at c.filter_map.ensures.source (YieldsList-from_inclusive c.new.result)) c.filter_map.ensures.closure
    (λ x r q k. search (rules, tests)))
    ∙ reduce-whole e parts p c.len.result c.new.result c.new.ensures.start c.new.ensures.end c.new.ensures.exhausted in
    let value : c.unwrap_or.result ≡ band_deadline e parts p
    = c.unwrap_or.ensures ∙ ticks_or c.min.result ∙ ap ticks (least ∙ ap (least_leaving e parts p) c.len.ensures) in
    record { value = value; least = λ h. subst (LeastGap e parts p) (sym value) (deadline_least e parts (ready_of b) p h) }
