use Rattle.std.proofs.Common.{◌++◌, ap, sym, ◌∙◌, append_assoc}
use Rattle.std.specs.List.{filter_map}
use Rattle.std.proofs.lemmas.List.Elements.{filter_map-append}
use Rattle.switch_spec.specs.Counts.{line_of}
use Rattle.slot_totals.proofs.entries.push_all.Goals as goal

pub loop-entries-preserved : goal.loop-entries-preserved
loop-entries-preserved g c =
    let f = line_of (g.C.Counts.figures c.args.counts.now) in
    let entries = c.in-Some.entries.now in
    let rest = c.next.new.self in
    ap (λ lines. lines ++ filter_map f rest) c.in_ok-push_lines.ensures
    ∙ append_assoc c.loop-entries.lines.items (filter_map f entries) (filter_map f rest)
    ∙ ap (λ lines. c.loop-entries.lines.items ++ lines) (sym (ap (filter_map f) c.in-Some.ensures.next ∙ filter_map-append f entries rest))
    ∙ c.loop-entries.invariant
