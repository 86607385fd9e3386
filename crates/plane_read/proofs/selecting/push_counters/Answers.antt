use Rattle.std.proofs.Common.{◌≡◌, OnOk, List, ◌++◌, filter, map, ap, ◌∙◌, sym, subst}
use Rattle.std.specs.List.{filter_map}
use Rattle.p4_types.specs.declared.messages.Entity.{Entity}
use Rattle.p4_types.specs.declared.messages.Entity.TheVariants as entities
use Rattle.p4_types.specs.declared.table.Entry.{Entry}
use Rattle.plane_spec.specs.Objects.{table_of}
use Rattle.plane_read.specs.declared.selecting.View.TheVariants as views
use Rattle.plane_read.specs.Answered.{answered}
use Rattle.plane_read.proofs.Shown.{any_priority, counted_some, counters_shown}
use Rattle.switch_spec.specs.Reading.{counted_entries, selects, shown_direct}
use Rattle.plane_read.proofs.selecting.push_counters.Goals as goal

pub returns-in-None : goal.returns-in-None
returns-in-None g c =
    let figures = g.C.Counts.figures c.args.counts.now in
    let plane = c.args.plane.now.now in
    let all = ap (counted_entries plane) c.in-None.is in
    let shown = ap (answered views.Counters figures plane.config.info) (any_priority plane.entries) ∙ counters_shown figures plane.config.info plane.entries
    ∙ ap (λ (list : List Entry). map entities.DirectCounterEntry (filter_map (shown_direct figures plane.config.info) list)) (sym all) in
    let P : List Entity → Type 0 = λ list. OnOk c.push_all.result (c.push_all.new.answer ≡ c.args.answer.now ++ list) in
    subst P shown c.push_all.ensures

pub returns-else-asked : goal.returns-else-asked
returns-else-asked g c =
    let figures = g.C.Counts.figures c.args.counts.now in
    let plane = c.args.plane.now.now in
    let some = counted_some plane c.args.asked.now.table_entry c.in-Some.asked c.in-Some.is c.if-asked.false in
    let shown = counters_shown figures plane.config.info (filter (selects (table_of c.in-Some.asked.table_id plane.config.info) c.in-Some.asked) plane.entries)
    ∙ ap (λ (list : List Entry). map entities.DirectCounterEntry (filter_map (shown_direct figures plane.config.info) list)) (sym some) in
    let P : List Entity → Type 0 = λ list. OnOk c.push_selected.result (c.push_selected.new.answer ≡ c.args.answer.now ++ list) in
    subst P shown c.push_selected.ensures
