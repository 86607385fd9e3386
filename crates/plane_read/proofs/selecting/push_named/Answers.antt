use Rattle.std.proofs.Common.{◌≡◌, OnOk, List, [], ◌∷◌, ◌++◌, filter, ap, ◌∙◌, sym, subst, append-nil}
use Rattle.p4_types.specs.declared.info.Info.{Info}
use Rattle.p4_types.specs.declared.messages.Entity.{Entity}
use Rattle.p4_types.specs.declared.table.Entry.{Entry}
use Rattle.plane_spec.specs.Entries.{entry_named, same_name}
use Rattle.plane_read.specs.Answered.{answered, shown_as}
use Rattle.plane_read.proofs.Selected.{named, listed}
use Rattle.plane_read.proofs.Shown.{one_shown}
use Rattle.plane_read.proofs.selecting.push_named.Goals as goal

pub returns-in-Some : goal.returns-in-Some
unfolding entry_named
returns-in-Some g c =
    let view = c.args.view in
    let figures = g.C.Counts.figures c.args.counts.now in
    let info_is = c.info.ensures ∙ ap (λ config. config.info) c.config.ensures in
    let stored = ap (filter (λ (entry : Entry). same_name c.args.name.now entry.name)) (sym c.store-store.ensures) in
    let list_is = stored ∙ named c.args.name.now c.store-store.result.now.entries c.names_differ.ensures ∙ sym (ap listed c.in-Some.ensures) in
    let P : List Entity → Type 0 = λ list. OnOk c.push_entry.result (c.push_entry.new.answer ≡ c.args.answer.now ++ list) in
    let I : Info → Type 0 = λ info. P (shown_as view figures info c.in-Some.entry.now) in
    let shown : P (answered view figures c.args.plane.now.now.config.info (c.in-Some.entry.now ∷ [])) = subst P (sym (one_shown view figures c.args.plane.now.now.config.info c.in-Some.entry.now)) (subst I info_is c.push_entry.ensures) in
    let L : List Entry → Type 0 = λ list. P (answered view figures c.args.plane.now.now.config.info list) in
    subst L (sym list_is) shown

pub returns-in-None : goal.returns-in-None
unfolding entry_named
returns-in-None g c =
    let view = c.args.view in
    let figures = g.C.Counts.figures c.args.counts.now in
    let stored = ap (filter (λ (entry : Entry). same_name c.args.name.now entry.name)) (sym c.store-store.ensures) in
    let list_is = stored ∙ named c.args.name.now c.store-store.result.now.entries c.names_differ.ensures ∙ sym (ap listed c.in-None.ensures) in
    sym (append-nil c.args.answer.now) ∙ ap (λ (list : List Entry). c.args.answer.now ++ answered view figures c.args.plane.now.now.config.info list) (sym list_is)
