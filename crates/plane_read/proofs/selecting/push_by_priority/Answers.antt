use Rattle.std.proofs.Common.{◌≡◌, ◌==◌, OnOk, List, ◌++◌, false, filter, ap, ◌∙◌, subst, arith}
use Rattle.std.proofs.lemmas.Bool.Decides.{nat_tests}
use Rattle.p4_types.specs.declared.info.Info.{Info}
use Rattle.p4_types.specs.declared.table.Entry.{Entry}
use Rattle.plane_read.specs.Answered.{answered, has_priority}
use Rattle.plane_read.proofs.Selected.{of_table}
use Rattle.plane_read.proofs.selecting.push_by_priority.Goals as goal

pub returns : goal.returns
returns g c =
    let e : (c.args.asked.now.table_id == 0) ≡ false = grind (arith, nat_tests) in
    let of = of_table c.args.asked.now c.args.plane.now.now.entries e in
    let p = c.args.asked.now.priority in
    let stored = ap (λ (list : List Entry). filter (has_priority p) (filter (λ (entry : Entry). entry.name.table == c.args.asked.now.table_id) list)) c.store.ensures in
    let list_is = ap (filter (has_priority p)) c.entries_of-entries.ensures ∙ stored ∙ of in
    let info_is = c.info.ensures ∙ ap (λ config. config.info) c.config.ensures in
    let P : Info → List Entry → Type 0 = λ info list.
    OnOk c.push_entries.result (c.push_entries.new.answer ≡ c.args.answer.now ++ answered c.args.view (g.C.Counts.figures c.args.counts.now) info list) in
    subst (P c.args.plane.now.now.config.info) list_is (subst (λ (info : Info). P info (filter (has_priority p) c.entries_of-entries.result.now)) info_is c.push_entries.ensures)
