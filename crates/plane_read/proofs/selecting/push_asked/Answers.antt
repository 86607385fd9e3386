use Rattle.std.proofs.Common.{◌≡◌, OnOk, List, ◌++◌, filter, subst}
use Rattle.p4_types.specs.declared.messages.Entity.{Entity}
use Rattle.plane_spec.specs.Objects.{table_of}
use Rattle.switch_spec.specs.Reading.{selects}
use Rattle.plane_read.proofs.Shown.{entries_shown}
use Rattle.plane_read.proofs.selecting.push_asked.Goals as goal

pub returns : goal.returns
returns g c =
    let P : List Entity → Type 0 = λ list. OnOk c.push_selected.result (c.push_selected.new.answer ≡ c.args.answer.now ++ list) in
    subst P (entries_shown (g.C.Counts.figures c.args.counts.now) c.args.plane.now.now.config.info (filter (selects (table_of c.args.asked.now.table_id c.args.plane.now.now.config.info) c.args.asked.now) c.args.plane.now.now.entries)) c.push_selected.ensures
