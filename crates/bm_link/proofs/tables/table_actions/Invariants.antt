use Rattle.std.proofs.Common.{◌≡◌, [], take, option_copied}
use Rattle.std.specs.List.{zip}
use Rattle.link_spec.specs.Tables.{table_actions}
use Rattle.bm_link.specs.References.{AreLeft, behind}
use Rattle.bm_link.specs.Sides.{side_of}
use Rattle.bm_link.proofs.tables.table_actions.Given as goal

abbrev pub invariant-loop-place : goal.invariant-loop-place
invariant-loop-place l =
    (l.actions ≡ table_actions l.scope.fields.raw.now l.scope.info.now (side_of l.side) l.table (option_copied l.given) [] (take l.place (zip l.table.action_ids l.table.actions)))
    × AreLeft l.scope.info.now (option_copied l.given) (behind [] (take l.place (zip l.table.action_ids l.table.actions))) l.ids
