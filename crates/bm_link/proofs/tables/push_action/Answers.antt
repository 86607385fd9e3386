use Rattle.std.proofs.Common.{ap, ap₂, ◌∙◌, get_or, option_copied}
use Rattle.bm_pipeline.specs.declared.tables.TableAction.{TableAction}
use Rattle.bm_rules.specs.Names.{named}
use Rattle.link_spec.specs.Tables.{action_place, next_by}
use Rattle.name_index.specs.Places.{at_name}
use Rattle.bm_link.specs.Sides.{side_of}
use Rattle.bm_link.proofs.Pushes.{actions_next}
use Rattle.bm_link.proofs.tables.push_action.Goals as goal

pub returns : goal.returns
returns c =
    actions_next c.args.scope.now.fields.raw.now c.args.scope.now.info.now (side_of c.args.side.now) c.args.table.now (option_copied c.args.given) c.args.place c.args.actions.now c.push.new.self
    c.table_action-action.result c.args.ids.now c.table_action-action.new.ids c.as_str-name.result.now c.index-names-place.result c.requires.inside
    (c.as_str-name.ensures ∙ (c.index-names-place.is ∙ ap (λ names. get_or names c.args.place c.index-names-place.result) c.as_slice-names.ensures)) c.requires.before c.requires.left
    (c.table_action-action.ensures.action
    ∙ ap₂
    (λ ids nexts. let x : TableAction =
    record { action = action_place c.args.scope.now.fields.raw.now (get_or ids c.args.place 0); reference = at_name c.args.ids.now c.as_str-name.result.now; next = next_by (side_of c.args.side.now) (named (λ next. next.outcome) c.as_str-name.result.now nexts) }
    in x) c.as_slice-action_ids.ensures c.requires.nexts)
    c.table_action-action.ensures.taken c.in_ok-push.ensures.ok
