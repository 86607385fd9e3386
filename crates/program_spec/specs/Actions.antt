-- What an action does (P4-16, "Actions"; BMv2 JSON form, "actions").
use Rattle.std.specs.Prelude.{ℕ, List, [], ◌∷◌, ◌++◌, fold, false, Option, Some, None}
use Rattle.bm_expr.specs.Meaning.{number_value}
use Rattle.bm_expr.specs.Store.{Contents, assigned, validity_written, header_added, header_assigned}
use Rattle.bm_pipeline.specs.declared.actions.Action.{Action}
use Rattle.bm_pipeline.specs.declared.actions.Primitive.{Primitive}
use Rattle.bm_pipeline.specs.declared.actions.Primitive.TheVariants as primitives
use Rattle.bm_pipeline.specs.declared.program.Program.{Program}
use Rattle.program_spec.specs.Stores.{assigned_if}

-- a count of an indirect counter, by the counter's place among those of the P4Info and the index of the cell
pub record Counted : Type 0 where
  pub counter : ℕ
  pub index : ℕ

-- what actions leave: the packet's store, what they counted, in order, and the place of the last digest list that they named
pub record Effects : Type 0 where
  pub store : Contents
  pub counted : List Counted
  pub learned : Option ℕ

-- the port from which nothing leaves
abbrev pub drop_port : ℕ
drop_port = 511

-- `mark_to_drop`: nothing leaves, also to no multicast group
abbrev pub dropped : Program → Contents → Contents
dropped program store = assigned_if program.standard_metadata.mcast_grp 0 (assigned store program.standard_metadata.egress_spec drop_port)

-- a count of a counter that the P4Info names
abbrev pub counted : Option ℕ → ℕ → Effects → Effects
counted None index effects = effects
counted (Some counter) index effects = record effects { counted = effects.counted ++ record { counter = counter; index = index } ∷ [] }

-- a primitive of an action with these data
abbrev pub primitive_done : Program → List ℕ → Effects → Primitive → Effects
primitive_done program args effects (primitives.Assign target value) = record effects { store = assigned effects.store target (number_value effects.store args value) }
primitive_done program args effects (primitives.AddHeader place) = record effects { store = header_added effects.store place }
primitive_done program args effects (primitives.RemoveHeader header) = record effects { store = validity_written effects.store header false }
primitive_done program args effects (primitives.AssignHeader target source) = record effects { store = header_assigned effects.store target source }
primitive_done program args effects primitives.MarkToDrop = record effects { store = dropped program effects.store }
primitive_done program args effects (primitives.Count counter index) = counted counter (number_value effects.store args index) effects
primitive_done program args effects (primitives.GenerateDigest list) = record effects { learned = Some list }
primitive_done program args effects primitives.NoOp = effects

-- an action with these data: its primitives in order
unfoldable pub action_done : Program → Action → List ℕ → Effects → Effects
action_done program action args effects = fold (primitive_done program args) effects action.primitives
