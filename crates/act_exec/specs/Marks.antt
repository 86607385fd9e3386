-- What actions leave beside a packet's store.
use Rattle.std.specs.Prelude.{◌≡◌, ℕ, List, length, Option, Some, None, IsSomeAnd, slice_get}
use Rattle.bm_expr.specs.Store.{Contents}
use Rattle.bm_pipeline.specs.declared.actions.Action.{Action}
use Rattle.bm_pipeline.specs.declared.program.Program.{Program}
use Rattle.program_spec.specs.Actions.{Counted, Effects, action_done}

-- what was counted, in order, and the place of the last digest list that was named
pub record Marked : Type 0 where
  pub counted : List Counted
  pub learned : Option ℕ

-- how many counts there is room for: one for each primitive of 128 actions, and 128 more
abbrev pub counts_room : ℕ
counts_room = 8320

-- how many primitives an action has at most
abbrev pub most_primitives : ℕ
most_primitives = 64

-- a store and marks together
abbrev pub effects : Contents → Marked → Effects
effects store marks = record { store = store; counted = marks.counted; learned = marks.learned }

-- the action at a place has as many data as these
abbrev pub TakesData : Program → ℕ → List ℕ → Type 0
TakesData program place args = IsSomeAnd (slice_get program.actions place) (λ action. length action.runtime_data ≡ length args)

-- what the action at a place does
abbrev pub done_at : Program → Option Action → List ℕ → Effects → Effects
done_at program None args effects = effects
done_at program (Some action) args effects = action_done program action args effects
