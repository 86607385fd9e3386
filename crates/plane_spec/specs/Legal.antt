-- Which event may follow (P4Runtime 1.3.0, "Mastership Arbitration", "Write RPC", "SetForwardingPipelineConfig RPC").
use Rattle.std.specs.Prelude.{◌≡◌, ℕ, ◌+◌, ◌≤◌, true, false, List, [], ◌∷◌, length, Option, None, is_some, Ok}
use Rattle.p4_types.specs.declared.events.Committed.TheVariants as contents
use Rattle.p4_types.specs.declared.events.Event.TheVariants as events
use Rattle.p4_types.specs.declared.events.Origin.{Origin}
use Rattle.p4_types.specs.declared.calls.ArbitrationUpdate.{ArbitrationUpdate}
use Rattle.p4_types.specs.declared.messages.Update.{Update}
use Rattle.p4_types.specs.declared.table.Change.{Change}
use Rattle.role_arbiter.specs.Arbitration.{cause, asked, IsServedConfig}
use Rattle.role_arbiter.specs.State.{session_in}
use Rattle.plane_spec.specs.Config.{Config, Committed, Event, cells_in, IsValidConfig}
use Rattle.plane_spec.specs.Planes.{ControlState, primary, is_of_primary, scope_of, outcome, change_applied, apply, session_by}

-- a change may be made under the id of its role's primary where some update makes it in this state
pub record MayChange (c : ControlState) (by : Origin) (change : Change) : Type 0 where
  pub by_primary : is_of_primary (primary c by.role) by.election_id ≡ true
  pub update : Update
  pub no_cause : outcome c by.role update ≡ Ok change

-- each in the state that the earlier ones left
abbrev pub MayChanges : ControlState → Origin → List Change → Type 0
MayChanges c by [] = Unit {0}
MayChanges c by (change ∷ list) = MayChange c by change × MayChanges (change_applied c change) by list

-- a session may be made where some update asks for it that no rule refuses in this state; a configuration is one that an update can give
pub record MayArbitrate (c : ControlState) (by : Origin) (config : Option (List ℕ)) : Type 0 where
  pub update : ArbitrationUpdate
  pub served : IsServedConfig by.role config
  pub asks : asked by.caller update ≡ session_by by config
  pub no_cause : cause c.roles by.caller update ≡ None

-- a pipeline may be set under the id of its role's primary, which may write all
pub record MaySet (c : ControlState) (by : Origin) : Type 0 where
  pub by_primary : is_of_primary (primary c by.role) by.election_id ≡ true
  pub unscoped : scope_of c by.role ≡ None

-- a plane of the configuration may be made: it is valid, and there are slots for its cells
pub record MayMake (c : ControlState) (config : Config) : Type 0 where
  pub valid : IsValidConfig config
  pub slots : c.next_slot + cells_in config ≤ c.slots

-- what a Commit makes active is there, or may be made
abbrev pub MayCommit : ControlState → Committed → Type 0
MayCommit c contents.Staged = is_some c.staged ≡ true
MayCommit c (contents.Fresh config) = MayMake c config

-- which event may follow
abbrev pub May : ControlState → Event → Type 0
May c (events.Arbitrate by config) = (c.closed ≡ false) × MayArbitrate c by config
May c (events.Leave caller call) = (c.closed ≡ false) × (is_some (session_in c.roles.sessions caller) ≡ true)
May c (events.Change by change) = (c.closed ≡ false) × MayChange c by change
May c (events.Batch by list) = (c.closed ≡ false) × (1 ≤ length list) × (length list ≤ 4096) × MayChanges c by list
May c (events.Save by config) = (c.closed ≡ false) × MaySet c by × MayMake c config
May c (events.Commit by content) = (c.closed ≡ false) × MaySet c by × MayCommit c content
May c events.Close = c.closed ≡ false

-- each event may follow those before it
abbrev pub Legal : ControlState → List Event → Type 0
Legal c [] = Unit {0}
Legal c (event ∷ list) = May c event × Legal (apply c event) list
