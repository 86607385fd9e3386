-- Forwarding pipeline configurations (P4Runtime 1.3.0, "ForwardingPipelineConfig").
use Rattle.std.specs.Prelude.{ℕ, List, sum_by, Option, Some, None}
use Rattle.std.specs.List.{filter_map}
use Rattle.bm_pipeline.specs.declared.program.Program.{Program}
use Rattle.bm_pipeline.specs.declared.tables.DefaultEntry.{DefaultEntry}
use Rattle.bm_pipeline.specs.declared.tables.Table.{Table}
use Rattle.bm_pipeline.specs.Validity.{IsValid}
use Rattle.p4_types.specs.declared.events.Committed as committed
use Rattle.p4_types.specs.declared.events.Event as event
use Rattle.p4_types.specs.declared.info.Info.{Info}
use Rattle.p4_types.specs.declared.table.DefaultAction.{DefaultAction}

-- a configuration as it was given, and what it means: the objects of the program, and the program
pub record Config : Type 0 where
  pub p4info : List ℕ
  pub device_config : List ℕ
  pub cookie : ℕ
  pub info : Info
  pub program : Program

-- the default action of a table that a program gives a default entry whose action is one of the P4Info's
abbrev pub default_by : Option ℕ → Option ℕ → List ℕ → Option DefaultAction
default_by (Some table) (Some action) arguments = Some (record { table = table; action = record { action = action; arguments = arguments } })
default_by _ _ arguments = None

-- the same of a default entry, where there is one
abbrev pub default_in_entry : Option ℕ → Option DefaultEntry → Option DefaultAction
default_in_entry table None = None
default_in_entry table (Some entry) = default_by table entry.action.reference entry.action_data

-- the default action that a table has by itself, as the P4Info names it
abbrev pub own_default : Table → Option DefaultAction
own_default table = default_in_entry table.id table.default_entry

-- the default actions that a program gives its tables, as the P4Info names them
abbrev pub own_defaults : Program → List DefaultAction
own_defaults program = filter_map own_default program.tables

-- a configuration is valid: its program is
pub record IsValidConfig (config : Config) : Type 0 where
  pub program : IsValid config.program

-- how many cells its indirect counters have together
abbrev pub cells_in : Config → ℕ
cells_in config = sum_by (λ counter. counter.size) config.info.counters

-- an event, by which configurations are saved and committed
abbrev pub Event : Type 0
Event = event.Event Config

-- what a Commit makes active: the staged plane, or a new one of a configuration
abbrev pub Committed : Type 0
Committed = committed.Committed Config
