-- What holds of a tape that is made.
use Rattle.std.specs.Prelude.{◌≡◌, ℕ, ◌+◌, ◌*◌, ◌/◌, ◌%◌, ◌≤◌, pos, false, [], ◌∷◌, map, Option, Some, None}
use Rattle.std.specs.List.{AllByRecursion, filter_map}
use Rattle.p4_types.specs.declared.calls.Call.{Call as Asked}
use Rattle.p4_types.specs.declared.calls.Call.TheVariants as asked
use Rattle.p4_types.specs.declared.messages.Entity.TheVariants as entities
use Rattle.p4_types.specs.declared.messages.FieldMatchKind.TheVariants as kinds
use Rattle.p4_types.specs.declared.messages.StreamMessageRequest.TheVariants as members
use Rattle.p4_types.specs.declared.messages.TableAction.TheVariants as actions
use Rattle.p4_types.specs.declared.messages.TableEntry.{TableEntry}
use Rattle.p4_types.specs.declared.messages.Uint128.{Uint128}
use Rattle.p4_types.specs.declared.tape.TapeRecord.TheVariants.{Call, Packet, Leave, Meet}
use Rattle.p4v1_read.specs.Calls.{call_of}
use Rattle.run_spec.specs.Text.{count_up}
use Rattle.tape_spec.specs.declared.item.TapeItem.{TapeItem}
use Rattle.tape_spec.specs.declared.item.TapeItem.TheVariants.{Record, Bytes}
use Rattle.tape_form.specs.TapeRead.{InLimits}
use Rattle.gen_tape.specs.Router.{router_info, router_json, route_table, route_action}
use Rattle.gen_tape.specs.Generated.{network, next_address, generated}

-- the election id 1
abbrev pub first_id : Uint128
first_id = record { high = 0; low = 1 }

-- an arbitration for role 0 of device 1 with election id 1
abbrev pub arbitration : Asked
arbitration = asked.Stream (Some (members.Arbitration (record { device_id = 1; role = None; election_id = first_id; status = None })))

-- a VERIFY_AND_COMMIT of the router
abbrev pub commit : Asked
commit = asked.Set (record {
  device_id = 1;
  role_id = 0;
  election_id = first_id;
  action = pos 3;
  config = Some (record { p4info = Some router_info; p4_device_config = router_json; cookie = None });
})

-- the entry that routes 10.x.y.0/24 to a port
abbrev pub route_entry : ℕ → ℕ → ℕ → TableEntry
route_entry x y port = record {
  table_id = route_table;
  matches = (record { field_id = 1; kind = Some (kinds.Lpm (network x y) (pos 24)) }) ∷ [];
  action = Some (Some (actions.Action (record {
    action_id = route_action;
    params = (record { param_id = 1; value = port ∷ [] }) ∷ (record { param_id = 2; value = next_address }) ∷ [];
  })));
  priority = pos 0;
  controller_metadata = 0;
  meter_config = false;
  counter_data = None;
  is_default_action = false;
  idle_timeout_ns = pos 0;
  time_since_last_hit = false;
}

-- a Write that inserts it, and nothing else
abbrev pub insert : ℕ → ℕ → ℕ → Asked
insert x y port = asked.Write (record {
  device_id = 1;
  role_id = 0;
  election_id = first_id;
  updates = (record { kind = pos 1; entity = Some (entities.TableEntry (route_entry x y port)) }) ∷ [];
  atomicity = pos 0;
})

-- the call that an item brings, as it is read
abbrev pub call_in : TapeItem → Option Asked
call_in (Record (Call lane method message)) = Some (call_of method message)
call_in (Record (Packet lane port packet)) = None
call_in (Record (Leave lane)) = Some asked.Leave
call_in (Record (Meet lane controller call)) = None
call_in (Bytes lane bytes) = None

-- The calls of the tape are just an arbitration, a commit, and the inserts of 100 routes for each one of the number.
abbrev pub CallsAreRead : Type 0
CallsAreRead = (n : ℕ) → filter_map call_in (generated n) ≡ arbitration ∷ commit ∷ map (λ i. insert (i / 256) (i % 256) (1 + i % 8)) (count_up 0 (100 * n))

-- The tape of a number up to 64 is in the grammar and within the limits.
abbrev pub IsWithinLimits : Type 0
IsWithinLimits = (n : ℕ) → n ≤ 64 → InLimits (generated n)

-- the item is the record of a call or of a packet
abbrev pub IsPlain : TapeItem → Type 0
IsPlain (Record (Call lane method message)) = Unit {0}
IsPlain (Record (Packet lane port packet)) = Unit {0}
IsPlain (Record (Leave lane)) = ⊥
IsPlain (Record (Meet lane controller call)) = ⊥
IsPlain (Bytes lane bytes) = ⊥

-- Its items are records of calls and of packets.
abbrev pub HasNoOthers : Type 0
HasNoOthers = (n : ℕ) → AllByRecursion IsPlain (generated n)
