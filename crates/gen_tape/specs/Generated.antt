-- The tape that is made from a number: a router, 100 routes and 400 packets for each one of it (this project's profile).
use Rattle.std.specs.Prelude.{ℕ, ◌+◌, ◌-◌, ◌*◌, ◌/◌, ◌%◌, List, [], ◌∷◌, ◌++◌, map}
use Rattle.p4_types.specs.declared.calls.Method.TheVariants as methods
use Rattle.p4_types.specs.declared.tape.TapeRecord.TheVariants.{Call, Packet}
use Rattle.wire_fields.specs.Spelling.{spelling, number_field, bytes_field}
use Rattle.run_spec.specs.Rows.{id_bytes, arbitrating}
use Rattle.run_spec.specs.Text.{count_up}
use Rattle.tape_spec.specs.declared.item.TapeItem.{TapeItem}
use Rattle.tape_spec.specs.declared.item.TapeItem.TheVariants.{Record}
use Rattle.gen_tape.specs.Router.{router_info, router_json, route_table, route_action}

-- a configuration of this P4Info and this device configuration (ForwardingPipelineConfig)
abbrev pub config_bytes : List ℕ → List ℕ → List ℕ
config_bytes info json = spelling (bytes_field 1 info ∷ bytes_field 2 json ∷ [])

-- VERIFY_AND_COMMIT of it by device 1 and election id 1 (SetForwardingPipelineConfigRequest)
unfoldable pub commit_bytes : List ℕ → List ℕ → List ℕ
commit_bytes info json = spelling (number_field 1 1 ∷ bytes_field 3 (id_bytes 1) ∷ number_field 4 3 ∷ bytes_field 5 (config_bytes info json) ∷ [])

-- 10.x.y.0
abbrev pub network : ℕ → ℕ → List ℕ
network x y = 10 ∷ x ∷ y ∷ 0 ∷ []

-- the Ethernet address to which routes send
abbrev pub next_address : List ℕ
next_address = 2 ∷ 0 ∷ 0 ∷ 0 ∷ 0 ∷ 1 ∷ []

-- a match of field 1 by the longest prefix, 10.x.y.0/24 (FieldMatch)
abbrev pub match_bytes : ℕ → ℕ → List ℕ
match_bytes x y = spelling (number_field 1 1 ∷ bytes_field 4 (spelling (bytes_field 1 (network x y) ∷ number_field 2 24 ∷ [])) ∷ [])

-- a parameter (Param)
abbrev pub param_bytes : ℕ → List ℕ → List ℕ
param_bytes id value = spelling (number_field 2 id ∷ bytes_field 3 value ∷ [])

-- the action that sends to a port (Action)
abbrev pub action_bytes : ℕ → List ℕ
action_bytes port = spelling (number_field 1 route_action ∷ bytes_field 4 (param_bytes 1 (port ∷ [])) ∷ bytes_field 4 (param_bytes 2 next_address) ∷ [])

-- the entry (TableEntry), whose action is a choice (TableAction)
abbrev pub entry_bytes : ℕ → ℕ → ℕ → List ℕ
entry_bytes x y port = spelling (number_field 1 route_table ∷ bytes_field 2 (match_bytes x y) ∷ bytes_field 3 (spelling (bytes_field 1 (action_bytes port) ∷ [])) ∷ [])

-- an update of type INSERT (Update, Entity)
abbrev pub update_bytes : ℕ → ℕ → ℕ → List ℕ
update_bytes x y port = spelling (number_field 1 1 ∷ bytes_field 2 (spelling (bytes_field 2 (entry_bytes x y port) ∷ [])) ∷ [])

-- a WriteRequest by device 1 and election id 1 with this one update
unfoldable pub insert_bytes : ℕ → ℕ → ℕ → List ℕ
insert_bytes x y port = spelling (number_field 1 1 ∷ bytes_field 3 (id_bytes 1) ∷ bytes_field 4 (update_bytes x y port) ∷ [])

-- a frame of 34 bytes with an IPv4 header, from 10.0.0.1 to 10.x.y.1, with 64 hops left
unfoldable pub frame_to : ℕ → ℕ → List ℕ
frame_to x y =
    2 ∷ 0 ∷ 0 ∷ 0 ∷ 0 ∷ 10 ∷ 2 ∷ 0 ∷ 0 ∷ 0 ∷ 0 ∷ 1 ∷ 8 ∷ 0
    ∷ 0x45 ∷ 0 ∷ 0 ∷ 20 ∷ 0 ∷ 0 ∷ 0 ∷ 0 ∷ 64 ∷ 1 ∷ 0 ∷ 0 ∷ 10 ∷ 0 ∷ 0 ∷ 1 ∷ 10 ∷ x ∷ y ∷ 1 ∷ []

-- controller 0 asks for role 0 with election id 1
abbrev pub asking : TapeItem
asking = Record (arbitrating 0 1)

-- and commits the router
abbrev pub committing : TapeItem
committing = Record (Call 0 methods.SetForwardingPipelineConfig (commit_bytes router_info router_json))

-- and inserts the route of number i
abbrev pub inserting : ℕ → TapeItem
inserting i = Record (Call 0 methods.Write (insert_bytes (i / 256) (i % 256) (1 + i % 8)))

-- of 200 networks for each one of the number n, of which the first half have routes, that to which packet j goes
abbrev pub target : ℕ → ℕ → ℕ
target n j = (j * (100 * n - 1) + n) % (200 * n)

-- worker 0 gets packet j from port 0
abbrev pub sending : ℕ → ℕ → TapeItem
sending n j = Record (Packet 0 0 (frame_to (target n j / 256) (target n j % 256)))

-- the tape of the number n
unfoldable pub generated : ℕ → List TapeItem
generated n = asking ∷ committing ∷ (map inserting (count_up 0 (100 * n)) ++ map (sending n) (count_up 0 (400 * n)))
