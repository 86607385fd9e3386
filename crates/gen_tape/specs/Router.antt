-- The router that a made load runs (this project's profile).
use Rattle.std.specs.Prelude.{ℕ, List}
use Rattle.gen_tape.specs.declared.router.TheConstants.{ROUTER_INFO, ROUTER_JSON}

-- the canonical bytes of its P4Info
unfoldable pub router_info : List ℕ
router_info = ROUTER_INFO

-- its device configuration, in BMv2's JSON form
unfoldable pub router_json : List ℕ
router_json = ROUTER_JSON

-- the id of its table, whose field 1 is the LPM match on the destination
abbrev pub route_table : ℕ
route_table = 0x02000002

-- the id of its action that sends a packet: parameter 1 is the port, parameter 2 the next Ethernet address
abbrev pub route_action : ℕ
route_action = 0x01000003
