-- The ids of a role's configuration (P4Runtime 1.3.0, "Role Config"; the form of a configuration: this project's profile).
use Rattle.std.specs.Prelude.{◌≡◌, ℕ, ◌==◌, nat_lt, if◌then◌else◌, List, [], ◌∷◌, length, Option, Some, None, codes}
use Rattle.std.specs.Str.{bytes_eq}
use Rattle.p4_types.specs.declared.calls.ArbitrationUpdate.{ArbitrationUpdate}
use Rattle.p4_types.specs.declared.messages.Any.{Any}
use Rattle.p4_types.specs.declared.messages.MasterArbitrationUpdate.{MasterArbitrationUpdate}
use Rattle.p4_types.specs.declared.messages.Role.{Role}
use Rattle.list_types.specs.Options.{◌>>=◌}
use Rattle.wire_messages.specs.Message.{packed_in}
use Rattle.wire_messages.specs.Numbers.{as_uint32}

-- no more ids than a configuration may have
abbrev pub at_most_128 : List ℕ → Option (List ℕ)
at_most_128 ids = if nat_lt 128 (length ids) then None else Some ids

-- packed uint32 numbers, at most 128
abbrev pub ids_in : List ℕ → Option (List ℕ)
ids_in value = packed_in as_uint32 (length value) value >>= at_most_128

-- a configuration of the type that is served
abbrev pub ids_of : Any → Option (List ℕ)
ids_of config = if bytes_eq config.type_url (codes "p4switch/ids") then ids_in config.value else None

-- role 0 may have no configuration
abbrev pub role_config_in : ℕ → Option Any → Option (Option (List ℕ))
role_config_in role None = Some None
role_config_in role (Some config) = if role == 0 then None else ids_of config >>= λ ids. Some (Some ids)

-- the configuration that an update gives its role, or none, where it is read
abbrev pub role_config_of : Option Role → Option (Option (List ℕ))
role_config_of None = Some None
role_config_of (Some role) = role_config_in role.id role.config

-- the role that an update names; without one it is 0
abbrev pub role_of : Option Role → ℕ
role_of None = 0
role_of (Some role) = role.id

-- what an update asks for, with its role's configuration read
abbrev pub read_update : MasterArbitrationUpdate → ArbitrationUpdate
read_update update = record { role = role_of update.role; election_id = update.election_id; config = role_config_of update.role }

-- one table's id, packed
abbrev pub OneIdIsRead : Type 0
OneIdIsRead = role_config_of (Some (record { id = 7; config = Some (record { type_url = codes "p4switch/ids"; value = 0x82 ∷ 0x80 ∷ 0x80 ∷ 0x10 ∷ [] }) })) ≡ Some (Some (33554434 ∷ []))
