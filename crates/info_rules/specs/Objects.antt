-- What all objects of a P4Info have: an id and a name. An object without a preamble has id 0 and an empty name.
use Rattle.std.specs.Prelude.{ℕ, ◌==◌, ◌/◌, ◌^◌, Bool, not, nat_eq, nat_lt, ◌||◌, List, [], ◌++◌, length, map, Option, unwrap_or}
use Rattle.std.specs.List.{list_any}
use Rattle.std.specs.Set.{distinct_count}
use Rattle.std.specs.Str.{bytes_eq}
use Rattle.p4_types.specs.declared.p4info.P4Info.{P4Info}
use Rattle.p4_types.specs.declared.p4info.Preamble.{Preamble}

-- the preamble of an object
abbrev pub preamble_of : Option Preamble → Preamble
preamble_of given = unwrap_or given (record { id = 0; name = []; alias = []; annotations = [] })

-- the id in the preamble of an object, 0 where it has no preamble
abbrev pub id_of : Option Preamble → ℕ
id_of given = (preamble_of given).id

-- the name in the preamble of an object, empty where it has no preamble
abbrev pub name_of : Option Preamble → List ℕ
name_of given = (preamble_of given).name

-- the ids of all objects
abbrev pub ids : P4Info → List ℕ
ids info =
    map (λ x. id_of x.preamble) info.tables
    ++ map (λ x. id_of x.preamble) info.actions
    ++ map (λ x. id_of x.preamble) info.action_profiles
    ++ map (λ x. id_of x.preamble) info.counters
    ++ map (λ x. id_of x.preamble) info.direct_counters
    ++ map (λ x. id_of x.preamble) info.controller_packet_metadata
    ++ map (λ x. id_of x.preamble) info.digests

-- an item occurs twice
abbrev pub repeats : {A : Type 0} → (A → A → Bool) → List A → Bool
repeats same items = nat_lt (distinct_count same items) (length items)

-- an id is 0 or occurs twice
unfoldable pub ids_clash : List ℕ → Bool
ids_clash ids = list_any (λ id. id == 0) ids || repeats nat_eq ids

-- a name is empty or occurs twice
unfoldable pub names_clash : List (List ℕ) → Bool
names_clash names = list_any (λ name. length name == 0) names || repeats bytes_eq names

-- an id's high byte is not that of its kind
abbrev pub is_of_another_kind : ℕ → ℕ → Bool
is_of_another_kind kind id = not (id / 2 ^ 24 == kind)
