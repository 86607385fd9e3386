-- The objects of a program by their ids, and the headers for a controller by their names.
use Rattle.std.specs.Prelude.{◌≡◌, ℕ, ◌==◌, List, Option, Some, None, if◌then◌else◌}
use Rattle.std.specs.BTreeMap.{BTreeMap, get}
use Rattle.std.specs.List.{find, position}
use Rattle.std.specs.Option.{option_or}
use Rattle.std.specs.Ordering.{nat_cmp}
use Rattle.std.specs.Str.{bytes_eq}
use Rattle.p4_types.specs.declared.info.Action.{Action}
use Rattle.p4_types.specs.declared.info.ActionProfile.{ActionProfile}
use Rattle.p4_types.specs.declared.info.ControllerHeader.{ControllerHeader}
use Rattle.p4_types.specs.declared.info.Counter.{Counter}
use Rattle.p4_types.specs.declared.info.Digest.{Digest}
use Rattle.p4_types.specs.declared.info.DirectCounter.{DirectCounter}
use Rattle.p4_types.specs.declared.info.Info.{Info}
use Rattle.p4_types.specs.declared.info.Table.{Table}

-- the first table of this id, if there is one
abbrev pub table_at : Info → ℕ → Option Table
table_at info id = find (λ x. x.preamble.id == id) info.tables

-- the first action of this id, if there is one
abbrev pub action_at : Info → ℕ → Option Action
action_at info id = find (λ x. x.preamble.id == id) info.actions

-- the first action profile of this id, if there is one
abbrev pub profile_at : Info → ℕ → Option ActionProfile
profile_at info id = find (λ x. x.preamble.id == id) info.action_profiles

-- the first indirect counter of this id, if there is one
abbrev pub counter_at : Info → ℕ → Option Counter
counter_at info id = find (λ x. x.preamble.id == id) info.counters

-- the first direct counter of this id, if there is one
abbrev pub direct_counter_at : Info → ℕ → Option DirectCounter
direct_counter_at info id = find (λ x. x.preamble.id == id) info.direct_counters

-- the first digest of this id, if there is one
abbrev pub digest_at : Info → ℕ → Option Digest
digest_at info id = find (λ x. x.preamble.id == id) info.digests

-- the first header for a controller of this name, if there is one
abbrev pub header_named : Info → List ℕ → Option ControllerHeader
header_named info name = find (λ x. bytes_eq x.preamble.name name) info.controller_packet_metadata

-- the map has the first place of each id
abbrev pub ArePlaces : {X : Type 0} → (X → ℕ) → List X → BTreeMap ℕ ℕ → Type 0
ArePlaces id objects places = (q : ℕ) → get nat_cmp places q ≡ position (λ x. id x == q) objects

-- the id has this place, unless it had one before
abbrev pub PutsFirst : BTreeMap ℕ ℕ → BTreeMap ℕ ℕ → ℕ → ℕ → Type 0
PutsFirst old new id place = (q : ℕ) → get nat_cmp new q ≡ option_or (get nat_cmp old q) (if id == q then Some place else None)
