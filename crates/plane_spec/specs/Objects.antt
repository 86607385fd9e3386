-- The objects of a program by their ids (P4Runtime 1.3.0, "P4Info Message").
use Rattle.std.specs.Prelude.{ℕ, ◌==◌, Option, find}
use Rattle.p4_types.specs.declared.info.Action.{Action}
use Rattle.p4_types.specs.declared.info.ActionProfile.{ActionProfile}
use Rattle.p4_types.specs.declared.info.Digest.{Digest}
use Rattle.p4_types.specs.declared.info.Info.{Info}
use Rattle.p4_types.specs.declared.info.MatchField.{MatchField}
use Rattle.p4_types.specs.declared.info.Table.{Table}

-- the table of this id, if the program has one
abbrev pub table_of : ℕ → Info → Option Table
table_of id info = find (λ table. table.preamble.id == id) info.tables

-- the action of this id, if the program has one
abbrev pub action_of : ℕ → Info → Option Action
action_of id info = find (λ action. action.preamble.id == id) info.actions

-- the match field of this id, if the table has one
abbrev pub field_of : ℕ → Table → Option MatchField
field_of id table = find (λ field. field.id == id) table.match_fields

-- the action profile of this id, if the program has one
abbrev pub action_profile_of : ℕ → Info → Option ActionProfile
action_profile_of id info = find (λ profile. profile.preamble.id == id) info.action_profiles

-- the digest of this id, if the program has one
abbrev pub digest_of : ℕ → Info → Option Digest
digest_of id info = find (λ digest. digest.preamble.id == id) info.digests
