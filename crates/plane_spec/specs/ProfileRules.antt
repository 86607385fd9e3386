-- The rules of updates of members, groups and digest entries, each in its order (P4Runtime 1.3.0, "ActionProfileMember & ActionProfileGroup", "DigestEntry"; order and some codes: this project's profile).
use Rattle.std.specs.Prelude.{ℕ, ℤ, pos, negsuc, ◌==◌, ◌&&◌, ◌||◌, not, nat_le, Bool, true, false, if◌then◌else◌, List, length, map, Option, Some, None, is_none, Result}
use Rattle.std.specs.List.{list_all, list_any}
use Rattle.p4_types.specs.declared.code.Cause.{Cause}
use Rattle.p4_types.specs.declared.code.Code.{Code}
use Rattle.p4_types.specs.declared.code.Code.TheVariants as codes
use Rattle.p4_types.specs.declared.code.Rule.TheVariants as rules
use Rattle.p4_types.specs.declared.info.ActionProfile.{ActionProfile}
use Rattle.p4_types.specs.declared.info.Info.{Info}
use Rattle.p4_types.specs.declared.messages.ActionProfileGroup.{ActionProfileGroup}
use Rattle.p4_types.specs.declared.messages.ActionProfileMember.{ActionProfileMember}
use Rattle.p4_types.specs.declared.messages.DigestConfig.{DigestConfig}
use Rattle.p4_types.specs.declared.messages.DigestEntry.{DigestEntry}
use Rattle.p4_types.specs.declared.messages.Member as messages
use Rattle.p4_types.specs.declared.profiles.Group.{Group}
use Rattle.p4_types.specs.declared.profiles.Member.{Member}
use Rattle.p4_types.specs.declared.profiles.ProfileChange.{ProfileChange}
use Rattle.p4_types.specs.declared.profiles.ProfileChange.TheVariants as profile_changes
use Rattle.p4_types.specs.declared.profiles.Share.{Share}
use Rattle.p4_types.specs.declared.table.Change.{Change}
use Rattle.p4_types.specs.declared.table.Change.TheVariants as changes
use Rattle.p4_types.specs.declared.table.DigestChange.{DigestChange}
use Rattle.p4_types.specs.declared.table.DigestChange.TheVariants as digest_changes
use Rattle.p4_types.specs.declared.table.UpdateKind.{UpdateKind}
use Rattle.p4_types.specs.declared.table.UpdateKind.TheVariants as kinds
use Rattle.plane_spec.specs.Objects.{action_profile_of, digest_of}
use Rattle.plane_spec.specs.UpdateRules.{repeats, brings, is_foreign, is_watched, is_weight, natural, profile_call_flaw, call_by, caused, caused_by, change_unless}

-- U9 on a member that an update brings; a DELETE's action is not looked at
abbrev pub member_flaw : Info → Option ActionProfile → UpdateKind → ActionProfileMember → Option Code
member_flaw info None kind member = None
member_flaw info (Some profile) kind member = if brings kind then profile_call_flaw info profile member.action else None

-- the first rule of U3 to U9 that an update of a member breaks, of this profile
unfoldable pub member_cause : Info → Option (List ℕ) → UpdateKind → ActionProfileMember → Option ActionProfile → Option Cause
member_cause info scope kind member profile =
    if is_none profile then caused rules.U3 codes.NotFound else
    if is_foreign scope member.action_profile_id then caused rules.U4 codes.PermissionDenied else
    if member.member_id == 0 then caused rules.U6 codes.InvalidArgument else
    caused_by rules.U9 (member_flaw info profile kind member)

-- the member that an update brings
abbrev pub member_by : Info → ActionProfileMember → Member
member_by info member = record { profile = member.action_profile_id; id = member.member_id; call = call_by info member.action }

-- what an update of a member changes
abbrev pub member_change : Info → UpdateKind → ActionProfileMember → ProfileChange
member_change info kinds.Insert member = profile_changes.InsertMember (member_by info member)
member_change info kinds.Modify member = profile_changes.ModifyMember (member_by info member)
member_change info kinds.Delete member = profile_changes.DeleteMember member.action_profile_id member.member_id

-- U2 on a group: an INSERT or MODIFY has a member that is to be watched
abbrev pub is_unserved_group : UpdateKind → ActionProfileGroup → Bool
is_unserved_group kind group = brings kind && list_any (λ member. is_watched member.watch member.watch_port) group.members

-- U6 on a group: its id or that of a member is 0
abbrev pub has_zero : ActionProfileGroup → Bool
has_zero group = (group.group_id == 0) || list_any (λ member. member.member_id == 0) group.members

-- U9 on a group of a profile: it has a selector, there are at most 256 members, each named once, and each with a weight
abbrev pub is_right_group : ActionProfile → ActionProfileGroup → Bool
is_right_group profile group =
    profile.with_selector
    && nat_le (length group.members) 256
    && not (repeats (map (λ member. member.member_id) group.members))
    && list_all (λ member. is_weight member.weight) group.members

-- the code with which U9 refuses a group that an update brings, if it does
abbrev pub group_flaw : Option ActionProfile → UpdateKind → ActionProfileGroup → Option Code
group_flaw None kind group = None
group_flaw (Some profile) kind group = if brings kind && not (is_right_group profile group) then Some codes.InvalidArgument else None

-- the first rule of U2 to U9 that an update of a group breaks, of this profile
unfoldable pub group_cause : Option (List ℕ) → UpdateKind → ActionProfileGroup → Option ActionProfile → Option Cause
group_cause scope kind group profile =
    if is_unserved_group kind group then caused rules.U2 codes.Unimplemented else
    if is_none profile then caused rules.U3 codes.NotFound else
    if is_foreign scope group.action_profile_id then caused rules.U4 codes.PermissionDenied else
    if has_zero group then caused rules.U6 codes.InvalidArgument else
    caused_by rules.U9 (group_flaw profile kind group)

-- the share of a member of a group
abbrev pub share_by : messages.Member → Share
share_by member = record { member = member.member_id; weight = natural member.weight }

-- the group that an update brings; what it says of its greatest size is not kept
abbrev pub group_by : ActionProfileGroup → Group
group_by group = record { profile = group.action_profile_id; id = group.group_id; shares = map share_by group.members }

-- what an update of a group changes
abbrev pub group_change : UpdateKind → ActionProfileGroup → ProfileChange
group_change kinds.Insert group = profile_changes.InsertGroup (group_by group)
group_change kinds.Modify group = profile_changes.ModifyGroup (group_by group)
group_change kinds.Delete group = profile_changes.DeleteGroup group.action_profile_id group.group_id

-- a number that is not negative
abbrev pub is_natural : ℤ → Bool
is_natural (pos n) = true
is_natural (negsuc n) = false

-- how many samples a list may have: 0 to 256
abbrev pub is_list_size : ℤ → Bool
is_list_size (pos n) = nat_le n 256
is_list_size (negsuc n) = false

-- U9 on a digest entry that an update brings: times that are not negative, and the size of a list
abbrev pub is_right_digest : DigestConfig → Bool
is_right_digest config = is_natural config.max_timeout_ns && is_natural config.ack_timeout_ns && is_list_size config.max_list_size

-- the code with which U9 refuses it, if it does
abbrev pub digest_flaw : UpdateKind → DigestEntry → Option Code
digest_flaw kind entry = if brings kind && not (is_right_digest entry.config) then Some codes.InvalidArgument else None

-- the first rule of U3 to U9 that an update of a digest entry breaks
unfoldable pub digest_cause : Info → Option (List ℕ) → UpdateKind → DigestEntry → Option Cause
digest_cause info scope kind entry =
    if is_none (digest_of entry.digest_id info) then caused rules.U3 codes.NotFound else
    if is_foreign scope entry.digest_id then caused rules.U4 codes.PermissionDenied else
    caused_by rules.U9 (digest_flaw kind entry)

-- what an update of a digest entry changes
abbrev pub digest_change : UpdateKind → DigestEntry → DigestChange
digest_change kinds.Insert entry = digest_changes.Insert entry
digest_change kinds.Modify entry = digest_changes.Modify entry
digest_change kinds.Delete entry = digest_changes.Delete entry.digest_id

-- an update of a member: the first rule of U3 to U9 that it breaks, or what it changes
abbrev pub member_resolution : Info → Option (List ℕ) → UpdateKind → ActionProfileMember → Result Change Cause
member_resolution info scope kind member =
    change_unless (member_cause info scope kind member (action_profile_of member.action_profile_id info)) (changes.Profile (member_change info kind member))

-- the same of a group, from U2 on
abbrev pub group_resolution : Info → Option (List ℕ) → UpdateKind → ActionProfileGroup → Result Change Cause
group_resolution info scope kind group =
    change_unless (group_cause scope kind group (action_profile_of group.action_profile_id info)) (changes.Profile (group_change kind group))

-- the same of a digest entry
abbrev pub digest_resolution : Info → Option (List ℕ) → UpdateKind → DigestEntry → Result Change Cause
digest_resolution info scope kind entry = change_unless (digest_cause info scope kind entry) (changes.Digest (digest_change kind entry))
