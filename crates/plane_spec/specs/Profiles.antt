-- Members and groups of action profiles, and who names them (P4Runtime 1.3.0, "ActionProfileMember & ActionProfileGroup", "One Shot Action Selector Programming"; what may stand together, and what takes rows: this project's profile).
use Rattle.std.specs.Prelude.{ℕ, ◌+◌, ◌==◌, ◌&&◌, ◌||◌, not, nat_lt, Bool, false, if◌then◌else◌, List, ◌∷◌, ◌++◌, length, map, filter, find, count_by, sum_by, Option, Some, None}
use Rattle.p4_types.specs.declared.info.ActionProfile.{ActionProfile}
use Rattle.p4_types.specs.declared.profiles.Group.{Group}
use Rattle.p4_types.specs.declared.profiles.Member.{Member}
use Rattle.p4_types.specs.declared.profiles.Share.{Share}
use Rattle.p4_types.specs.declared.table.Entry.{Entry}
use Rattle.p4_types.specs.declared.table.EntryAction.{EntryAction}
use Rattle.p4_types.specs.declared.table.EntryAction.TheVariants as entry_actions
use Rattle.p4_types.specs.declared.table.WeightedCall.{WeightedCall}

-- whether two ids of members or of groups, each in its profile, are the same
abbrev pub same_id : ℕ → ℕ → ℕ → ℕ → Bool
same_id profile id other_profile other = (other_profile == profile) && (other == id)

-- an id stands before another: its profile's is lower, or it is lower in the same profile
abbrev pub stands_before : ℕ → ℕ → ℕ → ℕ → Bool
stands_before profile id other_profile other = nat_lt profile other_profile || (profile == other_profile) && nat_lt id other

-- the member of this profile and id, if there is one
abbrev pub member_of : ℕ → ℕ → List Member → Option Member
member_of profile id members = find (λ member. same_id profile id member.profile member.id) members

-- the group of this profile and id, if there is one
abbrev pub group_of : ℕ → ℕ → List Group → Option Group
group_of profile id groups = find (λ group. same_id profile id group.profile group.id) groups

-- Members stand by rising profile and id: a new one stands behind those before it.
unfoldable pub member_inserted : Member → List Member → List Member
member_inserted member members =
    filter (λ other. stands_before other.profile other.id member.profile member.id) members
    ++ member ∷ filter (λ other. not (stands_before other.profile other.id member.profile member.id)) members

-- the members after a MODIFY of the one of this profile and id
unfoldable pub member_modified : Member → List Member → List Member
member_modified member members = map (λ other. if same_id member.profile member.id other.profile other.id then member else other) members

-- the members after a DELETE of the one of this profile and id
unfoldable pub member_deleted : ℕ → ℕ → List Member → List Member
member_deleted profile id members = filter (λ other. not (same_id profile id other.profile other.id)) members

-- Groups stand in the same way.
unfoldable pub group_inserted : Group → List Group → List Group
group_inserted group groups =
    filter (λ other. stands_before other.profile other.id group.profile group.id) groups
    ++ group ∷ filter (λ other. not (stands_before other.profile other.id group.profile group.id)) groups

-- the groups after a MODIFY of the one of this profile and id
unfoldable pub group_modified : Group → List Group → List Group
group_modified group groups = map (λ other. if same_id group.profile group.id other.profile other.id then group else other) groups

-- the groups after a DELETE of the one of this profile and id
unfoldable pub group_deleted : ℕ → ℕ → List Group → List Group
group_deleted profile id groups = filter (λ other. not (same_id profile id other.profile other.id)) groups

-- whether an entry names a member
abbrev pub names_member : ℕ → ℕ → EntryAction → Bool
names_member profile id (entry_actions.Member own named) = same_id profile id own named
names_member profile id _ = false

-- whether an entry names a group
abbrev pub names_group : ℕ → ℕ → EntryAction → Bool
names_group profile id (entry_actions.Group own named) = same_id profile id own named
names_group profile id _ = false

-- how many of a group's shares are this member's
abbrev pub shares_of : ℕ → ℕ → Group → ℕ
shares_of profile id group = if group.profile == profile then count_by (λ share. share.member == id) group.shares else 0

-- how often a member is named: by entries, and by groups
abbrev pub member_uses : ℕ → ℕ → List Entry → List Group → ℕ
member_uses profile id entries groups = count_by (λ entry. names_member profile id entry.action) entries + sum_by (shares_of profile id) groups

-- how often a group is named by entries
abbrev pub group_uses : ℕ → ℕ → List Entry → ℕ
group_uses profile id entries = count_by (λ entry. names_group profile id entry.action) entries

-- how many actions of a one-shot set of this profile an entry has
abbrev pub set_size : ℕ → EntryAction → ℕ
set_size profile (entry_actions.Set own calls) = if own == profile then length calls else 0
set_size profile _ = 0

-- how many actions the one-shot sets of a profile have together
abbrev pub set_actions : ℕ → List Entry → ℕ
set_actions profile entries = sum_by (λ entry. set_size profile entry.action) entries

-- how many members a profile has
abbrev pub members_in : ℕ → List Member → ℕ
members_in profile members = count_by (λ member. member.profile == profile) members

-- how many groups a profile has
abbrev pub groups_in : ℕ → List Group → ℕ
groups_in profile groups = count_by (λ group. group.profile == profile) groups

-- how many members and actions of one-shot sets a profile may have; a size of 0 leaves the number to the switch, which takes 1,024
abbrev pub profile_size : Option ActionProfile → ℕ
profile_size None = 0
profile_size (Some profile) = if profile.size == 0 then 1024 else profile.size

-- Weights are more than a group or a one-shot set of the profile may have together. A limit of 0 is none.
abbrev pub is_overweight : Option ActionProfile → ℕ → Bool
is_overweight None weight = false
is_overweight (Some profile) weight = not (profile.max_group_size == 0) && nat_lt profile.max_group_size weight

-- the weights of a group together
abbrev pub weight_of : List Share → ℕ
weight_of shares = sum_by (λ share. share.weight) shares

-- the weights of a one-shot set together
abbrev pub set_weight : List WeightedCall → ℕ
set_weight calls = sum_by (λ action. action.weight) calls

-- how many rows an entry takes: one, and one for each action of its one-shot set
abbrev pub entry_rows : EntryAction → ℕ
entry_rows (entry_actions.Set profile calls) = 1 + length calls
entry_rows _ = 1

-- how many rows a group takes: one, and one for each member that it names
abbrev pub group_rows : Group → ℕ
group_rows group = 1 + length group.shares
