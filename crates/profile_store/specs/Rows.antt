-- The members and groups of action profiles as rows, with how often each is named.
use Rattle.std.specs.Prelude.{ℕ, ◌==◌, List, [], map, find, Option, Some, None}
use Rattle.p4_types.specs.declared.profiles.Group.{Group}
use Rattle.p4_types.specs.declared.profiles.Member.{Member}
use Rattle.plane_spec.specs.Profiles.{same_id}
use Rattle.profile_store.specs.declared.rows.GroupRow.{GroupRow}
use Rattle.profile_store.specs.declared.rows.MemberRow.{MemberRow}
use Rattle.profile_store.specs.declared.rows.SetCount.{SetCount}

-- the rows of members and of groups, and how many actions the one-shot sets of profiles have
pub record Rows : Type 0 where
  pub members : List MemberRow
  pub groups : List GroupRow
  pub sets : List SetCount

-- the rows as they are, and as they were before the changes that can be undone
pub record RowVersions : Type 0 where
  pub now : Rows
  pub before : Rows

-- the members of rows
abbrev pub members_of : Rows → List Member
members_of rows = map (λ row. row.member) rows.members

-- the groups of rows
abbrev pub groups_of : Rows → List Group
groups_of rows = map (λ row. row.group) rows.groups

-- how often the member of a row is named, if there is such a row
abbrev pub uses_of_row : Option MemberRow → ℕ
uses_of_row None = 0
uses_of_row (Some row) = row.uses

-- the row of the member of this profile and id, if there is one
abbrev pub member_row : ℕ → ℕ → List MemberRow → Option MemberRow
member_row profile id rows = find (λ row. same_id profile id row.member.profile row.member.id) rows

-- how often the member of this profile and id is named; one that is absent is not
abbrev pub uses_of_member : ℕ → ℕ → Rows → ℕ
uses_of_member profile id rows = uses_of_row (member_row profile id rows.members)

-- how often the group of a row is named, if there is such a row
abbrev pub uses_of_group_row : Option GroupRow → ℕ
uses_of_group_row None = 0
uses_of_group_row (Some row) = row.uses

-- the row of the group of this profile and id, if there is one
abbrev pub group_row : ℕ → ℕ → List GroupRow → Option GroupRow
group_row profile id rows = find (λ row. same_id profile id row.group.profile row.group.id) rows

-- how often the group of this profile and id is named; one that is absent is not
abbrev pub uses_of_group : ℕ → ℕ → Rows → ℕ
uses_of_group profile id rows = uses_of_group_row (group_row profile id rows.groups)

-- the count of a profile, if there is one
abbrev pub count_of : Option SetCount → ℕ
count_of None = 0
count_of (Some set) = set.actions

-- the count of a profile among these, if there is one
abbrev pub set_count : ℕ → List SetCount → Option SetCount
set_count profile sets = find (λ set. set.profile == profile) sets

-- how many actions the one-shot sets of a profile have together
abbrev pub actions_of : ℕ → Rows → ℕ
actions_of profile rows = count_of (set_count profile rows.sets)

-- no members, no groups, no one-shot sets
abbrev pub no_rows : Rows
no_rows = record { members = []; groups = []; sets = [] }
