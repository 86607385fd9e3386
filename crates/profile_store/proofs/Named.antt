-- What is named is named at least once.
use Rattle.std.proofs.Common.{◌≡◌, ℕ, suc, zero, ◌≤◌, true, cond, List, length, ap, ◌∙◌, arith}
use Rattle.std.specs.Prelude.{◌==◌, count_by}
use Rattle.p4_types.specs.declared.profiles.Group.{Group}
use Rattle.p4_types.specs.declared.profiles.Share.{Share}
use Rattle.p4_types.specs.declared.table.EntryAction.{EntryAction}
use Rattle.p4_types.specs.declared.table.EntryAction.TheVariants as entry_actions
use Rattle.p4_types.specs.declared.table.WeightedCall.{WeightedCall}
use Rattle.plane_spec.specs.Profiles.{names_member, names_group, set_size, shares_of}
use Rattle.profile_store.specs.Rows.{RowVersions, uses_of_member, uses_of_group, actions_of}
use Rattle.profile_store.proofs.Keys.{pairs, numbers}

pub member_named : (action : EntryAction) (profile id : ℕ) (inside seen : RowVersions) → action ≡ entry_actions.Member profile id → inside ≡ seen
    → ((p i : ℕ) → cond (names_member p i action) 1 0 ≤ uses_of_member p i seen.now) → 1 ≤ uses_of_member profile id inside.now
member_named action profile id inside seen is view h =
    let named : names_member profile id action ≡ true = ap (names_member profile id) is ∙ pairs.itself (profile, id) in
    let one : cond (names_member profile id action) 1 0 ≡ suc zero = ap (λ b. cond b 1 0) named in
    let same : uses_of_member profile id inside.now ≡ uses_of_member profile id seen.now = ap (λ (v : RowVersions). uses_of_member profile id v.now) view in
    omega (arith, h profile id, one, same)

pub group_named : (action : EntryAction) (profile id : ℕ) (inside seen : RowVersions) → action ≡ entry_actions.Group profile id → inside ≡ seen
    → ((p i : ℕ) → cond (names_group p i action) 1 0 ≤ uses_of_group p i seen.now) → 1 ≤ uses_of_group profile id inside.now
group_named action profile id inside seen is view h =
    let named : names_group profile id action ≡ true = ap (names_group profile id) is ∙ pairs.itself (profile, id) in
    let one : cond (names_group profile id action) 1 0 ≡ suc zero = ap (λ b. cond b 1 0) named in
    let same : uses_of_group profile id inside.now ≡ uses_of_group profile id seen.now = ap (λ (v : RowVersions). uses_of_group profile id v.now) view in
    omega (arith, h profile id, one, same)

pub set_named : (action : EntryAction) (profile : ℕ) (calls : List WeightedCall) (inside seen : RowVersions) → action ≡ entry_actions.Set profile calls → inside ≡ seen
    → ((p : ℕ) → set_size p action ≤ actions_of p seen.now) → length calls ≤ actions_of profile inside.now
set_named action profile calls inside seen is view h =
    let size : set_size profile action ≡ length calls = ap (set_size profile) is ∙ ap (λ b. cond b (length calls) 0) (numbers.itself profile) in
    let same : actions_of profile inside.now ≡ actions_of profile seen.now = ap (λ (v : RowVersions). actions_of profile v.now) view in
    omega (arith, h profile, size, same)

pub shares_named : (group : Group) (shares : List Share) (inside seen : RowVersions) → shares ≡ group.shares → inside ≡ seen → ((p i : ℕ) → shares_of p i group ≤ uses_of_member p i seen.now)
    → (p i : ℕ) → cond (group.profile == p) (count_by (λ share. share.member == i) shares) 0 ≤ uses_of_member p i inside.now
shares_named group shares inside seen is view h p i =
    let all : cond (group.profile == p) (count_by (λ share. share.member == i) shares) 0 ≡ shares_of p i group = ap (λ (list : List Share). cond (group.profile == p) (count_by (λ share. share.member == i) list) 0) is in
    let same : uses_of_member p i inside.now ≡ uses_of_member p i seen.now = ap (λ (v : RowVersions). uses_of_member p i v.now) view in
    omega (arith, h p i, all, same)
