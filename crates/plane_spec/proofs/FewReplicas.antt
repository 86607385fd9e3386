-- Through any events that may follow one another no multicast group has more replicas than it may have.
use Rattle.std.proofs.Common.{◌≡◌, ℕ, zero, suc, ◌≤◌, ◌&&◌, Bool, true, false, cond, eqb, leb, ltb, not, List, [], ◌∷◌, ◌++◌, fold, length, take, Option, Some, None, IfSome, is_some, Result, Ok, Err, refl, subst, arith}
use Rattle.std.specs.List.{All, filter, list_all}
use Rattle.std.proofs.lemmas.Bool.Decides.{nat_tests}
use Rattle.std.proofs.lemmas.List.Elements.{All-nil, All-cons, All-append, All-filter}
use Rattle.p4_types.specs.declared.code.Cause.{Cause}
use Rattle.p4_types.specs.declared.code.Code.{Code}
use Rattle.p4_types.specs.declared.code.Rule.{Rule}
use Rattle.p4_types.specs.declared.events.Committed.TheVariants as contents
use Rattle.p4_types.specs.declared.events.Event.TheVariants as events
use Rattle.p4_types.specs.declared.events.Origin.{Origin}
use Rattle.p4_types.specs.declared.events.Start.{Start}
use Rattle.p4_types.specs.declared.info.Info.{Info}
use Rattle.p4_types.specs.declared.info.Table.{Table}
use Rattle.p4_types.specs.declared.messages.Entity.TheVariants as entities
use Rattle.p4_types.specs.declared.messages.Entity.{Entity}
use Rattle.p4_types.specs.declared.messages.MulticastGroupEntry.{MulticastGroupEntry}
use Rattle.p4_types.specs.declared.messages.Replica.{Replica}
use Rattle.p4_types.specs.declared.messages.Update.{Update}
use Rattle.p4_types.specs.declared.multicast.MulticastChange.TheVariants as multicast_changes
use Rattle.p4_types.specs.declared.multicast.MulticastChange.{MulticastChange}
use Rattle.p4_types.specs.declared.multicast.MulticastGroup.{MulticastGroup}
use Rattle.p4_types.specs.declared.profiles.ProfileChange.TheVariants as profile_changes
use Rattle.p4_types.specs.declared.profiles.ProfileChange.{ProfileChange}
use Rattle.p4_types.specs.declared.table.Change.TheVariants as changes
use Rattle.p4_types.specs.declared.table.Change.{Change}
use Rattle.p4_types.specs.declared.table.EntryChange.{EntryChange}
use Rattle.p4_types.specs.declared.table.EntryName.{EntryName}
use Rattle.p4_types.specs.declared.table.Room.{Room}
use Rattle.p4_types.specs.declared.table.UpdateKind.TheVariants as kinds
use Rattle.p4_types.specs.declared.table.UpdateKind.{UpdateKind}
use Rattle.plane_spec.specs.Bridge.{bridge_config}
use Rattle.plane_spec.specs.Config.{Committed, Event}
use Rattle.plane_spec.specs.Legal.{MayChange, MayChanges, MayCommit, May, Legal}
use Rattle.plane_spec.specs.Multicast.{replica_limit, with_multicast, multicast_changed, is_replica, repeats_replica, are_replicas, is_multicast_id, multicast_flaw, multicast_cause, multicast_change, replication_resolution}
use Rattle.plane_spec.specs.Objects.{table_of}
use Rattle.plane_spec.specs.PlaneLaws.{HasFewReplicas}
use Rattle.plane_spec.specs.Planes.{ControlState, Plane, or_else, target, with_target, inserted_in, profile_changed, changed, changed_unless, changed_in, change_applied, made_plane, staged_committed, committed, apply, applied, opened, after, change_cause, room_of, checked, outcome_in, outcome}
use Rattle.plane_spec.specs.ProfileRules.{member_change, group_change, digest_change}
use Rattle.plane_spec.specs.UpdateRules.{brings, caused, caused_by, change_unless, change_by, entry_change, entry_cause, given_call}
use Rattle.plane_spec.specs.Updates.{entity_resolution, resolution_by, resolution}

-- ---- What an update changes

-- a multicast group that a change brings has few replicas
abbrev BringsFew : MulticastChange → Type 0
BringsFew (multicast_changes.Insert group) = length group.replicas ≤ replica_limit
BringsFew (multicast_changes.Modify group) = length group.replicas ≤ replica_limit
BringsFew (multicast_changes.Delete id) = Unit {0}

abbrev IsFew : Change → Type 0
IsFew (changes.Multicast change) = BringsFew change
IsFew (changes.InsertEntry change) = Unit {0}
IsFew (changes.ModifyEntry change) = Unit {0}
IsFew (changes.DeleteEntry name) = Unit {0}
IsFew (changes.ModifyDefault table action) = Unit {0}
IsFew (changes.Profile change) = Unit {0}
IsFew (changes.Digest change) = Unit {0}

unless_is : (o : Option Cause) (x change : Change) → change_unless o x ≡ Ok change → (o ≡ None → IsFew x) → IsFew change
unless_is None x change is few = let same : x ≡ change = cc in subst IsFew same (few refl)
unless_is (Some cause) x change is few = absurd (cc)

by_kind : (kind : UpdateKind) (change : EntryChange) → IsFew (change_by kind change)
by_kind kinds.Insert change = tt
by_kind kinds.Modify change = tt
by_kind kinds.Delete change = tt

either_entry : (b : Bool) (x y : Change) → IsFew x → IsFew y → IsFew (cond b x y)
either_entry true x y one other = one
either_entry false x y one other = other

first_of_three : (a b c : Bool) → (a && b && c) ≡ true → a ≡ true
first_of_three true b c h = refl
first_of_three false b c h = absurd (cc)

within : (n : ℕ) → leb n replica_limit ≡ true → n ≤ replica_limit
within n h = grind (arith, nat_tests)

not_flawed : (right : Bool) (code : Code) → cond (not right) (Some code) None ≡ None → right ≡ true
not_flawed true code h = refl
not_flawed false code h = absurd (cc)

no_code : (rule : Rule) (flaw : Option Code) → caused_by rule flaw ≡ None → flaw ≡ None
no_code rule None h = refl
no_code rule (Some code) h = absurd (cc)

no_earlier : (a b : Bool) (x y : Cause) (o : Option Cause) → cond a (Some x) (cond b (Some y) o) ≡ None → o ≡ None
no_earlier true b x y o h = absurd (cc)
no_earlier false true x y o h = absurd (cc)
no_earlier false false x y o h = h

few_replicas : (replicas : List Replica) → are_replicas replicas ≡ true → length replicas ≤ replica_limit
few_replicas replicas right = within (length replicas) (first_of_three (leb (length replicas) replica_limit) (list_all is_replica replicas) (not (repeats_replica replicas)) right)

flaw_limits : (kind : UpdateKind) (entry : MulticastGroupEntry) → multicast_flaw kind entry ≡ None → brings kind ≡ true → length entry.replicas ≤ replica_limit
flaw_limits kinds.Insert entry none brought = few_replicas entry.replicas (not_flawed (are_replicas entry.replicas) _ none)
flaw_limits kinds.Modify entry none brought = few_replicas entry.replicas (not_flawed (are_replicas entry.replicas) _ none)
flaw_limits kinds.Delete entry none brought = absurd (cc)

-- what an update brings that breaks no rule has few replicas
pub cause_limits : (scope : Option (List ℕ)) (kind : UpdateKind) (entry : MulticastGroupEntry) → multicast_cause scope kind entry ≡ None → brings kind ≡ true → length entry.replicas ≤ replica_limit
unfolding multicast_cause
cause_limits scope kind entry none =
    flaw_limits kind entry (no_code _ (multicast_flaw kind entry) (no_earlier (is_some scope) (not (is_multicast_id entry.multicast_group_id)) _ _ _ none))

brought_few : (kind : UpdateKind) (entry : MulticastGroupEntry) → (brings kind ≡ true → length entry.replicas ≤ replica_limit) → BringsFew (multicast_change kind entry)
brought_few kinds.Insert entry few = few refl
brought_few kinds.Modify entry few = few refl
brought_few kinds.Delete entry few = tt

replication_few : (scope : Option (List ℕ)) (kind : UpdateKind) (entry : Option MulticastGroupEntry) (change : Change) → replication_resolution scope kind entry ≡ Ok change → IsFew change
replication_few scope kind None change is = absurd (cc)
replication_few scope kind (Some entry) change is = unless_is (multicast_cause scope kind entry) (changes.Multicast (multicast_change kind entry)) change is (λ none. brought_few kind entry (cause_limits scope kind entry none))

entity_few : (info : Info) (scope : Option (List ℕ)) (kind : UpdateKind) (entity : Entity) (change : Change) → entity_resolution info scope kind entity ≡ Ok change → IsFew change
entity_few info scope kind (entities.TableEntry entry) change is =
    unless_is (entry_cause info scope kind entry (table_of entry.table_id info)) (entry_change info (table_of entry.table_id info) kind entry) change is
    (λ none. either_entry entry.is_default_action (changes.ModifyDefault entry.table_id (given_call info entry.action)) _ tt (by_kind kind _))
entity_few info scope kind (entities.ActionProfileMember member) change is = unless_is _ (changes.Profile (member_change info kind member)) change is (λ none. tt)
entity_few info scope kind (entities.ActionProfileGroup group) change is = unless_is _ (changes.Profile (group_change kind group)) change is (λ none. tt)
entity_few info scope kind (entities.PacketReplicationEngineEntry entry) change is = replication_few scope kind entry.multicast_group_entry change is
entity_few info scope kind (entities.DigestEntry entry) change is = unless_is _ (changes.Digest (digest_change kind entry)) change is (λ none. tt)
entity_few info scope kind (entities.CounterEntry entry) change is = absurd (cc)
entity_few info scope kind (entities.DirectCounterEntry entry) change is = absurd (cc)
entity_few info scope kind (entities.Other number) change is = absurd (cc)

by_few : (info : Info) (scope : Option (List ℕ)) (kind : Option UpdateKind) (entity : Option Entity) (change : Change) → resolution_by info scope kind entity ≡ Ok change → IsFew change
by_few info scope (Some kind) (Some entity) change is = entity_few info scope kind entity change is
by_few info scope (Some kind) None change is = absurd (cc)
by_few info scope None entity change is = absurd (cc)

resolved_few : (info : Info) (scope : Option (List ℕ)) (update : Update) (change : Change) → resolution info scope update ≡ Ok change → IsFew change
unfolding resolution
resolved_few info scope update change is = by_few info scope _ update.entity change is

checked_few : (r : Result Change Cause) (room : Room) (plane : Plane) (change : Change) → checked room plane r ≡ Ok change → ((made : Change) → r ≡ Ok made → IsFew made) → IsFew change
checked_few (Err cause) room plane change is few = absurd (cc)
checked_few (Ok made) room plane change is few = unless_is (change_cause room plane made) made change is (λ none. few made refl)

in_few : (o : Option Plane) (c : ControlState) (role : ℕ) (update : Update) (change : Change) → outcome_in o c role update ≡ Ok change → IsFew change
in_few None c role update change is = absurd (cc)
in_few (Some plane) c role update change is = checked_few _ (room_of c) plane change is (λ made made_is. resolved_few plane.config.info _ update made made_is)

may_few : (c : ControlState) (by : Origin) (change : Change) → MayChange c by change → IsFew change
unfolding outcome
may_few c by change may = in_few (target c) c by.role may.update change may.no_cause

-- ---- What a change leaves

-- both planes have few replicas, where they are there
record AreFew (active staged : Option Plane) : Type 0 where
  in_active : IfSome active HasFewReplicas
  in_staged : IfSome staged HasFewReplicas

abbrev IsFewControl : ControlState → Type 0
IsFewControl c = AreFew c.active c.staged

either_few : (active staged : Option Plane) → AreFew active staged → IfSome (or_else staged active) HasFewReplicas
either_few active None h = h.in_active
either_few active (Some plane) h = h.in_staged

put_few : (b : Bool) (c : ControlState) (plane : Plane) → IsFewControl c → HasFewReplicas plane → IsFewControl (cond b (record c { staged = Some plane }) (record c { active = Some plane }))
put_few true c plane h own = record { in_active = h.in_active; in_staged = own }
put_few false c plane h own = record { in_active = own; in_staged = h.in_staged }

target_few : (c : ControlState) (plane : Plane) → IsFewControl c → HasFewReplicas plane → IsFewControl (with_target c plane)
target_few c plane h own = put_few (is_some c.staged) c plane h own

inserted_few : (o : Option Table) (c : ControlState) (plane : Plane) (change : EntryChange) → IsFewControl c → HasFewReplicas plane → IsFewControl (inserted_in o c plane change)
inserted_few None c plane change h own = h
inserted_few (Some table) c plane change h own = put_few (is_some c.staged) c _ h own

profile_few : (change : ProfileChange) (plane : Plane) → HasFewReplicas plane → HasFewReplicas (profile_changed plane change)
profile_few (profile_changes.InsertMember member) plane own = own
profile_few (profile_changes.ModifyMember member) plane own = own
profile_few (profile_changes.DeleteMember profile id) plane own = own
profile_few (profile_changes.InsertGroup group) plane own = own
profile_few (profile_changes.ModifyGroup group) plane own = own
profile_few (profile_changes.DeleteGroup profile id) plane own = own

with_few : (group : MulticastGroup) (groups : List MulticastGroup) → length group.replicas ≤ replica_limit → All (λ g. length g.replicas ≤ replica_limit) groups
    → All (λ g. length g.replicas ≤ replica_limit) (with_multicast group groups)
with_few group groups new old =
    let P : MulticastGroup → Type 0 = λ g. length g.replicas ≤ replica_limit in
    let low : MulticastGroup → Bool = λ g. ltb g.id group.id in
    let high : MulticastGroup → Bool = λ g. ltb group.id g.id in
    All-append P (filter low groups) (group ∷ filter high groups) (All-filter low P groups old) (All-cons P group (filter high groups) new (All-filter high P groups old))

multicast_few : (change : MulticastChange) (groups : List MulticastGroup) → BringsFew change → All (λ g. length g.replicas ≤ replica_limit) groups
    → All (λ g. length g.replicas ≤ replica_limit) (multicast_changed groups change)
multicast_few (multicast_changes.Insert group) groups new old = with_few group groups new old
multicast_few (multicast_changes.Modify group) groups new old = with_few group groups new old
multicast_few (multicast_changes.Delete id) groups new old = All-filter (λ (g : MulticastGroup). not (eqb g.id id)) (λ g. length g.replicas ≤ replica_limit) groups old

changed_few : (change : Change) (c : ControlState) (plane : Plane) → IsFew change → IsFewControl c → HasFewReplicas plane → IsFewControl (changed c plane change)
changed_few (changes.InsertEntry change) c plane new h own = inserted_few (table_of change.name.table plane.config.info) c plane change h own
changed_few (changes.ModifyEntry change) c plane new h own = target_few c _ h own
changed_few (changes.DeleteEntry name) c plane new h own = target_few c _ h own
changed_few (changes.ModifyDefault table action) c plane new h own = target_few c _ h own
changed_few (changes.Profile change) c plane new h own = target_few c _ h (profile_few change plane own)
changed_few (changes.Digest change) c plane new h own = target_few c _ h own
changed_few (changes.Multicast change) c plane new h own = target_few c _ h (multicast_few change plane.multicast new own)

unless_few : (o : Option Cause) (change : Change) (c : ControlState) (plane : Plane) → IsFew change → IsFewControl c → HasFewReplicas plane → IsFewControl (changed_unless o c plane change)
unless_few None change c plane new h own = changed_few change c plane new h own
unless_few (Some cause) change c plane new h own = h

changed_in_few : (o : Option Plane) (change : Change) (c : ControlState) → IsFew change → IsFewControl c → IfSome o HasFewReplicas → IsFewControl (changed_in o c change)
changed_in_few None change c new h own = h
changed_in_few (Some plane) change c new h own = unless_few _ change c plane new h own

change_few : (change : Change) (c : ControlState) → IsFew change → IsFewControl c → IsFewControl (change_applied c change)
unfolding change_applied
change_few change c new h = changed_in_few (target c) change c new h (either_few c.active c.staged h)

changes_few : (list : List Change) (c : ControlState) (by : Origin) → MayChanges c by list → IsFewControl c → IsFewControl (fold change_applied c list)
changes_few [] c by may h = h
changes_few (change ∷ list) c by may h = changes_few list (change_applied c change) by may.1 (change_few change c (may_few c by change may.0) h)

-- ---- What an event leaves

staged_few : (o : Option Plane) (c : ControlState) → IsFewControl c → IfSome o HasFewReplicas → IsFewControl (staged_committed o c)
staged_few None c h own = h
staged_few (Some plane) c h own = record { in_active = own; in_staged = tt }

no_groups : All (λ (g : MulticastGroup). length g.replicas ≤ replica_limit) []
no_groups = All-nil (λ (g : MulticastGroup). length g.replicas ≤ replica_limit)

commit_few : (content : Committed) (c : ControlState) → IsFewControl c → IsFewControl (committed c content)
commit_few contents.Staged c h = staged_few c.staged c h h.in_staged
commit_few (contents.Fresh config) c h = record { in_active = no_groups; in_staged = tt }

event_few : (event : Event) (c : ControlState) → IsFewControl c → May c event → IsFewControl (apply c event)
event_few (events.Arbitrate by config) c h may = h
event_few (events.Leave caller call) c h may = h
event_few (events.Change by change) c h may = change_few change c (may_few c by change may.1) h
event_few (events.Batch by list) c h may = changes_few list c by may.3 h
event_few (events.Save by config) c h may = record { in_active = h.in_active; in_staged = no_groups }
event_few (events.Commit by content) c h may = commit_few content c h
event_few events.Close c h may = h

events_few : (list : List Event) (c : ControlState) → IsFewControl c → Legal c list → IsFewControl (applied c list)
events_few [] c h legal = h
events_few (event ∷ list) c h legal = events_few list (apply c event) (event_few event c h legal.0) legal.1

-- behind the first events of a list
few_behind : (list : List Event) (n : ℕ) (c : ControlState) → IsFewControl c → Legal c list → IsFewControl (applied c (take n list))
few_behind list zero c h legal = h
few_behind [] (suc n) c h legal = h
few_behind (event ∷ list) (suc n) c h legal = few_behind list n (apply c event) (event_few event c h legal.0) legal.1

-- at the start there is no multicast group
first_few : (bridge : Bool) → IfSome (cond bridge (Some (made_plane 0 bridge_config)) None) HasFewReplicas
first_few true = no_groups
first_few false = tt

-- behind any events that may follow one another
pub replicas_stay_few : (start : Start) (list : List Event) → Legal (opened start) list
    → IfSome (applied (opened start) list).active HasFewReplicas × IfSome (applied (opened start) list).staged HasFewReplicas
replicas_stay_few start list legal =
    let few = events_few list (opened start) (record { in_active = first_few start.bridge; in_staged = tt }) legal in
    (few.in_active, few.in_staged)

pub few_after : (start : Start) (list : List Event) (n : ℕ) → Legal (opened start) list → IfSome (after start list n).active HasFewReplicas
few_after start list n legal = (few_behind list n (opened start) (record { in_active = first_few start.bridge; in_staged = tt }) legal).in_active
