-- Rules that are asked in another order than that in which they refuse, and in another form.
use Rattle.std.specs.Prelude.{ℕ, Option, Some, None, is_some}
use Rattle.p4_types.specs.declared.code.Cause.{Cause}
use Rattle.p4_types.specs.declared.info.ActionProfile.{ActionProfile}
use Rattle.p4_types.specs.declared.info.Table.{Table}
use Rattle.p4_types.specs.declared.table.EntryChange.{EntryChange}
use Rattle.plane_spec.specs.Entries.{entry_named}
use Rattle.plane_spec.specs.Planes.{Plane, or_cause, if_present, if_in_use, if_full, lacks_use, set_exceeds}

-- a cause that is asked only where there is a later one, and comes before that
abbrev pub first_of : Option Cause → Option Cause → Option Cause
first_of None earlier = None
first_of (Some cause) earlier = or_cause earlier (Some cause)

-- why an INSERT into a table that there is is refused, where its action names or needs what it may not
abbrev pub insert_use_cause : Option Table → Plane → EntryChange → Option Cause
insert_use_cause None plane change = None
insert_use_cause (Some table) plane change =
    first_of (or_cause (if_in_use (lacks_use plane change.action)) (if_full (set_exceeds plane None change.action))) (if_present (is_some (entry_named change.name plane.entries)))

-- how much the weights of a group or a one-shot set of a profile may be together; 0 is no limit
abbrev pub weight_limit : Option ActionProfile → ℕ
weight_limit None = 0
weight_limit (Some profile) = profile.max_group_size
