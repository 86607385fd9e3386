-- An event that may follow can be taken.
use Rattle.std.proofs.Common.{◌≡◌, ◌≤◌, ◌+◌, ℕ, Bool, true, false, not, nat_lt, refl, ap, arith}
use Rattle.p4_types.specs.declared.events.Committed.TheVariants as contents
use Rattle.p4_types.specs.declared.events.Event.TheVariants as events
use Rattle.plane_spec.specs.Config.{Config, Committed, cells_in}
use Rattle.plane_spec.specs.Legal.{MayMake, MayCommit}
use Rattle.plane_spec.specs.Planes.{ControlState}
use Rattle.plane_image.proofs.Following.{accepted}
use Rattle.plane_image.specs.Taking.{has_slots, has_slots_in, MayIsTaken}
use Rattle.std.proofs.lemmas.Bool.Decides.{nat_tests}

-- at most the limit is not above it, and the other way round
pub not_above : (limit n : ℕ) → n ≤ limit → not (nat_lt limit n) ≡ true
not_above limit n h = grind (arith, nat_tests)

pub at_most : (limit n : ℕ) → not (nat_lt limit n) ≡ true → n ≤ limit
at_most limit n h = grind (arith, nat_tests)

pub not_false : (b : Bool) → not b ≡ true → b ≡ false
not_false true h = absurd cc
not_false false h = refl

made : (c : ControlState) (config : Config) → MayMake c config → has_slots c config ≡ true
made c config may = not_above c.slots (c.next_slot + cells_in config) may.slots

content_made : (c : ControlState) (content : Committed) → MayCommit c content → has_slots_in c content ≡ true
content_made c contents.Staged may = refl
content_made c (contents.Fresh config) may = made c config may

pub may_is_taken : MayIsTaken
may_is_taken c (events.Arbitrate by config) may = ap not (accepted c by config may.1)
may_is_taken c (events.Leave caller call) may = refl
may_is_taken c (events.Change by change) may = refl
may_is_taken c (events.Batch by list) may = refl
may_is_taken c (events.Save by config) may = made c config may.2
may_is_taken c (events.Commit by content) may = content_made c content may.2
may_is_taken c events.Close may = refl
