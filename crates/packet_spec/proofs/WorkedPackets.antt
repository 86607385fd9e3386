-- The worked packets, computed.
use Rattle.std.proofs.Common.{refl}
use Rattle.packet_spec.specs.Worked.{RouterForwards, RouterDrops, RouterWraps, LabLearns, LabTakesFirst, GroupChoosesFirst, GroupChoosesSecond, SetChoosesSecond, ShortFrameLeaves, ControllerIsTold, ControllerHeaderTooShort, LongerLeaves, LongestLeaves, TooLongIsDropped, FloodCopies, AbsentGroupDrops}
use Rattle.packet_spec.specs.Meaning.{meaning}
use Rattle.packet_spec.specs.Choosing.{found, acts, fnv, selector_bytes}
use Rattle.packet_spec.specs.Programs.{router, lab}
use Rattle.plane_spec.specs.Bridge.{bridge_program, bridge_info}
use Rattle.plane_spec.specs.Entries.{best}
use Rattle.program_spec.specs.Actions.{action_done}
use Rattle.program_spec.specs.Checksums.{csum16, sums_verified, sums_updated}
use Rattle.program_spec.specs.Deparsing.{deparsed}
use Rattle.program_spec.specs.Parsing.{parse, taken}
use Rattle.canon_bytes.specs.Bits.{bits, num}
use Rattle.canon_bytes.specs.ByteString.{canon}

pub router_forwards : RouterForwards
unfolding meaning found acts fnv selector_bytes router lab bridge_program bridge_info best action_done csum16 sums_verified sums_updated deparsed parse taken bits num canon
router_forwards = refl

pub router_drops : RouterDrops
unfolding meaning found acts fnv selector_bytes router lab bridge_program bridge_info best action_done csum16 sums_verified sums_updated deparsed parse taken bits num canon
router_drops = refl

pub router_wraps : RouterWraps
unfolding meaning found acts fnv selector_bytes router lab bridge_program bridge_info best action_done csum16 sums_verified sums_updated deparsed parse taken bits num canon
router_wraps = refl

pub lab_learns : LabLearns
unfolding meaning found acts fnv selector_bytes router lab bridge_program bridge_info best action_done csum16 sums_verified sums_updated deparsed parse taken bits num canon
lab_learns = refl

pub lab_takes_first : LabTakesFirst
unfolding meaning found acts fnv selector_bytes router lab bridge_program bridge_info best action_done csum16 sums_verified sums_updated deparsed parse taken bits num canon
lab_takes_first = refl

pub group_chooses_first : GroupChoosesFirst
unfolding meaning found acts fnv selector_bytes router lab bridge_program bridge_info best action_done csum16 sums_verified sums_updated deparsed parse taken bits num canon
group_chooses_first = refl

pub group_chooses_second : GroupChoosesSecond
unfolding meaning found acts fnv selector_bytes router lab bridge_program bridge_info best action_done csum16 sums_verified sums_updated deparsed parse taken bits num canon
group_chooses_second = refl

pub set_chooses_second : SetChoosesSecond
unfolding meaning found acts fnv selector_bytes router lab bridge_program bridge_info best action_done csum16 sums_verified sums_updated deparsed parse taken bits num canon
set_chooses_second = refl

pub short_frame_leaves : ShortFrameLeaves
unfolding meaning found acts fnv selector_bytes router lab bridge_program bridge_info best action_done csum16 sums_verified sums_updated deparsed parse taken bits num canon
short_frame_leaves = refl

pub controller_is_told : ControllerIsTold
unfolding meaning found acts fnv selector_bytes router lab bridge_program bridge_info best action_done csum16 sums_verified sums_updated deparsed parse taken bits num canon
controller_is_told = refl

pub controller_header_too_short : ControllerHeaderTooShort
unfolding meaning found acts fnv selector_bytes router lab bridge_program bridge_info best action_done csum16 sums_verified sums_updated deparsed parse taken bits num canon
controller_header_too_short = refl

pub longer_leaves : LongerLeaves
unfolding meaning found acts fnv selector_bytes router lab bridge_program bridge_info best action_done csum16 sums_verified sums_updated deparsed parse taken bits num canon
longer_leaves = refl

pub longest_leaves : LongestLeaves
unfolding meaning found acts fnv selector_bytes router lab bridge_program bridge_info best action_done csum16 sums_verified sums_updated deparsed parse taken bits num canon
longest_leaves = refl

pub too_long_is_dropped : TooLongIsDropped
unfolding meaning found acts fnv selector_bytes router lab bridge_program bridge_info best action_done csum16 sums_verified sums_updated deparsed parse taken bits num canon
too_long_is_dropped = refl

pub flood_copies : FloodCopies
unfolding meaning found acts fnv selector_bytes router lab bridge_program bridge_info best action_done csum16 sums_verified sums_updated deparsed parse taken bits num canon
flood_copies = refl

pub absent_group_drops : AbsentGroupDrops
unfolding meaning found acts fnv selector_bytes router lab bridge_program bridge_info best action_done csum16 sums_verified sums_updated deparsed parse taken bits num canon
absent_group_drops = refl
