use Rattle.packet_spec.proofs.WorkedPackets as worked
use Rattle.packet_spec.proofs.laws.worked_packets.Goals as goal

pub returns : goal.returns
returns c = record {
  router_forwards = worked.router_forwards;
  router_drops = worked.router_drops;
  router_wraps = worked.router_wraps;
  lab_learns = worked.lab_learns;
  lab_takes_first = worked.lab_takes_first;
  group_chooses_first = worked.group_chooses_first;
  group_chooses_second = worked.group_chooses_second;
  set_chooses_second = worked.set_chooses_second;
  short_frame_leaves = worked.short_frame_leaves;
  controller_is_told = worked.controller_is_told;
  controller_header_too_short = worked.controller_header_too_short;
  longer_leaves = worked.longer_leaves;
  longest_leaves = worked.longest_leaves;
  too_long_is_dropped = worked.too_long_is_dropped;
  flood_copies = worked.flood_copies;
  absent_group_drops = worked.absent_group_drops;
}
