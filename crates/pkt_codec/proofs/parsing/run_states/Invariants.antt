use Rattle.std.proofs.Common.{◌≡◌, ◌≤◌, ◌<◌, ◌-◌, length}
use Rattle.program_spec.specs.Parsing.{parse_from}
use Rattle.pkt_codec.specs.Room.{AreAsLarge}
use Rattle.pkt_codec.specs.Steps.{reading_at}
use Rattle.pkt_codec.proofs.parsing.run_states.Given as goal

abbrev pub invariant-loop : goal.invariant-loop
invariant-loop l = record {
  done :
      parse_from l.program (length l.program.parser.parse_states) l.program.parser.init_state (reading_at l.packet l.initial.used l.initial.store)
      ≡ parse_from l.program (l.end - l.counter) l.state (reading_at l.packet l.used l.store);
  state : l.state < length l.program.parser.parse_states;
  used : l.used ≤ length l.packet;
  as_large : AreAsLarge l.initial.store l.store;
}
