-- A program that does nothing with a packet.
use Rattle.std.specs.Prelude.{true, [], ◌∷◌, None}
use Rattle.bm_pipeline.specs.declared.headers.Header.{Header}
use Rattle.bm_pipeline.specs.declared.parser.Parser.{Parser}
use Rattle.bm_pipeline.specs.declared.program.Program.{Program}

-- `standard_metadata` with `egress_spec` alone, which each program has
abbrev pub one_field : Header
one_field = record { place = record { header = 0; first = 0; count = 1 }; metadata = true; widths = 9 ∷ []; bits = 9 }

-- a parser that takes nothing
abbrev pub no_parser : Parser
no_parser = record { init_state = 0; parse_states = (record { parser_ops = []; transition_key = []; transitions = [] }) ∷ [] }

unfoldable pub no_program : Program
no_program = record {
  headers = one_field ∷ [];
  fields = 1;
  standard_metadata = record {
    ingress_port = None;
    packet_length = None;
    egress_spec = record { index = 0; header = 0; width = 9 };
    egress_port = None;
    egress_rid = None;
    mcast_grp = None;
    parser_error = None;
    checksum_error = None;
  };
  errors = record { no_error = 0; packet_too_short = 1; no_match = 2 };
  parser = no_parser;
  deparser = [];
  calculations = [];
  checksums = [];
  learn_lists = [];
  actions = [];
  tables = [];
  conditionals = [];
  ingress = None;
  egress = None;
}
