-- A program that does nothing is valid.
use Rattle.std.proofs.Common.{◌≡◌, ℕ, zero, suc, refl, false, [], ◌∷◌, arith}
use Rattle.std.specs.Prelude.{All, length}
use Rattle.std.proofs.lemmas.List.Elements.{All-nil, All-cons}
use Rattle.bm_pipeline.specs.declared.parser.ParseState.{ParseState}
use Rattle.bm_pipeline.specs.declared.tables.Node.{Node}
use Rattle.bm_pipeline.specs.declared.tables.Node.TheVariants as nodes
use Rattle.bm_pipeline.specs.Graph.{has_path}
use Rattle.bm_pipeline.specs.Places.{after_node, after_state, node_count}
use Rattle.bm_pipeline.specs.Validity.{IsWidth, IsHeader, IsRead, IsParserOp, IsParseState, IsParser, IsStandard, IsValid}
use Rattle.update_rows.specs.Nothing.{one_field, no_parser, no_program}

no_loop_of_nodes : (node : Node) → has_path (after_node no_program) (suc (node_count no_program)) node ≡ false
unfolding no_program
no_loop_of_nodes (nodes.Table place) = refl
no_loop_of_nodes (nodes.Conditional place) = refl

no_loop_of_states : (state : ℕ) → has_path (after_state no_program) (length no_parser.parse_states) state ≡ false
unfolding no_program
no_loop_of_states zero = refl
no_loop_of_states (suc state) = refl

only : {X : Type 0} (P : X → Type 0) (x : X) → P x → All P (x ∷ [])
only P x h = All-cons P x [] h (All-nil P)

header : IsHeader 0 0 one_field
header = record {
  own = refl;
  first = refl;
  count = refl;
  bits = refl;
  whole = λ no. absurd cc;
  widths = only IsWidth 9 (omega arith, omega arith);
}

standard : IsStandard no_program no_program.standard_metadata
unfolding no_program
standard = record {
  ingress_port = tt;
  packet_length = tt;
  egress_spec = record { field = omega arith; header = omega arith; width = omega arith };
  nine_bits = refl;
  egress_port = tt;
  egress_rid = tt;
  mcast_grp = tt;
  parser_error = tt;
  checksum_error = tt;
}

a_state : ParseState
a_state = record { parser_ops = []; transition_key = []; transitions = [] }

state : IsParseState no_program a_state
unfolding no_program a_state
state = record {
  parser_ops = All-nil (IsParserOp no_program);
  key = All-nil (IsRead no_program);
  key_bytes = omega arith;
  transitions = λ k d h. absurd (omega (arith, h));
}

parser : IsParser no_program no_parser
unfolding no_program a_state
parser = record {
  init_state = omega arith;
  number = omega arith;
  parse_states = only (IsParseState no_program) a_state state;
  no_loop = no_loop_of_states;
}

pub no_program_is_valid : IsValid no_program
unfolding no_program
no_program_is_valid = record {
  headers_limit = omega arith;
  fields_limit = omega arith;
  headers = (header, refl);
  standard_metadata = standard;
  parser = parser;
  deparser = λ k d h. absurd (omega (arith, h));
  calculations = λ k d h. absurd (omega (arith, h));
  checksums = λ k d h. absurd (omega (arith, h));
  learn_lists = λ k d h. absurd (omega (arith, h));
  actions_limit = omega arith;
  actions = λ k d h. absurd (omega (arith, h));
  tables_limit = omega arith;
  tables = λ k d h. absurd (omega (arith, h));
  conditionals = λ k d h. absurd (omega (arith, h));
  ingress = tt;
  egress = tt;
  no_loop = no_loop_of_nodes;
}
