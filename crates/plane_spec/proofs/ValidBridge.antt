-- The bridge's program is valid.
use Rattle.std.proofs.Common.{◌≡◌, ◌<◌, ◌≤◌, ℕ, zero, suc, refl, sym, subst, false, [], ◌∷◌, None, arith}
use Rattle.std.specs.Prelude.{All, length, IfSome}
use Rattle.std.proofs.lemmas.List.Elements.{All-nil, All-cons}
use Rattle.bm_expr.specs.Trees.{Datum}
use Rattle.bm_pipeline.specs.declared.actions.Primitive.TheVariants as primitives
use Rattle.bm_pipeline.specs.declared.headers.FieldRef.TheVariants as refs
use Rattle.bm_pipeline.specs.declared.parser.KeyTest.TheVariants as key_tests
use Rattle.bm_pipeline.specs.declared.parser.ParseState.{ParseState}
use Rattle.bm_pipeline.specs.declared.parser.ParserOp.TheVariants as ops
use Rattle.bm_pipeline.specs.declared.parser.Transition.{Transition}
use Rattle.bm_pipeline.specs.declared.tables.Next.TheVariants as nexts
use Rattle.bm_pipeline.specs.declared.tables.Node.{Node}
use Rattle.bm_pipeline.specs.declared.tables.Node.TheVariants as nodes
use Rattle.bm_pipeline.specs.declared.tables.TableAction.{TableAction}
use Rattle.bm_pipeline.specs.Graph.{has_path}
use Rattle.bm_pipeline.specs.Places.{after_node, after_state, node_count}
use Rattle.bm_pipeline.specs.Validity.{IsWidth, IsHeader, IsInPackets, IsField, IsRead, IsNumber, IsStandard, IsParserOp, IsParseState, IsParser, IsPrimitive, IsAction, IsNode, IsNext, IsTableAction, IsTable, IsValid}
use Rattle.plane_spec.specs.Bridge.{bridge_program, bridge_parser, metadata_header, eth_header, destination, forward_body, drop_body, dropping, bridge_table_body}

no_loop_of_nodes : (node : Node) → has_path (after_node bridge_program) (suc (node_count bridge_program)) node ≡ false
unfolding bridge_program
no_loop_of_nodes (nodes.Table zero) = refl
no_loop_of_nodes (nodes.Table (suc place)) = refl
no_loop_of_nodes (nodes.Conditional place) = refl

no_loop_of_states : (state : ℕ) → has_path (after_state bridge_program) (length bridge_parser.parse_states) state ≡ false
unfolding bridge_program
no_loop_of_states zero = refl
no_loop_of_states (suc state) = refl

a_field : (index header width : ℕ) → index < 9 → header < 2 → width ≤ 128 → IsField bridge_program (record { index = index; header = header; width = width })
unfolding bridge_program
a_field index header width i h w = record { field = i; header = h; width = w }

only : {X : Type 0} (P : X → Type 0) (x : X) → P x → All P (x ∷ [])
only P x h = All-cons P x [] h (All-nil P)

width : (bits : ℕ) → 1 ≤ bits → bits ≤ 128 → IsWidth bits
width bits low high = (low, high)

metadata : IsHeader 0 0 metadata_header
metadata = record {
  own = refl;
  first = refl;
  count = refl;
  bits = refl;
  whole = λ no. absurd cc;
  widths = All-cons IsWidth 9 (9 ∷ 9 ∷ 32 ∷ 32 ∷ 1 ∷ []) (omega arith, omega arith) (All-cons IsWidth 9 (9 ∷ 32 ∷ 32 ∷ 1 ∷ []) (omega arith, omega arith) (All-cons IsWidth 9 (32 ∷ 32 ∷ 1 ∷ []) (omega arith, omega arith)
      (All-cons IsWidth 32 (32 ∷ 1 ∷ []) (omega arith, omega arith) (All-cons IsWidth 32 (1 ∷ []) (omega arith, omega arith) (only IsWidth 1 (omega arith, omega arith))))));
}

eth : IsHeader 1 6 eth_header
eth = record {
  own = refl;
  first = refl;
  count = refl;
  bits = refl;
  whole = λ no. refl;
  widths = All-cons IsWidth 48 (48 ∷ 16 ∷ []) (omega arith, omega arith) (All-cons IsWidth 48 (16 ∷ []) (omega arith, omega arith) (only IsWidth 16 (omega arith, omega arith)));
}

standard : IsStandard bridge_program bridge_program.standard_metadata
unfolding bridge_program
standard = record {
  ingress_port = a_field 0 0 9 (omega arith) (omega arith) (omega arith);
  packet_length = a_field 3 0 32 (omega arith) (omega arith) (omega arith);
  egress_spec = a_field 1 0 9 (omega arith) (omega arith) (omega arith);
  nine_bits = refl;
  egress_port = a_field 2 0 9 (omega arith) (omega arith) (omega arith);
  egress_rid = tt;
  mcast_grp = tt;
  parser_error = a_field 4 0 32 (omega arith) (omega arith) (omega arith);
  checksum_error = a_field 5 0 1 (omega arith) (omega arith) (omega arith);
}

accepting : Transition
accepting = record { test = key_tests.Default; next_state = None }

start_state : ParseState
start_state = record { parser_ops = ops.Extract 1 ∷ []; transition_key = []; transitions = accepting ∷ [] }

state : IsParseState bridge_program start_state
unfolding bridge_program start_state accepting
state = record {
  parser_ops = only (IsParserOp bridge_program) (ops.Extract 1) refl;
  key = All-nil (IsRead bridge_program);
  key_bytes = omega arith;
  transitions = only (λ (t : Transition). IfSome t.next_state (λ next. next < 1)) accepting tt;
}

parser : IsParser bridge_program bridge_parser
unfolding bridge_program start_state accepting
parser = record {
  init_state = omega arith;
  number = omega arith;
  parse_states = only (IsParseState bridge_program) start_state state;
  no_loop = no_loop_of_states;
}

number : IsNumber bridge_program 1 (Datum 0)
unfolding bridge_program
number = record { fits = omega arith; settled = refl }

forward : IsAction bridge_program forward_body
unfolding bridge_program
forward = record {
  number = omega arith;
  widths = only IsWidth 9 (omega arith, omega arith);
  limit = omega arith;
  primitives = only (IsPrimitive bridge_program 1) _ (a_field 1 0 9 (omega arith) (omega arith) (omega arith), number);
}

drop : IsAction bridge_program drop_body
unfolding bridge_program
drop = record {
  number = omega arith;
  widths = All-nil IsWidth;
  limit = omega arith;
  primitives = only (IsPrimitive bridge_program 0) primitives.MarkToDrop tt;
}

table_action : (action : TableAction) → action.action < 2 → action.next ≡ nexts.End → IsTableAction bridge_program action
unfolding bridge_program
table_action action place next = record { place = place; next = subst (IsNext bridge_program) (sym next) (All-nil (IsNode bridge_program)) }

table : IsTable bridge_program bridge_table_body
unfolding bridge_program
table = record {
  limit = omega arith;
  key = only (IsRead bridge_program) (refs.Field destination) (a_field 6 1 48 (omega arith) (omega arith) (omega arith));
  actions = All-cons (IsTableAction bridge_program) _ (dropping ∷ []) (table_action _ (omega arith) refl) (only (IsTableAction bridge_program) dropping (table_action dropping (omega arith) refl));
  hit = All-nil (IsNode bridge_program);
  miss = All-nil (IsNode bridge_program);
  base_default_next = tt;
  default_entry = record { action = table_action dropping (omega arith) refl; action_data = refl };
  selector = All-nil (IsRead bridge_program);
}

pub bridge_is_valid : IsValid bridge_program
unfolding bridge_program
bridge_is_valid = record {
  headers_limit = omega arith;
  fields_limit = omega arith;
  headers = (metadata, (eth, refl));
  standard_metadata = standard;
  parser = parser;
  deparser = only (IsInPackets bridge_program) 1 refl;
  calculations = λ k d h. absurd (omega (arith, h));
  checksums = λ k d h. absurd (omega (arith, h));
  learn_lists = λ k d h. absurd (omega (arith, h));
  actions_limit = omega arith;
  actions = All-cons (IsAction bridge_program) forward_body (drop_body ∷ []) forward (only (IsAction bridge_program) drop_body drop);
  tables_limit = omega arith;
  tables = only (IsTable bridge_program) bridge_table_body table;
  conditionals = λ k d h. absurd (omega (arith, h));
  ingress = omega arith;
  egress = tt;
  no_loop = no_loop_of_nodes;
}
