use Rattle.std.proofs.Common.{◌≡◌, drop, sym, ap, ◌∙◌}
use Rattle.canon_bytes.specs.Bits.{bits}
use Rattle.program_spec.specs.Parsing.{Parsed, parse}
use Rattle.program_spec.specs.Stores.{assigned_if}
use Rattle.pkt_codec.specs.Steps.{reading_at}
use Rattle.pkt_codec.proofs.Parses.{parse_is}
use Rattle.pkt_codec.proofs.parsing.parse.Goals as goal

-- the definition of this parse
parsed : (c : goal.After-assign_if) → Parsed
parsed c = parse c.args.pipeline.now (bits c.args.packet.now) c.args.store.now

-- what it comes to
parsed_is : (c : goal.After-assign_if) → parsed c ≡ record {
  store = assigned_if c.program-program.result.now.standard_metadata.parser_error c.run_states-error.result c.run_states-error.new.store;
  rest = bits (drop c.run_states-error.new.used c.args.packet.now);
  error = c.run_states-error.result;
}
unfolding parsed
parsed_is c =
    ap (λ program. parse program (bits c.args.packet.now) c.args.store.now) (sym c.program-program.ensures.view)
    ∙ parse_is c.program-program.result.now c.args.packet.now c.args.store.now (reading_at c.args.packet.now c.run_states-error.new.used c.run_states-error.new.store) c.run_states-error.result c.run_states-error.ensures.done

pub returns-clause-store : goal.returns-clause-store
unfolding parsed
returns-clause-store c =
    c.assign_if.ensures.assigned
    ∙ ap (λ error. assigned_if c.program-program.result.now.standard_metadata.parser_error error c.run_states-error.new.store) c.from.ensures
    ∙ sym (ap (λ p. p.store) (parsed_is c))

pub returns-clause-rest : goal.returns-clause-rest
unfolding parsed
returns-clause-rest c = sym (ap (λ p. p.rest) (parsed_is c))

pub returns-clause-error : goal.returns-clause-error
unfolding parsed
returns-clause-error c = sym (ap (λ p. p.error) (parsed_is c))
