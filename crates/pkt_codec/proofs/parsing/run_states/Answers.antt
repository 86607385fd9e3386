use Rattle.std.proofs.Common.{◌≡◌, ◌-◌, ◌+◌, length, refl, ap, ◌∙◌, arith}
use Rattle.program_spec.specs.Parsing.{parse_from, parse_on}
use Rattle.pkt_codec.specs.Steps.{reading_at, outcome_of}
use Rattle.pkt_codec.proofs.Parses.{parse_more}
use Rattle.pkt_codec.proofs.parsing.run_states.Goals as goal

pub loop-init : goal.loop-init
loop-init c = record {
  done =
      let all : length c.args.program.now.parser.parse_states ≡ c.len-end.result - 0 = omega (arith, c.len-end.ensures) in
      ap (λ n. parse_from c.args.program.now n c.args.program.now.parser.init_state (reading_at c.args.packet.now c.args.used.now c.args.store.now)) all;
  state = c.requires.valid.parser.init_state;
  used = c.requires.used;
  as_large = record { fields = refl; headers = refl };
}

pub returns-in-Stopped-clause-done : goal.returns-in-Stopped-clause-done
returns-in-Stopped-clause-done c =
    let program = c.args.program.now in
    let after = reading_at c.args.packet.now c.run_state.new.used c.run_state.new.store in
    c.loop.invariant.done
    ∙ parse_more program (c.len-end.result - c.loop.counter) (c.len-end.result - (c.loop.counter + 1)) c.loop.state (reading_at c.args.packet.now c.loop.used c.loop.store) after
    (outcome_of c.run_state.result) (omega arith) c.run_state.ensures.done
    ∙ ap (λ step. parse_on program after (λ next. parse_from program (c.len-end.result - (c.loop.counter + 1)) next after) (outcome_of step)) c.in-Stopped.is

pub returns-in-Accepted-clause-done : goal.returns-in-Accepted-clause-done
returns-in-Accepted-clause-done c =
    let program = c.args.program.now in
    let after = reading_at c.args.packet.now c.run_state.new.used c.run_state.new.store in
    c.loop.invariant.done
    ∙ parse_more program (c.len-end.result - c.loop.counter) (c.len-end.result - (c.loop.counter + 1)) c.loop.state (reading_at c.args.packet.now c.loop.used c.loop.store) after
    (outcome_of c.run_state.result) (omega arith) c.run_state.ensures.done
    ∙ ap (λ step. parse_on program after (λ next. parse_from program (c.len-end.result - (c.loop.counter + 1)) next after) (outcome_of step)) c.in-Accepted.is

pub loop-preserved : goal.loop-preserved
loop-preserved c =
    let program = c.args.program.now in
    let after = reading_at c.args.packet.now c.run_state.new.used c.run_state.new.store in
    record {
      done =
          c.loop.invariant.done
          ∙ parse_more program (c.len-end.result - c.loop.counter) (c.len-end.result - (c.loop.counter + 1)) c.loop.state (reading_at c.args.packet.now c.loop.used c.loop.store) after
          (outcome_of c.run_state.result) (omega arith) c.run_state.ensures.done
          ∙ ap (λ step. parse_on program after (λ next. parse_from program (c.len-end.result - (c.loop.counter + 1)) next after) (outcome_of step)) c.in-Goes.is;
      state = c.in-Goes.ensures.next;
      used = c.run_state.ensures.used;
      as_large = record {
        fields = c.run_state.ensures.as_large.fields ∙ c.loop.invariant.as_large.fields;
        headers = c.run_state.ensures.as_large.headers ∙ c.loop.invariant.as_large.headers;
      };
    }

pub returns-clause-done : goal.returns-clause-done
returns-clause-done c =
    let none : c.len-end.result - c.loop.counter ≡ 0 = omega arith in
    c.loop.invariant.done ∙ ap (λ n. parse_from c.args.program.now n c.loop.state (reading_at c.args.packet.now c.loop.used c.loop.store)) none
