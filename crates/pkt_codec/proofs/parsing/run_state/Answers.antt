use Rattle.std.proofs.Common.{ap, get_or, length, sym, ◌∙◌, subst}
use Rattle.std.proofs.lemmas.List.Elements.{All-get_or}
use Rattle.bm_pipeline.specs.declared.parser.ParseState.{ParseState}
use Rattle.bm_pipeline.specs.Validity.{IsParseState}
use Rattle.pkt_codec.proofs.Parses.{next_is}
use Rattle.pkt_codec.proofs.parsing.run_state.Goals as goal

pub returns-in-Some-next_state-clause-next : goal.returns-in-Some-next_state-clause-next
returns-in-Some-next_state-clause-next c =
    let program = c.args.program.now in
    let state = c.index-as_slice-place.result in
    let here = All-get_or (IsParseState program) program.parser.parse_states c.args.place state c.requires.place c.requires.valid.parser.parse_states in
    let Is : ParseState → Type 0 = λ s. IsParseState program s in
    let is = subst Is (sym (c.index-as_slice-place.is ∙ ap (λ states. get_or states c.args.place state) c.as_slice.ensures)) here in
    next_is (length program.parser.parse_states) state c.run_ops.new.store c.in-Some.transition c.in-Some-next_state.next is.transitions
    (sym c.taken.ensures ∙ c.in-Some.is) c.in-Some-next_state.is
