use Rattle.std.proofs.Common.{◌≡◌, ◌%◌, ◌^◌, Bool, None, length, find, take, sym, ap, ◌∙◌, arith}
use Rattle.std.proofs.Math.Seq.{take-length}
use Rattle.bm_pipeline.specs.declared.parser.KeyTest.TheVariants as tests
use Rattle.bm_pipeline.specs.declared.parser.Transition.{Transition}
use Rattle.program_spec.specs.Parsing.{key_passes, taken}
use Rattle.program_spec.specs.Stores.{joined}
use Rattle.pkt_codec.proofs.Keys.{find_here, find_past}
use Rattle.pkt_codec.proofs.reading.taken.Goals as goal

first : Transition
first = record { test = tests.Default; next_state = None }

pub returns-then-passes : goal.returns-then-passes
unfolding taken first
returns-then-passes c =
    let state = c.args.state.now in
    let key = joined c.args.store.now state.transition_key in
    let passes : Transition → Bool = λ transition. key_passes transition.test key in
    find_here passes c.as_slice-transition-items.result.now state.transitions c.loop-transition.transition-index first c.as_slice-transition-items.ensures
    c.loop-transition.invariant (omega arith) (sym (c.passes.ensures key (c.joined-key.ensures ∙ ap (λ fields. joined c.args.store.now fields % 2 ^ 128) c.as_slice.ensures)) ∙ c.if-passes.true)

pub loop-transition-preserved : goal.loop-transition-preserved
unfolding first
loop-transition-preserved c =
    let state = c.args.state.now in
    let key = joined c.args.store.now state.transition_key in
    let passes : Transition → Bool = λ transition. key_passes transition.test key in
    find_past passes c.as_slice-transition-items.result.now state.transitions c.loop-transition.transition-index first c.as_slice-transition-items.ensures
    c.loop-transition.invariant (omega arith) (sym (c.passes.ensures key (c.joined-key.ensures ∙ ap (λ fields. joined c.args.store.now fields % 2 ^ 128) c.as_slice.ensures)) ∙ c.if-passes.false)

pub returns : goal.returns
unfolding taken
returns c =
    let state = c.args.state.now in
    let key = joined c.args.store.now state.transition_key in
    let passes : Transition → Bool = λ transition. key_passes transition.test key in
    let all : c.loop-transition.transition-index ≡ length state.transitions = omega (arith, ap length c.as_slice-transition-items.ensures) in
    sym (ap (find passes) (sym (ap (λ n. take n state.transitions) all ∙ take-length state.transitions)) ∙ c.loop-transition.invariant)
