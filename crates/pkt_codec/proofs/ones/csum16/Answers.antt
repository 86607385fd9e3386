use Rattle.std.proofs.Common.{◌≡◌, List, take, length, sym, subst, ap, ◌∙◌, arith}
use Rattle.std.proofs.Math.Seq.{take-length}
use Rattle.std.specs.List.{flat_map}
use Rattle.bm_pipeline.specs.declared.checksums.CalculationInput.{CalculationInput}
use Rattle.program_spec.specs.Checksums.{input_bits}
use Rattle.pkt_codec.specs.Sums.{weighed, IsOnesSum}
use Rattle.pkt_codec.proofs.Weights.{input_added, inputs_below, csum_is}
use Rattle.pkt_codec.proofs.ones.csum16.Goals as goal

pub loop-taken-preserved : goal.loop-taken-preserved
loop-taken-preserved c =
    let l = c.loop-taken in
    let before = weighed 0 (flat_map (input_bits c.args.store.now) (take l.taken-index c.args.input.now)) in
    let both = input_added c.args.store.now c.args.input.now l.taken-index _ l.offset c.laid_next-next.result.width c.laid_next-next.result.number c.add-sum.result (omega arith) l.invariant.offset
    c.laid_next-next.ensures.bits (c.add-sum.ensures.added before l.invariant.so_far) in
    record { so_far = both.0; offset = both.1 }

pub returns : goal.returns
returns c =
    let input = c.args.input.now in
    let all : c.loop-taken.taken-index ≡ length input = omega arith in
    let P : List CalculationInput → Type 0 = λ xs. IsOnesSum c.loop-taken.sum (weighed 0 (flat_map (input_bits c.args.store.now) xs)) in
    sym (
    csum_is (flat_map (input_bits c.args.store.now) input) c.loop-taken.sum (inputs_below c.args.store.now input)
    (subst P (ap (λ n. take n input) all ∙ take-length input) c.loop-taken.invariant.so_far)
    )
