use Rattle.std.proofs.Common.{◌≡◌, take, fold, length, ap, ◌∙◌, arith}
use Rattle.std.proofs.Math.Seq.{take-length}
use Rattle.program_spec.specs.Checksums.{updated, sums_updated}
use Rattle.pkt_codec.proofs.sums.update_sums.Goals as goal

pub returns-clause-done : goal.returns-clause-done
unfolding sums_updated
returns-clause-done c =
    let program = c.program-program.result.now in
    let all : c.loop-checksum.checksum-index ≡ length program.checksums = omega (arith, ap length c.as_slice-checksum-items.ensures) in
    c.loop-checksum.invariant.done ∙ ap (fold (updated program) c.args.store.now) (ap (λ n. take n program.checksums) all ∙ take-length program.checksums)
    ∙ ap (λ p. fold (updated p) c.args.store.now p.checksums) c.program-program.ensures.view
