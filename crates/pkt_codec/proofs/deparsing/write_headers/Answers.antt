use Rattle.std.proofs.Common.{ℕ, ◌<◌, List, length, get_or, ap, arith, slice_get}
use Rattle.std.proofs.lemmas.List.Folds.{length-flat_map-take}
use Rattle.canon_bytes.specs.Bits.{bits}
use Rattle.program_spec.specs.Deparsing.{header_bits}
use Rattle.pkt_codec.proofs.deparsing.write_headers.Goals as goal

pub loop-place-init : goal.loop-place-init
unfolding bits
loop-place-init c = ap bits c.requires.empty

pub returns-then-not-write_place-clause-too_long : goal.returns-then-not-write_place-clause-too_long
returns-then-not-write_place-clause-too_long c =
    let program = c.args.program.now in
    let written : ℕ → List ℕ = λ place. header_bits c.args.store.now (slice_get program.headers place) in
    let k = c.loop-place.place-index in
    let same = c.as_slice-place-items.ensures in
    let lt : k < length program.deparser = omega (arith, ap length same) in
    omega (
      arith,
      c.if-not-write_place.ensures.too_long,
      ap length c.loop-place.invariant,
      ap (λ xs. length (written (get_or xs k 0))) same,
      length-flat_map-take written program.deparser k 0 lt,
    )
