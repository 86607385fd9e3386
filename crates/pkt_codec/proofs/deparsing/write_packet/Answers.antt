use Rattle.std.proofs.Common.{◌≡◌, ℕ, ◌*◌, ◌<◌, ◌++◌, get_or, length, sym, ap, ◌∙◌, arith}
use Rattle.std.proofs.lemmas.List.{length-append}
use Rattle.canon_bytes.specs.Bits.{bits}
use Rattle.pkt_bits.proofs.Pieces.{length-bits}
use Rattle.program_spec.specs.Deparsing.{headers_bits, deparsed}
use Rattle.program_spec.specs.Numbers.{bytes_of}
use Rattle.pkt_codec.proofs.Runs.{bits-append}
use Rattle.pkt_codec.proofs.Written.{bytes_of_bits, more_bytes}
use Rattle.pkt_codec.proofs.deparsing.write_packet.Goals as goal

pub returns-then-not-write_headers-clause-fits : goal.returns-then-not-write_headers-clause-fits
unfolding deparsed
returns-then-not-write_headers-clause-fits c =
    let headers = headers_bits c.args.program.now c.args.store.now in
    let rest = bits c.args.rest.now in
    let more : 8 * 10240 < length (headers ++ rest) = omega (arith, c.if-not-write_headers.ensures.too_long, length-append headers rest) in
    (λ yes. absurd cc, λ short. absurd (omega (arith, more_bytes (headers ++ rest) 10240 more)))

pub returns-then-not-extend-clause-fits : goal.returns-then-not-extend-clause-fits
unfolding deparsed
returns-then-not-extend-clause-fits c =
    let headers = headers_bits c.args.program.now c.args.store.now in
    let rest = bits c.args.rest.now in
    let more : 8 * 10240 < length (headers ++ rest) =
    omega (
      arith,
      c.if-not-extend.ensures.too_long,
      length-append headers rest,
      length-bits c.args.rest.now,
      length-bits c.write_headers.new.out,
      ap length c.if-not-write_headers.ensures.added,
    ) in
    (λ yes. absurd cc, λ short. absurd (omega (arith, more_bytes (headers ++ rest) 10240 more)))

-- the packet that was written
written : (c : goal.After-are_bytes) → c.extend.new.self ≡ deparsed c.args.program.now c.args.store.now (bits c.args.rest.now)
unfolding deparsed
written c =
    let headers = headers_bits c.args.program.now c.args.store.now in
    let whole : bits c.extend.new.self ≡ headers ++ bits c.args.rest.now =
    ap bits c.if-not-extend.ensures.added ∙ bits-append c.write_headers.new.out c.args.rest.now ∙ ap (λ xs. xs ++ bits c.args.rest.now) c.if-not-write_headers.ensures.added in
    let small : (i : ℕ) → get_or c.extend.new.self i 0 < 256 = λ i. rw (← c.as_slice.ensures) (c.are_bytes.ensures i) in
    sym (bytes_of_bits c.extend.new.self small) ∙ ap bytes_of whole

pub returns-clause-fits : goal.returns-clause-fits
returns-clause-fits c = (λ yes. omega (arith, ap length (written c), c.if-not-extend.ensures.within), λ short. cc)

pub returns-clause-packet : goal.returns-clause-packet
returns-clause-packet c = written c
