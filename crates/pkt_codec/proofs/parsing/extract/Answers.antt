use Rattle.std.proofs.Common.{◌+◌, ◌/◌, true, Ok, Err, length, ap, ◌∙◌, sym, arith}
use Rattle.std.proofs.lemmas.List.{length-set}
use Rattle.pkt_codec.specs.Steps.{reading_at}
use Rattle.pkt_codec.proofs.Extracts.{extract_short, extract_whole, header_in, rest_long}
use Rattle.pkt_codec.proofs.Places.{in_packets}
use Rattle.pkt_codec.proofs.parsing.extract.Goals as goal

pub returns-then-rest-size-clause-done : goal.returns-then-rest-size-clause-done
returns-then-rest-size-clause-done c =
    let packet = c.args.packet.now in
    let used = c.args.used.now in
    extract_short c.args.program.now.headers c.args.place c.header_at-header.result.now packet used c.args.store.now c.header_at-header.ensures.found (omega (arith, rest_long packet used))
    ∙ ap (λ store. Err (reading_at packet used store)) (sym c.set_valid.ensures)

pub set_valid-requires-2 : goal.set_valid-requires-2
set_valid-requires-2 c = record { header_in_store = omega (arith, ap length c.read_fields.ensures.valid, c.header_at-header.ensures.place, (in_packets c.args.program.now c.args.place c.header_at-header.result.now c.requires.op).0, c.requires.room.headers) }

pub returns-clause-done : goal.returns-clause-done
returns-clause-done c =
    let packet = c.args.packet.now in
    let used = c.args.used.now in
    let header = c.header_at-header.result.now in
    extract_whole c.args.program.now.headers c.args.place header packet used c.args.store.now c.header_at-header.ensures.found c.header_at-header.ensures.whole (omega (arith, rest_long packet used))
    ∙ ap (λ store. Ok (reading_at packet (used + header.bits / 8) store))
    (sym (c.set_valid-2.ensures ∙ header_in header packet used c.args.store.now c.read_fields.new.store c.read_fields.ensures.fields c.read_fields.ensures.valid))

pub returns-clause-as_large : goal.returns-clause-as_large
returns-clause-as_large c = record {
  fields = ap (λ s. length s.fields) c.set_valid-2.ensures ∙ c.read_fields.ensures.as_large;
  headers = ap (λ s. length s.valid) c.set_valid-2.ensures ∙ length-set c.read_fields.new.store.valid c.header_at-header.result.now.place.header true ∙ ap length c.read_fields.ensures.valid;
}
