use Rattle.pkt_worker.proofs.Parts.{packet_in_added}
use Rattle.pkt_worker.proofs.copies.keep_packet_in.Goals as goal

pub returns-clause-kept : goal.returns-clause-kept
returns-clause-kept c =
    packet_in_added c.args.bytes.now.items c.args.payload.now c.place_all-start.new.items.items c.args.metadata.now.items c.args.numbers.now c.place_all-first.new.items.items
    c.args.parts.now.items c.add.new.items.items
    (record { start = c.place_all-start.result.0; end = c.place_all-start.result.1; first = c.place_all-first.result.0; last = c.place_all-first.result.1 })
    c.requires.within c.place_all-start.ensures.items c.place_all-first.ensures.items c.add.ensures.items
    c.place_all-start.ensures.start c.place_all-start.ensures.end c.place_all-first.ensures.start c.place_all-first.ensures.end
