use Rattle.pkt_worker.proofs.Parts.{output_added}
use Rattle.pkt_worker.proofs.copies.keep_output.Goals as goal

pub returns-clause-kept : goal.returns-clause-kept
returns-clause-kept c =
    output_added c.args.bytes.now.items c.args.more.now c.place_all-start.new.items.items c.args.parts.now.items c.add.new.items.items
    (record { port = c.args.port; start = c.place_all-start.result.0; end = c.place_all-start.result.1 })
    c.requires.within c.place_all-start.ensures.items c.add.ensures.items c.place_all-start.ensures.start c.place_all-start.ensures.end
