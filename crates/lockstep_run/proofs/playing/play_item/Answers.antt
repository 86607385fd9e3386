use Rattle.lockstep_run.proofs.Reporting.{record_played, bytes_played}
use Rattle.lockstep_run.proofs.playing.play_item.Goals as goal

pub returns-in-Record : goal.returns-in-Record
returns-in-Record c = record_played c.take.result c.args.item.now c.in-Record.record c.args.lanes.now c.args.speaker.now c.take.new.self c.in-Record.is c.take.ensures

pub returns-in-Bytes : goal.returns-in-Bytes
returns-in-Bytes c =
    bytes_played c.feed.result c.args.item.now c.in-Bytes.lane c.from.result c.in-Bytes.bytes c.as_slice.result.now c.args.lanes.now c.index-lanes-from.result c.feed.new.link c.args.speaker.now c.feed.new.self
    c.in-Bytes.is c.requires.item c.requires.wide c.from.ensures c.as_slice.ensures c.feed.ensures
