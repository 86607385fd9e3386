use Rattle.replay_run.proofs.play.replay_in_order.Given as goal
use Rattle.tape_lanes.specs.Lanes.{calls_in, items_in}

abbrev pub ghosts-play_in_order : goal.ghosts-play_in_order
ghosts-play_in_order g a = record { table = a.parts.table; list = a.publisher.told.list; bank = a.parts.bank.id; start = a.start; calls = calls_in a.tape; items = items_in a.tape }
