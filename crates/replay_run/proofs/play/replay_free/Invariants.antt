use Rattle.replay_run.proofs.play.replay_free.Given as goal
use Rattle.tape_lanes.specs.Lanes.{calls_in, items_in}

abbrev pub ghosts-play_freely : goal.ghosts-play_freely
ghosts-play_freely g a = record { table = a.parts.table; list = a.publisher.told.list; bank = a.parts.bank.id; start = a.start; calls = calls_in a.tape; items = items_in a.tape }
