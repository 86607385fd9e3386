use Rattle.std.proofs.Common.{false}
use Rattle.speed.proofs.desk.running.open_and_run.Given as goal

abbrev pub ghosts-run : goal.ghosts-run
ghosts-run g a = record { table = a.parts.table; list = a.publisher.told.list; bank = a.parts.bank.id; start = record { device = 1; cpu = 255; rows = 16384; slots = 1048576; bridge = false } }
