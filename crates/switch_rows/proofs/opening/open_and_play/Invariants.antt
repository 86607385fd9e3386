use Rattle.switch_rows.proofs.opening.open_and_play.Given as goal

abbrev pub ghosts-play : goal.ghosts-play
ghosts-play g a = record { table = a.parts.table; list = a.publisher.told.list; bank = a.parts.bank.id; start = a.start }
