use Rattle.serve_run.proofs.opening.listen_and_serve.Given as goal

abbrev pub ghosts-serve_desk : goal.ghosts-serve_desk
ghosts-serve_desk g a = record { table = a.parts.table; list = a.publisher.told.list; bank = a.parts.bank.id; start = a.start }
