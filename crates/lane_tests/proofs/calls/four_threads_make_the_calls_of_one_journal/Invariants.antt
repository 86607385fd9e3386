use Rattle.lane_tests.proofs.calls.four_threads_make_the_calls_of_one_journal.Given as goal

-- the table that was just opened
abbrev pub ghosts-make_by_four : goal.ghosts-make_by_four
ghosts-make_by_four g a = record { table = a.table.now }
