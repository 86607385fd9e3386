use Rattle.lane_tests.proofs.told.each_event_is_added_once.Given as goal

-- the list that was just opened
abbrev pub ghosts-write_by_two : goal.ghosts-write_by_two
ghosts-write_by_two g a = record { list = a.log }
