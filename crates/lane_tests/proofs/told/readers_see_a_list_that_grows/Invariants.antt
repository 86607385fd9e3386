use Rattle.lane_tests.proofs.told.readers_see_a_list_that_grows.Given as goal

-- the list that was just opened
abbrev pub ghosts-write_beside_readers : goal.ghosts-write_beside_readers
ghosts-write_beside_readers g a = record { list = a.log }
