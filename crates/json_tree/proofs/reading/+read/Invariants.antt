use Rattle.std.proofs.Common.{◌+◌, ◌*◌, length}
use Rattle.json_tree.proofs.Turns.{ItemsSoFar, MembersSoFar}
use Rattle.json_tree.proofs.reading.+read.Given as goal

abbrev pub decreases-read : goal.decreases-read
decreases-read l = 4 * l.depth

abbrev pub decreases-read_array : goal.decreases-read_array
decreases-read_array l = 4 * l.depth + 2

abbrev pub decreases-read_items : goal.decreases-read_items
decreases-read_items l = 4 * l.depth + 1

abbrev pub decreases-read_object : goal.decreases-read_object
decreases-read_object l = 4 * l.depth + 2

abbrev pub decreases-read_members : goal.decreases-read_members
decreases-read_members l = 4 * l.depth + 1

abbrev pub invariant-read_items-items : goal.invariant-read_items-items
invariant-read_items-items l = ItemsSoFar l.depth l.initial.building l.building l.initial.reader l.reader l.count

abbrev pub decreases-read_items-items : goal.decreases-read_items-items
decreases-read_items-items l = length l.reader

abbrev pub invariant-read_members-members : goal.invariant-read_members-members
invariant-read_members-members l = MembersSoFar l.depth l.initial.building l.building l.initial.reader l.reader l.count

abbrev pub decreases-read_members-members : goal.decreases-read_members-members
decreases-read_members-members l = length l.reader
