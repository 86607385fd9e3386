use Rattle.std.proofs.Common.{sym, ◌∙◌}
use Rattle.digest_lists.proofs.Places.{room_left}
use Rattle.digest_lists.proofs.lists.Lists.set_entry.Goals as goal

pub set-requires : goal.set-requires
set-requires c = room_left c.args.self.now c.args.entry.now.digest_id c.args.entry.now.config (sym c.has_room.ensures.room ∙ c.if-has_room.true) c.has_room.ensures.few
