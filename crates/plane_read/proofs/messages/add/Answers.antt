use Rattle.std.proofs.Common.{ap, ◌∙◌}
use Rattle.plane_read.specs.Answered.{messages_of}
use Rattle.plane_read.proofs.Chunks.{gathers}
use Rattle.plane_read.proofs.messages.add.Goals as goal

pub returns-clause-continues : goal.returns-clause-continues
returns-clause-continues c =
    λ others.
    ap (λ g. messages_of c.make_room.new.written g others) c.in_ok-push.ensures.ok
    ∙ gathers c.make_room.new.written c.make_room.new.gathered c.args.entity others
    ∙ c.in_ok-make_room.ensures.kept c.args.entity others
