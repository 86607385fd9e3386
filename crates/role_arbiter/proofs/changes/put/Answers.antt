use Rattle.std.proofs.Common.{arith, sym, ◌∙◌}
use Rattle.role_arbiter.proofs.Places.{put_new, room_for_session}
use Rattle.role_arbiter.proofs.changes.put.Goals as goal

pub insert-requires-clause-few : goal.insert-requires-clause-few
insert-requires-clause-few c = omega (arith, room_for_session c.args.sessions.now.items c.args.session.caller (sym c.requires.placed ∙ c.in-None.is) c.requires.served)

pub returns-in-None-clause-items : goal.returns-in-None-clause-items
returns-in-None-clause-items c = c.insert.ensures.items ∙ sym (put_new c.args.sessions.now.items c.args.session (sym c.requires.placed ∙ c.in-None.is))
