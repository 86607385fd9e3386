use Rattle.std.proofs.Common.{sym, ◌∙◌, arith}
use Rattle.role_arbiter.proofs.ByPlaces.{greatest_placed, greatest_new}
use Rattle.role_arbiter.proofs.Places.{receive_new, room_for_role}
use Rattle.role_arbiter.proofs.changes.receive.Goals as goal

pub push_reserved-requires : goal.push_reserved-requires
push_reserved-requires c = omega (arith, room_for_role c.args.named.now.items c.args.role (sym c.requires.placed ∙ c.in-None.is) c.requires.served)

pub returns-in-Some-clause-greatest : goal.returns-in-Some-clause-greatest
returns-in-Some-clause-greatest c = c.greater-greatest.ensures ∙ sym (greatest_placed c.args.named.now.items c.args.role c.args.id c.in-Some.place c.index-known.result.now (sym c.requires.placed ∙ c.in-Some.is) c.index-known.ensures)

pub returns-in-None-clause-items : goal.returns-in-None-clause-items
returns-in-None-clause-items c = c.push_reserved.ensures.items ∙ sym (receive_new c.args.named.now.items c.args.role c.args.id (sym c.requires.placed ∙ c.in-None.is))

pub returns-in-None-clause-greatest : goal.returns-in-None-clause-greatest
returns-in-None-clause-greatest c = sym (greatest_new c.args.named.now.items c.args.role c.args.id (sym c.requires.placed ∙ c.in-None.is))
