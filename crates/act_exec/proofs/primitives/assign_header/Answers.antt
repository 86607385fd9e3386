use Rattle.std.proofs.Common.{sym, subst, ap, ◌∙◌, arith}
use Rattle.bm_expr.specs.Store.{Contents, header_assigned}
use Rattle.pkt_codec.specs.Room.{AreAsLarge}
use Rattle.pkt_codec.proofs.Places.{place_is, same_place}
use Rattle.act_exec.proofs.Moves.{assigned_self, assigned_large}
use Rattle.act_exec.proofs.primitives.assign_header.Goals as goal

pub assign_header-requires-clause-from_fields : goal.assign_header-requires-clause-from_fields
assign_header-requires-clause-from_fields c = omega (arith, (place_is c.args.program.now c.args.source c.requires.valid c.requires.one_type.from).1, c.requires.room.fields)

pub assign_header-requires-clause-to_fields : goal.assign_header-requires-clause-to_fields
assign_header-requires-clause-to_fields c = omega (arith, (place_is c.args.program.now c.args.target c.requires.valid c.requires.one_type.to).1, c.requires.room.fields)

pub returns-then-target-source-clause-as_large : goal.returns-then-target-source-clause-as_large
returns-then-target-source-clause-as_large c =
    let Large : Contents → Type 0 = λ s. AreAsLarge c.args.store.now s in
    subst Large (sym c.assign_header.ensures) (
    assigned_large c.args.store.now c.args.target c.args.source c.requires.one_type.as_many
    (omega (arith, (place_is c.args.program.now c.args.target c.requires.valid c.requires.one_type.to).1, c.requires.room.fields))
    (omega (arith, (place_is c.args.program.now c.args.source c.requires.valid c.requires.one_type.from).1, c.requires.room.fields))
    )

pub returns-else-target-source-clause-done : goal.returns-else-target-source-clause-done
returns-else-target-source-clause-done c =
    let same = same_place c.args.program.now c.args.target c.args.source c.requires.one_type.to c.requires.one_type.from c.if-target-source.false in
    sym (ap (λ place. header_assigned c.args.store.now place c.args.source) same ∙ assigned_self c.args.store.now c.args.source)
