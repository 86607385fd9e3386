use Rattle.std.proofs.Common.{length, sym, subst, arith}
use Rattle.bm_expr.specs.Store.{Contents}
use Rattle.bm_pipeline.specs.declared.actions.Primitive.{Primitive}
use Rattle.bm_pipeline.specs.Validity.{IsPrimitive}
use Rattle.pkt_codec.specs.Room.{AreAsLarge}
use Rattle.pkt_codec.proofs.Inside.{number_in}
use Rattle.pkt_codec.proofs.Places.{place_is}
use Rattle.act_exec.proofs.Moves.{added_large}
use Rattle.act_exec.proofs.primitives.run_primitive.Goals as goal

pub value-assigned-requires : goal.value-assigned-requires
value-assigned-requires c =
    let Is : Primitive → Type 0 = λ p. IsPrimitive c.args.program.now (length c.args.args.now) p in
    record { in_store = number_in c.args.program.now c.args.store.now c.args.args.now c.in-Assign.number c.requires.room (subst Is c.in-Assign.is c.requires.primitive).1.fits }

pub value-index-requires : goal.value-index-requires
value-index-requires c =
    let Is : Primitive → Type 0 = λ p. IsPrimitive c.args.program.now (length c.args.args.now) p in
    record { in_store = number_in c.args.program.now c.args.store.now c.args.args.now c.in-Count.index c.requires.room (subst Is c.in-Count.is c.requires.primitive).0.fits }

pub add_header-requires-clause-fields_in_store : goal.add_header-requires-clause-fields_in_store
add_header-requires-clause-fields_in_store c =
    let Is : Primitive → Type 0 = λ p. IsPrimitive c.args.program.now (length c.args.args.now) p in
    omega (arith, (place_is c.args.program.now c.in-AddHeader.place c.requires.valid (subst Is c.in-AddHeader.is c.requires.primitive)).1, c.requires.room.fields)

pub returns-in-AddHeader-clause-as_large : goal.returns-in-AddHeader-clause-as_large
returns-in-AddHeader-clause-as_large c =
    let Is : Primitive → Type 0 = λ p. IsPrimitive c.args.program.now (length c.args.args.now) p in
    let Large : Contents → Type 0 = λ s. AreAsLarge c.args.store.now s in
    subst Large (sym c.add_header.ensures) (
    added_large c.args.store.now c.in-AddHeader.place
    (omega (arith, (place_is c.args.program.now c.in-AddHeader.place c.requires.valid (subst Is c.in-AddHeader.is c.requires.primitive)).1, c.requires.room.fields))
    )
