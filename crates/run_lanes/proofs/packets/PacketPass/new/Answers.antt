use Rattle.std.proofs.Common.{List, [], subst, sym}
use Rattle.std.specs.List.{AllByRecursion}
use Rattle.ctl_lock.specs.Finishing.{Meeting}
use Rattle.switch_spec.specs.declared.calls.WorkerItem.{WorkerItem}
use Rattle.tape_lanes.specs.Lanes.{IsItem}
use Rattle.run_lanes.specs.Packets.{IsPacketPass}
use Rattle.run_lanes.proofs.Taking.{pass_new}
use Rattle.run_lanes.proofs.packets.PacketPass.new.Goals as goal

pub invariant_of-result : goal.invariant_of-result
invariant_of-result g c =
    let j = g.J.Naming in
    let all = pass_new j.list j.start j.bank c.args.lane c.args.items.items c.args.work c.requires.own c.requires.fresh c.requires.added in
    let given = subst (λ (items : List WorkerItem). IsPacketPass j.list j.start j.bank c.args.lane items c.args.items.items [] c.args.work) c.requires.items all in
    let todo = subst (λ (items : List WorkerItem). IsPacketPass j.list j.start j.bank c.args.lane (j.items c.args.lane) items [] c.args.work) (sym c.from_vec.ensures.items) given in (
      subst (λ (items : List WorkerItem). AllByRecursion IsItem items) (sym c.from_vec.ensures.items) c.requires.each,
      subst (λ (mets : List Meeting). IsPacketPass j.list j.start j.bank c.args.lane (j.items c.args.lane) c.from_vec.result.items mets c.args.work) (sym c.new.ensures.items) todo,
    )
