use Rattle.std.proofs.Common.{◌≡◌, ◌∙◌, ◌∷◌, ap, subst, Bool, List}
use Rattle.std.specs.List.{AllByRecursion}
use Rattle.run_lanes.specs.Packets.{IsPacketPass, PassesPackets}
use Rattle.tape_lanes.specs.Lanes.{IsItem}
use Rattle.run_lanes.proofs.Taking.{pass_taken}
use Rattle.run_lanes.proofs.packets.take_on.Goals as goal
use Rattle.switch_spec.specs.declared.calls.WorkerItem.{WorkerItem}

pub invariant_of-result-2 : goal.invariant_of-result-2
invariant_of-result-2 g c =
    let i = c.pass.inside in
    let j = g.J.Naming in
    let rest : List WorkerItem = c.pop_front.new.self.items in
    let whole : IsPacketPass j.list j.start j.bank i.lane (j.items i.lane) i.todo.items i.mets.items i.work =
    subst (λ (b : Bool). PassesPackets b j.list j.start j.bank i.lane (j.items i.lane) i.todo.items i.mets.items i.work) c.if-pass.false c.pass.invariant.1 in
    let next : IsPacketPass j.list j.start j.bank i.lane (j.items i.lane) (c.in-Some.item ∷ rest) i.mets.items i.work =
    subst (λ (l : List WorkerItem). IsPacketPass j.list j.start j.bank i.lane (j.items i.lane) l i.mets.items i.work) c.in-Some.ensures.items whole in
    let each : AllByRecursion IsItem (c.in-Some.item ∷ rest) = subst (λ (l : List WorkerItem). AllByRecursion IsItem l) c.in-Some.ensures.items c.pass.invariant.0 in
    (each.1, pass_taken j.list j.start j.bank i.lane c.in-Some.item (j.items i.lane) rest i.mets.items c.take.new.mets.items i.work c.take.new.work next c.in-Ok.ensures.taken)
