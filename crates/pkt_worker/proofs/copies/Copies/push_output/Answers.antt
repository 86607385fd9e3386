use Rattle.std.proofs.Common.{◌+◌, ◌++◌, ◌∷◌, [], ◌∙◌, ap, map, Some, List}
use Rattle.p4_types.specs.declared.messages.PacketIn.{PacketIn}
use Rattle.p4_types.specs.declared.records.Fate.TheVariants as fates
use Rattle.p4_types.specs.declared.records.Output.{Output}
use Rattle.pkt_worker.specs.Copies.{CopiesMade, output_of, packet_in_of}
use Rattle.pkt_worker.proofs.Parts.{packet_ins_stay}
use Rattle.pkt_worker.proofs.copies.Copies.push_output.Goals as goal

pub returns : goal.returns
returns c =
    let old = c.self.inside in
    let one : Output = record { port = c.args.port; bytes = c.args.bytes.now } in
    let made : List Output → List PacketIn → CopiesMade = λ outputs packet_ins. record { count = old.count + 1; fate = Some fates.Sent; outputs = outputs; packet_ins = packet_ins } in
    ap (λ (outputs : List Output). made outputs (map (packet_in_of c.keep_output.new.bytes.items old.metadata.items) old.packet_ins.items)) c.keep_output.ensures.kept
    ∙ ap (λ (packet_ins : List PacketIn). made (map (output_of old.bytes.items) old.outputs.items ++ one ∷ []) packet_ins)
    (packet_ins_stay old.bytes.items c.args.bytes.now c.keep_output.new.bytes.items old.metadata.items old.packet_ins.items c.self.invariant.0.packet_ins_within c.keep_output.ensures.bytes)
    ∙ ap (λ (v : CopiesMade). record v { count = v.count + 1; fate = Some fates.Sent; outputs = v.outputs ++ one ∷ [] }) c.self.view_is
