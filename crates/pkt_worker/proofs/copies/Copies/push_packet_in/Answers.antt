use Rattle.std.proofs.Common.{◌+◌, ◌++◌, ◌∷◌, [], ◌∙◌, ap, map, Some, List}
use Rattle.p4_types.specs.declared.messages.PacketIn.{PacketIn}
use Rattle.p4_types.specs.declared.records.Fate.TheVariants as fates
use Rattle.p4_types.specs.declared.records.Output.{Output}
use Rattle.pkt_worker.specs.Copies.{CopiesMade, output_of, packet_in_of}
use Rattle.pkt_worker.specs.Verdicts.{carried}
use Rattle.pkt_worker.proofs.Parts.{outputs_stay}
use Rattle.pkt_worker.proofs.copies.Copies.push_packet_in.Goals as goal

pub returns : goal.returns
returns c =
    let old = c.self.inside in
    let one : PacketIn = record { payload = c.args.payload.now; metadata = map carried c.args.metadata.now } in
    let made : List Output → List PacketIn → CopiesMade = λ outputs packet_ins. record { count = old.count + 1; fate = Some fates.Sent; outputs = outputs; packet_ins = packet_ins } in
    ap (λ (packet_ins : List PacketIn). made (map (output_of c.keep_packet_in.new.bytes.items) old.outputs.items) packet_ins) c.keep_packet_in.ensures.kept
    ∙ ap (λ (outputs : List Output). made outputs (map (packet_in_of old.bytes.items old.metadata.items) old.packet_ins.items ++ one ∷ []))
    (outputs_stay old.bytes.items c.args.payload.now c.keep_packet_in.new.bytes.items old.outputs.items c.self.invariant.0.outputs_within c.keep_packet_in.ensures.bytes)
    ∙ ap (λ (v : CopiesMade). record v { count = v.count + 1; fate = Some fates.Sent; packet_ins = v.packet_ins ++ one ∷ [] }) c.self.view_is
