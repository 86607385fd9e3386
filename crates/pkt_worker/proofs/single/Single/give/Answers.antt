use Rattle.std.proofs.Common.{◌∙◌, ap, ℕ, List, Some, map}
use Rattle.canon_bytes.specs.ByteString.{canon}
use Rattle.p4_types.specs.declared.messages.P4Data.TheVariants as contents
use Rattle.packet_spec.specs.Meaning.{Verdict}
use Rattle.pkt_worker.proofs.Samples.{canon_read}
use Rattle.pkt_worker.proofs.single.Single.give.Goals as goal

pub returns : goal.returns
returns c =
    let with = λ (v : Verdict) (spelled : List (List ℕ)). record v { sample = Some (record { digest = c.args.digest; content = contents.Struct spelled }) } in
    ap (λ (v : Verdict). with v (map canon c.read_all.new.numbers.items)) c.self.view_is
    ∙ ap (λ (spelled : List (List ℕ)). with c.args.self.now spelled) (canon_read c.args.store.now c.args.fields.now c.read_all.new.numbers.items c.read_all.ensures.read)
