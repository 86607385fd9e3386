use Rattle.std.proofs.Common.{◌+◌, ◌∙◌, ap, sym, length, arith}
use Rattle.std.proofs.lemmas.List.{length_push}
use Rattle.canon_bytes.specs.Bits.{bits}
use Rattle.packet_spec.specs.Meaning.{metadata_of, widths_of}
use Rattle.program_spec.specs.Numbers.{runs}
use Rattle.pkt_worker.proofs.HeaderFields.{bits_few, sum_within, sum_more, one_read}
use Rattle.pkt_worker.proofs.metadata.read_metadata.Goals as goal

pub take-number-requires-clause-in_range : goal.take-number-requires-clause-in_range
take-number-requires-clause-in_range c =
    omega (arith, c.requires.long, sum_within c.args.fields.now c.loop-field.field-index _ c.field-item.result (omega arith) c.field-item.is)

pub overflow_add-bit : goal.overflow_add-bit
overflow_add-bit c =
    omega (arith, bits_few c.args.fields.now c.requires.header, sum_within c.args.fields.now c.loop-field.field-index _ c.field-item.result (omega arith) c.field-item.is)

pub loop-field-preserved : goal.loop-field-preserved
loop-field-preserved c =
    let l = c.loop-field in
    let fields = c.args.fields.now in
    let item = c.field-item.result in
    record {
      read = one_read fields c.args.bytes.now l.field-index l.bit c.take-number.result _ item l.metadata.items c.add.new.items.items
          (metadata_of fields (runs (widths_of fields) (bits c.args.bytes.now))) (omega arith) c.field-item.is c.take-number.ensures.number c.add.ensures.items l.invariant.read;
      bit = ap (λ b. b + item.bitwidth) l.invariant.bit ∙ sym (sum_more fields l.field-index _ item (omega arith) c.field-item.is);
      number = ap length c.add.ensures.items ∙ length_push l.metadata.items (record { id = item.id; number = c.take-number.result }) ∙ ap (λ n. n + 1) l.invariant.number;
      room = omega (arith, l.invariant.room, c.add.ensures.room);
    }
