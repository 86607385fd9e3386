use Rattle.std.proofs.Common.{◌+◌, ◌<◌, ◌∙◌, ap, sym, length, arith}
use Rattle.packet_out.specs.Entering.{given_for}
use Rattle.packet_out.proofs.Bytes.{given_more, written_more, whole_written}
use Rattle.packet_out.proofs.Values.{one_given, number_given}
use Rattle.packet_out.proofs.Widths.{bits_few, sum_more, sum_within}
use Rattle.packet_out.proofs.header.write_fields.Goals as goal

pub overflow_add-bit : goal.overflow_add-bit
overflow_add-bit c =
    omega (arith, bits_few c.args.fields.now c.requires.header, sum_within c.args.fields.now c.loop-field.field-index _ c.field-item.result (omega arith) c.field-item.is)

pub loop-field-preserved : goal.loop-field-preserved
loop-field-preserved c =
    let l = c.loop-field in
    let fields = c.args.fields.now in
    let metadata = c.args.metadata.now in
    let item = c.field-item.result in
    let values = given_for item.id metadata in
    let lt : l.field-index < length fields = omega arith in
    record {
      bit = ap (λ b. b + item.bitwidth) l.invariant.bit ∙ sym (sum_more fields l.field-index _ item lt c.field-item.is);
      as_long = c.put.ensures.others.as_long ∙ l.invariant.as_long;
      bytes = λ i. omega (arith, c.type_inv.header i);
      given = given_more fields metadata l.field-index _ item lt c.field-item.is l.invariant.given (one_given item.bitwidth values c.in-Some.number c.in-Some.ensures.number);
      written =
          written_more fields metadata l.header c.put.new.bytes l.field-index l.bit c.in-Some.number _ item lt c.field-item.is
          (omega (arith, sum_within fields l.field-index _ item lt c.field-item.is)) (number_given item.bitwidth values c.in-Some.number c.in-Some.ensures.number) c.put.ensures.spliced l.invariant.written;
    }

pub returns-clause-written : goal.returns-clause-written
returns-clause-written c =
    let l = c.loop-field in
    whole_written c.args.fields.now c.args.metadata.now l.header l.field-index l.bit l.invariant.bytes (omega arith) l.invariant.bit (omega arith) l.invariant.written
