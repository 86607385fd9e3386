use Rattle.std.proofs.Common.{◌≡◌, ◌+◌, ◌%◌, ◌^◌, ◌<◌, ◌≤◌, sum, take, get_or, set, length, sym, ap, ◌∙◌, arith}
use Rattle.std.proofs.lemmas.List.{length-set}
use Rattle.std.proofs.lemmas.List.Elements.{All-get_or}
use Rattle.bm_pipeline.specs.Validity.{IsWidth}
use Rattle.std.proofs.lemmas.List.Sums.{sum_by_more}
use Rattle.std.specs.List.{splice}
use Rattle.canon_bytes.specs.Bits.{bits}
use Rattle.program_spec.specs.Numbers.{runs}
use Rattle.pkt_codec.proofs.Runs.{within, field_read, uncut}
use Rattle.pkt_codec.proofs.fields.read_fields.Goals as goal

pub set_field-requires-clause-field_in_store : goal.set_field-requires-clause-field_in_store
set_field-requires-clause-field_in_store c = omega (arith, ap length c.as_slice-width-items.ensures)

pub overflow_add-index : goal.overflow_add-index
overflow_add-index c = omega (arith, ap length c.as_slice-width-items.ensures)

pub overflow_add-bit : goal.overflow_add-bit
overflow_add-bit c = omega (arith, within c.as_slice-width-items.result.now c.args.header.now.widths c.loop-width.width-index c.loop-width.bit c.args.header.now.bits c.as_slice-width-items.ensures (omega arith) c.loop-width.invariant.bit c.requires.header.bits)

pub loop-width-preserved : goal.loop-width-preserved
loop-width-preserved c =
    let l = c.loop-width in
    let k = l.width-index in
    let header = c.args.header.now in
    let same = c.as_slice-width-items.ensures in
    let lt : k < length header.widths = omega (arith, ap length same) in
    let width : get_or c.as_slice-width-items.result.now k 0 ≡ get_or header.widths k 0 = ap (λ xs. get_or xs k 0) same in
    let narrow : get_or c.as_slice-width-items.result.now k 0 ≤ 128 = omega (arith, width, (All-get_or IsWidth header.widths k 0 lt c.requires.header.widths).1) in
    let whole = uncut c.args.bytes.now l.bit (get_or c.as_slice-width-items.result.now k 0) c.take_near.result narrow c.take_near.ensures in
    record {
      bit = ap (λ b. b + get_or c.as_slice-width-items.result.now k 0) l.invariant.bit ∙ ap (λ w. sum (take k header.widths) + w) width ∙ sym (sum_by_more (λ x. x) header.widths k 0 lt);
      index = omega arith;
      fields =
          ap (λ s. s.fields) c.set_field.ensures
          ∙ ap (λ v. set l.store.fields l.index v) whole
          ∙ ap (λ xs. set xs l.index (c.take_near.result % 2 ^ get_or c.as_slice-width-items.result.now k 0)) l.invariant.fields
          ∙ ap (λ i. set (splice c.args.store.now.fields header.place.first (header.place.first + k) (runs (take k header.widths) (bits c.args.bytes.now))) i (c.take_near.result % 2 ^ get_or c.as_slice-width-items.result.now k 0)) l.invariant.index
          ∙ field_read c.args.store.now.fields header.place.first k header.widths c.args.bytes.now l.bit (get_or c.as_slice-width-items.result.now k 0) c.take_near.result
          lt (omega arith) width l.invariant.bit c.take_near.ensures;
      as_large = ap (λ s. length s.fields) c.set_field.ensures ∙ length-set l.store.fields l.index (c.take_near.result % 2 ^ 128) ∙ l.invariant.as_large;
      valid = ap (λ s. s.valid) c.set_field.ensures ∙ l.invariant.valid;
    }
