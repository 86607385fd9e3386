use Rattle.std.proofs.Common.{◌≡◌, ◌+◌, ◌<◌, if◌then◌else◌, sum, take, get_or, length, sym, ap, ◌∙◌, arith}
use Rattle.std.proofs.lemmas.List.Sums.{sum_by_more}
use Rattle.program_spec.specs.Deparsing.{numbers_of}
use Rattle.pkt_codec.specs.Laid.{so_far}
use Rattle.pkt_codec.proofs.Runs.{within, laid_more, number_at, numbers_long, whole_laid}
use Rattle.pkt_codec.proofs.fields.write_fields.Goals as goal

pub overflow_add-index : goal.overflow_add-index
overflow_add-index c = omega (arith, ap length c.as_slice-width-items.ensures)

pub lay-laid-requires-clause-in_range : goal.lay-laid-requires-clause-in_range
lay-laid-requires-clause-in_range c =
    omega (arith, c.loop-width.invariant.as_long, within c.as_slice-width-items.result.now c.args.header.now.widths c.loop-width.width-index (c.loop-width.laid.at + c.loop-width.laid.filled) c.args.header.now.bits c.as_slice-width-items.ensures (omega arith) c.loop-width.invariant.end c.requires.header.bits)

pub lay-laid-requires-clause-end : goal.lay-laid-requires-clause-end
lay-laid-requires-clause-end c =
    omega (arith, within c.as_slice-width-items.result.now c.args.header.now.widths c.loop-width.width-index (c.loop-width.laid.at + c.loop-width.laid.filled) c.args.header.now.bits c.as_slice-width-items.ensures (omega arith) c.loop-width.invariant.end c.requires.header.bits)

pub loop-width-preserved : goal.loop-width-preserved
loop-width-preserved c =
    let l = c.loop-width in
    let k = l.width-index in
    let header = c.args.header.now in
    let same = c.as_slice-width-items.ensures in
    let lt : k < length header.widths = omega (arith, ap length same) in
    let own = get_or c.as_slice-width-items.result.now k 0 in
    let width : own ≡ get_or header.widths k 0 = ap (λ xs. get_or xs k 0) same in
    let store = c.args.store.now in
    let number : c.field.result ≡ get_or store.fields (header.place.first + k) 0 =
    c.field.ensures ∙ ap (λ b. if b then get_or store.fields l.index 0 else 0) c.requires.valid ∙ ap (λ i. get_or store.fields i 0) l.invariant.index in
    record {
      end = c.lay-laid.ensures.end ∙ ap (λ b. b + own) l.invariant.end ∙ ap (λ w. sum (take k header.widths) + w) width ∙ sym (sum_by_more (λ x. x) header.widths k 0 lt);
      index = omega arith;
      laying = c.lay-laid.ensures.laying;
      as_long = c.lay-laid.ensures.as_long ∙ l.invariant.as_long;
      laid =
          c.lay-laid.ensures.laid
          ∙ laid_more header.widths (numbers_of header store) (so_far l.bytes l.laid) k own c.field.result lt
          (omega (arith, numbers_long store.fields header.place.first header.place.count c.requires.fields_in_store)) width
          (number ∙ sym (number_at store.fields header.place.first header.place.count k (omega arith))) l.invariant.laid;
    }

pub returns : goal.returns
returns c =
    let header = c.args.header.now in
    let store = c.args.store.now in
    let l = c.loop-width in
    whole_laid header.widths (numbers_of header store) c.write.new.bytes l.width-index (l.laid.at + l.laid.filled) (omega (arith, ap length c.as_slice-width-items.ensures))
    (omega (arith, numbers_long store.fields header.place.first header.place.count c.requires.fields_in_store))
    l.invariant.end (omega (arith, c.write.ensures.as_long, l.invariant.as_long)) (c.write.ensures.written ∙ l.invariant.laid)
