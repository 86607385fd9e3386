use Rattle.std.proofs.Common.{◌≡◌, ◌++◌, ◌-◌, false, length, map, set, take, replicate, ap, ◌∙◌, arith}
use Rattle.std.proofs.lemmas.List.{length-set}
use Rattle.pkt_codec.proofs.Opened.{opened_more, own_place}
use Rattle.pkt_codec.proofs.entering.open_headers.Goals as goal

pub set_valid-requires : goal.set_valid-requires
set_valid-requires c =
    let header = c.header-item.result in
    let place : header.place.header ≡ c.loop-header.header-index =
    ap (λ h. h.place.header) c.header-item.is
    ∙ own_place c.args.program.now c.as_slice-header-items.result.now c.loop-header.header-index header c.requires.valid c.as_slice-header-items.ensures (omega arith) in
    record { header_in_store = omega (arith, place, ap length c.as_slice-header-items.ensures) }

pub loop-header-preserved : goal.loop-header-preserved
loop-header-preserved c =
    let l = c.loop-header in
    let headers = c.args.program.now.headers in
    let header = c.header-item.result in
    let k = l.header-index in
    let place : header.place.header ≡ k =
    ap (λ h. h.place.header) c.header-item.is
    ∙ own_place c.args.program.now c.as_slice-header-items.result.now k header c.requires.valid c.as_slice-header-items.ensures (omega arith) in
    record {
      fields = ap (λ s. s.fields) c.set_valid.ensures ∙ l.invariant.fields;
      as_large = ap (λ s. length s.valid) c.set_valid.ensures ∙ length-set l.store.valid header.place.header header.metadata ∙ l.invariant.as_large;
      valid =
          ap (λ s. s.valid) c.set_valid.ensures
          ∙ ap (λ valid. set valid header.place.header header.metadata) l.invariant.valid
          ∙ ap (λ n. set (map (λ header. header.metadata) (take k headers) ++ replicate (length headers - k) false) n header.metadata) place
          ∙ ap (λ h. set (map (λ header. header.metadata) (take k headers) ++ replicate (length headers - k) false) k h.metadata) c.header-item.is
          ∙ opened_more c.as_slice-header-items.result.now headers k header c.as_slice-header-items.ensures (omega arith);
    }
