use Rattle.std.proofs.Common.{◌≡◌, Some, length, get_or, slice_get, refl, ap, ◌∙◌}
use Rattle.std.proofs.lemmas.Option.{slice_get_read}
use Rattle.pkt_codec.proofs.Places.{in_packets, header_is}
use Rattle.pkt_codec.proofs.headers.header_at.Goals as goal

found : (c : goal.After-index-as_slice-place) → slice_get c.args.program.now.headers c.args.place ≡ Some c.index-as_slice-place.result
found c =
    let headers = c.args.program.now.headers in
    slice_get_read headers (length headers) c.args.place c.index-as_slice-place.result refl
    (in_packets c.args.program.now c.args.place c.index-as_slice-place.result c.requires.in_packets).0
    (c.index-as_slice-place.is ∙ ap (λ xs. get_or xs c.args.place c.index-as_slice-place.result) c.as_slice.ensures)

pub returns-clause-found : goal.returns-clause-found
returns-clause-found c = found c

pub returns-clause-place : goal.returns-clause-place
returns-clause-place c = (header_is c.args.program.now c.args.place c.index-as_slice-place.result c.requires.valid (found c)).0

pub returns-clause-header : goal.returns-clause-header
returns-clause-header c = (header_is c.args.program.now c.args.place c.index-as_slice-place.result c.requires.valid (found c)).1

pub returns-clause-fields : goal.returns-clause-fields
returns-clause-fields c = (header_is c.args.program.now c.args.place c.index-as_slice-place.result c.requires.valid (found c)).2
