-- The headers of a valid program.
use Rattle.std.proofs.Common.{◌≡◌, ℕ, zero, suc, ◌+◌, ◌%◌, ◌<◌, ◌≤◌, List, [], ◌∷◌, length, get_or, Option, Some, None, refl, sym, ap, subst, ◌∙◌, arith}
use Rattle.std.specs.List.{slice_get}
use Rattle.std.specs.Option.{IsSomeAnd}
use Rattle.std.proofs.lemmas.Option.{slice_get_within, get_or_from_slice_get}
use Rattle.bm_expr.specs.declared.store.HeaderPlace.{HeaderPlace}
use Rattle.bm_pipeline.specs.declared.headers.Header.{Header}
use Rattle.bm_pipeline.specs.declared.program.Program.{Program}
use Rattle.bm_pipeline.specs.Validity.{IsHeader, HeadersStand, IsInPackets, IsHeaderPlace, IsValid}

-- the fields of headers end within those of the program
stand_within : (fields place first : ℕ) (headers : List Header) → HeadersStand fields place first headers → first ≤ fields
stand_within fields place first [] stand = omega arith
stand_within fields place first (header ∷ others) stand =
    let next = stand_within fields (place + 1) (first + header.place.count) others stand.1 in
    omega arith

-- the header at a place
header_from : (fields place first : ℕ) (headers : List Header) → HeadersStand fields place first headers → (i : ℕ) (d : Header) → i < length headers
    → IsHeader (place + i) (get_or headers i d).place.first (get_or headers i d) × ((get_or headers i d).place.first + (get_or headers i d).place.count ≤ fields)
header_from fields place first [] stand i d lt = absurd (omega arith)
header_from fields place first (header ∷ others) stand zero d lt =
    let next = stand_within fields (place + 1) (first + header.place.count) others stand.1 in (
      record { own = stand.0.own ∙ omega arith; first = refl; count = stand.0.count; widths = stand.0.widths; bits = stand.0.bits; whole = stand.0.whole },
      omega (arith, stand.0.first),
    )
header_from fields place first (header ∷ others) stand (suc i) d lt =
    let there = header_from fields (place + 1) (first + header.place.count) others stand.1 i d (omega arith) in (
      record { own = there.0.own ∙ omega arith; first = refl; count = there.0.count; widths = there.0.widths; bits = there.0.bits; whole = there.0.whole },
      there.1,
    )

-- a header that is read from packets stands among the headers, and has whole bytes
pub in_packets : (program : Program) (place : ℕ) (d : Header) → IsInPackets program place → (place < length program.headers) × ((get_or program.headers place d).bits % 8 ≡ 0)
in_packets program place d is = at program.headers place is
  where
    at : (headers : List Header) (i : ℕ) → IsSomeAnd (slice_get headers i) (λ header. header.bits % 8 ≡ 0) → (i < length headers) × ((get_or headers i d).bits % 8 ≡ 0)
    at [] i none = absurd none
    at (header ∷ others) zero found = (omega arith, found)
    at (header ∷ others) (suc i) found = let there = at others i found in (omega arith, there.1)

-- the header that stands at a place of a valid program
pub header_is : (program : Program) (place : ℕ) (header : Header) → IsValid program → slice_get program.headers place ≡ Some header
    → (header.place.header ≡ place) × IsHeader header.place.header header.place.first header × (header.place.first + header.place.count ≤ program.fields)
header_is program place header valid found =
    let lt = slice_get_within program.headers place header found in
    let there = header_from program.fields 0 0 program.headers valid.headers place header lt in
    let Is : Header → Type 0 = λ h. IsHeader (0 + place) h.place.first h × (h.place.first + h.place.count ≤ program.fields) in
    let is = subst Is (get_or_from_slice_get program.headers place header header found) there in (
      is.0.own ∙ omega arith,
      record { own = refl; first = refl; count = is.0.count; widths = is.0.widths; bits = is.0.bits; whole = is.0.whole },
      is.1,
    )

-- the place of a header is that of the header that stands there
placed : (program : Program) (place : HeaderPlace) → IsHeaderPlace program place → (header : Header) × (slice_get program.headers place.header ≡ Some header) × (header.place ≡ place)
placed program place is = at (slice_get program.headers place.header) refl is
  where
    at : (o : Option Header) → slice_get program.headers place.header ≡ o → IsSomeAnd o (λ header. header.place ≡ place)
        → (header : Header) × (slice_get program.headers place.header ≡ Some header) × (header.place ≡ place)
    at None found none = absurd none
    at (Some header) found same = (header, found, same)

-- a header's place is among the headers, and its fields are among the program's
pub place_is : (program : Program) (place : HeaderPlace) → IsValid program → IsHeaderPlace program place → (place.header < length program.headers) × (place.first + place.count ≤ program.fields)
place_is program place valid is =
    let there = placed program place is in
    let Within : HeaderPlace → Type 0 = λ p. p.first + p.count ≤ program.fields in
    (slice_get_within program.headers place.header there.0 there.1, subst Within there.2 (header_is program place.header there.0 valid there.1).2)

-- two places of one header are the same
pub same_place : (program : Program) (one other : HeaderPlace) → IsHeaderPlace program one → IsHeaderPlace program other → one.header ≡ other.header → one ≡ other
same_place program one other first second same =
    let here = placed program one first in
    let there = placed program other second in
    let one_header : Some here.0 ≡ Some there.0 = sym here.1 ∙ ap (λ n. slice_get program.headers n) same ∙ there.1 in
    let header : here.0 ≡ there.0 = cc in
    sym here.2 ∙ ap (λ h. h.place) header ∙ there.2
