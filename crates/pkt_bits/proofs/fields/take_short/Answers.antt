use Rattle.std.proofs.Common.{◌≡◌, ℕ, ◌+◌, ◌*◌, ◌/◌, ◌-◌, ◌^◌, ◌<◌, ◌≤◌, List, refl, sym, ap, ◌∙◌, arith, lit<}
use Rattle.std.specs.Int.{div_ceil}
use Rattle.std.proofs.lemmas.Grind.{div_ceil_times}
use Rattle.std.proofs.Math.Facts.{Fits-of_lt}
use Rattle.std.proofs.Math.Nat.{pow-le-pow_right}
use Rattle.pkt_bits.specs.Field.{field}
use Rattle.pkt_bits.proofs.Pieces.{byte_more, field_first, field_none, field_in_byte, field-lt}
use Rattle.pkt_bits.proofs.fields.take_short.Goals as goal

pub returns-then-width-eq0 : goal.returns-then-width-eq0
returns-then-width-eq0 c = sym (ap (field c.args.bytes.now (c.args.place * 8 + c.args.offset)) c.if-width-eq0.true ∙ field_none _ _)

pub loop-next-init : goal.loop-next-init
loop-next-init c =
    let first : (c.args.place + 1 - c.args.place) * 8 - c.args.offset ≡ 8 - c.args.offset = omega arith in
    c.from-value.ensures ∙ c.chunk.ensures
    ∙ sym (field_in_byte (c.args.place * 8 + c.args.offset) c.args.place c.args.offset (8 - c.args.offset) (8 - c.args.offset - (8 - c.args.offset)) c.args.bytes.now refl
    (omega arith) (omega arith))
    ∙ ap (field c.args.bytes.now (c.args.place * 8 + c.args.offset)) (sym first)

-- the bytes that the field stands in
count_is : (offset width count : ℕ) → count ≡ div_ceil (offset + width) 8 → (offset + width ≤ count * 8) × (count * 8 < offset + width + 8)
count_is offset width count is = let bounds = div_ceil_times (offset + width) 8 (lit< tt) in (rw is bounds.0, rw is bounds.1)

-- a field of at most 64 bits
wide : (bytes : List ℕ) (bit width : ℕ) → width ≤ 64 → field bytes bit width < 2 ^ 64
wide bytes bit width le = omega (arith, field-lt bytes bit width, pow-le-pow_right {n = 2} (lit< tt) {i = width} {j = 64} le)

-- so many of its bytes have at most 64 bits
few : (offset width count bytes : ℕ) → count ≡ div_ceil (offset + width) 8 → offset + width ≤ 64 → bytes ≤ count → bytes * 8 - offset ≤ 64
few offset width count bytes is short le = let bounds = count_is offset width count is in omega arith

-- what was read before the last byte
so_far_fits : (c : goal.In-loop-next) → c.loop-next.value < 2 ^ 56
so_far_fits c =
    let bounds = count_is c.args.offset c.args.width c.div_ceil-count.result c.div_ceil-count.ensures in
    let n = (c.loop-next.next - c.args.place) * 8 - c.args.offset in
    let le : n ≤ 56 = omega arith in
    omega (arith, c.loop-next.invariant, field-lt c.args.bytes.now (c.args.place * 8 + c.args.offset) n, pow-le-pow_right {n = 2} (lit< tt) {i = n} {j = 56} le)

-- what was read with one byte more
more : (c : goal.After-from) → c.loop-next.value * 256 + c.from.result ≡ field c.args.bytes.now (c.args.place * 8 + c.args.offset) ((c.loop-next.next + 1 - c.args.place) * 8 - c.args.offset)
more c =
    let l = c.loop-next in
    let bit = c.args.place * 8 + c.args.offset in
    let next : (l.next - c.args.place) * 8 - c.args.offset + 8 ≡ (l.next + 1 - c.args.place) * 8 - c.args.offset = omega arith in
    ap (λ x. x * 256 + c.from.result) l.invariant
    ∙ byte_more c.args.bytes.now l.next bit ((l.next - c.args.place) * 8 - c.args.offset) c.from.result (omega arith) (omega arith) (c.from.ensures ∙ c.chunk-in-loop-next.ensures)
    ∙ ap (field c.args.bytes.now bit) next

pub overflow_mul-value : goal.overflow_mul-value
overflow_mul-value c = Fits-of_lt (omega (arith, so_far_fits c))

pub overflow_add-value : goal.overflow_add-value
overflow_add-value c = Fits-of_lt (rw (more c) (wide c.args.bytes.now _ ((c.loop-next.next + 1 - c.args.place) * 8 - c.args.offset) (few c.args.offset c.args.width c.div_ceil-count.result (c.loop-next.next + 1 - c.args.place) c.div_ceil-count.ensures c.requires.short (omega arith))))

pub loop-next-preserved : goal.loop-next-preserved
loop-next-preserved c = more c

pub returns : goal.returns
returns c =
    let bit = c.args.place * 8 + c.args.offset in
    let tail = c.div_ceil-count.result * 8 - c.args.offset - c.args.width in
    let bounds = count_is c.args.offset c.args.width c.div_ceil-count.result c.div_ceil-count.ensures in
    let all : (c.loop-next.next - c.args.place) * 8 - c.args.offset ≡ c.args.width + tail = omega arith in
    ap (λ x. x / 2 ^ tail) (c.loop-next.invariant ∙ ap (field c.args.bytes.now bit) all)
    ∙ field_first c.args.bytes.now bit c.args.width tail (omega arith)
