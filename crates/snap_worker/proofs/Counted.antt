-- What a seat has added behind the hits of a packet.
use Rattle.std.proofs.Common.{◌≡◌, ◌∙◌, ℕ, ◌+◌, ◌*◌, Bool, true, false, cond, eqb, List, [], ◌∷◌, Some, None, refl, subst, ap, arith}
use Rattle.std.specs.List.{count_by}
use Rattle.std.proofs.lemmas.Bool.{eqb-true}
use Rattle.std.proofs.lemmas.Bool.Decides.{nat_tests}
use Rattle.std.proofs.lemmas.List.Sums.{sum_by-cons}
use Rattle.counter_bank.proofs.Slots.{counts_one}
use Rattle.counter_bank.specs.Account.{Account}
use Rattle.counter_bank.specs.Figures.{packets_of, bytes_of, count_packet}
use Rattle.p4_types.specs.declared.records.HitMark.{HitMark}
use Rattle.p4_types.specs.declared.records.HitMark.TheVariants as marks
use Rattle.snap_worker.specs.Counting.{after_mark}
use Rattle.snap_worker.specs.Laws.{added_by, CountsHits}
use Rattle.switch_spec.specs.Counts.{is_of_slot, figures_after}

abbrev one_or_none : Bool → ℕ
one_or_none b = cond b 1 0

-- a slot has so many packets more, and their bytes
record HasMore (before after : List ℕ) (slot packets bytes : ℕ) : Type 0 where
  packets_are : packets_of after slot ≡ packets_of before slot + packets
  bytes_are : bytes_of after slot ≡ bytes_of before slot + packets * bytes

none_more : (xs : List ℕ) (slot bytes : ℕ) → HasMore xs xs slot 0 bytes
none_more xs slot bytes = record { packets_are = omega arith; bytes_are = omega arith }

differs : (slot at : ℕ) → eqb slot at ≡ false → at ≡ slot → ⊥
differs slot at e same = grind (arith, nat_tests)

packet_more : (xs : List ℕ) (slot at bytes : ℕ) (b : Bool) → eqb slot at ≡ b → HasMore xs (count_packet xs slot bytes) at (one_or_none b) bytes
packet_more xs slot at bytes true e =
    let law = counts_one xs slot bytes in
    subst (λ n. HasMore xs (count_packet xs slot bytes) n 1 bytes) (eqb-true slot at e) (record { packets_are = law.0; bytes_are = (let more = law.1 in omega (arith, more)) })
packet_more xs slot at bytes false e =
    let law = (counts_one xs slot bytes).2 at (differs slot at e) in
    record { packets_are = (let same = law.0 in omega (arith, same)); bytes_are = (let same = law.1 in omega (arith, same)) }

mark_more : (bytes at : ℕ) (seat : Account) (hit : HitMark) → HasMore seat.added (after_mark bytes seat hit).added at (one_or_none (is_of_slot at hit)) bytes
mark_more bytes at seat (marks.Entry table seq None) = none_more seat.added at bytes
mark_more bytes at seat (marks.Entry table seq (Some slot)) = packet_more seat.added slot at bytes (eqb slot at) refl
mark_more bytes at seat (marks.Cell slot) = packet_more seat.added slot at bytes (eqb slot at) refl

pub mark_bank : (bytes : ℕ) (seat : Account) (hit : HitMark) → (after_mark bytes seat hit).bank ≡ seat.bank
mark_bank bytes seat (marks.Entry table seq None) = refl
mark_bank bytes seat (marks.Entry table seq (Some slot)) = refl
mark_bank bytes seat (marks.Cell slot) = refl

mark_parts : (bytes : ℕ) (seat : Account) (hit : HitMark) → (after_mark bytes seat hit).parts ≡ seat.parts
mark_parts bytes seat (marks.Entry table seq None) = refl
mark_parts bytes seat (marks.Entry table seq (Some slot)) = refl
mark_parts bytes seat (marks.Cell slot) = refl

pairs : (x y : ℕ × ℕ) → x.0 ≡ y.0 → x.1 ≡ y.1 → x ≡ y
pairs x y first second = ap (λ n. (n, x.1)) first ∙ ap (λ n. (y.0, n)) second

all_more : (bytes at : ℕ) (seat : Account) (hit : HitMark) (hits : List HitMark)
    → figures_after (added_by (after_mark bytes seat hit)) hits bytes at ≡ figures_after (added_by seat) (hit ∷ hits) bytes at
all_more bytes at seat hit hits =
    let test : HitMark → ℕ = λ h. cond (is_of_slot at h) 1 0 in
    let one : ℕ = cond (is_of_slot at hit) 1 0 in
    let others : ℕ = count_by (is_of_slot at) hits in
    let more = mark_more bytes at seat hit in
    let packets = more.packets_are in
    let octets = more.bytes_are in
    let sum : count_by (is_of_slot at) (hit ∷ hits) ≡ one + others = (let cons = sum_by-cons test hit hits in omega (arith, cons)) in
    let product : (one + others) * bytes ≡ one * bytes + others * bytes = omega arith in
    let all : count_by (is_of_slot at) (hit ∷ hits) * bytes ≡ (one + others) * bytes = ap (λ n. n * bytes) sum in
    pairs _ _ (omega (arith, packets, sum)) (omega (arith, octets, product, all))

pub counts_hits : CountsHits
counts_hits bytes [] seat = record { added = λ at. pairs _ _ (omega arith) (omega arith); bank = refl; parts = refl }
counts_hits bytes (hit ∷ hits) seat =
    let rest = counts_hits bytes hits (after_mark bytes seat hit) in record {
      added = λ at. rest.added at ∙ all_more bytes at seat hit hits;
      bank = rest.bank ∙ mark_bank bytes seat hit;
      parts = rest.parts ∙ mark_parts bytes seat hit;
    }
