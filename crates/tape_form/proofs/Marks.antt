-- Lanes without a mark have no packets.
use Rattle.std.proofs.Common.{◌≡◌, ◌<◌, ◌+◌, ◌==◌, ℕ, Bool, true, false, cond, List, [], ◌∷◌, filter, length, get_or, take, set, refl, sym, ap, ◌∙◌, subst, arith, eqb-true}
use Rattle.std.proofs.lemmas.List.Elements.{All-head, All-tail, All-more, All-weaker}
use Rattle.std.specs.List.{All}
use Rattle.p4_types.specs.declared.records.Record.{Record}
use Rattle.p4_types.specs.declared.tape.Who.{Who}
use Rattle.p4_types.specs.declared.tape.Who.TheVariants as who
use Rattle.switch_spec.specs.Carrying.{is_who, records_of}
use Rattle.tape_form.specs.LaneLines.{mark_place, IsMarked, AreMarked}

-- one lane has one place
one_place : (a b : Who) → is_who a b ≡ true → mark_place a ≡ mark_place b
one_place (who.Controller a) (who.Controller b) same = eqb-true a b same
one_place (who.Controller a) (who.Worker b) same = absurd cc
one_place (who.Worker a) (who.Controller b) same = absurd cc
one_place (who.Worker a) (who.Worker b) same = ap (λ n. 32 + n) (eqb-true a b same)

not_true : (b : Bool) → (b ≡ true → ⊥) → b ≡ false
not_true true never = absurd (never refl)
not_true false never = refl

-- a packet whose lane is marked is not of a lane that has no mark
differs : (marks : List Bool) (lane : Who) (packet : Record) → mark_place lane < 48 → get_or marks (mark_place lane) false ≡ false
    → IsMarked marks packet → is_who lane packet.who ≡ false
differs marks lane packet within absent marked =
    not_true (is_who lane packet.who) (λ same.
    let place : mark_place lane ≡ mark_place packet.who = one_place lane packet.who same in
    let there : mark_place packet.who < 48 = subst (λ n. n < 48) place within in
    let true' : get_or marks (mark_place packet.who) false ≡ true = marked there in
    let false' : get_or marks (mark_place packet.who) false ≡ false = subst (λ n. get_or marks n false ≡ false) place absent in
    absurd cc)

none_pass : (p : Record → Bool) (records : List Record) → All (λ r. p r ≡ false) records → filter p records ≡ []
none_pass p [] none = refl
none_pass p (r ∷ records) none = rw (All-head (λ r. p r ≡ false) r records none) (none_pass p records (All-tail (λ r. p r ≡ false) r records none))

-- a lane that has no mark has no packets
pub none_of : (marks : List Bool) (lane : Who) (records : List Record) → mark_place lane < 48 → get_or marks (mark_place lane) false ≡ false
    → AreMarked marks records → records_of lane records ≡ []
none_of marks lane records within absent marked =
    none_pass (λ r. is_who lane r.who) records (All-weaker (IsMarked marks) (λ r. is_who lane r.who ≡ false) (λ r m. differs marks lane r within absent m) records marked)

-- more marks take none away
pub still_marked : (before after : List Bool) (records : List Record) → ((k : ℕ) → get_or before k false ≡ true → get_or after k false ≡ true)
    → AreMarked before records → AreMarked after records
still_marked before after records kept = All-weaker (IsMarked before) (IsMarked after) (λ r m there. kept (mark_place r.who) (m there)) records

-- one packet more
pub marked_more : (before after : List Bool) (records : List Record) (index : ℕ) (packet : Record) → index < length records → packet ≡ get_or records index packet
    → ((k : ℕ) → get_or before k false ≡ true → get_or after k false ≡ true)
    → (mark_place packet.who < 48 → get_or after (mark_place packet.who) false ≡ true)
    → AreMarked before (take index records) → AreMarked after (take (index + 1) records)
marked_more before after records index packet within is kept marked earlier =
    All-more (IsMarked after) records index packet within (still_marked before after (take index records) kept earlier) (subst (IsMarked after) is marked)
