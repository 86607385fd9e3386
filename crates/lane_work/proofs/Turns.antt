-- The order of packets: their numbers on their lanes, and their steps.
use Rattle.std.proofs.Common.{◌≡◌, ℕ, ◌+◌, ◌≤◌, true, false, cond, List, [], ◌∷◌, ◌++◌, length, sym, ap, subst, ◌∙◌, arith, append_assoc}
use Rattle.std.specs.List.{AllByRecursion, count_by}
use Rattle.std.proofs.lemmas.List.{map-append, append-nil}
use Rattle.std.proofs.lemmas.List.Elements.{filter-append}
use Rattle.std.proofs.lemmas.List.Sums.{sum_by-append}
use Rattle.lane_work.proofs.Lists.{each_append, count_all, count_none, filter_none, each_of_map}
use Rattle.lane_work.proofs.Names.{is_who_self, is_who_other, named_alike}
use Rattle.lane_work.specs.Shares.{Share, IsShare, joined, names_of, Differ, outcomes}
use Rattle.p4_types.specs.declared.events.Start.{Start}
use Rattle.p4_types.specs.declared.records.Record.{Record}
use Rattle.p4_types.specs.declared.tape.Who.{Who}
use Rattle.plane_spec.proofs.Lists.{All-weaken, All-filter}
use Rattle.plane_spec.specs.Config.{Event}
use Rattle.switch_spec.specs.Carrying.{is_who, records_of, InTurn}
use Rattle.switch_spec.specs.Counts.{Carried}

-- none of these records is of that lane
abbrev pub AreOfOthers : Who → List Record → Type 0
AreOfOthers name records = AllByRecursion (λ (e : Record). is_who name e.who ≡ false) records

-- packets in turn, and then more in turn behind them
pub in_turn_append : (before xs ys : List Record) → InTurn before xs → InTurn (before ++ xs) ys → InTurn before (xs ++ ys)
in_turn_append before [] ys first later = subst (λ (b : List Record). InTurn b ys) (append-nil before) later
in_turn_append before (x ∷ xs) ys first later = (
  first.0,
  first.1,
  in_turn_append (before ++ x ∷ []) xs ys first.2 (subst (λ (b : List Record). InTurn b ys) (sym (append_assoc before (x ∷ []) xs)) later),
)

-- a lane's packets stay in turn behind those of others
pub in_turn_behind : (name : Who) (others before xs : List Record) → AreOfOthers name others → AllByRecursion (λ (r : Record). r.who ≡ name) xs → InTurn before xs → InTurn (others ++ before) xs
in_turn_behind name others before [] apart own turn = tt
in_turn_behind name others before (x ∷ xs) apart own turn =
    let test = λ (e : Record). is_who x.who e.who in
    let none : AreOfOthers x.who others = All-weaken (λ (e : Record). is_who name e.who ≡ false) (λ (e : Record). is_who x.who e.who ≡ false) (λ e no. ap (λ n. is_who n e.who) own.0 ∙ no) others apart in
    let count : count_by test (others ++ before) ≡ count_by test others + count_by test before = sum_by-append (λ (e : Record). cond {A = ℕ} (is_who x.who e.who) 1 0) others before in
    let kept : records_of x.who before ≡ records_of x.who (others ++ before) =
    sym (filter-append test others before ∙ ap (λ (es : List Record). es ++ records_of x.who before) (filter_none test others none)) in (
      omega (arith, turn.0, count, count_none test others none),
      subst (λ (es : List Record). AllByRecursion (λ (e : Record). e.steps ≤ x.steps) es) kept turn.1,
      subst (λ (b : List Record). InTurn b xs) (sym (append_assoc others before (x ∷ []))) (in_turn_behind name others (before ++ x ∷ []) xs apart own.1 turn.2),
    )

-- a lane's next packet
pub in_turn_next : (name : Who) (records : List Record) (r : Record) → AllByRecursion (λ (e : Record). e.who ≡ name) records → InTurn [] records
    → r.who ≡ name → r.index ≡ length records + 1 → AllByRecursion (λ (e : Record). e.steps ≤ r.steps) records → InTurn [] (records ++ r ∷ [])
in_turn_next name records r own turn is index later =
    let test = λ (e : Record). is_who r.who e.who in
    let all = count_all test records (named_alike r.who name true records own (ap (is_who r.who) (sym is) ∙ is_who_self r.who)) in
    in_turn_append [] records (r ∷ []) turn (omega (arith, index, all), All-filter (λ (e : Record). e.steps ≤ r.steps) test records later, tt)

-- no lane of these has a record among those
abbrev AreApart : List Record → List Share → Type 0
AreApart records shares = AllByRecursion (λ (share : Share). AreOfOthers share.who records) shares

apart_more : (records : List Record) (first : Share) (shares : List Share) → AllByRecursion (λ (r : Record). r.who ≡ first.who) (outcomes first.carried)
    → AllByRecursion (λ (share : Share). is_who first.who share.who ≡ false) shares → AreApart records shares → AreApart (records ++ outcomes first.carried) shares
apart_more records first [] own differ apart = tt
apart_more records first (share ∷ shares) own differ apart = (
  each_append (λ (e : Record). is_who share.who e.who ≡ false) records (outcomes first.carried) apart.0
      (named_alike share.who first.who false (outcomes first.carried) own (is_who_other share.who first.who ∙ differ.0)),
  apart_more records first shares own differ.1 apart.1,
)

-- the packets of lanes behind those of others
in_turn_from : (start : Start) (list : List Event) (before : List Record) (shares : List Share)
    → AllByRecursion (IsShare start list) shares → Differ (names_of shares) → AreApart before shares → InTurn before (outcomes (joined shares))
in_turn_from start list before [] shared differ apart = tt
in_turn_from start list before (share ∷ shares) shared differ apart =
    let own = shared.0.own in
    let first : InTurn before (outcomes share.carried) = subst (λ (b : List Record). InTurn b (outcomes share.carried)) (append-nil before) (in_turn_behind share.who before [] (outcomes share.carried) apart.0 own shared.0.in_turn) in
    let names = each_of_map (λ (other : Who). is_who share.who other ≡ false) (λ (s : Share). s.who) shares differ.0 in
    let later : InTurn (before ++ outcomes share.carried) (outcomes (joined shares)) = in_turn_from start list (before ++ outcomes share.carried) shares shared.1 differ.1 (apart_more before share shares own names apart.1) in
    subst (λ (es : List Record). InTurn before es) (sym (map-append (λ (c : Carried). c.outcome) share.carried (joined shares))) (in_turn_append before (outcomes share.carried) (outcomes (joined shares)) first later)

all_apart : (shares : List Share) → AreApart [] shares
all_apart [] = tt
all_apart (share ∷ shares) = (tt, all_apart shares)

pub joined_in_turn : (start : Start) (list : List Event) (shares : List Share) → AllByRecursion (IsShare start list) shares → Differ (names_of shares) → InTurn [] (outcomes (joined shares))
joined_in_turn start list shares shared differ = in_turn_from start list [] shares shared differ (all_apart shares)
