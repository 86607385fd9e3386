-- What lanes that bring bytes are told: one notice, one call and one lane more.
use Rattle.std.proofs.Common.{◌≡◌, ℕ, zero, suc, ◌+◌, ◌<◌, true, false, eqb, List, [], ◌∷◌, ◌++◌, length, get_or, take, Option, Some, None, refl, sym, ap, subst, ◌∙◌, append-nil, arith, add-one}
use Rattle.std.specs.Prelude.{fold}
use Rattle.std.specs.List.{filter_map, flat_map}
use Rattle.std.proofs.lemmas.Bool.{eq-eqb, ne_eqb}
use Rattle.std.proofs.lemmas.List.{take_more}
use Rattle.std.proofs.lemmas.List.Elements.{filter_map-append}
use Rattle.std.proofs.lemmas.List.Sums.{fold-append}
use Rattle.std.proofs.lemmas.Grind.{flat_map-append}
use Rattle.p4_types.specs.declared.calls.Notice.{Notice}
use Rattle.p4_types.specs.declared.journal.Entry.{Entry}
use Rattle.p4_types.specs.declared.messages.StreamMessageResponse.{StreamMessageResponse}
use Rattle.p4rt_service.specs.Turns.{Served, message_served}
use Rattle.run_spec.specs.Text.{count_up}
use Rattle.byte_lanes.specs.Filling.{told, told_by}
use Rattle.byte_lanes.specs.Lane.{LaneState, IsLane, TellsLane}
use Rattle.lockstep_run.specs.Playing.{AreLanes}
use Rattle.lockstep_run.specs.Telling.{TellsEach, TellsEntry, TellsAll}

-- ---- messages, and more of them

abbrev serve : Served → StreamMessageResponse → Served
serve s message = message_served message s

told_then : (messages more : List StreamMessageResponse) (before between after : LaneState) → TellsEach messages before between → TellsEach more between after → TellsEach (messages ++ more) before after
told_then messages more before between after f g served is =
    subst (λ (s : Served). IsLane after s) (sym (fold-append serve served messages more)) (g (fold serve served messages) (f served is))

told_as : (messages others : List StreamMessageResponse) (before after : LaneState) → messages ≡ others → TellsEach messages before after → TellsEach others before after
told_as messages others before after is f = subst (λ (l : List StreamMessageResponse). TellsEach l before after) is f

none_told : (before after : LaneState) → after ≡ before → TellsEach [] before after
none_told before after is served lane = subst (λ (s : LaneState). IsLane s served) (sym is) lane

-- ---- a notice more

-- the items so far and the next one
next_taken : {X : Type 0} (xs : List X) (i : ℕ) (x : X) → i < length xs → x ≡ get_or xs i x → take (i + 1) xs ≡ take i xs ++ x ∷ []
next_taken xs i x lt is = take_more xs i x lt ∙ ap (λ y. take i xs ++ y ∷ []) (sym is)

notice_more : (lane : ℕ) (notices : List Notice) (i : ℕ) (notice : Notice) (before between after : LaneState) → i < length notices → notice ≡ get_or notices i notice → TellsEntry lane (take i notices) before between
    → TellsEach (filter_map (told lane) (notice ∷ [])) between after → TellsEntry lane (take (i + 1) notices) before after
notice_more lane notices i notice before between after lt is f g =
    told_as (filter_map (told lane) (take i notices) ++ filter_map (told lane) (notice ∷ [])) (filter_map (told lane) (take (i + 1) notices)) before after
    (sym (ap (filter_map (told lane)) (next_taken notices i notice lt is) ∙ filter_map-append (told lane) (take i notices) (notice ∷ [])))
    (told_then (filter_map (told lane) (take i notices)) (filter_map (told lane) (notice ∷ [])) before between after f g)

own_notice : (lane : ℕ) (notice : Notice) → notice.lane ≡ lane → notice.message ∷ [] ≡ filter_map (told lane) (notice ∷ [])
own_notice lane notice is = let e : eqb lane notice.lane ≡ true = eq-eqb lane notice.lane (sym is) in rw e refl

other_notice : (lane : ℕ) (notice : Notice) → (notice.lane ≡ lane → ⊥) → [] ≡ filter_map (told lane) (notice ∷ [])
other_notice lane notice ne = let e : eqb lane notice.lane ≡ false = ne_eqb lane notice.lane (λ same. ne (sym same)) in rw e refl

-- a notice to the lane
pub notice_told : (lane : ℕ) (notices : List Notice) (i : ℕ) (notice : Notice) (before between after : LaneState) → i < length notices → notice ≡ get_or notices i notice → TellsEntry lane (take i notices) before between
    → notice.lane ≡ lane → TellsLane notice.message between after → TellsEntry lane (take (i + 1) notices) before after
notice_told lane notices i notice before between after lt is f same tells =
    notice_more lane notices i notice before between after lt is f (told_as (notice.message ∷ []) (filter_map (told lane) (notice ∷ [])) between after (own_notice lane notice same) tells)

-- a notice to another one
pub notice_passed : (lane : ℕ) (notices : List Notice) (i : ℕ) (notice : Notice) (before between after : LaneState) → i < length notices → notice ≡ get_or notices i notice → TellsEntry lane (take i notices) before between
    → (notice.lane ≡ lane → ⊥) → after ≡ between → TellsEntry lane (take (i + 1) notices) before after
notice_passed lane notices i notice before between after lt is f other same =
    notice_more lane notices i notice before between after lt is f (told_as [] (filter_map (told lane) (notice ∷ [])) between after (other_notice lane notice other) (none_told between after same))

-- ---- a call more

entry_more : (lane : ℕ) (journal : List Entry) (i : ℕ) (entry : Entry) (before between after : LaneState) → i < length journal → entry ≡ get_or journal i entry → TellsAll lane (take i journal) before between
    → TellsEach (flat_map (told_by lane) (entry ∷ [])) between after → TellsAll lane (take (i + 1) journal) before after
entry_more lane journal i entry before between after lt is f g =
    told_as (flat_map (told_by lane) (take i journal) ++ flat_map (told_by lane) (entry ∷ [])) (flat_map (told_by lane) (take (i + 1) journal)) before after
    (sym (ap (flat_map (told_by lane)) (next_taken journal i entry lt is) ∙ flat_map-append (told_by lane) (take i journal) (entry ∷ [])))
    (told_then (flat_map (told_by lane) (take i journal)) (flat_map (told_by lane) (entry ∷ [])) before between after f g)

other_entry : (lane : ℕ) (entry : Entry) → (entry.lane ≡ lane → ⊥) → filter_map (told lane) entry.reply.notices ≡ flat_map (told_by lane) (entry ∷ [])
other_entry lane entry ne = let e : eqb lane entry.lane ≡ false = ne_eqb lane entry.lane (λ same. ne (sym same)) in rw e (sym (append-nil (filter_map (told lane) entry.reply.notices)))

own_entry : (lane : ℕ) (entry : Entry) → entry.lane ≡ lane → [] ≡ flat_map (told_by lane) (entry ∷ [])
own_entry lane entry is = let e : eqb lane entry.lane ≡ true = eq-eqb lane entry.lane (sym is) in rw e refl

-- a call of another lane
pub entry_told : (lane : ℕ) (journal : List Entry) (i : ℕ) (entry : Entry) (notices : List Notice) (before between after : LaneState) → i < length journal → entry ≡ get_or journal i entry → TellsAll lane (take i journal) before between
    → (entry.lane ≡ lane → ⊥) → notices ≡ entry.reply.notices → TellsEntry lane notices between after → TellsAll lane (take (i + 1) journal) before after
entry_told lane journal i entry notices before between after lt is f other are tells =
    entry_more lane journal i entry before between after lt is f
    (told_as (filter_map (told lane) notices) (flat_map (told_by lane) (entry ∷ [])) between after (ap (filter_map (told lane)) are ∙ other_entry lane entry other) tells)

-- a call of the lane's own
pub entry_passed : (lane : ℕ) (journal : List Entry) (i : ℕ) (entry : Entry) (before between after : LaneState) → i < length journal → entry ≡ get_or journal i entry → TellsAll lane (take i journal) before between
    → entry.lane ≡ lane → after ≡ between → TellsAll lane (take (i + 1) journal) before after
entry_passed lane journal i entry before between after lt is f own same =
    entry_more lane journal i entry before between after lt is f (told_as [] (flat_map (told_by lane) (entry ∷ [])) between after (own_entry lane entry own) (none_told between after same))

-- ---- the line of one lane more

counted_more : (from n : ℕ) → count_up from (suc n) ≡ count_up from n ++ (from + n) ∷ []
counted_more from zero = ap (λ (k : ℕ). k ∷ []) (omega arith)
counted_more from (suc n) = ap (λ (l : List ℕ). from ∷ l) (counted_more (suc from) n ∙ ap (λ (k : ℕ). count_up (suc from) n ++ k ∷ []) (omega arith))

lines_more : {Y : Type 0} (line : ℕ → Option Y) (n : ℕ) → filter_map line (count_up 0 (n + 1)) ≡ filter_map line (count_up 0 n) ++ filter_map line (n ∷ [])
lines_more line n =
    let up : count_up 0 (n + 1) ≡ count_up 0 n ++ n ∷ [] = ap (count_up 0) (add-one n) ∙ counted_more 0 n ∙ ap (λ (k : ℕ). count_up 0 n ++ k ∷ []) (omega arith) in
    ap (filter_map line) up ∙ filter_map-append line (count_up 0 n) (n ∷ [])

one_line : {Y : Type 0} (line : ℕ → Option Y) (n : ℕ) (x : Y) → line n ≡ Some x → filter_map line (n ∷ []) ≡ x ∷ []
one_line line n x e = rw e refl

no_line : {Y : Type 0} (line : ℕ → Option Y) (n : ℕ) → line n ≡ None → filter_map line (n ∷ []) ≡ []
no_line line n e = rw e refl

-- a lane with a line
pub line_added : {Y : Type 0} (line : ℕ → Option Y) (n : ℕ) (x : Y) (old new : List Y) → old ≡ filter_map line (count_up 0 n) → line n ≡ Some x → new ≡ old ++ x ∷ [] → new ≡ filter_map line (count_up 0 (n + 1))
line_added line n x old new so_far e is = is ∙ ap (λ l. l ++ x ∷ []) so_far ∙ ap (λ l. filter_map line (count_up 0 n) ++ l) (sym (one_line line n x e)) ∙ sym (lines_more line n)

-- a lane with none
pub line_passed : {Y : Type 0} (line : ℕ → Option Y) (n : ℕ) (old new : List Y) → old ≡ filter_map line (count_up 0 n) → line n ≡ None → new ≡ old → new ≡ filter_map line (count_up 0 (n + 1))
line_passed line n old new so_far e is =
    is ∙ so_far ∙ sym (append-nil (filter_map line (count_up 0 n))) ∙ ap (λ l. filter_map line (count_up 0 n) ++ l) (sym (no_line line n e)) ∙ sym (lines_more line n)

-- a lane that was not told yet has served so
pub lane_there : (lanes first : List LaneState) (served : ℕ → Served) (lane place : ℕ) (link : LaneState) → AreLanes first served → lane < 32 → place ≡ lane → get_or lanes lane link ≡ get_or first lane link
    → IsLane (get_or lanes place link) (served lane)
lane_there lanes first served lane place link are lt at untold =
    subst (λ (s : LaneState). IsLane s (served lane)) (sym untold ∙ ap (λ (k : ℕ). get_or lanes k link) (sym at)) (are.each lane link lt)
