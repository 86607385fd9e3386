-- What the items of a tape came to, one more at a time.
use Rattle.std.proofs.Common.{◌≡◌, ℕ, ◌+◌, ◌<◌, Bool, true, false, cond, eqb, List, [], ◌∷◌, ◌++◌, length, map, set, slice_index_or, length-set, Option, Some, None, refl, sym, ap, subst, ◌∙◌, append_assoc, append-nil, arith, inl, inr}
use Rattle.std.specs.Prelude.{fold}
use Rattle.std.specs.List.{filter_map, AllByRecursion}
use Rattle.std.proofs.lemmas.Bool.{eqb-true, eqb-false}
use Rattle.std.proofs.lemmas.List.{map-append, get_or-set_same, get_or-set_other}
use Rattle.std.proofs.lemmas.List.Elements.{filter_map-append}
use Rattle.std.proofs.lemmas.List.Sums.{fold-append}
use Rattle.std.proofs.lemmas.Grind.{flat_map-append}
use Rattle.p4_types.specs.declared.events.Start.{Start}
use Rattle.p4_types.specs.declared.journal.Entry.{Entry}
use Rattle.p4_types.specs.declared.tape.TapeRecord.{TapeRecord}
use Rattle.p4_types.specs.declared.tape.TapeRecord.TheVariants.{Call, Packet, Leave, Meet}
use Rattle.switch_spec.specs.declared.calls.LaneCall.{LaneCall}
use Rattle.switch_spec.specs.declared.calls.LaneCall.TheVariants.{Asks, Leaves}
use Rattle.run_spec.specs.Play.{Played, items_of, item_of as turn_item, begun, next_answer, play_answer, play_out, play}
use Rattle.p4rt_service.specs.Dialogues.{Runs}
use Rattle.p4rt_service.specs.Turns.{Served, piece_served}
use Rattle.tape_spec.specs.declared.item.TapeItem.{TapeItem}
use Rattle.tape_spec.specs.declared.item.TapeItem.TheVariants.{Record, Bytes}
use Rattle.byte_lanes.specs.Filling.{Filled, Kept, Fed, Asked, Feed, exchange_of, item_of, records_in, records_of, feed_on, feeds_on, greeted, Feeds}
use Rattle.byte_lanes.specs.Lane.{LaneState, IsLane}
use Rattle.byte_lanes.specs.Laws.{AreOwn, FollowsOn}
use Rattle.lockstep_run.specs.Playing.{HasPlayed}
use Rattle.lockstep_run.specs.Session.{played_of, PlaysCall, Plays}
use Rattle.lockstep_run.specs.Speaking.{Speaking, Takes}
use Rattle.lockstep_run.specs.Speaking.{Feeds as FeedsOn}
use Rattle.lockstep_run.proofs.SessionBounds.{one_turn}

-- ---- what a record adds to the journal

record OwnEntries (item : TapeRecord) (old new : List Entry) : Type 0 where
  own : List Entry
  noted : new ≡ old ++ own
  are_own : AreOwn item own

out_keeps : (p : Played) (lane : ℕ) (o : Option (List ℕ)) → (play_out p lane o).journal ≡ p.journal
out_keeps p lane None = refl
out_keeps p lane (Some packet) = refl

-- a call's one entry is of its lane
call_own : (lane : ℕ) (call : LaneCall) (p q : Played) → PlaysCall p lane call q → (entry : Entry) × (q.journal ≡ p.journal ++ entry ∷ []) × (entry.lane ≡ lane)
unfolding play
call_own lane call p q (inl is) = (_, ap (λ (x : Played). x.journal) is ∙ out_keeps (play_answer p lane call) lane (next_answer p lane call).packet, refl)
call_own lane call p q (inr is) = (_, ap (λ (x : Played). x.journal) is, refl)

own_entries : (item : TapeRecord) (p q : Played) → Plays p item q → OwnEntries item p.journal q.journal
unfolding play
own_entries (Call lane method message) p q plays = let o = call_own lane (Asks method message) p q plays in record { own = o.0 ∷ []; noted = o.1; are_own = (o.2, tt) }
own_entries (Leave lane) p q plays = let o = call_own lane Leaves p q plays in record { own = o.0 ∷ []; noted = o.1; are_own = (o.2, tt) }
own_entries (Packet lane port packet) p q plays = record { own = []; noted = ap (λ (x : Played). x.journal) plays ∙ sym (append-nil p.journal); are_own = refl }
own_entries (Meet lane controller call) p q plays = record { own = []; noted = ap (λ (x : Played). x.journal) plays ∙ sym (append-nil p.journal); are_own = refl }

-- ---- one item more in what follows

-- the entries of one item
abbrev AreOf : Filled → List Entry → Type 0
AreOf (Kept it) own = AreOwn it own
AreOf (Fed lane piece asked) own = (map (λ entry. entry.reply) own ≡ map (λ one. one.reply) asked) × AllByRecursion (λ entry. entry.lane ≡ lane) own

follows_more : (filled : List Filled) (one : Filled) (journal own : List Entry) → FollowsOn filled journal → AreOf one own → FollowsOn (filled ++ one ∷ []) (journal ++ own)
follows_more [] (Kept it) journal own follows are = (own, [], ap (λ (j : List Entry). j ++ own) follows ∙ sym (append-nil own), are, refl)
follows_more [] (Fed lane piece asked) journal own follows are = (own, [], ap (λ (j : List Entry). j ++ own) follows ∙ sym (append-nil own), are.0, are.1, refl)
follows_more (Kept it ∷ filled) one journal own follows are =
    (follows.0, follows.1 ++ own, ap (λ (j : List Entry). j ++ own) follows.2 ∙ append_assoc follows.0 follows.1 own, follows.3, follows_more filled one follows.1 own follows.4 are)
follows_more (Fed lane piece asked ∷ filled) one journal own follows are =
    (follows.0, follows.1 ++ own, ap (λ (j : List Entry). j ++ own) follows.2 ∙ append_assoc follows.0 follows.1 own, follows.3, follows.4, follows_more filled one follows.1 own follows.5 are)

feeds_more : (before : Served) (feeds : List Feed) (middle : Served) (feed : Feed) (after : Served) → Feeds before feeds middle → Runs (piece_served feed.piece middle) (map exchange_of feed.asked) after → Feeds before (feeds ++ feed ∷ []) after
feeds_more before [] middle feed after is runs = (after, subst (λ (s : Served). Runs (piece_served feed.piece s) (map exchange_of feed.asked) after) is runs, refl)
feeds_more before (first ∷ feeds) middle feed after f runs = (f.0, f.1, feeds_more f.0 feeds middle feed after f.2 runs)

records_more : (filled : List Filled) (one : Filled) → records_of (filled ++ one ∷ []) ≡ records_of filled ++ records_in one
records_more filled one = flat_map-append records_in filled (one ∷ []) ∙ ap (λ (l : List TapeRecord). records_of filled ++ l) (append-nil (records_in one))

-- what one item feeds to a lane
feeds_by : (lane : ℕ) (filled : List Filled) (one : Filled) → feeds_on lane (filled ++ one ∷ []) ≡ feeds_on lane filled ++ feeds_on lane (one ∷ [])
feeds_by lane filled one = filter_map-append (feed_on lane) filled (one ∷ [])

-- ---- a record more

pub record_more : (start : Start) (items : List TapeItem) (lanes : List LaneState) (old new : Speaking) (it : TapeRecord) → HasPlayed start items lanes old → Takes it old new → HasPlayed start (items ++ Record it ∷ []) lanes new
record_more start items lanes old new it h takes =
    let p = played_of old.session in
    let q = played_of new.session in
    let t = one_turn it p q takes.plays in
    let o = own_entries it p q takes.plays in
    record {
      filled = h.filled ++ Kept it ∷ [];
      served = h.served;
      turns = h.turns ++ t.turn ∷ [];
      items_are = map-append item_of h.filled (Kept it ∷ []) ∙ ap (λ (l : List TapeItem). l ++ Record it ∷ []) h.items_are;
      turns_are = map-append turn_item h.turns (t.turn ∷ []) ∙ ap (λ (l : List TapeRecord). l ++ turn_item t.turn ∷ []) h.turns_are ∙ ap (λ (i : TapeRecord). records_of h.filled ++ i ∷ []) t.item_is ∙ sym (records_more h.filled (Kept it));
      played_is = t.played_is ∙ ap (λ (x : Played). play x t.turn) h.played_is ∙ sym (fold-append play (begun start) h.turns (t.turn ∷ []));
      follows = subst (FollowsOn (h.filled ++ Kept it ∷ [])) (sym o.noted) (follows_more h.filled (Kept it) old.session.journal o.own h.follows o.are_own);
      feeds = λ lane. subst (λ (f : List Feed). Feeds (greeted lane) f (h.served lane)) (sym (feeds_by lane h.filled (Kept it) ∙ append-nil (feeds_on lane h.filled))) (h.feeds lane);
      lanes_are = h.lanes_are;
      quiet = takes.quiet;
      goes_on = takes.goes_on;
    }

-- ---- bytes of a lane more

-- the lanes have served as before, but for one
abbrev with_served : ℕ → Served → (ℕ → Served) → ℕ → Served
with_served lane end served other = cond (eqb other lane) end (served other)

abbrev feed_of : List ℕ → List Asked → Feed
feed_of piece asked = record { piece = piece; asked = asked }

feed_by : (b : Bool) (other lane : ℕ) (piece : List ℕ) (asked : List Asked) (end before : Served) (feeds : List Feed) → eqb other lane ≡ b → Feeds (greeted other) feeds before
    → (other ≡ lane → Runs (piece_served piece before) (map exchange_of asked) end)
    → Feeds (greeted other) (feeds ++ filter_map (feed_on other) (Fed lane piece asked ∷ [])) (cond b end before)
feed_by true other lane piece asked end before feeds e f runs =
    subst (λ (l : List Feed). Feeds (greeted other) (feeds ++ l) end) (sym (rw e refl)) (feeds_more (greeted other) feeds before (feed_of piece asked) end f (runs (eqb-true other lane e)))
feed_by false other lane piece asked end before feeds e f runs =
    subst (λ (l : List Feed). Feeds (greeted other) (feeds ++ l) before) (sym (rw e refl)) (subst (λ (l : List Feed). Feeds (greeted other) l before) (sym (append-nil feeds)) f)

lane_by : (b : Bool) (lanes : List LaneState) (other lane : ℕ) (after d : LaneState) (end : Served) (served : ℕ → Served) → eqb other lane ≡ b → lane < length lanes → IsLane after end → IsLane (slice_index_or lanes other d) (served other)
    → IsLane (slice_index_or (set lanes lane after) other d) (cond b end (served other))
lane_by true lanes other lane after d end served e lt is before =
    subst (λ (x : LaneState). IsLane x end) (sym (ap (λ (i : ℕ). slice_index_or (set lanes lane after) i d) (eqb-true other lane e) ∙ get_or-set_same lanes lane after d lt)) is
lane_by false lanes other lane after d end served e lt is before =
    subst (λ (x : LaneState). IsLane x (served other)) (sym (get_or-set_other lanes lane other after d (λ (same : other ≡ lane). eqb-false other lane e same))) before

pub bytes_more : (start : Start) (items : List TapeItem) (lanes more : List LaneState) (old new : Speaking) (lane : ℕ) (piece : List ℕ) (after : LaneState) → HasPlayed start items lanes old → lane < 32
    → FeedsOn lane piece (slice_index_or lanes lane after) after old new → more ≡ set lanes lane after → HasPlayed start (items ++ Bytes lane piece ∷ []) more new
bytes_more start items lanes more old new lane piece after h lt fed is =
    let b = fed.brings (h.served lane) (h.lanes_are.each lane after lt) in
    let one : Filled = Fed lane piece b.asked in
    record {
      filled = h.filled ++ one ∷ [];
      served = with_served lane b.end h.served;
      turns = h.turns ++ b.turns;
      items_are = map-append item_of h.filled (one ∷ []) ∙ ap (λ (l : List TapeItem). l ++ Bytes lane piece ∷ []) h.items_are;
      turns_are = map-append turn_item h.turns b.turns ∙ ap (λ (l : List TapeRecord). l ++ items_of b.turns) h.turns_are ∙ ap (λ (l : List TapeRecord). records_of h.filled ++ l) b.items_are ∙ sym (records_more h.filled one);
      played_is = b.played_is ∙ ap (λ (x : Played). fold play x b.turns) h.played_is ∙ sym (fold-append play (begun start) h.turns b.turns);
      follows = subst (FollowsOn (h.filled ++ one ∷ [])) (sym b.noted) (follows_more h.filled one old.session.journal b.own h.follows (b.replies, b.of_lane));
      feeds = λ other. subst (λ (f : List Feed). Feeds (greeted other) f (with_served lane b.end h.served other)) (sym (feeds_by other h.filled one))
          (feed_by (eqb other lane) other lane piece b.asked b.end (h.served other) (feeds_on other h.filled) refl (h.feeds other) (λ same. subst (λ (l : ℕ). Runs (piece_served piece (h.served l)) (map exchange_of b.asked) b.end) (sym same) b.runs));
      lanes_are = record {
        wide = ap length is ∙ length-set lanes lane after ∙ h.lanes_are.wide;
        each = λ other d below. subst (λ (l : List LaneState). IsLane (slice_index_or l other d) (with_served lane b.end h.served other)) (sym is)
            (lane_by (eqb other lane) lanes other lane after d b.end h.served refl (omega (arith, lt, h.lanes_are.wide)) b.lane_is (h.lanes_are.each other d below));
      };
      quiet = fed.quiet;
      goes_on = fed.goes_on;
    }
