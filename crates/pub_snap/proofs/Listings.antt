-- Lists that have begun, and how they go on.
use Rattle.std.proofs.Common.{◌≡◌, ◌<◌, ◌≤◌, ℕ, ◌+◌, suc, List, [], ◌∷◌, ◌++◌, length, map, fold, Option, Some, None, Bool, true, false, refl, sym, ap, ◌∙◌, subst, arith}
use Rattle.std.specs.Prelude.{MatchBool}
use Rattle.std.proofs.lemmas.List.{map-append}
use Rattle.std.proofs.lemmas.List.Sums.{fold-append}
use mathlib.Core.List.{IsPrefix}
use Rattle.event_log.specs.Legal.{after, IsLegal}
use Rattle.event_log.specs.Lists as lists
use Rattle.event_log.proofs.Prefixes.{prefix_self, prefix_trans}
use Rattle.p4_types.specs.declared.events.Start.{Start}
use Rattle.plane_spec.specs.Config.{Event}
use Rattle.plane_spec.specs.Legal.{May, Legal}
use Rattle.plane_spec.specs.Planes.{ControlState, opened, apply, applied}
use Rattle.pub_snap.specs.declared.listed.Listed.{Listed}
use Rattle.pub_snap.specs.declared.listed.Listed.TheVariants.{Open, Made}
use Rattle.pub_snap.specs.Listing.{listed, MayList, listing, start_of, events_of, IsListing}
use Rattle.pub_snap.specs.Beginnings.{Beginning, beginning_of, with_events, Begins, IsLonger}

-- the events of a list of events
pub events_made : (events : List Event) → events_of (map (λ event. Made event) events) ≡ events
events_made [] = refl
events_made (event ∷ events) = ap (λ es. event ∷ es) (events_made events)

-- the state after events, from a state on
pub after_made : (c : ControlState) (events : List Event) → after listed (Some c) (map (λ event. Made event) events) ≡ Some (applied c events)
after_made c [] = refl
after_made c (event ∷ events) = after_made (apply c event) events

-- the state after a list that has begun
pub after_listing : (list : List Listed) → IsListing list → after listed None list ≡ Some (applied (opened (start_of list)) (events_of list))
after_listing list h = ap (after listed None) h.is ∙ after_made (opened (start_of list)) (events_of list)

-- what may follow the events may follow the list
pub may_follow : (list : List Listed) (event : Event) → IsListing list → May (applied (opened (start_of list)) (events_of list)) event → MayList (after listed None list) (Made event)
may_follow list event h may = subst (λ (c : Option ControlState). MayList c (Made event)) (sym (after_listing list h)) may

pub length_made : (events : List Event) → length (map (λ event. Made event) events) ≡ length events
length_made [] = refl
length_made (event ∷ events) = ap suc (length_made events)

pub length_listing : (list : List Listed) → IsListing list → length list ≡ length (events_of list) + 1
length_listing list h = ap length h.is ∙ omega (arith, length_made (events_of list))

-- events of a longer list
pub events_append : (xs ys : List Listed) → events_of (xs ++ ys) ≡ events_of xs ++ events_of ys
events_append [] ys = refl
events_append (Open start ∷ xs) ys = events_append xs ys
events_append (Made event ∷ xs) ys = ap (λ es. event ∷ es) (events_append xs ys)

-- legal lists and their going on
pub legal_more : (c : ControlState) (xs : List Event) (event : Event) → Legal c xs → May (applied c xs) event → Legal c (xs ++ event ∷ [])
legal_more c [] event legal may = (may, tt)
legal_more c (x ∷ xs) event legal may = (legal.0, legal_more (apply c x) xs event legal.1 may)

-- a list that has begun goes on
start_more : (list : List Listed) (start : Start) (rest : List Listed) (more : List Listed) → list ≡ Open start ∷ rest → start_of (list ++ more) ≡ start_of list
start_more list start rest more is = ap (λ (xs : List Listed). start_of (xs ++ more)) is ∙ sym (ap start_of is)

pub start_stays : (list more : List Listed) → IsListing list → start_of (list ++ more) ≡ start_of list
start_stays list more h = start_more list (start_of list) (map (λ event. Made event) (events_of list)) more h.is

pub goes_on : (list : List Listed) (event : Event) → IsListing list → May (applied (opened (start_of list)) (events_of list)) event → IsListing (list ++ Made event ∷ [])
goes_on list event h may =
    let start : start_of (list ++ Made event ∷ []) ≡ start_of list = start_stays list (Made event ∷ []) h in
    let events : events_of (list ++ Made event ∷ []) ≡ events_of list ++ event ∷ [] = events_append list (Made event ∷ []) in
    record {
      is = ap (λ xs. xs ++ Made event ∷ []) h.is ∙ (ap (λ xs. Open (start_of list) ∷ xs) (sym (map-append (λ event. Made event) (events_of list) (event ∷ []))) ∙ (ap (λ s. listing s (events_of list ++ event ∷ [])) (sym start) ∙ ap (listing (start_of (list ++ Made event ∷ []))) (sym events)));
      legal = subst (λ (s : Start). Legal (opened s) (events_of (list ++ Made event ∷ []))) (sym start) (subst (Legal (opened (start_of list))) (sym events) (legal_more (opened (start_of list)) (events_of list) event h.legal may));
    }

-- a list of the start alone has begun
pub begins_list : (list : List Listed) (start : Start) → list ≡ Open start ∷ [] → IsListing list
begins_list list start is = subst IsListing (sym is) (record { is = refl; legal = tt })

-- beginnings of lists are beginnings of their events
pub prefix_events : (xs ys : List Listed) → IsPrefix xs ys → IsPrefix (events_of xs) (events_of ys)
prefix_events xs ys p = (events_of p.0, sym (events_append xs p.0) ∙ ap events_of p.1)

pub begins : (a b : lists.Known Listed) → IsListing a.events → lists.Begins a b → Begins (beginning_of a) (beginning_of b)
begins a b h p = record {
  list = p.0;
  start = ap start_of (sym p.1.1) ∙ start_stays a.events p.1.0 h;
  events = prefix_events a.events b.events p.1;
}

pub longer : (a b : lists.Known Listed) → IsListing a.events → IsListing b.events → lists.IsLonger a b → IsLonger (beginning_of a) (beginning_of b)
longer a b h k p = (begins a b h p.0, (let m = length_listing a.events h in let n = length_listing b.events k in let l = p.1 in omega arith))

pub compared : (a b : lists.Known Listed) (r : Bool) → IsListing a.events → IsListing b.events → MatchBool r (lists.Begins a b) (lists.IsLonger b a) → MatchBool r (Begins (beginning_of a) (beginning_of b)) (IsLonger (beginning_of b) (beginning_of a))
compared a b true h k p = begins a b h p
compared a b false h k p = longer b a k h p

-- each beginning begins itself, and what begins a beginning begins what that begins
pub begins_self : (b : Beginning) → Begins b b
begins_self b = record { list = refl; start = refl; events = prefix_self b.events }

pub begins_trans : (a b c : Beginning) → Begins a b → Begins b c → Begins a c
begins_trans a b c p q = record { list = q.list ∙ p.list; start = q.start ∙ p.start; events = prefix_trans a.events b.events c.events p.events q.events }

pub begins_more : (b : Beginning) (events : List Event) → Begins b (with_events b events)
begins_more b events = record { list = refl; start = refl; events = (events, refl) }

-- a list that goes on by an event
pub added : (k : lists.Known Listed) (event : Event) → IsListing k.events → beginning_of (lists.with_event k (Made event)) ≡ with_events (beginning_of k) (event ∷ [])
added k event h =
    ap (λ (s : Start). record { list = k.list; start = s; events = events_of (k.events ++ Made event ∷ []) }) (start_stays k.events (Made event ∷ []) h)
    ∙ ap (λ (es : List Event). record { list = k.list; start = start_of k.events; events = es }) (events_append k.events (Made event ∷ []))

-- what is legal after legal events goes on with them
pub legal_append : (c : ControlState) (xs ys : List Event) → Legal c xs → Legal (applied c xs) ys → Legal c (xs ++ ys)
legal_append c [] ys first second = second
legal_append c (x ∷ xs) ys first second = (first.0, legal_append (apply c x) xs ys first.1 second)

-- the same behind published events
pub legal_pending : (c : ControlState) (events pending more : List Event) → Legal (applied c events) pending → Legal (applied c (events ++ pending)) more → Legal (applied c events) (pending ++ more)
legal_pending c events pending more first second =
    legal_append (applied c events) pending more first (subst (λ (d : ControlState). Legal d more) (fold-append apply c events pending) second)
