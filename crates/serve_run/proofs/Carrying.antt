-- Packets that were carried, over several takes.
use Rattle.std.proofs.Common.{◌≡◌, ℕ, List, [], ◌∷◌, ◌++◌, map, fold, Option, None, Some, refl, sym, ◌∙◌, ap, subst, take, append-nil}
use Rattle.std.proofs.lemmas.List.{map-append}
use Rattle.std.proofs.lemmas.Grind.{flat_map-append}
use Rattle.live_desk.specs.Passing.{HasRun}
use Rattle.packet_spec.specs.Meaning.{Verdict}
use Rattle.serve_run.specs.Carrying.{Bound, Carried, Carries, HasCarried, IsPut, arrival, departures, leaving, verdict_of}
use Rattle.serve_run.specs.Laws.{AreInOrder, counted}
use Rattle.serve_run.specs.declared.ports_end.PortsEnd.{PortsEnd}
use Rattle.serve_run.specs.declared.ports_end.PortsEnd.TheVariants as ends
use Rattle.pub_snap.proofs.Listings.{begins_self}
use Rattle.pub_snap.specs.Beginnings.{Beginning, Begins}
use Rattle.snap_worker.specs.Working.{Working}
use Rattle.sw_edge.proofs.ToldLaws.{Appends-trans, AppendsPrefix-all, Appends-AppendsPrefix, Consumes-Keeps, Consumes-trans, Keeps-Appends}
use Rattle.sw_edge.specs.Told.{Appends, AppendsPrefix, Consumes, Keeps}

-- ---- what a worker ran

carried_more : (before between after : Working) (packets others : List Carried) → HasCarried before packets between → HasCarried between others after → HasCarried before (packets ++ others) after
carried_more before between after [] others first second = subst (λ (w : Working). HasCarried w others after) first second
carried_more before between after (one ∷ rest) others first second =
    (first.0, first.1, first.2, carried_more first.0 between after rest others first.3 second)

pub none_goes_back : (before after : Working) (packets : List Carried) → HasCarried before packets after → AreInOrder before.told packets after.told
none_goes_back before after [] ran = subst (λ (w : Working). Begins before.told w.told) (sym ran) (begins_self before.told)
none_goes_back before after (one ∷ rest) ran =
    let between : Working = ran.0 in
    (subst (λ (t : Beginning). Begins before.told t) (sym ran.1) ran.2.told, subst (λ (t : Beginning). AreInOrder t rest after.told) (sym ran.1) (none_goes_back between after rest ran.3))

pub counts_all : (before after : Working) (packets : List Carried) → HasCarried before packets after → after.seat ≡ fold counted before.seat packets
counts_all before after [] ran = ap (λ (w : Working). w.seat) ran
counts_all before after (one ∷ rest) ran = counts_all ran.0 after rest ran.3 ∙ ap (λ seat. fold counted seat rest) ran.2.counted

-- ---- what ports gave and took

kept_is_none : {A : Type 0} (a b : Option (List A)) → Keeps a b → Consumes a b []
kept_is_none None b kept = tt
kept_is_none (Some x) None kept = absurd kept
kept_is_none (Some x) (Some y) kept = sym kept

pub kept_adds_none : {A : Type 0} (a b : Option (List A)) → Keeps a b → Appends a b []
kept_adds_none None b kept = tt
kept_adds_none (Some x) None kept = absurd kept
kept_adds_none (Some x) (Some y) kept = kept ∙ sym (append-nil x)

all_put : (end : Option PortsEnd) (a b : Option (List Bound)) (packets : List Bound) → Appends a b packets → IsPut end a b packets
all_put None a b packets put = put
all_put (Some ends.Closed) a b packets put = put
all_put (Some ends.Stopped) a b packets put = put
all_put (Some ends.Memory) a b packets put = put
all_put (Some ends.Fault) a b packets put = AppendsPrefix-all a b packets put

put_more : (end : Option PortsEnd) (a b c : Option (List Bound)) (xs ys : List Bound) → Appends a b xs → IsPut end b c ys → IsPut end a c (xs ++ ys)
put_more None a b c xs ys first second = Appends-trans a b c xs ys first second
put_more (Some ends.Closed) a b c xs ys first second = Appends-trans a b c xs ys first second
put_more (Some ends.Stopped) a b c xs ys first second = Appends-trans a b c xs ys first second
put_more (Some ends.Memory) a b c xs ys first second = Appends-trans a b c xs ys first second
put_more (Some ends.Fault) a b c xs ys first second = Appends-AppendsPrefix a b c xs ys first second

-- ---- takes

-- nothing came
pub none_carried : (end : Option PortsEnd) (left rest sent now : Option (List Bound)) (before after : Working) → Keeps left rest → Keeps sent now → after ≡ before → Carries end left rest sent now before after
none_carried end left rest sent now before after kept unsent same = record {
  packets = [];
  took = kept_is_none left rest kept;
  ran = same;
  put = all_put end sent now [] (kept_adds_none sent now unsent);
}

-- a packet as its worker ran it
abbrev as_run : ℕ → List ℕ → Working → Carried
as_run port bytes after = record { port = port; bytes = bytes; told = after.told }

ran_one : (port : ℕ) (bytes : List ℕ) (before after : Working) (verdict : Verdict) → HasRun port bytes before after verdict → HasCarried before (as_run port bytes after ∷ []) after
ran_one port bytes before after verdict ran =
    (after, refl, subst (λ (v : Verdict). HasRun port bytes before after v) ran.meant ran, refl)

leaves_by : (port : ℕ) (bytes : List ℕ) (before after : Working) (verdict : Verdict) → HasRun port bytes before after verdict → leaving verdict ≡ departures (as_run port bytes after ∷ [])
leaves_by port bytes before after verdict ran =
    ap (λ (v : Verdict). leaving v) ran.meant ∙ sym (append-nil (leaving (verdict_of (as_run port bytes after))))

-- a packet came, and all that it makes leave was put
pub one_carried : (port : ℕ) (bytes : List ℕ) (left between rest sent meanwhile now : Option (List Bound)) (before after : Working) (verdict : Verdict)
    → Consumes left between ((port, bytes) ∷ []) → Keeps between rest → Keeps sent meanwhile → Appends meanwhile now (leaving verdict) → HasRun port bytes before after verdict
    → Carries None left rest sent now before after
one_carried port bytes left between rest sent meanwhile now before after verdict took kept unsent put ran = record {
  packets = as_run port bytes after ∷ [];
  took = Consumes-Keeps left between rest ((port, bytes) ∷ []) took kept;
  ran = ran_one port bytes before after verdict ran;
  put = subst (Appends sent now) (leaves_by port bytes before after verdict ran) (Keeps-Appends sent meanwhile now (leaving verdict) unsent put);
}

keeps_prefix : (a b c : Option (List Bound)) (xs : List Bound) → Keeps a b → AppendsPrefix b c xs → AppendsPrefix a c xs
keeps_prefix a b c xs kept put = (put.0, put.1, Keeps-Appends a b c (take put.0 xs) kept put.2)

-- a packet came, and the ports failed
pub one_broken : (port : ℕ) (bytes : List ℕ) (left between rest sent meanwhile now : Option (List Bound)) (before after : Working) (verdict : Verdict)
    → Consumes left between ((port, bytes) ∷ []) → Keeps between rest → Keeps sent meanwhile → AppendsPrefix meanwhile now (leaving verdict) → HasRun port bytes before after verdict
    → Carries (Some ends.Fault) left rest sent now before after
one_broken port bytes left between rest sent meanwhile now before after verdict took kept unsent put ran = record {
  packets = as_run port bytes after ∷ [];
  took = Consumes-Keeps left between rest ((port, bytes) ∷ []) took kept;
  ran = ran_one port bytes before after verdict ran;
  put = subst (AppendsPrefix sent now) (leaves_by port bytes before after verdict ran) (keeps_prefix sent meanwhile now (leaving verdict) unsent put);
}

-- one take behind others
pub carried_on : (end : Option PortsEnd) (left between rest sent meanwhile now : Option (List Bound)) (before during after : Working)
    → Carries None left between sent meanwhile before during → Carries end between rest meanwhile now during after → Carries end left rest sent now before after
carried_on end left between rest sent meanwhile now before during after first second = record {
  packets = first.packets ++ second.packets;
  took = subst (Consumes left rest) (sym (map-append arrival first.packets second.packets)) (Consumes-trans left between rest (map arrival first.packets) (map arrival second.packets) first.took second.took);
  ran = carried_more before during after first.packets second.packets first.ran second.ran;
  put = subst (IsPut end sent now) (sym (flat_map-append (λ (one : Carried). leaving (verdict_of one)) first.packets second.packets)) (put_more end sent meanwhile now (departures first.packets) (departures second.packets) first.put second.put);
}
