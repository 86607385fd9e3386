-- A run that follows the tape has each packet of a worker behind the calls that the worker met, where those were made before.
use Rattle.std.proofs.Common.{◌≡◌, ℕ, ◌+◌, ◌≤◌, max, Bool, true, false, cond, eqb, List, [], ◌∷◌, ◌++◌, length, map, get_or, refl, ap, ◌∙◌, sym, subst, Option, Some, None, append_assoc, length-append, arith}
use Rattle.std.proofs.lemmas.List.Elements.{filter-append}
use Rattle.std.specs.Prelude.{◌==◌}
use Rattle.std.specs.List.{AllByRecursion, filter_map, cons_option}
use Rattle.p4_types.specs.declared.events.Start.{Start}
use Rattle.p4_types.specs.declared.tape.TapeRecord.{TapeRecord}
use Rattle.p4_types.specs.declared.tape.TapeRecord.TheVariants.{Call, Packet, Leave, Meet}
use Rattle.p4_types.specs.declared.tape.Who.TheVariants.{Worker}
use Rattle.plane_spec.proofs.Lists.{All-weaken, All-snoc, All-filter}
use Rattle.switch_spec.specs.History.{Made}
use Rattle.switch_spec.specs.Counts.{Figures, Arrival, Carried, counted}
use Rattle.switch_spec.proofs.Through.{AreBy, numbered_by}
use Rattle.switch_spec.specs.Carrying.{made_on, carried_on, packet_out, steps_through}
use Rattle.switch_spec.specs.declared.calls.WorkerItem.{WorkerItem}
use Rattle.switch_spec.specs.declared.calls.WorkerItem.TheVariants.{Brings, Meets}
use Rattle.run_spec.specs.Tape.{Lanes, with_call, lanes_after, NameMade}
use Rattle.run_spec.specs.Report.{item_on, IsBehindMeets, carried_after, figures_out, IsFollowed, Lockstep}
use Rattle.run_spec.proofs.Following.{on_by, no_worker}
use Rattle.run_spec.proofs.Playing.{Rises}

-- at least as many calls of each lane stand in a journal as the tape so far says
abbrev HasCalls : Lanes → List Made → Type 0
HasCalls lanes journal = (lane : ℕ) → lanes.calls lane ≤ length (made_on lane journal)

-- the steps through a call that was made are at most those so far
through_by : (controller call n : ℕ) (before journal whole : List Made) → whole ≡ before ++ journal → AreBy n before → call ≤ length (made_on controller before) → steps_through controller call whole ≤ n
through_by controller call n before journal whole is by le =
    let split : made_on controller whole ≡ made_on controller before ++ made_on controller journal =
    ap (made_on controller) is ∙ filter-append (λ (made : Made). controller == made.entry.lane) before journal in
    let P : List Made → Type 0 = λ calls. get_or (0 ∷ map (λ (made : Made). made.entry.reply.steps) calls) call 0 ≤ n in
    subst P (sym split) (numbered_by (made_on controller before) (made_on controller journal) call n
    (All-filter (λ (made : Made). made.entry.reply.steps ≤ n) (λ (made : Made). controller == made.entry.lane) before by) le)

-- with one call more
count_more : (t : Bool) (n : ℕ) (calls : List Made) (made : Made) → n ≤ length calls → cond t (n + 1) n ≤ length (calls ++ cond t (made ∷ []) [])
count_more true n calls made le = omega (arith, le, length-append calls (made ∷ []))
count_more false n calls made le = omega (arith, le, length-append {A = Made} calls [])

calls_more : (lanes : Lanes) (lane : ℕ) (before : List Made) (made : Made) → made.entry.lane ≡ lane → HasCalls lanes before → HasCalls (with_call lane lanes) (before ++ made ∷ [])
calls_more lanes lane before made is h other =
    let split : made_on other (before ++ made ∷ []) ≡ made_on other before ++ cond (eqb other lane) (made ∷ []) [] =
    filter-append (λ (made : Made). other == made.entry.lane) before (made ∷ []) ∙ ap (λ (l : ℕ). made_on other before ++ cond (eqb other l) (made ∷ []) []) is in
    let P : List Made → Type 0 = λ calls. cond (eqb other lane) (lanes.calls other + 1) (lanes.calls other) ≤ length calls in
    subst P (sym split) (count_more (eqb other lane) (lanes.calls other) (made_on other before) made (h other))

by_more : (n : ℕ) (before : List Made) (made : Made) → AreBy n before → n ≤ made.entry.reply.steps → AreBy made.entry.reply.steps (before ++ made ∷ [])
by_more n before made by le =
    All-snoc (λ (m : Made). m.entry.reply.steps ≤ made.entry.reply.steps) before made
    (All-weaken (λ (m : Made). m.entry.reply.steps ≤ n) (λ (m : Made). m.entry.reply.steps ≤ made.entry.reply.steps) (λ m h. omega (arith, h, le)) before by) (omega arith)

-- a packet of this lane or of another
one_packet : (t : Bool) (whole : List Made) (least port : ℕ) (packet : List ℕ) (items : List WorkerItem) (first : Carried) (records : List Carried) → least ≤ first.outcome.steps → IsBehindMeets whole least items records
    → IsBehindMeets whole least (cons_option (cond t (Some (Brings port packet)) None) items) (cond t (first ∷ records) records)
one_packet true whole least port packet items first records le rest = (le, rest)
one_packet false whole least port packet items first records le rest = rest

-- a meet of this lane or of another
one_meet : (t : Bool) (whole : List Made) (least controller call : ℕ) (items : List WorkerItem) (records : List Carried) → IsBehindMeets whole (max least (steps_through controller call whole)) items records
    → IsBehindMeets whole least items records → IsBehindMeets whole least (cons_option (cond t (Some (Meets controller call)) None) items) records
one_meet true whole least controller call items records here there = here
one_meet false whole least controller call items records here there = there

-- the rest of a run in lockstep, behind these calls
record Behind (n least : ℕ) (lanes : Lanes) (before journal whole : List Made) : Type 0 where
  has_calls : HasCalls lanes before
  by : AreBy n before
  rises : Rises n journal
  whole_is : whole ≡ before ++ journal
  reached : least ≤ n

behind_call : (n least lane : ℕ) (lanes : Lanes) (before journal whole : List Made) (made : Made) → made.entry.lane ≡ lane → Behind n least lanes before (made ∷ journal) whole
    → Behind made.entry.reply.steps least (with_call lane lanes) (before ++ made ∷ []) journal whole
behind_call n least lane lanes before journal whole made is b = record {
  has_calls = calls_more lanes lane before made is b.has_calls;
  by = by_more n before made b.by b.rises.0;
  rises = b.rises.1;
  whole_is = b.whole_is ∙ sym (append_assoc before (made ∷ []) journal);
  reached = omega (arith, b.reached, b.rises.0);
}

-- the packets of a worker behind a call
past_call : (start : Start) (lane least : ℕ) (items : List WorkerItem) (whole : List Made) (made : Made) (records : List Carried) → IsFollowed (packet_out start made) made records
    → IsBehindMeets whole least items (carried_on (Worker lane) (carried_after (packet_out start made) records)) → IsBehindMeets whole least items (carried_on (Worker lane) records)
past_call start lane least items whole made records followed rest =
    subst (λ (r : List Carried). IsBehindMeets whole least items r) (sym (no_worker lane (packet_out start made) made records followed)) rest

meets_follow : (start : Start) (lane n : ℕ) (g : Figures) (tape : List TapeRecord) (journal : List Made) (records : List Carried) (least : ℕ) (lanes : Lanes) (before whole : List Made)
    → Lockstep start n g tape journal records → NameMade lanes tape → Behind n least lanes before journal whole → IsBehindMeets whole least (filter_map (item_on lane) tape) (carried_on (Worker lane) records)
meets_follow start lane n g [] journal records least lanes before whole h names b = tt
meets_follow start lane n g (Call other method message ∷ tape) [] records least lanes before whole h names b = absurd h
meets_follow start lane n g (Call other method message ∷ tape) (made ∷ journal) records least lanes before whole h names b =
    past_call start lane least (filter_map (item_on lane) tape) whole made records h.0.followed
    (meets_follow start lane made.entry.reply.steps (figures_out (packet_out start made) g records) tape journal _ least (with_call other lanes) (before ++ made ∷ []) whole h.1 names.1
    (behind_call n least other lanes before journal whole made h.0.lane_is b))
meets_follow start lane n g (Leave other ∷ tape) [] records least lanes before whole h names b = absurd h
meets_follow start lane n g (Leave other ∷ tape) (made ∷ journal) records least lanes before whole h names b =
    let next = behind_call n least other lanes before journal whole made h.0.lane_is b in
    past_call start lane least (filter_map (item_on lane) tape) whole made records h.0.followed
    (meets_follow start lane made.entry.reply.steps (figures_out (packet_out start made) g records) tape journal _ least (lanes_after lanes (Leave other)) (before ++ made ∷ []) whole h.1 names.1
    (record { has_calls = next.has_calls; by = next.by; rises = next.rises; whole_is = next.whole_is; reached = next.reached }))
meets_follow start lane n g (Packet other port packet ∷ tape) journal [] least lanes before whole h names b = absurd h
meets_follow start lane n g (Packet other port packet ∷ tape) journal (carried ∷ records) least lanes before whole h names b =
    let P : List Carried → Type 0 = λ r. IsBehindMeets whole least (cons_option (cond (eqb lane other) (Some (Brings port packet)) None) (filter_map (item_on lane) tape)) r in
    subst P (sym (on_by (Worker lane) (Worker other) carried records h.0))
    (one_packet (eqb lane other) whole least port packet (filter_map (item_on lane) tape) carried (carried_on (Worker lane) records) (omega (arith, h.2, b.reached))
    (meets_follow start lane n (counted g carried) tape journal records least lanes before whole h.3 names.1 b))
meets_follow start lane n g (Meet other controller call ∷ tape) journal records least lanes before whole h names b =
    let through : steps_through controller call whole ≤ n = through_by controller call n before journal whole b.whole_is b.by (omega (arith, names.0, b.has_calls controller)) in
    let higher : ℕ = max least (steps_through controller call whole) in
    one_meet (eqb lane other) whole least controller call (filter_map (item_on lane) tape) (carried_on (Worker lane) records)
    (meets_follow start lane n g tape journal records higher lanes before whole h names.1
    (record { has_calls = b.has_calls; by = b.by; rises = b.rises; whole_is = b.whole_is; reached = omega (arith, b.reached, through) }))
    (meets_follow start lane n g tape journal records least lanes before whole h names.1 b)

-- from the first record on
pub meets_from_start : (start : Start) (lane : ℕ) (g : Figures) (tape : List TapeRecord) (journal : List Made) (records : List Carried) (lanes : Lanes) → ((controller : ℕ) → lanes.calls controller ≤ 0)
    → Lockstep start 0 g tape journal records → NameMade lanes tape → Rises 0 journal → IsBehindMeets journal 0 (filter_map (item_on lane) tape) (carried_on (Worker lane) records)
meets_from_start start lane g tape journal records lanes none h names rises =
    meets_follow start lane 0 g tape journal records 0 lanes [] journal h names
    (record { has_calls = λ controller. omega (arith, none controller); by = tt; rises = rises; whole_is = refl; reached = omega arith })
