use Rattle.std.proofs.Common.{◌≡◌, ◌<◌, ◌≤◌, ◌-◌, ◌^◌, ◌∙◌, ◌++◌, ◌∷◌, ap, sym, refl, List, [], ℕ, length, drop, slice_index, IfSome, subst, arith, length-append}
use Rattle.std.proofs.lemmas.List.{length-map}
use Rattle.ctl_lock.specs.Calls.{journal_of, made_of}
use Rattle.snap_worker.specs.Sums.{figures_in}
use Rattle.ctl_lock.specs.Locked.{IsStanding, IsEntry, Locking, SeeAll, SeesAll, seat_of}
use Rattle.ctl_lock.specs.declared.signed.Signed.{Signed}
use Rattle.lane_table.specs.Lanes.{Journal, with_entry}
use Rattle.p4_types.specs.declared.calls.Reply.{Reply}
use Rattle.plane_spec.specs.Config.{Event}
use Rattle.plane_spec.specs.Planes.{ControlState, opened, applied}
use Rattle.pub_snap.specs.Beginnings.{Beginning}
use Rattle.pub_snap.specs.Snapshots.{all_of}
use Rattle.run_press.proofs.StepsBehind.{if_ok_as}
use Rattle.switch_spec.specs.History.{Made, is_unavailable, journal_events, steps_of}
use Rattle.ctl_lock.proofs.Closing.{see_more, sees_by}
use Rattle.ctl_lock.proofs.Standing.{standing_more, longer, short, published_all, journal_more}
use Rattle.ctl_lock.proofs.locked.Locked.make.Goals as goal

pub entry-entry-requires-clause-before : goal.entry-entry-requires-clause-before
entry-entry-requires-clause-before g c =
    let h = c.reply-reply.ensures.handled c.args.call c.requires.read in
    let more : length (all_of c.self.inside.line) ≤ length (all_of c.reply-reply.new.line) = longer _ _ _ _ _ _ _ _ h in
    omega (arith, more, c.len-before.ensures)

pub invariant_of-self-2 : goal.invariant_of-self-2
invariant_of-self-2 g c =
    let start = g.J.Naming.start in
    let table = g.J.Naming.table in
    let items : List Signed = c.self.inside.journal.items in
    let signed : Signed = record { call = c.args.call; figures = c.args.figures; entry = c.entry-entry.result } in
    let given : List Event = all_of c.self.inside.line in
    let now : List Event = all_of c.reply-reply.new.line in
    let pushed : c.push_reserved.new.self.items ≡ items ++ signed ∷ [] = c.push_reserved.ensures.items ∙ ap (λ (l : List Signed). l ++ signed ∷ []) c.reserve.ensures.items in
    let h = c.reply-reply.ensures.handled c.args.call c.requires.read in
    let few : length now ≤ 2 ^ 64 - 1 = omega (arith, c.entry-entry.ensures.few) in
    let short : length (journal_of items) < 2 ^ 64 - 1 = omega (arith, c.len-made.ensures, c.len-made.type_inv, ap length pushed, length-append items (signed ∷ []), length-map items made_of) in
    let before_is : c.len-before.result ≡ length given = c.len-before.ensures in
    let entered = subst (λ (n : ℕ). IsEntry c.args.lane (slice_index c.reply-reply.new.control.calls c.args.lane) (drop n now) c.reply-reply.result c.entry-entry.result) before_is c.entry-entry.ensures.entry in
    let stands : IsStanding start now c.reply-reply.new.control (journal_of items ++ made_of signed ∷ []) =
    standing_more start given now c.self.inside.control c.reply-reply.new.control (journal_of items) c.args.lane (figures_in c.args.figures) c.args.call c.reply-reply.result (made_of signed)
    c.self.invariant.2 c.requires.lane short few refl refl h entered in
    let stood = c.self.invariant.2 in
    let state : applied (opened start) (journal_events (opened start) (journal_of items)) ≡ c.self.inside.control.control = ap (applied (opened start)) (sym stood.events_are) ∙ sym stood.control in
    let slots : c.self.inside.control.control.next_slot ≡ c.args.self.now.core.control.next_slot = ap (λ (v : Locking). v.core.control.next_slot) c.self.view_is in
    let sees : SeesAll c.self.inside.control.control signed =
    λ there asks. sees_by c.args.read.now c.args.call c.args.figures c.args.self.now.core.control.next_slot c.reply-reply.result.code c.requires.read c.reply-reply.ensures.refused c.requires.drawn
    (ap (λ (r : Reply). is_unavailable r.code) (sym entered.reply_is) ∙ there) asks ∙ sym slots in
    let all : SeeAll (opened start) (items ++ signed ∷ []) =
    see_more (opened start) items signed c.self.invariant.3 (subst (λ (x : ControlState). SeesAll x signed) (sym state) sees) in
    let P : List Event → Type 0 = λ l. IsStanding start l c.reply-reply.new.control (journal_of items ++ made_of signed ∷ []) in
    let Q : List Made → Type 0 = λ l. IsStanding start (all_of c.publish.new.self) c.reply-reply.new.control l in (
      c.publish.ensures.pending,
      c.sign.ensures.journal ∙ ap (λ (s : Journal Signed). with_entry s signed) c.self.invariant.1 ∙ ap (seat_of table) (sym pushed),
      subst Q (sym (journal_more items c.push_reserved.new.self.items signed pushed)) (subst P (sym (published_all c.publish.new.self now c.publish.ensures.told c.publish.ensures.pending)) stands),
      subst (λ (l : List Signed). SeeAll (opened start) l) (sym pushed) all,
    )

pub returns-clause-made : goal.returns-clause-made
returns-clause-made g c =
    let signed : Signed = record { call = c.args.call; figures = c.args.figures; entry = c.entry-entry.result } in
    let now : List Event = all_of c.reply-reply.new.line in
    let h = c.reply-reply.ensures.handled c.args.call c.requires.read in
    let e = c.entry-entry.ensures.entry in
    let events : c.tell.result.events ≡ now = ap (λ (b : Beginning). b.events) c.tell.ensures.told ∙ c.publish.ensures.told in
    let stands = (invariant_of-self-2 g c).2 in
    let same : c.tell.result.events ≡ all_of c.publish.new.self = events ∙ sym (published_all c.publish.new.self now c.publish.ensures.told c.publish.ensures.pending) in
    let S : Reply → Type 0 = λ r. IfSome r.packet (λ packet. length packet ≤ 9216) in
    record {
      signed = signed;
      lane = c.sign.ensures.lane;
      call_is = refl;
      figures_are = refl;
      lane_is = e.lane_is ∙ sym c.requires.number;
      packet = if_ok_as c.copied-packet.result _ _ (ap (λ (r : Reply). r.packet) (sym e.reply_is)) c.copied-packet.ensures;
      size = subst S (sym e.reply_is) (short _ _ _ _ _ _ _ _ h);
      told_list = c.tell.ensures.list;
      told_start = c.tell.ensures.start;
      told_steps = ap (λ (l : List Event). length (steps_of l)) same ∙ stands.each_step ∙ sym stands.steps ∙ sym h.steps ∙ ap (λ (r : Reply). r.steps) (sym e.reply_is);
    }
