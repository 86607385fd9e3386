use Rattle.std.proofs.Common.{◌≡◌, ◌∙◌, ◌≤◌, ap, sym, refl, List, length, arith}
use Rattle.ctl_lock.specs.Calls.{journal_of}
use Rattle.ctl_lock.specs.declared.signed.Signed.{Signed}
use Rattle.ctl_lock.proofs.Meeting.{as_told, counted_by, through_by}
use Rattle.ctl_lock.proofs.Standing.{published_all}
use Rattle.ctl_lock.proofs.locked.Locked.noted.Goals as goal
use Rattle.lane_table.specs.Lanes.{Journal, Noted}
use Rattle.lane_work.specs.Work.{steps_told}
use Rattle.plane_spec.specs.Config.{Event}
use Rattle.pub_snap.specs.Beginnings.{Beginning}
use Rattle.pub_snap.specs.Snapshots.{all_of}
use Rattle.switch_spec.specs.Carrying.{made_on, steps_through}
use Rattle.switch_spec.specs.History.{steps_of}

pub returns-clause-number : goal.returns-clause-number
returns-clause-number g c =
    let items : List Signed = c.self.inside.journal.items in
    let entries : c.note-note.result.entries ≡ items = ap (λ (n : Noted Signed). n.entries) c.note-note.ensures.note ∙ ap (λ (s : Journal Signed). s.entries) c.self.invariant.1 in
    c.calls_of-number.ensures ∙ c.self.invariant.2.calls c.args.lane c.requires.lane ∙ counted_by c.args.lane (journal_of items) ∙ ap (λ (l : List Signed). length (made_on c.args.lane (journal_of l))) (sym entries)

pub returns-clause-through : goal.returns-clause-through
returns-clause-through g c =
    let items : List Signed = c.self.inside.journal.items in
    let entries : c.note-note.result.entries ≡ items = ap (λ (n : Noted Signed). n.entries) c.note-note.ensures.note ∙ ap (λ (s : Journal Signed). s.entries) c.self.invariant.1 in
    let number : c.calls_of-number.result ≡ length (made_on c.args.lane (journal_of items)) = c.calls_of-number.ensures ∙ c.self.invariant.2.calls c.args.lane c.requires.lane ∙ counted_by c.args.lane (journal_of items) in
    let listed : all_of c.self.inside.line ≡ c.tell.result.events =
    published_all c.self.inside.line c.self.inside.line.told.events refl c.self.invariant.0 ∙ ap (λ (b : Beginning). b.events) (sym c.tell.ensures.told) in
    let told : c.self.inside.control.steps ≡ steps_told c.tell.result =
    sym (as_told g.J.Naming.start (all_of c.self.inside.line) c.self.inside.control (journal_of items) c.self.invariant.2) ∙ ap (λ (l : List Event). length (steps_of l)) listed in
    λ call le.
    let within : call ≤ length (made_on c.args.lane (journal_of items)) = omega (arith, le, number) in
    let through : steps_through c.args.lane call (journal_of items) ≤ c.self.inside.control.steps =
    through_by g.J.Naming.start (all_of c.self.inside.line) c.self.inside.control (journal_of items) c.args.lane call c.self.invariant.2 within in
    let same : steps_through c.args.lane call (journal_of c.note-note.result.entries) ≡ steps_through c.args.lane call (journal_of items) =
    ap (λ (l : List Signed). steps_through c.args.lane call (journal_of l)) entries in
    omega (arith, through, same, told)
