use Rattle.std.proofs.Common.{rules, ◌≡◌, ◌+◌, ◌-◌, ◌^◌, ◌≤◌, ◌++◌, List, length, length-append, arith, sym, subst}
use Rattle.plane_spec.specs.Config.{Event}
use Rattle.plane_spec.specs.Legal.{Legal}
use Rattle.plane_spec.specs.Planes.{opened, applied}
use Rattle.pub_snap.specs.Snapshots.{Feed, all_of}
use Rattle.pub_snap.proofs.Listings.{legal_pending}
use Rattle.pub_snap.proofs.publisher.Publisher.push.Goals as goal

pub invariant_of-self-2 : goal.invariant_of-self-2
invariant_of-self-2 g c =
    let i = c.self.invariant in
    let told = c.self.inside.told in
    let items : c.append.new.pending.items ≡ c.self.inside.pending.items ++ c.args.events = search rules in
    let legal = subst (λ (f : Feed). Legal (applied (opened f.told.start) (all_of f)) c.args.events) (sym c.self.view_is) c.requires.legal in (
      i.0,
      i.1,
      i.2,
      i.3,
      record {
        legal = subst (λ (es : List Event). Legal (applied (opened told.start) told.events) es) (sym items) (legal_pending (opened told.start) told.events c.self.inside.pending.items c.args.events i.4.legal legal);
        few = search (rules, length-append c.self.inside.pending.items c.args.events);
      },
    )
