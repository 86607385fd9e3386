use Rattle.std.proofs.Common.{◌∷◌, [], ap, sym, ◌∙◌, subst}
use Rattle.plane_spec.specs.Legal.{May}
use Rattle.plane_spec.specs.Planes.{opened, applied}
use Rattle.pub_snap.specs.Beginnings.{Beginning, beginning_of, with_events}
use Rattle.pub_snap.specs.Listing.{IsListing}
use Rattle.pub_snap.proofs.Listings.{may_follow, goes_on, added}
use Rattle.pub_snap.proofs.told.Told.add.Goals as goal

pub add-requires-clause-may : goal.add-requires-clause-may
add-requires-clause-may g c = may_follow _ _ c.self.invariant (subst (λ (b : Beginning). May (applied (opened b.start) b.events) c.args.event) (sym c.self.view_is) c.requires.may)

pub invariant_of-self : goal.invariant_of-self
invariant_of-self g c =
    subst IsListing (sym (ap (λ k. k.events) c.add.ensures))
    (goes_on _ _ c.self.invariant (subst (λ (b : Beginning). May (applied (opened b.start) b.events) c.args.event) (sym c.self.view_is) c.requires.may))

pub returns-clause-told : goal.returns-clause-told
returns-clause-told g c = ap beginning_of c.add.ensures ∙ (added _ _ c.self.invariant ∙ ap (λ (b : Beginning). with_events b (c.args.event ∷ [])) c.self.view_is)
