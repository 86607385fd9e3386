use Rattle.std.proofs.Common.{subst, sym}
use Rattle.p4_types.specs.declared.profiles.ProfileChange.{ProfileChange}
use Rattle.plane_spec.specs.Planes.{profile_cause}
use Rattle.table_store.specs.Answers.{Refuses}
use Rattle.plane_state.proofs.parts.Parts.change_profile.Goals as goal

pub returns-in-DeleteMember-clause-refused : goal.returns-in-DeleteMember-clause-refused
returns-in-DeleteMember-clause-refused c = subst (λ (change : ProfileChange). Refuses c.delete_member.result (profile_cause c.args.room c.args.self.now.now.plane change)) (sym c.in-DeleteMember.is) c.delete_member.ensures.refused

pub returns-in-DeleteGroup-clause-refused : goal.returns-in-DeleteGroup-clause-refused
returns-in-DeleteGroup-clause-refused c = subst (λ (change : ProfileChange). Refuses c.delete_group.result (profile_cause c.args.room c.args.self.now.now.plane change)) (sym c.in-DeleteGroup.is) c.delete_group.ensures.refused
