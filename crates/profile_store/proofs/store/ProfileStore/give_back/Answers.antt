use Rattle.profile_store.proofs.Named.{member_named, group_named, set_named}
use Rattle.profile_store.proofs.store.ProfileStore.give_back.Goals as goal

pub give_back-requires-clause-named : goal.give_back-requires-clause-named
give_back-requires-clause-named c = member_named c.args.action.now c.in-Member.profile c.in-Member.id _ c.args.self.now c.in-Member.is c.self.view_is c.requires.member_named

pub give_back-requires-in-Group-clause-named : goal.give_back-requires-in-Group-clause-named
give_back-requires-in-Group-clause-named c = group_named c.args.action.now c.in-Group.profile c.in-Group.id _ c.args.self.now c.in-Group.is c.self.view_is c.requires.group_named

pub give_back-requires-in-Set-clause-named : goal.give_back-requires-in-Set-clause-named
give_back-requires-in-Set-clause-named c =
    rw (c.len-size.ensures, c.get.ensures) (set_named c.args.action.now c.in-Set.profile c.in-Set.calls _ c.args.self.now c.in-Set.is c.self.view_is c.requires.set_there)
