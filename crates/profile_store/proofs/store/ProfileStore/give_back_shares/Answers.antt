use Rattle.std.proofs.Common.{◌∙◌}
use Rattle.profile_store.proofs.Named.{shares_named}
use Rattle.profile_store.proofs.store.ProfileStore.give_back_shares.Goals as goal

pub give_back_all-requires-clause-named : goal.give_back_all-requires-clause-named
give_back_all-requires-clause-named c = shares_named c.args.group.now c.as_slice.result.now _ c.args.self.now (c.as_slice.ensures ∙ c.get.ensures) c.self.view_is c.requires.named
