use Rattle.replay_run.proofs.play.play_in_order.Goals as goal

pub returns : goal.returns
returns g c = c.close.ensures c.args.tape c.requires.each c.requires.number c.requires.calls c.requires.items
