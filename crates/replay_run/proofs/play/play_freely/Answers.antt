use Rattle.replay_run.proofs.play.play_freely.Goals as goal

pub returns : goal.returns
returns g c = c.close.ensures c.args.tape c.requires.each c.requires.number c.requires.calls c.requires.items
