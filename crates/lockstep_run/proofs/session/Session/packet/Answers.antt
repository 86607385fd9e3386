use Rattle.lockstep_run.proofs.SessionLemmas.{packet_plays, packet_session, room_for}
use Rattle.lockstep_run.proofs.session.Session.packet.Goals as goal

pub carry-requires-clause-takes : goal.carry-requires-clause-takes
carry-requires-clause-takes c = room_for c.args.self.now c.requires.session c.requires.room

pub returns-clause-plays : goal.returns-clause-plays
returns-clause-plays c = packet_plays c.carry.result c.args.lane c.args.port c.args.packet.now c.args.self.now c.carry.new.self c.carry.ensures

pub returns-clause-session : goal.returns-clause-session
returns-clause-session c = packet_session c.carry.result c.args.lane c.args.port c.args.packet.now c.args.self.now c.carry.new.self c.requires.session c.carry.ensures
