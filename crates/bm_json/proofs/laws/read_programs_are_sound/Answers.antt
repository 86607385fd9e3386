use Rattle.bm_json.proofs.ReadSound.{program_in_sound}
use Rattle.bm_json.proofs.laws.read_programs_are_sound.Goals as goal

pub returns : goal.returns
returns c = program_in_sound
