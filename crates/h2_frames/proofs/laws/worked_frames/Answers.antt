use Rattle.std.proofs.Common.{refl}
use Rattle.h2_frames.specs.Reading.{unpadded, settings_in, checked, data_at, settings_at, frame_at}
use Rattle.h2_frames.proofs.laws.worked_frames.Goals as goal

pub returns : goal.returns
unfolding unpadded settings_in checked data_at settings_at frame_at
returns c = record { settings_is = refl; ack_is = refl; window_update_is = refl; data_is = refl; padded_data = refl; all_padding = refl; size_first = refl; protocol_second = refl; window_too_large = refl }
