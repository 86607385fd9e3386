-- What is written is read back.
use Rattle.std.proofs.Common.{◌+◌, ◌^◌, ◌<◌, length, ap, ◌∙◌, arith}
use Rattle.h2_frames.specs.declared.frame.Frame.{Frame}
use Rattle.h2_frames.specs.declared.frame.Frame.TheVariants as frames
use Rattle.h2_frames.specs.declared.head.Head.{Head}
use Rattle.h2_frames.specs.Layout.{kind_of, flags_of, stream_of, payload_of}
use Rattle.h2_frames.specs.Reading.{frame_at}
use Rattle.h2_frames.specs.Laws.{NumbersFit, ReadBack}
use Rattle.h2_frames.proofs.Numbers.{head_back}
use Rattle.h2_frames.proofs.FramesBack.{frame_back}

stream_fits : (frame : Frame) → NumbersFit frame → stream_of frame < 2 ^ 31
stream_fits (frames.Data stream end_stream octets) fits = fits
stream_fits (frames.Headers stream end_stream end_headers priority fragment) fits = fits.0
stream_fits (frames.Priority stream priority) fits = fits.0
stream_fits (frames.RstStream stream error_code) fits = fits
stream_fits (frames.Settings ack settings) fits = omega arith
stream_fits (frames.PushPromise stream end_headers promised_stream fragment) fits = fits.0
stream_fits (frames.Ping ack opaque_data) fits = omega arith
stream_fits (frames.GoAway last_stream error_code debug) fits = omega arith
stream_fits (frames.WindowUpdate stream increment) fits = fits.0
stream_fits (frames.Continuation stream end_headers fragment) fits = fits
stream_fits (frames.Unknown kind flags stream payload) fits = fits.1

pub read_back : ReadBack
read_back frame short fits keeps =
    let head = head_back (length (payload_of frame)) (kind_of frame) (flags_of frame) (stream_of frame) (payload_of frame) short (stream_fits frame fits) in
    record {
      length_is = ap (λ (h : Head). h.length + 9) head ∙ omega arith;
      frame_is = ap (λ (h : Head). frame_at h (payload_of frame)) head ∙ frame_back (length (payload_of frame)) frame fits keeps;
    }
