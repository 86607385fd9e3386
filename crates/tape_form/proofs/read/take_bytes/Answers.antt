use Rattle.std.proofs.Common.{◌≡◌, ◌+◌, ◌≤◌, ◌++◌, ◌∙◌, ap, length, take, drop, arith, length-append, length-take, length-drop}
use Rattle.std.proofs.lemmas.Result.{err_from_is_err_and}
use Rattle.tape_form.proofs.Taking.{taken_more}
use Rattle.tape_form.proofs.read.take_bytes.Goals as goal

pub loop-buffer-preserved : goal.loop-buffer-preserved
loop-buffer-preserved g c =
    let size : length c.read.new.buf ≡ length (take c.min-room.result c.loop-buffer.buffer) = c.read.auto.buf in
    let room : length c.loop-buffer.bytes.items + length c.read.new.buf ≤ 67108865 = omega (arith, size, length-take c.min-room.result c.loop-buffer.buffer) in
    let items : c.extend_from_slice.new.self.items ≡ c.loop-buffer.bytes.items ++ take c.in-Bytes.count (c.read.new.buf ++ drop c.min-room.result c.loop-buffer.buffer) =
    (rw c.unwrap.ensures at c.extend_from_slice.ensures.items) ∙ ap (λ w. w ++ take c.in-Bytes.count (c.read.new.buf ++ drop c.min-room.result c.loop-buffer.buffer)) c.reserve.ensures.items in
    let more = taken_more (g.S.Source.left c.args.source.now) (g.S.Source.left c.loop-buffer.source) (g.S.Source.left c.read.new.self) c.loop-buffer.bytes.items c.read.new.buf (drop c.min-room.result c.loop-buffer.buffer)
    c.extend_from_slice.new.self.items c.in-Bytes.count c.loop-buffer.invariant.consumed c.in-Bytes.ensures.takes c.in-Bytes.ensures.fits.1 room items in
    record {
      consumed = more.consumed;
      size = more.size;
      room = omega (arith, size, length-take c.min-room.result c.loop-buffer.buffer, length-drop c.min-room.result c.loop-buffer.buffer, length-append c.read.new.buf (drop c.min-room.result c.loop-buffer.buffer));
      sound = c.in-Bytes.ensures.no_fault (λ e. cc) ∙ c.loop-buffer.invariant.sound;
      unmet = c.in-Bytes.ensures.no_end (λ e. cc) ∙ c.loop-buffer.invariant.unmet;
    }

pub returns-in_err-reserve-clause-no_memory : goal.returns-in_err-reserve-clause-no_memory
returns-in_err-reserve-clause-no_memory g c =
    let p = err_from_is_err_and c.from_residual-in_err-reserve.result c.from_residual-in_err-reserve.ensures.1 in
    rw p.1 (record {
      taken = c.loop-buffer.bytes.items;
      consumed = c.loop-buffer.invariant.consumed;
      within = omega (arith, c.loop-buffer-test.true);
      sound = c.loop-buffer.invariant.sound;
    })
