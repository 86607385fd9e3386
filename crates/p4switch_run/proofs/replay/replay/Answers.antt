use Rattle.std.proofs.Common.{Err, refl, ap, inr}
use Rattle.list_types.specs.declared.memory.Refusal.{Refusal}
use Rattle.tape_form.specs.declared.fault.TapeFault.{TapeFault}
use Rattle.sw_edge.proofs.ToldLaws.{Keeps-refl}
use Rattle.p4switch_run.specs.Replay.{streams}
use Rattle.p4switch_run.proofs.ReplayLemmas.{not_read}
use Rattle.p4switch_run.proofs.replay.replay.Goals as goal

pub returns-in-Err-clause-answers : goal.returns-in-Err-clause-answers
returns-in-Err-clause-answers g c =
    let old = streams (g.S.Source.left c.args.tape.now) (g.O.Sink.sent c.args.out.now) (g.S.Source.faults c.args.tape.now) (g.O.Sink.faults c.args.out.now) (g.S.Source.ends c.args.tape.now) in
    let new = streams (g.S.Source.left c.read.new.source) (g.O.Sink.sent c.args.out.now) (g.S.Source.faults c.read.new.source) (g.O.Sink.faults c.args.out.now) (g.S.Source.ends c.read.new.source) in
    rw c.of_fault.ensures (not_read c.args.mode c.args.start c.in-Err.fault old new (Keeps-refl (g.O.Sink.sent c.args.out.now)) refl c.in-Err.ensures.exact (λ e. c.in-Err.ensures.hides_nothing (ap (λ (f : Refusal TapeFault). Err f) e)))

pub returns-in_default-clause-answers : goal.returns-in_default-clause-answers
returns-in_default-clause-answers g c = record {
  kept = Keeps-refl (g.O.Sink.sent c.args.out.now);
  sound_sink = refl;
  «because» = record {
    unfinished = record { taken = c.in-Ok.ensures.tape.taken; consumed = c.in-Ok.ensures.tape.consumed; within = c.in-Ok.ensures.tape.size; sound = c.in-Ok.ensures.sound };
    hides_nothing = inr (c.in-Ok.tape, c.in-Ok.ensures.tape);
  };
}

pub returns-in-All-clause-answers : goal.returns-in-All-clause-answers
returns-in-All-clause-answers g c = record {
  text = c.in-Ok-text_of.text;
  replayed = record { items = c.in-Ok.tape; whole = c.in-Ok.ensures.tape; report = c.in-Ok-text_of.ensures };
  written = rw c.as_slice.ensures at c.in-All.ensures.sends;
  sound_source = c.in-Ok.ensures.sound;
  sound_sink = c.in-All.ensures.no_fault (λ e. cc);
}

pub returns-clause-answers : goal.returns-clause-answers
returns-clause-answers g c = record {
  text = c.in-Ok-text_of.text;
  replayed = record { items = c.in-Ok.tape; whole = c.in-Ok.ensures.tape; report = c.in-Ok-text_of.ensures };
  written = rw c.as_slice.ensures at c.in-Failed.ensures.sends;
  sound_source = c.in-Ok.ensures.sound;
  fault = c.in-Failed.ensures.failed.cause refl;
}
