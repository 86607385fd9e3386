-- A call that was read, answered and put into the journal.
use Rattle.std.proofs.Common.{Option, Some, None, ◌≡◌, ℕ, ◌<◌, List, [], ◌∷◌, ◌++◌, length, drop, slice_index, refl, ap, ◌∙◌, sym, subst}
use Rattle.std.specs.List.{filter_map}
use Rattle.p4_types.specs.declared.calls.Call as calls
use Rattle.p4_types.specs.declared.calls.Reply.{Reply}
use Rattle.p4_types.specs.declared.journal.Entry.{Entry}
use Rattle.switch_spec.specs.History.{step_of}
use Rattle.lockstep_run.specs.Session.{State, IsSession, HasRoom, IsHandled, IsOut, IsCompleted, IsAskedOf, entry_of}
use Rattle.lockstep_run.proofs.SessionLemmas.{call_turn, call_session, out_session, out_entered, with_entry, entry_at}

-- a packet that enters leaves the journal
out_journal : (lane : ℕ) (o : Option (List ℕ)) (old new : State) → IsOut lane o old new → new.journal ≡ old.journal
out_journal lane None old new h = ap (λ (s : State). s.journal) h
out_journal lane (Some packet) old new h = h.journal

asked_of : (lane : ℕ) (call : calls.Call) (reply : Reply) (old mid new : State) (before : ℕ) → IsSession old → HasRoom old → lane < 32 → IsHandled lane call reply old mid → before ≡ length old.events
    → IsCompleted lane before reply mid new → IsAskedOf lane call reply old new
asked_of lane call reply old mid new before session room below h before_is done =
    let entry : Entry = entry_of lane (slice_index done.mid.core.calls lane) (filter_map step_of (drop before done.mid.events)) reply in
    record {
      plays = λ spelled is. (call_turn lane spelled reply old mid new before session room below (subst (λ (c : calls.Call). IsHandled lane c reply old mid) (sym is) h) before_is done).0;
      entry = entry;
      noted = ap (λ (s : State). s.journal) done.entered ∙ ap (λ (j : List Entry). j ++ entry ∷ []) (out_journal lane reply.packet mid done.mid done.out ∙ h.journal);
      of_lane = refl;
      reply_is = refl;
    }

asked_again : (lane : ℕ) (call : calls.Call) (reply : Reply) (old mid new : State) (before : ℕ) → IsSession old → HasRoom old → lane < 32 → IsHandled lane call reply old mid → IsCompleted lane before reply mid new → IsSession new
asked_again lane call reply old mid new before session room below h done =
    let again = call_session lane call reply old mid (entry_at lane before reply mid) session room below h refl in
    subst IsSession (sym done.entered) (out_session lane reply.packet (with_entry mid (entry_at lane before reply mid)) (with_entry done.mid (entry_at lane before reply done.mid)) again (out_entered lane before reply reply.packet mid done.mid done.out))

pub asked_whole : (lane : ℕ) (call : calls.Call) (reply : Reply) (old mid new : State) (before : ℕ) → IsSession old → HasRoom old → lane < 32 → IsHandled lane call reply old mid → before ≡ length old.events
    → IsCompleted lane before reply mid new → IsAskedOf lane call reply old new × IsSession new
asked_whole lane call reply old mid new before session room below h before_is done =
    (asked_of lane call reply old mid new before session room below h before_is done, asked_again lane call reply old mid new before session room below h done)
