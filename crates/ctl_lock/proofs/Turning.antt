-- A lane's calls beside what they saw of the counters, with one call more.
use Rattle.std.proofs.Common.{List, [], ◌∷◌, ◌++◌, ap, ◌∙◌}
use Rattle.std.specs.List.{filter_map}
use Rattle.std.proofs.lemmas.List.{map-append}
use Rattle.std.proofs.lemmas.List.Elements.{filter_map-append}
use Rattle.ctl_lock.specs.Reading.{HasOwnPacket, IsReading, Rising, Turn, behind_packet}
use Rattle.snap_worker.specs.Sums.{AreSums, NoMore}
use Rattle.ctl_lock.specs.declared.signed.Signed.{Signed}
use Rattle.snap_worker.proofs.Noting.{no_more_trans}
use Rattle.plane_spec.proofs.Lists.{All-snoc}
use Rattle.switch_spec.specs.Counts.{Figures, Carried, no_figures}

pub rising_later : (floor : Figures) (turns : List Turn) (last later : Figures) → Rising floor turns last → NoMore last later → Rising floor turns later
rising_later floor [] last later h more = no_more_trans floor last later h more
rising_later floor (turn ∷ turns) last later h more = (h.0, h.1, rising_later (behind_packet turn.sums turn.packet) turns last later h.2 more)

rising_more : (floor : Figures) (turns : List Turn) (last : Figures) (turn : Turn) → Rising floor turns last → NoMore last turn.sums → AreSums turn.signed.figures turn.sums
    → (later : Figures) → NoMore (behind_packet turn.sums turn.packet) later → Rising floor (turns ++ turn ∷ []) later
rising_more floor [] last turn h more sums later known = (no_more_trans floor last turn.sums h more, sums, known)
rising_more floor (first ∷ turns) last turn h more sums later known = (h.0, h.1, rising_more (behind_packet first.sums first.packet) turns last turn h.2 more sums later known)

pub reading_more : (made : List Signed) (packets : List Carried) (last : Figures) (turn : Turn) → IsReading made packets last → HasOwnPacket turn → NoMore last turn.sums → AreSums turn.signed.figures turn.sums
    → (later : Figures) → NoMore (behind_packet turn.sums turn.packet) later → IsReading (made ++ turn.signed ∷ []) (packets ++ filter_map (λ (t : Turn). t.packet) (turn ∷ [])) later
reading_more made packets last turn h own more sums later known = record {
  turns = h.turns ++ turn ∷ [];
  own = All-snoc HasOwnPacket h.turns turn h.own own;
  made_are = map-append (λ (t : Turn). t.signed) h.turns (turn ∷ []) ∙ ap (λ (l : List Signed). l ++ turn.signed ∷ []) h.made_are;
  packets_are = filter_map-append (λ (t : Turn). t.packet) h.turns (turn ∷ []) ∙ ap (λ (l : List Carried). l ++ filter_map (λ (t : Turn). t.packet) (turn ∷ [])) h.packets_are;
  rising = rising_more no_figures h.turns last turn h.rising more sums later known;
}
