-- What doings change, one list behind another.
use Rattle.std.proofs.Common.{◌≡◌, ℕ, zero, suc, ◌+◌, ◌≤◌, inl, inr, Bool, List, [], ◌∷◌, ◌++◌, Option, refl, ap, ◌∙◌, arith}
use Rattle.sw_edge.specs.Counts.{one_more}
use Rattle.sw_edge.specs.Told.{Appends}
use Rattle.sw_edge.proofs.ToldLaws.{Appends-nil, Appends-trans}
use Rattle.p4_types.specs.declared.calls.Call.{Call}
use Rattle.p4_types.specs.declared.calls.Reply.{Reply}
use Rattle.mail_room.specs.declared.next.Next.{Next}
use Rattle.p4rt_service.specs.Dialogues.{Exchange, Passes, noting}
use Rattle.link_loop.specs.Doings.{Doing, Pulled, Waited, Given, GoesOn, IsAsked, Rises, risen, LeavesOut, Carries}
use Rattle.link_loop.specs.Courses.{due_behind}

module _ {P : Type 0} (answers : P → Call → Reply → P → Type 0) (gives : P → ℕ → Option Next → P → Type 0) where
  pub goes_then : (first second : List Doing) (old between new : P) → GoesOn answers gives old first between → GoesOn answers gives between second new → GoesOn answers gives old (first ++ second) new
  goes_then [] second old between new e g = rw e at g
  goes_then (doing ∷ first) second old between new q g = (q.0, q.1, goes_then first second q.0 between new q.2 g)

  -- the same exchanges, of which nothing is noted
  pub unnoted : (exchanges : List Exchange) (old new : P × Bool) → Passes (noting answers) old exchanges new → Passes answers old.0 exchanges new.0
  unnoted [] old new p = ap (λ x. x.0) p
  unnoted (exchange ∷ rest) old new p = (p.0.0, p.1.0, unnoted rest p.0 new p.2)

  -- what was noted
  pub noted : (exchanges : List Exchange) (old new : P × Bool) → Passes (noting answers) old exchanges new → new.1 ≡ due_behind old.1 exchanges
  noted [] old new p = ap (λ x. x.1) p
  noted (exchange ∷ rest) old new p = noted rest p.0 new p.2 ∙ ap (λ due. due_behind due rest) p.1.1

pub asked_then : (first second : List Doing) (more between left : ℕ) → IsAsked more first between → IsAsked between second left → IsAsked more (first ++ second) left
asked_then [] second more between left e a = rw e at a
asked_then (Pulled piece exchanges ∷ first) second more between left q a = (q.0, asked_then first second _ between left q.1 a)
asked_then (Waited ∷ first) second more between left q a = (q.0, asked_then first second _ between left q.1 a)
asked_then (Given now next exchanges ∷ first) second more between left q a = (q.0, asked_then first second _ between left q.1 a)

rises_from : (low first last : ℕ) (moments : List ℕ) → low ≤ first → Rises first moments last → Rises low moments last
rises_from low first last [] le r = omega arith
rises_from low first last (moment ∷ moments) le r = (omega (arith, le, r.0), r.1)

pub rises_then : (one two : List ℕ) (first between last : ℕ) → Rises first one between → Rises between two last → Rises first (one ++ two) last
rises_then [] two first between last r s = rises_from first between last two r s
rises_then (moment ∷ one) two first between last r s = (r.0, rises_then one two moment between last r.1 s)

pub risen_then : (one two count : ℕ) → risen two (risen one count) ≡ risen (one + two) count
risen_then one zero count = ap (λ k. risen k count) (omega arith)
risen_then one (suc two) count =
    let e : suc (one + two) ≡ one + suc two = omega arith in
    ap one_more (risen_then one two count) ∙ ap (λ k. risen k count) e

left_out_then : (one two put more : List (ℕ × List ℕ)) (lost fewer : ℕ) → LeavesOut one put lost → LeavesOut two more fewer → LeavesOut (one ++ two) (put ++ more) (lost + fewer)
left_out_then [] two put more lost fewer h k =
    let e : lost + fewer ≡ fewer = omega (arith, h.1) in
    rw (h.0, e) k
left_out_then (packet ∷ one) two put more lost fewer h k =
    elim h as (λ _. LeavesOut (packet ∷ one ++ two) (put ++ more) (lost + fewer)) [
      | inl w ↦ inl (w.0 ++ more, ap (λ l. l ++ more) w.1, left_out_then one two w.0 more lost fewer w.2 k)
      | inr w ↦ inr (w.0 + fewer, omega (arith, w.1), left_out_then one two put more w.0 fewer w.2 k)
    ]

pub carries_then : (old between new : Option (List (ℕ × List ℕ))) (first middle last : ℕ) (one two : List (ℕ × List ℕ)) → Carries old between first middle one → Carries between new middle last two → Carries old new first last (one ++ two)
carries_then old between new first middle last one two c d = record {
  put = c.put ++ d.put;
  lost = c.lost + d.lost;
  left_out = left_out_then one two c.put d.put c.lost d.lost c.left_out d.left_out;
  sent = Appends-trans old between new c.put d.put c.sent d.sent;
  faults = d.faults ∙ ap (risen d.lost) c.faults ∙ risen_then c.lost d.lost first;
}

-- nothing was put
pub carries_none : (old : Option (List (ℕ × List ℕ))) (faults : ℕ) → Carries old old faults faults []
carries_none old faults = record { put = []; lost = 0; left_out = (refl, refl); sent = Appends-nil old; faults = refl }
