-- What was told of a list, and what fits it.
use Rattle.std.proofs.Common.{◌≡◌, ℕ, suc, ◌≤◌, true, false, List, [], ◌∷◌, ◌++◌, length, take, Option, Some, None, option_map, refl, sym, ap, ◌∙◌, arith, length-append}
use Rattle.std.specs.List.{cons_option}
use Rattle.std.proofs.lemmas.List.{take-append-le}
use Rattle.std.proofs.lemmas.List.Elements.{filter_map-append}
use Rattle.lane_work.specs.Shares.{Share, IsShare}
use Rattle.p4_types.specs.declared.events.Committed.TheVariants as contents
use Rattle.p4_types.specs.declared.events.Event.TheVariants as events
use Rattle.p4_types.specs.declared.events.Start.{Start}
use Rattle.p4_types.specs.declared.records.Record.{Record}
use Rattle.p4_types.specs.declared.tape.Who.{Who}
use Rattle.plane_spec.proofs.Lists.{All-weaken}
use Rattle.plane_spec.proofs.Steady.{change_steady, fold_closed}
use Rattle.plane_spec.specs.Config.{Committed, Event}
use Rattle.plane_spec.specs.Legal.{May, Legal}
use Rattle.plane_spec.specs.Planes.{ControlState, Plane, opened, apply, applied, after, committed, staged_committed}
use Rattle.packet_spec.specs.Meaning.{meaning}
use Rattle.role_arbiter.specs.State.{RolesState, primary_of}
use Rattle.role_arbiter.specs.declared.sessions.Session.{Session}
use Rattle.switch_spec.specs.Carrying.{Fits}
use Rattle.switch_spec.specs.Counts.{Carried}
use Rattle.switch_spec.specs.History.{step_of, steps_of}
use Rattle.switch_spec.specs.Meaning.{carried, record_of}

-- ---- Longer lists

one_or_none : {X Y : Type 0} (o : Option Y) (xs : List X) (ys : List Y) → length ys ≤ length xs → length (cons_option o ys) ≤ suc (length xs)
one_or_none None xs ys le = omega (arith, le)
one_or_none (Some y) xs ys le = omega (arith, le)

-- no more steps than events
pub few_steps : (list : List Event) → length (steps_of list) ≤ length list
few_steps [] = omega arith
few_steps (event ∷ list) = one_or_none (step_of event) list (steps_of list) (few_steps list)

pub no_fewer_steps : (list more : List Event) → length (steps_of list) ≤ length (steps_of (list ++ more))
no_fewer_steps list more = omega (arith, ap length (filter_map-append step_of list more), length-append (steps_of list) (steps_of more))

pub fits_go_on : (start : Start) (list more : List Event) (packet : Carried) → Fits start list packet → Fits start (list ++ more) packet
fits_go_on start list more packet fits =
    let r : Record = packet.outcome in
    let within : r.steps ≤ length list = omega (arith, fits.in_list, few_steps list) in
    let same : after start (list ++ more) r.steps ≡ after start list r.steps = ap (applied (opened start)) (take-append-le r.steps list more within) in
    record {
      in_list = omega (arith, fits.in_list, no_fewer_steps list more);
      meant = fits.meant ∙ sym (ap (λ (c : ControlState). carried r.who r.index r.steps c packet.arrival.0 packet.arrival.1) same);
    }

pub shares_go_on : (start : Start) (list more : List Event) (share : Share) → IsShare start list share → IsShare start (list ++ more) share
shares_go_on start list more share h = record {
  own = h.own;
  in_turn = h.in_turn;
  fits = All-weaken (Fits start list) (Fits start (list ++ more)) (fits_go_on start list more) share.carried h.fits;
  added = h.added;
}

-- ---- The state after what was told

-- the same but for the end of the list
record IsLike (c d : ControlState) : Type 0 where
  roles : c.roles ≡ d.roles
  active : c.active ≡ d.active
  cpu : c.cpu ≡ d.cpu

-- the record of a packet by the parts of the state that it depends on
abbrev by_parts : Who → ℕ → ℕ → ℕ → List ℕ → RolesState → Option Plane → ℕ → Record
by_parts who index n port packet roles active cpu = record_of who index n (option_map (λ (p : Session). p.caller) (primary_of roles 0)) (meaning active cpu port packet)

-- what becomes of a packet is the same in both
like_carried : (c d : ControlState) (who : Who) (index n port : ℕ) (packet : List ℕ) → IsLike c d → carried who index n c port packet ≡ carried who index n d port packet
like_carried c d who index n port packet like =
    ap (λ (roles : RolesState). by_parts who index n port packet roles c.active c.cpu) like.roles
    ∙ ap (λ (active : Option Plane). by_parts who index n port packet d.roles active c.cpu) like.active
    ∙ ap (λ (cpu : ℕ). by_parts who index n port packet d.roles d.active cpu) like.cpu

staged_closed : (o : Option Plane) (c : ControlState) → (staged_committed o c).closed ≡ c.closed
staged_closed None c = refl
staged_closed (Some plane) c = refl

commit_closed : (content : Committed) (c : ControlState) → (committed c content).closed ≡ c.closed
commit_closed contents.Staged c = staged_closed c.staged c
commit_closed (contents.Fresh config) c = refl

-- nothing follows the end
ended : (c : ControlState) (event : Event) → c.closed ≡ true → May c event → ⊥
ended c (events.Arbitrate by config) is may = let open_yet = may.0 in cc
ended c (events.Leave caller call) is may = let open_yet = may.0 in cc
ended c (events.Change by change) is may = let open_yet = may.0 in cc
ended c (events.Batch by list) is may = let open_yet = may.0 in cc
ended c (events.Save by config) is may = let open_yet = may.0 in cc
ended c (events.Commit by content) is may = let open_yet = may.0 in cc
ended c events.Close is may = cc

-- the state after as many steps as legal events are is like that after the events
like_told : (c : ControlState) (list : List Event) → Legal c list → c.closed ≡ false → IsLike (applied c (take (length (steps_of list)) list)) (applied c list)
like_told c [] legal open_yet = record { roles = refl; active = refl; cpu = refl }
like_told c (events.Arbitrate by config ∷ list) legal open_yet = like_told (apply c (events.Arbitrate by config)) list legal.1 open_yet
like_told c (events.Leave caller call ∷ list) legal open_yet = like_told (apply c (events.Leave caller call)) list legal.1 open_yet
like_told c (events.Change by change ∷ list) legal open_yet = like_told (apply c (events.Change by change)) list legal.1 ((change_steady change c).closed ∙ open_yet)
like_told c (events.Batch by changes ∷ list) legal open_yet = like_told (apply c (events.Batch by changes)) list legal.1 (fold_closed changes c ∙ open_yet)
like_told c (events.Save by config ∷ list) legal open_yet = like_told (apply c (events.Save by config)) list legal.1 open_yet
like_told c (events.Commit by content ∷ list) legal open_yet = like_told (apply c (events.Commit by content)) list legal.1 (commit_closed content c ∙ open_yet)
like_told c (events.Close ∷ []) legal open_yet = record { roles = refl; active = refl; cpu = refl }
like_told c (events.Close ∷ event ∷ list) legal open_yet = absurd (ended (apply c events.Close) event refl legal.1.0)

-- a packet that runs in the state after all that was told fits it
pub told_fits : (start : Start) (list : List Event) (who : Who) (index port : ℕ) (packet : List ℕ) → Legal (opened start) list
    → Fits start list (record { arrival = (port, packet); outcome = carried who index (length (steps_of list)) (applied (opened start) list) port packet })
told_fits start list who index port packet legal =
    let n : ℕ = length (steps_of list) in record {
      in_list = omega arith;
      meant = sym (like_carried (after start list n) (applied (opened start) list) who index n port packet (like_told (opened start) list legal refl));
    }
