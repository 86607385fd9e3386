-- Reads that ask for no counters.
use Rattle.std.proofs.Common.{◌≡◌, Bool, true, false, List, [], ◌∷◌, ◌++◌, map, Option, Some, None, Result, Ok, Err, refl, ap, ◌∙◌, ◌==◌, ◌||◌, if◌then◌else◌}
use Rattle.std.specs.List.{flat_map, list_any}
use Rattle.p4_types.specs.declared.code.Code.{Code}
use Rattle.p4_types.specs.declared.code.Code.TheVariants as codes
use Rattle.p4_types.specs.declared.messages.Entity.{Entity}
use Rattle.p4_types.specs.declared.messages.Entity.TheVariants as entities
use Rattle.p4_types.specs.declared.messages.ReadRequest.{ReadRequest}
use Rattle.plane_spec.specs.Planes.{ControlState, Plane, target}
use Rattle.switch_spec.specs.Counts.{Figures}
use Rattle.switch_spec.specs.Reading.{selected, chunks, response_bytes, first_of, entity_refusal, read_messages, read_unless, read_in, read_result, is_counter, asks_counters, OnlyCountersTell}

one : (g h : Figures) (plane : Plane) (asked : Option Entity) → is_counter asked ≡ false → selected g plane asked ≡ selected h plane asked
one g h plane None e = refl
one g h plane (Some (entities.TableEntry x)) e = refl
one g h plane (Some (entities.ActionProfileMember x)) e = refl
one g h plane (Some (entities.ActionProfileGroup x)) e = refl
one g h plane (Some (entities.CounterEntry x)) e = absurd cc
one g h plane (Some (entities.DirectCounterEntry x)) e = absurd cc
one g h plane (Some (entities.PacketReplicationEngineEntry x)) e = refl
one g h plane (Some (entities.DigestEntry x)) e = refl
one g h plane (Some (entities.Other x)) e = refl

neither : (a b : Bool) → (a || b) ≡ false → (a ≡ false) × (b ≡ false)
neither false b e = (refl, e)
neither true b e = absurd cc

all : (g h : Figures) (plane : Plane) (list : List (Option Entity)) → list_any is_counter list ≡ false → flat_map (selected g plane) list ≡ flat_map (selected h plane) list
all g h plane [] e = refl
all g h plane (asked ∷ rest) e =
    let both = neither (is_counter asked) (list_any is_counter rest) e in
    ap (λ x. x ++ flat_map (selected g plane) rest) (one g h plane asked both.0) ∙ ap (λ x. selected h plane asked ++ x) (all g h plane rest both.1)

by_refusal : (refusal : Option Code) (g h : Figures) (plane : Plane) (list : List (Option Entity)) → list_any is_counter list ≡ false → read_unless refusal g plane list ≡ read_unless refusal h plane list
by_refusal None g h plane list e = ap (λ x. Ok (map response_bytes (chunks x))) (all g h plane list e)
by_refusal (Some code) g h plane list e = refl

in_plane : (plane : Option Plane) (g h : Figures) (request : ReadRequest) → asks_counters request ≡ false → read_in plane g request ≡ read_in plane h request
in_plane None g h request e = refl
in_plane (Some plane) g h request e = by_refusal (first_of (map (entity_refusal plane.config.info) request.entities)) g h plane request.entities e

pub only_counters_tell : OnlyCountersTell
unfolding read_result
only_counters_tell c g h request e = ap (λ x. if request.device_id == c.device then x else Err codes.NotFound) (in_plane (target c) g h request e)
