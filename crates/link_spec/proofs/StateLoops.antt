-- The parser's states lead to one another as their names do, so that where those have no loop there is none.
use Rattle.std.proofs.Common.{◌≡◌, ℕ, ◌<◌, false, List, [], ◌∷◌, ◌++◌, length, map, Option, Some, None, refl, sym, ap, ◌∙◌, subst, arith}
use Rattle.std.specs.Prelude.{slice_get, option_map, option_and_then}
use Rattle.std.specs.List.{filter_map, flat_map, cons_option}
use Rattle.std.proofs.lemmas.List.{length-map}
use Rattle.std.proofs.lemmas.Option.{slice_get-map}
use Rattle.p4_types.specs.declared.info.Info.{Info}
use Rattle.bm_pipeline.specs.Graph.{has_path, HasNoLoop}
use Rattle.bm_pipeline.specs.Places.{after_state_in, after_state}
use Rattle.bm_records.specs.declared.raw.ParseState.{ParseState}
use Rattle.bm_records.specs.declared.raw.Transition.{Transition}
use Rattle.bm_records.specs.declared.raw.RawProgram.{RawProgram}
use Rattle.bm_rules.specs.Graphs.{or_none, leads, has_loop, as_places, next_state, state_edges}
use Rattle.link_spec.specs.Objects.{state_at, transition_of, state_of}
use Rattle.link_spec.specs.Linked.{program_of}
use Rattle.link_spec.proofs.Paths.{no_path_at_all}

one_more : (place : Option ℕ) (xs ys : List ℕ) → xs ≡ ys → cons_option place xs ≡ as_places place ++ ys
one_more None xs ys same = same
one_more (Some place) xs ys same = ap (λ zs. place ∷ zs) same

transition_leads : (raw : RawProgram) (name : Option (List ℕ)) (xs ys : List ℕ) → xs ≡ ys → cons_option (option_and_then (state_at raw) name) xs ≡ as_places (next_state raw.parser.parse_states name) ++ ys
transition_leads raw None xs ys same = same
transition_leads raw (Some name) xs ys same = one_more (state_at raw name) xs ys same

state_leads : (raw : RawProgram) (transitions : List Transition)
    → filter_map (λ transition. transition.next_state) (map (transition_of raw) transitions) ≡ flat_map (λ transition. as_places (next_state raw.parser.parse_states transition.next_state)) transitions
state_leads raw [] = refl
state_leads raw (transition ∷ others) =
    transition_leads raw transition.next_state (filter_map (λ transition. transition.next_state) (map (transition_of raw) others))
    (flat_map (λ transition. as_places (next_state raw.parser.parse_states transition.next_state)) others) (state_leads raw others)

place_leads : (raw : RawProgram) (state : Option ParseState)
    → after_state_in (option_map (state_of raw) state) ≡ or_none (option_map (λ state. flat_map (λ transition. as_places (next_state raw.parser.parse_states transition.next_state)) state.transitions) state)
place_leads raw None = refl
place_leads raw (Some state) = state_leads raw state.transitions

same_edges : (raw : RawProgram) (info : Info) (i : ℕ) → after_state (program_of raw info) i ≡ leads (state_edges raw.parser.parse_states) i
same_edges raw info i =
    ap after_state_in (slice_get-map (state_of raw) raw.parser.parse_states i)
    ∙ (place_leads raw (slice_get raw.parser.parse_states i)
    ∙ sym (ap or_none (slice_get-map (λ state. flat_map (λ transition. as_places (next_state raw.parser.parse_states transition.next_state)) state.transitions) raw.parser.parse_states i)))

-- the states have no loop
pub states_have_no_loop : (raw : RawProgram) (info : Info) → has_loop (state_edges raw.parser.parse_states) ≡ false → 0 < length raw.parser.parse_states
    → HasNoLoop (after_state (program_of raw info)) (length (map (state_of raw) raw.parser.parse_states))
states_have_no_loop raw info none some =
    let edges : List (List ℕ) = state_edges raw.parser.parse_states in
    let many : length (state_edges raw.parser.parse_states) ≡ length raw.parser.parse_states = length-map raw.parser.parse_states _ in
    let as_many : length (state_edges raw.parser.parse_states) ≡ length (map (state_of raw) raw.parser.parse_states) = many ∙ sym (length-map raw.parser.parse_states (state_of raw)) in
    λ i. ap (λ f. has_path f (length (map (state_of raw) raw.parser.parse_states)) i) (λ j n. same_edges raw info n j)
    ∙ subst (λ n. has_path (leads (state_edges raw.parser.parse_states)) n i ≡ false) as_many (no_path_at_all (state_edges raw.parser.parse_states) none (omega (arith, many)) i)
