-- The steps of a parse.
use Rattle.std.proofs.Common.{◌≡◌, ℕ, suc, ◌<◌, Bool, List, length, All, find, slice_get, Some, IfSome, Option, sym, ap, subst, ◌∙◌}
use Rattle.std.proofs.lemmas.List.Elements.{All-get_or}
use Rattle.std.proofs.lemmas.List.Folds.{find_at}
use Rattle.std.proofs.lemmas.Option.{slice_get_within, get_or_from_slice_get}
use Rattle.std.specs.List.{position_or_len}
use Rattle.canon_bytes.specs.Bits.{bits}
use Rattle.bm_expr.specs.Store.{Contents}
use Rattle.bm_pipeline.specs.declared.parser.ParseState.{ParseState}
use Rattle.bm_pipeline.specs.declared.parser.Transition.{Transition}
use Rattle.bm_pipeline.specs.declared.program.Program.{Program}
use Rattle.program_spec.specs.Parsing.{Reading, Outcome, state_done, state_at, parse_on, parse_from, parse, with_error, told, taken, key_passes}
use Rattle.program_spec.specs.Stores.{assigned_if, joined}
use Rattle.pkt_codec.specs.Steps.{reading_at}

-- what is found of a list is one of its items
pub found_is : {X : Type 0} (P : X → Type 0) (p : X → Bool) (xs : List X) (x : X) → All P xs → find p xs ≡ Some x → P x
found_is P p xs x all found =
    let at = position_or_len p xs in
    let here : slice_get xs at ≡ Some x = sym (find_at p xs) ∙ found in
    subst P (get_or_from_slice_get xs at x x here) (All-get_or P xs at x (slice_get_within xs at x here) all)

-- the state that a transition of a state leads to is among the states
pub next_is : (states : ℕ) (state : ParseState) (store : Contents) (transition : Transition) (next : ℕ) → All (λ transition. IfSome transition.next_state (λ next. next < states)) state.transitions
    → taken state store ≡ Some transition → transition.next_state ≡ Some next → next < states
unfolding taken
next_is states state store transition next all found leads =
    let Within : Option ℕ → Type 0 = λ o. IfSome o (λ next. next < states) in
    subst Within leads (found_is (λ t. Within t.next_state) (λ t. key_passes t.test (joined store state.transition_key)) state.transitions transition all found)

-- a parse by one state more
pub parse_more : (program : Program) (left more place : ℕ) (reading after : Reading) (outcome : Outcome) → left ≡ suc more
    → state_done program (state_at program place) reading ≡ record { reading = after; outcome = outcome }
    → parse_from program left place reading ≡ parse_on program after (λ next. parse_from program more next after) outcome
parse_more program left more place reading after outcome left_is done =
    ap (λ n. parse_from program n place reading) left_is
    ∙ ap (λ end. parse_on program end.reading (λ next. parse_from program more next end.reading) end.outcome) done

-- a whole parse
pub parse_is : (program : Program) (packet : List ℕ) (store : Contents) (reading : Reading) (error : ℕ)
    → parse_from program (length program.parser.parse_states) program.parser.init_state (reading_at packet 0 store) ≡ with_error reading error
    → parse program (bits packet) store ≡ record { store = assigned_if program.standard_metadata.parser_error error reading.store; rest = reading.rest; error = error }
unfolding parse
parse_is program packet store reading error done = ap (told program) done
