-- A parse goes by one path of states.
use Rattle.std.proofs.Common.{subst, ◌≡◌, ◌∙◌, ap, refl, ℕ, zero, suc, Bool, true, false, cond, ◌||◌, List, [], ◌∷◌, length, Option, Some, None, Result, Ok, Err}
use Rattle.std.specs.List.{find, filter_map, list_any, cons_option}
use Rattle.bm_pipeline.specs.declared.parser.ParseState.{ParseState}
use Rattle.bm_pipeline.specs.declared.parser.Transition.{Transition}
use Rattle.bm_pipeline.specs.declared.program.Program.{Program}
use Rattle.bm_pipeline.specs.Graph.{has_path}
use Rattle.bm_pipeline.specs.Places.{after_state, after_state_in}
use Rattle.program_spec.specs.Parsing.{Reading, Parsed, Outcome, Stopped, Accepted, Goes, StateEnd, taken, led, led_to, ended, state_done, state_at, key_passes, ops_done, Follows, Parses, parse_on, parse_from}
use Rattle.program_spec.specs.Laws.{ParseEnds, ParseIsOne}
use Rattle.program_spec.specs.Stores.{joined}

-- a test that no element passes fails at the first of two, and at the others
first_fails : (a b : Bool) → (a || b) ≡ false → a ≡ false
first_fails false b e = refl
first_fails true b e = absurd cc

others_fail : (a b : Bool) → (a || b) ≡ false → b ≡ false
others_fail false b e = e
others_fail true b e = absurd cc

-- A test that no element passes: neither the one in front, if there is one, nor the others pass it.
in_front : (passes : ℕ → Bool) (o : Option ℕ) (list : List ℕ) (next : ℕ) → o ≡ Some next → list_any passes (cons_option o list) ≡ false → passes next ≡ false
in_front passes None list next is none = absurd cc
in_front passes (Some x) list next is none = let same : x ≡ next = cc in subst (λ n. passes n ≡ false) same (first_fails (passes x) (list_any passes list) none)

behind : (passes : ℕ → Bool) (o : Option ℕ) (list : List ℕ) → list_any passes (cons_option o list) ≡ false → list_any passes list ≡ false
behind passes None list none = none
behind passes (Some x) list none = others_fail (passes x) (list_any passes list) none

found_at : (test : Transition → Bool) (passes : ℕ → Bool) (u : Transition) (list : List Transition) (t : Transition) (next : ℕ) (b : Bool)
    → (find test list ≡ Some t → list_any passes (filter_map (λ transition. transition.next_state) list) ≡ false → passes next ≡ false)
    → cond b (Some u) (find test list) ≡ Some t → t.next_state ≡ Some next
    → list_any passes (cons_option u.next_state (filter_map (λ transition. transition.next_state) list)) ≡ false → passes next ≡ false
found_at test passes u list t next true others found goes none =
    let same : u ≡ t = cc in
    in_front passes u.next_state (filter_map (λ transition. transition.next_state) list) next (ap (λ (x : Transition). x.next_state) same ∙ goes) none
found_at test passes u list t next false others found goes none =
    others found (behind passes u.next_state (filter_map (λ transition. transition.next_state) list) none)

-- No state passes a test to which the transition that was found leads, where none passes to which a transition leads.
found_fails : (test : Transition → Bool) (passes : ℕ → Bool) (list : List Transition) (t : Transition) (next : ℕ)
    → find test list ≡ Some t → t.next_state ≡ Some next → list_any passes (filter_map (λ transition. transition.next_state) list) ≡ false → passes next ≡ false
found_fails test passes [] t next found goes none = absurd cc
found_fails test passes (u ∷ list) t next found goes none =
    found_at test passes u list t next (test u) (λ found none. found_fails test passes list t next found goes none) found goes none

led_on : (o : Option ℕ) (next : ℕ) → led_to o ≡ Goes next → o ≡ Some next
led_on None next goes = absurd cc
led_on (Some x) next goes = cc

-- Where a state goes on, it goes to one to which a transition of it leads.
led_fails : (passes : ℕ → Bool) (program : Program) (state : ParseState) (o : Option Transition) (next : ℕ)
    → ((t : Transition) → o ≡ Some t → t.next_state ≡ Some next → passes next ≡ false)
    → led program o ≡ Goes next → passes next ≡ false
led_fails passes program state None next fails goes = absurd cc
led_fails passes program state (Some t) next fails goes = fails t refl (led_on t.next_state next goes)

taken_fails : (passes : ℕ → Bool) (program : Program) (state : ParseState) (store : Reading) (next : ℕ)
    → list_any passes (after_state_in (Some state)) ≡ false → led program (taken state store.store) ≡ Goes next → passes next ≡ false
unfolding taken
taken_fails passes program state store next none goes =
    led_fails passes program state (taken state store.store) next
    (λ t found on. found_fails (λ transition. key_passes transition.test (joined store.store state.transition_key)) passes state.transitions t next found on none) goes

ended_fails : (passes : ℕ → Bool) (program : Program) (state : ParseState) (r : Result Reading Reading) (next : ℕ)
    → list_any passes (after_state_in (Some state)) ≡ false → (ended program state r).outcome ≡ Goes next → passes next ≡ false
ended_fails passes program state (Ok reading) next none goes = taken_fails passes program state reading next none goes
ended_fails passes program state (Err reading) next none goes = absurd cc

done_fails : (passes : ℕ → Bool) (program : Program) (o : Option ParseState) (reading : Reading) (next : ℕ)
    → list_any passes (after_state_in o) ≡ false → (state_done program o reading).outcome ≡ Goes next → passes next ≡ false
done_fails passes program None reading next none goes = absurd cc
done_fails passes program (Some state) reading next none goes = ended_fails passes program state (ops_done program state.parser_ops reading) next none goes

-- behind a state there is a path, where there is one from each state to which it goes
goes_on : (program : Program) (reading : Reading) (from : ℕ → Parsed) (outcome : Outcome)
    → ((next : ℕ) → outcome ≡ Goes next → (path : List ℕ) × Parses program next path reading (from next))
    → (path : List ℕ) × Follows program path reading (parse_on program reading from outcome) (λ next. Parses program next path reading (parse_on program reading from outcome)) outcome
goes_on program reading from (Stopped error) others = ([], (refl, refl))
goes_on program reading from Accepted others = ([], (refl, refl))
goes_on program reading from (Goes next) others = others next refl

-- There is a path from a state from which none is as long as this.
path_from : (program : Program) (more state : ℕ) (reading : Reading) → has_path (after_state program) more state ≡ false
    → (path : List ℕ) × Parses program state path reading (parse_from program more state reading)
path_from program zero state reading none = absurd cc
path_from program (suc more) state reading none =
    let end : StateEnd = state_done program (state_at program state) reading in
    let on = goes_on program end.reading (λ next. parse_from program more next end.reading) end.outcome
    (λ next goes. path_from program more next end.reading (done_fails (has_path (after_state program) more) program (state_at program state) reading next none goes)) in
    (state ∷ on.0, (refl, on.1))

pub parse_ends : ParseEnds
parse_ends program valid reading =
    path_from program (length program.parser.parse_states) program.parser.init_state reading (valid.parser.no_loop program.parser.init_state)

-- behind a state a parse ends as the function says, where it does from each state to which it goes
ends_so : (program : Program) (path : List ℕ) (reading : Reading) (end : Parsed) (from : ℕ → Parsed) (outcome : Outcome)
    → ((next : ℕ) → outcome ≡ Goes next → Parses program next path reading end → end ≡ from next)
    → Follows program path reading end (λ next. Parses program next path reading end) outcome → end ≡ parse_on program reading from outcome
ends_so program path reading end from (Stopped error) others follows = follows.1
ends_so program path reading end from Accepted others follows = follows.1
ends_so program path reading end from (Goes next) others follows = others next refl follows

one_end : (program : Program) (more state : ℕ) (path : List ℕ) (reading : Reading) (end : Parsed) → has_path (after_state program) more state ≡ false
    → Parses program state path reading end → end ≡ parse_from program more state reading
one_end program zero state path reading end none parses = absurd cc
one_end program (suc more) state [] reading end none parses = elim parses [ ]
one_end program (suc more) state (place ∷ path) reading end none parses =
    let done : StateEnd = state_done program (state_at program state) reading in
    ends_so program path done.reading end (λ next. parse_from program more next done.reading) done.outcome
    (λ next goes parses. one_end program more next path done.reading end (done_fails (has_path (after_state program) more) program (state_at program state) reading next none goes) parses)
    parses.1

pub parse_is_one : ParseIsOne
parse_is_one program valid reading path end parses =
    one_end program (length program.parser.parse_states) program.parser.init_state path reading end (valid.parser.no_loop program.parser.init_state) parses
