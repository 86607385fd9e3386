-- A place more in a bucket, and a place less.
use Rattle.std.proofs.Common.{◌≡◌, ◌≢◌, ℕ, suc, zero, ◌+◌, ◌<◌, ◌≤◌, Bool, true, false, List, [], ◌∷◌, length, get_or, set, refl, sym, ap, subst, ◌∙◌, ◌⊎◌, inl, inr, arith}
use Rattle.std.specs.Prelude.{Option, Some, None, if◌then◌else◌, ◌==◌}
use Rattle.std.proofs.Math.ListN.{length-set}
use Rattle.std.proofs.lemmas.Bool.{eqb-true}
use Rattle.std.proofs.lemmas.Bool.Decides.{nat_tests}
use Rattle.std.proofs.lemmas.List.{get_or-set_same, get_or-set_other}
use Rattle.row_index.specs.declared.placed.Placed.{Placed}
use Rattle.row_index.specs.Reach.{reach}
use Rattle.row_index.specs.Places.{in_bucket, is_in, place_at}
use Rattle.row_index.specs.Aims.{IsAbove, IsHigher, bound, aim_head, aim_link}
use Rattle.row_index.specs.Threads.{Threaded}
use Rattle.row_index.proofs.Reaching.{reach_covers, Agree, reach_same, reach_low, reach_far, reach_near}

pub nat_cases : (a b : ℕ) → (a ≡ b) ⊎ (a ≢ b)
nat_cases a b = grind arith

order_cases : (a b : ℕ) → a ≢ b → (a < b) ⊎ (b < a)
order_cases a b ne = grind arith

pub clash : (b : Bool) → b ≡ true → b ≡ false → ⊥
clash true e n = cc
clash false e n = cc

-- what is at a place is in one bucket
pub same_bucket : (there : Option Placed) (a b : ℕ) → is_in a there ≡ true → is_in b there ≡ true → a ≡ b
same_bucket None a b e f = cc
same_bucket (Some placed) a b e f = sym (eqb-true placed.bucket a e) ∙ eqb-true placed.bucket b f

pub in_within : (places : List (Option Placed)) (bucket place : ℕ) → in_bucket places bucket place ≡ true → place < length places
in_within [] bucket place e = cc
in_within (first ∷ places) bucket zero e = omega arith
in_within (first ∷ places) bucket (suc place) e = let ih = in_within places bucket place e in omega (arith, ih)

pub is_in_own : (there : Option Placed) (placed : Placed) → there ≡ Some placed → is_in placed.bucket there ≡ true
is_in_own there placed e = rw e (eqb-same placed.bucket)
  where
    eqb-same : (n : ℕ) → (n == n) ≡ true
    eqb-same n = grind (arith, nat_tests)

pub in_own : (places : List (Option Placed)) (place : ℕ) (placed : Placed) → place_at places place ≡ Some placed → in_bucket places placed.bucket place ≡ true
in_own places place placed e = is_in_own (place_at places place) placed e

-- the link of this place is not the one that leads elsewhere
abbrev IsOther : Option ℕ → ℕ → Type 0
IsOther None place = Unit {0}
IsOther (Some above) place = place ≢ above

link_other : (above : Option ℕ) (to : ℕ) (links : List ℕ) (place : ℕ) → IsOther above place → get_or (aim_link above to links) place 0 ≡ get_or links place 0
link_other None to links place ne = refl
link_other (Some above) to links place ne = get_or-set_other links above place to 0 ne

length_links : (above : Option ℕ) (to : ℕ) (links : List ℕ) → length (aim_link above to links) ≡ length links
length_links None to links = refl
length_links (Some above) to links = length-set links above to

length_heads : (above : Option ℕ) (bucket to : ℕ) (heads : List ℕ) → length (aim_head above bucket to heads) ≡ length heads
length_heads None bucket to heads = length-set heads bucket to
length_heads (Some above) bucket to heads = refl

head_other : (above : Option ℕ) (bucket to : ℕ) (heads : List ℕ) (other : ℕ) → other ≢ bucket → get_or (aim_head above bucket to heads) other 0 ≡ get_or heads other 0
head_other None bucket to heads other ne = get_or-set_other heads bucket other to 0 ne
head_other (Some above) bucket to heads other ne = refl

below_other : (test : ℕ → Bool) (limit place : ℕ) (above : Option ℕ) (other : ℕ) → IsHigher test limit place above → other ≤ place → IsOther above other
below_other test limit place None other h le = tt
below_other test limit place (Some above) other h le = λ e. let lt = h.0 in omega (arith, lt, le, e)

failing_other : (test : ℕ → Bool) (limit place : ℕ) (above : Option ℕ) (other : ℕ) → IsHigher test limit place above → (test other ≡ true → ⊥) → IsOther above other
failing_other test limit place None other h fails = tt
failing_other test limit place (Some above) other h fails = λ e. fails (subst (λ n. test n ≡ true) (sym e) h.2)

-- the head of the bucket, where a test changes at a place
head_here : (f g : ℕ → Bool) (limit place bucket to : ℕ) (above : Option ℕ) (heads : List ℕ) → Agree f g place → place < limit → bucket < length heads
    → get_or heads bucket 0 ≡ reach f limit → to ≡ (if g place then suc place else reach f place) → IsAbove f limit place above
    → get_or (aim_head above bucket to heads) bucket 0 ≡ reach g limit
head_here f g limit place bucket to None heads a lt in_heads was is h = get_or-set_same heads bucket to 0 in_heads ∙ is ∙ sym (reach_near f g place limit a h.least lt)
head_here f g limit place bucket to (Some above) heads a lt in_heads was is h =
    let covers = reach_covers f limit above h.higher.1 h.higher.2 in
    let higher = h.higher.0 in
    was ∙ sym (reach_far f g place limit a (omega (arith, covers, higher)))

-- the link of a place of the bucket above the one that changes
link_above : (f g : ℕ → Bool) (limit place to : ℕ) (above : Option ℕ) (links : List ℕ) (other : ℕ) → Agree f g place → place < other → other < limit → f other ≡ true → other < length links
    → get_or links other 0 ≡ reach f other → to ≡ (if g place then suc place else reach f place) → IsAbove f limit place above
    → get_or (aim_link above to links) other 0 ≡ reach g other
link_above f g limit place to None links other a higher lt passes in_links was is h =
    let covers = reach_covers f limit other lt passes in let least = h.least in absurd (omega (arith, covers, least, higher))
link_above f g limit place to (Some above) links other a higher lt passes in_links was is h = elim (nat_cases other above) [
  | inl e ↦
      let near = reach_near f g place above a h.least h.higher.0 in
      let got = get_or-set_same links above to 0 (subst (λ n. n < length links) e in_links) in
      subst (λ n. get_or (set links above to) n 0 ≡ reach g n) (sym e) (got ∙ is ∙ sym near)
  | inr ne ↦ elim (order_cases other above ne) [
    | inl low ↦ let covers = reach_covers f above other low passes in let least = h.least in absurd (omega (arith, covers, least, higher))
    | inr high ↦
        let covers = reach_covers f other above high h.higher.2 in
        let first = h.higher.0 in
        get_or-set_other links above other to 0 ne ∙ was ∙ sym (reach_far f g place other a (omega (arith, covers, first)))
  ]
]

module _ (places : List (Option Placed)) (place : ℕ) (there : Option Placed) where
  -- the test of a bucket changes at that place alone
  agrees : (bucket : ℕ) → Agree (in_bucket places bucket) (in_bucket (set places place there) bucket) place
  agrees bucket = record { agree = λ other ne. ap (is_in bucket) (get_or-set_other places place other there None ne) }

  here : (bucket : ℕ) → place < length places → in_bucket (set places place there) bucket place ≡ is_in bucket there
  here bucket lt = ap (is_in bucket) (get_or-set_same places place there None lt)

  -- what changes at the place concerns one bucket, and the links are right but for what leads to the place
  pub record Changes (heads links fresh : List ℕ) (bucket to : ℕ) (above : Option ℕ) : Type 0 where
    pub threaded : Threaded heads links places
    pub within : place < length places
    pub in_heads : bucket < length heads
    pub len : length fresh ≡ length links
    pub other_links : (other : ℕ) → other ≢ place → get_or fresh other 0 ≡ get_or links other 0
    pub own_link : is_in bucket there ≡ true → get_or fresh place 0 ≡ reach (in_bucket places bucket) place
    pub others : (other : ℕ) → other ≢ bucket → (is_in other there ≡ false) × (in_bucket places other place ≡ false)
    pub leads : to ≡ (if is_in bucket there then suc place else reach (in_bucket places bucket) place)
    pub is_above : IsAbove (in_bucket places bucket) (length places) place above

  other_same : (heads links fresh : List ℕ) (bucket to : ℕ) (above : Option ℕ) → Changes heads links fresh bucket to above
      → (other : ℕ) → other ≢ bucket → (n : ℕ) → in_bucket (set places place there) other n ≡ in_bucket places other n
  other_same heads links fresh bucket to above c other ne n = elim (nat_cases n place) [
    | inl e ↦ subst (λ n. in_bucket (set places place there) other n ≡ in_bucket places other n) (sym e) (here other c.within ∙ (c.others other ne).0 ∙ sym (c.others other ne).1)
    | inr differs ↦ (agrees other).agree n differs
  ]

  leads_there : (heads links fresh : List ℕ) (bucket to : ℕ) (above : Option ℕ) → Changes heads links fresh bucket to above
      → to ≡ (if in_bucket (set places place there) bucket place then suc place else reach (in_bucket places bucket) place)
  leads_there heads links fresh bucket to above c = c.leads ∙ ap (λ b. if b then suc place else reach (in_bucket places bucket) place) (sym (here bucket c.within))

  head_right : (heads links fresh : List ℕ) (bucket to : ℕ) (above : Option ℕ) → Changes heads links fresh bucket to above
      → (other : ℕ) → other < length heads → get_or (aim_head above bucket to heads) other 0 ≡ reach (in_bucket (set places place there) other) (length places)
  head_right heads links fresh bucket to above c other lt = elim (nat_cases other bucket) [
    | inl e ↦
        subst (λ n. get_or (aim_head above bucket to heads) n 0 ≡ reach (in_bucket (set places place there) n) (length places)) (sym e)
        (head_here (in_bucket places bucket) (in_bucket (set places place there) bucket) (length places) place bucket to above heads (agrees bucket) c.within c.in_heads (c.threaded.head bucket c.in_heads) (leads_there heads links fresh bucket to above c) c.is_above)
    | inr ne ↦
        head_other above bucket to heads other ne ∙ c.threaded.head other lt
        ∙ sym (reach_same (in_bucket places other) (in_bucket (set places place there) other) (length places) (λ n _. other_same heads links fresh bucket to above c other ne n))
  ]

  link_of_other : (heads links fresh : List ℕ) (bucket to : ℕ) (above : Option ℕ) → Changes heads links fresh bucket to above
      → (other n : ℕ) → other ≢ bucket → in_bucket (set places place there) other n ≡ true → get_or (aim_link above to fresh) n 0 ≡ reach (in_bucket (set places place there) other) n
  link_of_other heads links fresh bucket to above c other n ne e =
      let was = sym (other_same heads links fresh bucket to above c other ne n) ∙ e in
      let differs : n ≢ place = λ is. clash _ (subst (λ n. in_bucket places other n ≡ true) is was) (c.others other ne).1 in
      link_other above to fresh n (failing_other (in_bucket places bucket) (length places) place above n c.is_above.higher (λ f. ne (same_bucket (place_at places n) other bucket was f)))
      ∙ c.other_links n differs ∙ c.threaded.link other n was
      ∙ sym (reach_same (in_bucket places other) (in_bucket (set places place there) other) n (λ m _. other_same heads links fresh bucket to above c other ne m))

  link_of_own : (heads links fresh : List ℕ) (bucket to : ℕ) (above : Option ℕ) → Changes heads links fresh bucket to above
      → (n : ℕ) → in_bucket (set places place there) bucket n ≡ true → get_or (aim_link above to fresh) n 0 ≡ reach (in_bucket (set places place there) bucket) n
  link_of_own heads links fresh bucket to above c n e =
      let f = in_bucket places bucket in
      let g = in_bucket (set places place there) bucket in
      elim (nat_cases n place) [
        | inl is ↦
            subst (λ n. get_or (aim_link above to fresh) n 0 ≡ reach g n) (sym is)
            (link_other above to fresh place (below_other f (length places) place above place c.is_above.higher (omega arith))
            ∙ c.own_link (sym (here bucket c.within) ∙ subst (λ n. g n ≡ true) is e)
            ∙ sym (reach_low f g place place (agrees bucket) (omega arith)))
        | inr ne ↦
            let was : f n ≡ true = sym ((agrees bucket).agree n ne) ∙ e in
            let kept : get_or fresh n 0 ≡ reach f n = c.other_links n ne ∙ c.threaded.link bucket n was in
            elim (order_cases n place ne) [
              | inl low ↦
                  link_other above to fresh n (below_other f (length places) place above n c.is_above.higher (omega (arith, low)))
                  ∙ kept ∙ sym (reach_low f g place n (agrees bucket) (omega (arith, low)))
              | inr high ↦
                  let inside = in_within places bucket n was in
                  link_above f g (length places) place to above fresh n (agrees bucket) high inside was (omega (arith, inside, c.len, c.threaded.linked)) kept (leads_there heads links fresh bucket to above c) c.is_above
            ]
      ]

  link_right : (heads links fresh : List ℕ) (bucket to : ℕ) (above : Option ℕ) → Changes heads links fresh bucket to above
      → (other n : ℕ) → in_bucket (set places place there) other n ≡ true → get_or (aim_link above to fresh) n 0 ≡ reach (in_bucket (set places place there) other) n
  link_right heads links fresh bucket to above c other n e = elim (nat_cases other bucket) [
    | inl is ↦
        subst (λ b. get_or (aim_link above to fresh) n 0 ≡ reach (in_bucket (set places place there) b) n) (sym is)
        (link_of_own heads links fresh bucket to above c n (subst (λ b. in_bucket (set places place there) b n ≡ true) is e))
    | inr ne ↦ link_of_other heads links fresh bucket to above c other n ne e
  ]

  within_right : (heads links fresh : List ℕ) (bucket to : ℕ) (above : Option ℕ) → Changes heads links fresh bucket to above
      → (other n : ℕ) → in_bucket (set places place there) other n ≡ true → other < length heads
  within_right heads links fresh bucket to above c other n e = elim (nat_cases other bucket) [
    | inl is ↦ subst (λ b. b < length heads) (sym is) c.in_heads
    | inr ne ↦ c.threaded.within other n (sym (other_same heads links fresh bucket to above c other ne n) ∙ e)
  ]

  pub rethreaded : (heads links fresh : List ℕ) (bucket to : ℕ) (above : Option ℕ) → Changes heads links fresh bucket to above
      → Threaded (aim_head above bucket to heads) (aim_link above to fresh) (set places place there)
  rethreaded heads links fresh bucket to above c =
      let size = length-set places place there in
      let head_size = length_heads above bucket to heads in
      let link_size = length_links above to fresh in
      record {
        head = λ other lt. subst (λ n. get_or (aim_head above bucket to heads) other 0 ≡ reach (in_bucket (set places place there) other) n) (sym size) (head_right heads links fresh bucket to above c other (omega (arith, lt, head_size)));
        link = link_right heads links fresh bucket to above c;
        within = λ other n e. let w = within_right heads links fresh bucket to above c other n e in omega (arith, w, head_size);
        linked = omega (arith, link_size, size, c.len, c.threaded.linked);
        few = omega (arith, size, c.threaded.few);
        few_heads = omega (arith, head_size, c.threaded.few_heads);
      }

above_bound : (test : ℕ → Bool) (limit place : ℕ) (above : Option ℕ) → place < limit → IsHigher test limit place above → place < bound above limit
above_bound test limit place None lt h = lt
above_bound test limit place (Some above) lt h = h.0

agree_self : (f : ℕ → Bool) (place : ℕ) → Agree f f place
agree_self f place = record { agree = λ other ne. refl }

if_false : {A : Type 0} (b : Bool) (x y : A) → b ≡ false → (if b then x else y) ≡ y
if_false true x y e = cc
if_false false x y e = refl

not_in : (bucket : ℕ) (there : Option Placed) → there ≡ None → is_in bucket there ≡ false
not_in bucket there e = rw e refl

elsewhere : (there : Option Placed) (bucket other : ℕ) → is_in bucket there ≡ true → other ≢ bucket → is_in other there ≡ false
elsewhere None bucket other e ne = refl
elsewhere (Some placed) bucket other e ne = let is = eqb-true placed.bucket bucket e in grind (arith, nat_tests)

-- something is linked where nothing was
pub threaded_linked : (heads links : List ℕ) (places : List (Option Placed)) (place : ℕ) (placed : Placed) (above : Option ℕ) (below : ℕ)
    → Threaded heads links places → place < length places → place_at places place ≡ None → placed.bucket < length heads
    → IsAbove (in_bucket places placed.bucket) (length places) place above → below ≡ reach (in_bucket places placed.bucket) (bound above (length places))
    → Threaded (aim_head above placed.bucket (place + 1) heads) (aim_link above (place + 1) (set links place below)) (set places place (Some placed))
threaded_linked heads links places place placed above below threaded lt free in_heads is_above is =
    let f = in_bucket places placed.bucket in
    let empty : f place ≡ false = not_in placed.bucket (place_at places place) free in
    let own : is_in placed.bucket (Some placed) ≡ true = is_in_own (Some placed) placed refl in
    let near = reach_near f f place (bound above (length places)) (agree_self f place) is_above.least (above_bound f (length places) place above lt is_above.higher) in
    rethreaded places place (Some placed) heads links (set links place below) placed.bucket (place + 1) above (record {
      threaded = threaded;
      within = lt;
      in_heads = in_heads;
      len = length-set links place below;
      other_links = λ other ne. get_or-set_other links place other below 0 ne;
      own_link = λ _. get_or-set_same links place below 0 (omega (arith, lt, threaded.linked)) ∙ is ∙ near ∙ if_false (f place) (suc place) (reach f place) empty;
      others = λ other ne. (elsewhere (Some placed) placed.bucket other own ne, not_in other (place_at places place) free);
      leads = grind (arith, own);
      is_above = is_above;
    })

-- what is linked is unlinked
pub threaded_unlinked : (heads links : List ℕ) (places : List (Option Placed)) (place : ℕ) (placed : Placed) (above : Option ℕ) (below : ℕ)
    → Threaded heads links places → place_at places place ≡ Some placed
    → IsAbove (in_bucket places placed.bucket) (length places) place above → below ≡ reach (in_bucket places placed.bucket) place
    → Threaded (aim_head above placed.bucket below heads) (aim_link above below links) (set places place None)
threaded_unlinked heads links places place placed above below threaded there is_above is =
    let own = in_own places place placed there in
    rethreaded places place None heads links links placed.bucket below above (record {
      threaded = threaded;
      within = in_within places placed.bucket place own;
      in_heads = threaded.within placed.bucket place own;
      len = refl;
      other_links = λ other ne. refl;
      own_link = λ e. absurd (clash false e refl);
      others = λ other ne. (refl, elsewhere (place_at places place) placed.bucket other own ne);
      leads = is;
      is_above = is_above;
    })
