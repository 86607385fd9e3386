-- Data that is cut in two.
use Rattle.std.proofs.Common.{◌≡◌, ℕ, zero, suc, ◌+◌, ◌-◌, ◌≤◌, ◌==◌, nat_lt, cond, Bool, true, false, List, [], ◌∷◌, ◌++◌, length, take, drop, Option, Some, None, Result, Ok, Err, refl, sym, ap, ◌∙◌, arith, length-append, length-drop}
use Rattle.std.proofs.lemmas.Bool.{ltb-false, le-ltb}
use Rattle.std.proofs.lemmas.List.{take-append-le, drop-append-le}
use Rattle.p4_types.specs.declared.code.Code.{Code}
use Rattle.p4_types.specs.declared.code.Code.TheVariants as codes_of
use Rattle.grpc_streams.specs.declared.splitting.Split.{Split}
use Rattle.grpc_streams.specs.Messages.{max_message, size_at, front_at, behind, from_front, split_in, split_of}
use Rattle.grpc_streams.specs.Laws.{rest_with, AnyCut}

-- the front of bytes by what is found of its flag and its length
abbrev weighed : Bool → Bool → Bool → Bool → Bool → ℕ → Result (Option ℕ) Code
weighed compressed other short long partial size =
    cond compressed (Err codes_of.Unimplemented) (cond other (Err codes_of.InvalidArgument) (cond short (Ok None) (cond long (Err codes_of.ResourceExhausted) (cond partial (Ok None) (Ok (Some size))))))

is_weighed : (flag : ℕ) (bytes : List ℕ) → front_at (flag ∷ bytes) ≡ weighed (flag == 1) (nat_lt 1 flag) (nat_lt (length bytes) 4) (nat_lt max_message (size_at bytes)) (nat_lt (length bytes) (4 + size_at bytes)) (size_at bytes)
unfolding front_at
is_weighed flag bytes = refl

-- what is known of the longer bytes, where the shorter ones have a length
record Longer (long long2 : Bool) (size size2 : ℕ) (short2 : Bool) : Type 0 where
  not_short : short2 ≡ false
  same_long : long2 ≡ long
  same_size : size2 ≡ size

err_again : (c o s l p s2 l2 p2 : Bool) (size size2 : ℕ) (code : Code) → weighed c o s l p size ≡ Err code → (s ≡ false → Longer l l2 size size2 s2) → weighed c o s2 l2 p2 size2 ≡ Err code
err_again true o s l p s2 l2 p2 size size2 code e longer = e
err_again false true s l p s2 l2 p2 size size2 code e longer = e
err_again false false true l p s2 l2 p2 size size2 code e longer = absurd cc
err_again false false false true p s2 l2 p2 size size2 code e longer = rw ((longer refl).not_short, (longer refl).same_long) e
err_again false false false false true s2 l2 p2 size size2 code e longer = absurd cc
err_again false false false false false s2 l2 p2 size size2 code e longer = absurd cc

some_again : (c o s l p s2 l2 p2 : Bool) (size size2 n : ℕ) → weighed c o s l p size ≡ Ok (Some n) → (s ≡ false → Longer l l2 size size2 s2) → (s ≡ false → p ≡ false → p2 ≡ false) → weighed c o s2 l2 p2 size2 ≡ Ok (Some n)
some_again true o s l p s2 l2 p2 size size2 n e longer whole = absurd cc
some_again false true s l p s2 l2 p2 size size2 n e longer whole = absurd cc
some_again false false true l p s2 l2 p2 size size2 n e longer whole = absurd cc
some_again false false false true p s2 l2 p2 size size2 n e longer whole = absurd cc
some_again false false false false true s2 l2 p2 size size2 n e longer whole = absurd cc
some_again false false false false false s2 l2 p2 size size2 n e longer whole = rw ((longer refl).not_short, (longer refl).same_long, whole refl refl, (longer refl).same_size) e

ok_is : (a b : ℕ) → ◌≡◌ {A = Result (Option ℕ) Code} (Ok (Some a)) (Ok (Some b)) → a ≡ b
ok_is a b e = cc

-- a whole message is as long as its length says
some_fits : (c o s l p : Bool) (size n : ℕ) → weighed c o s l p size ≡ Ok (Some n) → (p ≡ false) × (size ≡ n)
some_fits true o s l p size n e = absurd cc
some_fits false true s l p size n e = absurd cc
some_fits false false true l p size n e = absurd cc
some_fits false false false true p size n e = absurd cc
some_fits false false false false true size n e = absurd cc
some_fits false false false false false size n e = (refl, ok_is size n e)

size_again : (bytes more : List ℕ) → 4 ≤ length bytes → size_at (bytes ++ more) ≡ size_at bytes
size_again [] more le = absurd (omega arith)
size_again (a ∷ []) more le = absurd (omega arith)
size_again (a ∷ b ∷ []) more le = absurd (omega arith)
size_again (a ∷ b ∷ c ∷ []) more le = absurd (omega arith)
size_again (a ∷ b ∷ c ∷ d ∷ bytes) more le = refl

longer_of : (bytes more : List ℕ) → nat_lt (length bytes) 4 ≡ false → Longer (nat_lt max_message (size_at bytes)) (nat_lt max_message (size_at (bytes ++ more))) (size_at bytes) (size_at (bytes ++ more)) (nat_lt (length (bytes ++ more)) 4)
longer_of bytes more e =
    let le : 4 ≤ length bytes = ltb-false (length bytes) 4 e in
    record {
      not_short = le-ltb (length (bytes ++ more)) 4 (omega (arith, length-append bytes more));
      same_long = ap (λ n. nat_lt max_message n) (size_again bytes more le);
      same_size = size_again bytes more le;
    }

whole_of : (bytes more : List ℕ) → nat_lt (length bytes) 4 ≡ false → nat_lt (length bytes) (4 + size_at bytes) ≡ false → nat_lt (length (bytes ++ more)) (4 + size_at (bytes ++ more)) ≡ false
whole_of bytes more e f =
    let le : 4 + size_at bytes ≤ length bytes = ltb-false (length bytes) (4 + size_at bytes) f in
    rw (size_again bytes more (ltb-false (length bytes) 4 e)) (le-ltb (length (bytes ++ more)) (4 + size_at bytes) (omega (arith, length-append bytes more)))

front_err : (flag : ℕ) (bytes more : List ℕ) (code : Code) → front_at (flag ∷ bytes) ≡ Err code → front_at (flag ∷ (bytes ++ more)) ≡ Err code
front_err flag bytes more code e = is_weighed flag (bytes ++ more) ∙ err_again _ _ _ _ _ _ _ _ _ _ code (sym (is_weighed flag bytes) ∙ e) (longer_of bytes more)

front_some : (flag : ℕ) (bytes more : List ℕ) (n : ℕ) → front_at (flag ∷ bytes) ≡ Ok (Some n) → front_at (flag ∷ (bytes ++ more)) ≡ Ok (Some n)
front_some flag bytes more n e = is_weighed flag (bytes ++ more) ∙ some_again _ _ _ _ _ _ _ _ _ _ n (sym (is_weighed flag bytes) ∙ e) (longer_of bytes more) (whole_of bytes more)

front_fits : (flag : ℕ) (bytes : List ℕ) (n : ℕ) → front_at (flag ∷ bytes) ≡ Ok (Some n) → 5 + n ≤ length (flag ∷ bytes)
front_fits flag bytes n e =
    let known = some_fits (flag == 1) (nat_lt 1 flag) (nat_lt (length bytes) 4) (nat_lt max_message (size_at bytes)) (nat_lt (length bytes) (4 + size_at bytes)) (size_at bytes) n (sym (is_weighed flag bytes) ∙ e) in
    let le : 4 + size_at bytes ≤ length bytes = ltb-false (length bytes) (4 + size_at bytes) known.0 in
    let same : size_at bytes ≡ n = known.1 in
    omega arith

from_same : (bytes : List ℕ) (front : Result (Option ℕ) Code) (f g : List ℕ → Split) → ((size : ℕ) → f (drop size (drop 5 bytes)) ≡ g (drop size (drop 5 bytes))) → from_front bytes front f ≡ from_front bytes front g
from_same bytes (Err code) f g same = refl
from_same bytes (Ok None) f g same = refl
from_same bytes (Ok (Some size)) f g same = ap (behind (take size (drop 5 bytes) ∷ [])) (same size)

-- it does not matter how many messages there are at most
same_split : (n m : ℕ) (bytes : List ℕ) → length bytes ≤ n → length bytes ≤ m → split_in n bytes ≡ split_in m bytes
unfolding split_in front_at
same_split zero zero bytes a b = refl
same_split zero (suc m) [] a b = refl
same_split zero (suc m) (x ∷ bytes) a b = absurd (omega arith)
same_split (suc n) zero [] a b = refl
same_split (suc n) zero (x ∷ bytes) a b = absurd (omega arith)
same_split (suc n) (suc m) bytes a b =
    from_same bytes (front_at bytes) (λ rest. split_in n rest) (λ rest. split_in m rest)
    (λ size. same_split n m (drop size (drop 5 bytes)) (omega (arith, length-drop size (drop 5 bytes), length-drop 5 bytes)) (omega (arith, length-drop size (drop 5 bytes), length-drop 5 bytes)))

-- the front of the first bytes is known
cut_front : (n : ℕ) (flag : ℕ) (bytes more : List ℕ) (front : Result (Option ℕ) Code) → front_at (flag ∷ bytes) ≡ front
    → ((size : ℕ) → split_of (drop size (drop 5 (flag ∷ bytes)) ++ more) ≡ behind (split_in n (drop size (drop 5 (flag ∷ bytes)))).messages (rest_with (split_in n (drop size (drop 5 (flag ∷ bytes)))).rest more))
    → split_of (flag ∷ (bytes ++ more)) ≡ behind (from_front (flag ∷ bytes) front (λ rest. split_in n rest)).messages (rest_with (from_front (flag ∷ bytes) front (λ rest. split_in n rest)).rest more)
unfolding split_in
cut_front n flag bytes more (Err code) e onward = ap (λ f. from_front (flag ∷ (bytes ++ more)) f (λ rest. split_in (length (bytes ++ more)) rest)) (front_err flag bytes more code e)
cut_front n flag bytes more (Ok None) e onward = refl
cut_front n flag bytes more (Ok (Some size)) e onward =
    let fits : 5 + size ≤ length (flag ∷ bytes) = front_fits flag bytes size e in
    let long : length (drop 5 (flag ∷ bytes)) ≡ length (flag ∷ bytes) - 5 = length-drop 5 (flag ∷ bytes) in
    let past : drop 5 (flag ∷ (bytes ++ more)) ≡ drop 5 (flag ∷ bytes) ++ more = drop-append-le 5 (flag ∷ bytes) more (omega arith) in
    let message : take size (drop 5 (flag ∷ (bytes ++ more))) ≡ take size (drop 5 (flag ∷ bytes)) = ap (take size) past ∙ take-append-le size (drop 5 (flag ∷ bytes)) more (omega arith) in
    let rest : drop size (drop 5 (flag ∷ (bytes ++ more))) ≡ drop size (drop 5 (flag ∷ bytes)) ++ more = ap (drop size) past ∙ drop-append-le size (drop 5 (flag ∷ bytes)) more (omega arith) in
    let few : length (drop size (drop 5 (flag ∷ bytes)) ++ more) ≤ length (bytes ++ more) = omega (arith, length-append (drop size (drop 5 (flag ∷ bytes))) more, length-append bytes more, length-drop size (drop 5 (flag ∷ bytes))) in
    ap (λ f. from_front (flag ∷ (bytes ++ more)) f (λ rest. split_in (length (bytes ++ more)) rest)) (front_some flag bytes more size e)
    ∙ ap (λ m. behind (m ∷ []) (split_in (length (bytes ++ more)) (drop size (drop 5 (flag ∷ (bytes ++ more)))))) message
    ∙ ap (λ r. behind (take size (drop 5 (flag ∷ bytes)) ∷ []) (split_in (length (bytes ++ more)) r)) rest
    ∙ ap (behind (take size (drop 5 (flag ∷ bytes)) ∷ [])) (same_split (length (bytes ++ more)) (length (drop size (drop 5 (flag ∷ bytes)) ++ more)) (drop size (drop 5 (flag ∷ bytes)) ++ more) few (omega arith) ∙ onward size)

cut_in : (n : ℕ) (first second : List ℕ) → length first ≤ n → split_of (first ++ second) ≡ behind (split_in n first).messages (rest_with (split_in n first).rest second)
unfolding split_in front_at
cut_in zero [] second le = refl
cut_in zero (flag ∷ bytes) second le = absurd (omega arith)
cut_in (suc n) [] second le = refl
cut_in (suc n) (flag ∷ bytes) second le =
    cut_front n flag bytes second (front_at (flag ∷ bytes)) refl
    (λ size. cut_in n (drop size (drop 5 (flag ∷ bytes))) second (omega (arith, length-drop size (drop 5 (flag ∷ bytes)), length-drop 5 (flag ∷ bytes))))

pub any_cut : AnyCut
any_cut first second = cut_in (length first) first second (omega arith)
