-- A configuration that is read is one that a role may have.
use Rattle.std.proofs.Common.{◌≡◌, ℕ, zero, suc, ◌+◌, ◌<◌, ◌≤◌, ◌^◌, Bool, true, false, cond, List, [], ◌∷◌, length, Option, Some, None, IfSome, All, refl, arith, eqb, ltb, unwrap_or}
use Rattle.std.specs.Result.{result_ok}
use Rattle.std.specs.Str.{bytes_eq}
use Rattle.std.specs.Prelude.{codes}
use Rattle.std.proofs.lemmas.Bool.Decides.{nat_tests}
use Rattle.std.proofs.lemmas.List.Elements.{All-nil, All-cons}
use Rattle.list_types.specs.Options.{◌>>=◌}
use Rattle.p4_types.specs.declared.messages.Any.{Any}
use Rattle.p4_types.specs.declared.messages.MasterArbitrationUpdate.{MasterArbitrationUpdate}
use Rattle.p4_types.specs.declared.messages.Role.{Role}
use Rattle.wire_fields.specs.Reading.{varint_at}
use Rattle.wire_messages.specs.Message.{packed_in}
use Rattle.wire_messages.specs.Numbers.{as_uint32}
use Rattle.p4v1_read.specs.RoleConfigs.{at_most_128, ids_in, ids_of, role_config_in, role_config_of, role_of, read_update}
use Rattle.role_arbiter.specs.Arbitration.{IsServedConfig}

abbrev IsId : ℕ → Type 0
IsId id = id < 2 ^ 32

uint_fits : (n : ℕ) (b : Bool) → b ≡ ltb n (2 ^ 32) → IfSome (cond b (Some n) None) IsId
uint_fits n true e = grind (arith, nat_tests)
uint_fits n false e = tt

more_fit : (first : Option ℕ) (rest : Option (List ℕ)) → IfSome first IsId → IfSome rest (All IsId) → IfSome (first >>= λ x. rest >>= λ others. Some (x ∷ others)) (All IsId)
more_fit None rest h t = tt
more_fit (Some x) None h t = tt
more_fit (Some x) (Some others) h t = All-cons IsId x others h t

varint_fits : (read : Option (ℕ × List ℕ)) (steps : ℕ) → ((left : List ℕ) → IfSome (packed_in as_uint32 steps left) (All IsId))
    → IfSome (read >>= λ x. as_uint32 x.0 >>= λ first. packed_in as_uint32 steps x.1 >>= λ others. Some (first ∷ others)) (All IsId)
varint_fits None steps rest = tt
varint_fits (Some x) steps rest = more_fit (as_uint32 x.0) (packed_in as_uint32 steps x.1) (uint_fits x.0 (ltb x.0 (2 ^ 32)) refl) (rest x.1)

packed_fits : (steps : ℕ) (bytes : List ℕ) → IfSome (packed_in as_uint32 steps bytes) (All IsId)
unfolding packed_in
packed_fits zero [] = All-nil IsId
packed_fits zero (b ∷ bytes) = tt
packed_fits (suc steps) [] = All-nil IsId
packed_fits (suc steps) (b ∷ bytes) = varint_fits (result_ok (varint_at (b ∷ bytes))) steps (packed_fits steps)

-- at most 128 ids of 32 bits
abbrev AreIds : List ℕ → Type 0
AreIds ids = (length ids ≤ 128) × All IsId ids

few : (ids : List ℕ) (b : Bool) → b ≡ ltb 128 (length ids) → All IsId ids → IfSome (cond b None (Some ids)) AreIds
few ids true e all = tt
few ids false e all = (grind (arith, nat_tests), all)

limited : (o : Option (List ℕ)) → IfSome o (All IsId) → IfSome (o >>= at_most_128) AreIds
limited None all = tt
limited (Some ids) all = few ids (ltb 128 (length ids)) refl all

typed : (b : Bool) (value : List ℕ) → IfSome (cond b (ids_in value) None) AreIds
typed true value = limited (packed_in as_uint32 (length value) value) (packed_fits (length value) value)
typed false value = tt

given : (role : ℕ) (o : Option (List ℕ)) → 0 < role → IfSome o AreIds → IsServedConfig role (unwrap_or (o >>= λ ids. Some (Some ids)) None)
given role None some are = tt
given role (Some ids) some are = (some, are.0, are.1)

by_role : (role : ℕ) (config : Any) (b : Bool) → b ≡ eqb role 0 → IsServedConfig role (unwrap_or (cond b None (ids_of config >>= λ ids. Some (Some ids))) None)
by_role role config true e = tt
by_role role config false e = given role (ids_of config) (grind (arith, nat_tests)) (typed (bytes_eq config.type_url (codes "p4switch/ids")) config.value)

config_served : (role : ℕ) (config : Option Any) → IsServedConfig role (unwrap_or (role_config_in role config) None)
config_served role None = tt
config_served role (Some config) = by_role role config (eqb role 0) refl

role_served : (role : Option Role) → IsServedConfig (role_of role) (unwrap_or (role_config_of role) None)
role_served None = tt
role_served (Some role) = config_served role.id role.config

-- what a message asks for is served where it is read
pub update_served : (update : MasterArbitrationUpdate) → IsServedConfig (read_update update).role (unwrap_or (read_update update).config None)
update_served update = role_served update.role
