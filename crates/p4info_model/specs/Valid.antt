-- What a value of the type `P4Info` keeps of the rules.
use Rattle.std.specs.Prelude.{ℕ, ◌≤◌, ◌<◌, ◌^◌, ◌==◌, ◌%◌, ◌≡◌, List, All, length, map, IfSome, IsSome, IsTrue, nat_eq, sum_by, None}
use Rattle.std.specs.List.{IsDistinct, list_any}
use Rattle.p4_types.specs.declared.info.Action.{Action}
use Rattle.p4_types.specs.declared.info.ActionProfile.{ActionProfile}
use Rattle.p4_types.specs.declared.info.ControllerHeader.{ControllerHeader}
use Rattle.p4_types.specs.declared.info.DirectCounter.{DirectCounter}
use Rattle.p4_types.specs.declared.info.Info.{Info}
use Rattle.p4_types.specs.declared.info.Table.{Table}
use Rattle.p4info_model.specs.declared.index.Index.{Index}
use Rattle.p4_types.specs.declared.p4info.P4Info as message
use Rattle.info_rules.specs.Flaw.{flaw}
use Rattle.p4info_model.specs.Resolved.{info_of}
use Rattle.p4info_model.specs.Lookups.{table_at, action_at, profile_at, direct_counter_at, ArePlaces}

-- a width in bits
abbrev pub IsWidth : ℕ → Type 0
IsWidth bits = (1 ≤ bits) × (bits ≤ 128)

-- the ids in an object: none is 0 and none occurs twice
pub record AreApart (ids : List ℕ) : Type 0 where
  pub given : All (λ id. 1 ≤ id) ids
  pub distinct : IsDistinct nat_eq ids

-- a table whose references are there
pub record IsValidTable (info : Info) (t : Table) : Type 0 where
  pub widths : All (λ x. IsWidth x.bitwidth) t.match_fields
  pub fields : AreApart (map (λ x. x.id) t.match_fields)
  pub few : length t.match_fields ≤ 16
  pub actions : All (λ x. IsSome (action_at info x.id)) t.action_refs
  pub default : IfSome t.const_default_action (λ id. IsTrue (list_any (λ x. x.id == id) t.action_refs))
  pub profile : IfSome t.action_profile (λ id. IsSome (profile_at info id))
  pub counters : All (λ id. IsSome (direct_counter_at info id)) t.direct_counters

-- an action of at most 8 parameters, each with a width and an id of its own
pub record IsValidAction (a : Action) : Type 0 where
  pub widths : All (λ x. IsWidth x.bitwidth) a.params
  pub params : AreApart (map (λ x. x.id) a.params)
  pub few : length a.params ≤ 8

-- a profile whose tables are there
pub record IsValidProfile (info : Info) (p : ActionProfile) : Type 0 where
  pub tables : All (λ id. IsSome (table_at info id)) p.table_ids

-- a direct counter whose table is there
pub record IsValidDirectCounter (info : Info) (c : DirectCounter) : Type 0 where
  pub table : IsSome (table_at info c.table)

-- a header of whole bytes
pub record IsValidHeader (h : ControllerHeader) : Type 0 where
  pub widths : All (λ x. IsWidth x.bitwidth) h.fields
  pub fields : AreApart (map (λ x. x.id) h.fields)
  pub few : length h.fields ≤ 128
  pub whole : sum_by (λ x. x.bitwidth) h.fields % 8 ≡ 0

-- the objects of a P4Info that breaks no rule
pub record IsValid (info : Info) : Type 0 where
  pub tables : All (IsValidTable info) info.tables
  pub actions : All IsValidAction info.actions
  pub profiles : All (IsValidProfile info) info.action_profiles
  pub direct_counters : All (IsValidDirectCounter info) info.direct_counters
  pub headers : All IsValidHeader info.controller_packet_metadata

-- the first place of each id among the objects of its kind
pub record IsIndexOf (info : Info) (index : Index) : Type 0 where
  pub tables : ArePlaces (λ x. x.preamble.id) info.tables index.tables
  pub actions : ArePlaces (λ x. x.preamble.id) info.actions index.actions
  pub action_profiles : ArePlaces (λ x. x.preamble.id) info.action_profiles index.action_profiles
  pub counters : ArePlaces (λ x. x.preamble.id) info.counters index.counters
  pub digests : ArePlaces (λ x. x.preamble.id) info.digests index.digests

-- what a message without a flaw means
abbrev pub IsMade : Info → Type 0
IsMade info = (m : message.P4Info) × (flaw m ≡ None) × (info ≡ info_of m)

-- sizes are numbers of an int64, and those of groups numbers of an int32
pub record AreSizesSmall (info : Info) : Type 0 where
  pub tables : All (λ t. t.size < 2 ^ 63) info.tables
  pub profiles : All (λ p. p.size < 2 ^ 63) info.action_profiles
  pub groups : All (λ p. p.max_group_size < 2 ^ 31) info.action_profiles
  pub counters : All (λ c. c.size < 2 ^ 63) info.counters

-- the index of a valid P4Info
pub record IsKept (info : Info) (index : Index) : Type 0 where
  pub made : IsMade info
  pub valid : IsValid info
  pub sizes : AreSizesSmall info
  pub places : IsIndexOf info index
