-- What is answered of a packet.
use Rattle.std.proofs.Common.{◌≡◌, ◌+◌, ◌<◌, ◌≤◌, ℕ, Bool, true, false, cond, List, ◌++◌, length, Some, None, Ok, Err, sym, ap, ◌∙◌, arith}
use Rattle.std.specs.Prelude.{◌&&◌}
use Rattle.std.proofs.lemmas.Bool.{lt-ltb, le-ltb}
use Rattle.std.proofs.lemmas.List.{length-append}
use Rattle.p4_types.specs.declared.info.HeaderField.{HeaderField}
use Rattle.p4_types.specs.declared.messages.PacketMetadata.{PacketMetadata}
use Rattle.p4_types.specs.declared.messages.PacketOut.{PacketOut}
use Rattle.program_spec.specs.Numbers.{bytes_of}
use Rattle.packet_out.specs.declared.rule.PacketRule.TheVariants as rules
use Rattle.packet_out.specs.Entering.{entering, fills, packet_bytes, unless_long, longest}
use Rattle.packet_out.specs.Given.{are_known, are_given, header_bits, header_given}
use Rattle.packet_out.proofs.Values.{chosen, refused}

-- what is read of fields and metadata is what the packet has
at_packet : {A : Type 0} → (read : List HeaderField → List PacketMetadata → A) (items fields : List HeaderField) (given : List PacketMetadata) (packet : PacketOut) → items ≡ fields → given ≡ packet.metadata
    → read items given ≡ read fields packet.metadata
at_packet read items fields given packet fields_are given_are = ap (λ (fs : List HeaderField). read fs given) fields_are ∙ ap (λ (ms : List PacketMetadata). read fields ms) given_are

by_fills : (fields : List HeaderField) (packet : PacketOut) (b : Bool) → b ≡ fills fields packet.metadata → cond b (unless_long (packet_bytes fields packet)) (Err rules.P3) ≡ entering fields packet
unfolding entering
by_fills fields packet b is = ap (λ (x : Bool). cond x (unless_long (packet_bytes fields packet)) (Err rules.P3)) is

pub unknown : (items fields : List HeaderField) (given : List PacketMetadata) (packet : PacketOut) → items ≡ fields → given ≡ packet.metadata → false ≡ are_known items given → Err rules.P3 ≡ entering fields packet
unknown items fields given packet fields_are given_are known =
    let not_known : false ≡ are_known fields packet.metadata =
    known ∙ at_packet are_known items fields given packet fields_are given_are in
    by_fills fields packet false (ap (λ (b : Bool). b && are_given fields packet.metadata) not_known)

both : (a b : Bool) → true ≡ a → true ≡ b → true ≡ (a && b)
both a b a_is b_is = b_is ∙ ap (λ (x : Bool). x && b) a_is

not_both : (a b : Bool) → true ≡ a → false ≡ b → false ≡ (a && b)
not_both a b a_is b_is = b_is ∙ ap (λ (x : Bool). x && b) a_is

pub not_given : (items fields : List HeaderField) (given : List PacketMetadata) (packet : PacketOut) → items ≡ fields → given ≡ packet.metadata → true ≡ are_known items given
    → None ≡ header_given items given → Err rules.P3 ≡ entering fields packet
not_given items fields given packet fields_are given_are known header =
    let all_known : true ≡ are_known fields packet.metadata =
    known ∙ at_packet are_known items fields given packet fields_are given_are in
    let made : None ≡ header_given fields packet.metadata =
    header ∙ at_packet header_given items fields given packet fields_are given_are in
    by_fills fields packet false
    (not_both (are_known fields packet.metadata) (are_given fields packet.metadata) all_known (sym (refused (are_given fields packet.metadata) (bytes_of (header_bits fields packet.metadata)) made)))

-- with a header the length decides
with_header : (items fields : List HeaderField) (given : List PacketMetadata) (packet : PacketOut) (header : List ℕ) → items ≡ fields → given ≡ packet.metadata → true ≡ are_known items given
    → Some header ≡ header_given items given → unless_long (header ++ packet.payload) ≡ entering fields packet
with_header items fields given packet header fields_are given_are known header_is =
    let all_known : true ≡ are_known fields packet.metadata =
    known ∙ at_packet are_known items fields given packet fields_are given_are in
    let made : Some header ≡ header_given fields packet.metadata =
    header_is ∙ at_packet header_given items fields given packet fields_are given_are in
    let parts : (are_given fields packet.metadata ≡ true) × (header ≡ bytes_of (header_bits fields packet.metadata)) =
    chosen (are_given fields packet.metadata) (bytes_of (header_bits fields packet.metadata)) header made in
    ap (λ (xs : List ℕ). unless_long (xs ++ packet.payload)) parts.1
    ∙ by_fills fields packet true (both (are_known fields packet.metadata) (are_given fields packet.metadata) all_known (sym parts.0))

too_long : (bytes : List ℕ) → longest < length bytes → Err rules.P4 ≡ unless_long bytes
too_long bytes lt = ap (λ (b : Bool). cond b (Err rules.P4) (Ok bytes)) (sym (lt-ltb longest (length bytes) lt))

not_too_long : (bytes : List ℕ) → length bytes ≤ longest → Ok bytes ≡ unless_long bytes
not_too_long bytes le = ap (λ (b : Bool). cond b (Err rules.P4) (Ok bytes)) (sym (le-ltb longest (length bytes) le))

pub is_long : (items fields : List HeaderField) (given : List PacketMetadata) (packet : PacketOut) (header payload : List ℕ) → items ≡ fields → given ≡ packet.metadata → true ≡ are_known items given
    → Some header ≡ header_given items given → payload ≡ packet.payload → 9216 < length header + length payload → Err rules.P4 ≡ entering fields packet
is_long items fields given packet header payload fields_are given_are known header_is payload_is long =
    too_long (header ++ packet.payload) (omega (arith, length-append header packet.payload, ap (λ (xs : List ℕ). length xs) payload_is))
    ∙ with_header items fields given packet header fields_are given_are known header_is

pub enters : (items fields : List HeaderField) (given : List PacketMetadata) (packet : PacketOut) (header payload bytes : List ℕ) → items ≡ fields → given ≡ packet.metadata → true ≡ are_known items given
    → Some header ≡ header_given items given → payload ≡ packet.payload → bytes ≡ header ++ payload → length header + length payload ≤ 9216 → Ok bytes ≡ entering fields packet
enters items fields given packet header payload bytes fields_are given_are known header_is payload_is bytes_are few =
    ap (λ (xs : List ℕ). Ok xs) (bytes_are ∙ ap (λ (xs : List ℕ). header ++ xs) payload_is)
    ∙ not_too_long (header ++ packet.payload) (omega (arith, length-append header packet.payload, ap (λ (xs : List ℕ). length xs) payload_is))
    ∙ with_header items fields given packet header fields_are given_are known header_is
