-- The headers and trailers of answers (gRPC over HTTP/2, "Responses").
use Rattle.std.specs.Prelude.{ℕ, zero, suc, ◌==◌, Bool, if◌then◌else◌, codes, List, [], ◌∷◌, ◌++◌, length, fold, Result, Ok, Err}
use Rattle.std.specs.List.{list_any}
use Rattle.std.specs.Fmt.{decimal}
use Rattle.base64.specs.Engines.{standard_no_pad}
use Rattle.base64.specs.GeneralPurpose.{encode_of}
use Rattle.percent_encoding.specs.Percent.{percent_encode}
use Rattle.hpack_tables.specs.declared.header.Header.{Header}
use Rattle.p4_types.specs.CodeNumber.{code_number}
use Rattle.p4_types.specs.declared.code.Code.{Code}
use Rattle.wire_fields.specs.Fields.{Payload, Varint, Fixed64, Bytes, Fixed32, WireField}
use Rattle.wire_fields.specs.Reading.{field_at}
use Rattle.wire_fields.specs.declared.wire.WireFault.{WireFault}
use Rattle.grpc_streams.specs.declared.answers.TheConstants.{MESSAGE_SET}

-- the headers of an answer
abbrev pub response_headers : List Header
response_headers = record { name = codes ":status"; value = codes "200" } ∷ record { name = codes "content-type"; value = codes "application/grpc" } ∷ []

-- the answer to what is no request of gRPC (RFC 9110, section 15.5.16)
abbrev pub unsupported : List Header
unsupported = record { name = codes ":status"; value = codes "415" } ∷ []

-- the code of an answer
abbrev pub status_header : Code → Header
status_header code = record { name = codes "grpc-status"; value = decimal (code_number code) }

-- ---- a Status (google.rpc.Status): its text has number 2, its details number 3

-- the field at the front of what is read, and those behind it
abbrev pub front_first : Result (WireField × List ℕ) WireFault → (List ℕ → List WireField) → List WireField
front_first (Err fault) others = []
front_first (Ok x) others = x.0 ∷ others x.1

-- the fields that bytes begin with, at most so many
unfoldable pub fields_in : ℕ → List ℕ → List WireField
fields_in zero bytes = []
fields_in (suc more) bytes = front_first (field_at bytes) (λ rest. fields_in more rest)

-- the fields of a Status
abbrev pub fields_of : List ℕ → List WireField
fields_of status = fields_in (length status) status

-- the text so far, where this field comes next: the last that is given counts
abbrev pub next_text : List ℕ → ℕ → Payload → List ℕ
next_text text number (Bytes bytes) = if number == 2 then bytes else text
next_text text number (Varint value) = text
next_text text number (Fixed64 value) = text
next_text text number (Fixed32 value) = text

-- the text of a Status, where it was this before these fields
abbrev pub text_from : List ℕ → List WireField → List ℕ
text_from text fields = fold (λ before field. next_text before field.number field.payload) text fields

-- the Status has details
abbrev pub has_details : List WireField → Bool
has_details fields = list_any (λ field. field.number == 3) fields

-- the text, percent-encoded: `%` and all bytes but 20 to 7e (hex) are escaped
abbrev pub text_headers : List ℕ → List Header
text_headers text = if length text == 0 then [] else record { name = codes "grpc-message"; value = percent_encode MESSAGE_SET text } ∷ []

-- the Status, in base64 without padding, where it has details
abbrev pub details_headers : List ℕ → Bool → List Header
details_headers status details = if details then record { name = codes "grpc-status-details-bin"; value = encode_of standard_no_pad status } ∷ [] else []

-- what a Status says beside its code
unfoldable pub told : List ℕ → List Header
told status = text_headers (text_from [] (fields_of status)) ++ details_headers status (has_details (fields_of status))

-- what the messages of a failing call say beside its code: the first is its Status, if there is one
abbrev pub explained : List (List ℕ) → List Header
explained [] = []
explained (status ∷ others) = told status
