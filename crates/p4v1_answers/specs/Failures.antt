-- The errors of a Write that failed, as they stand in the details of its status (P4Runtime 1.3.0, "Error Reporting").
use Rattle.std.specs.Prelude.{if◌then◌else◌, List, Option, None, codes}
use Rattle.std.specs.Str.{bytes_eq}
use Rattle.p4_types.specs.declared.messages.Any.{Any}
use Rattle.p4_types.specs.declared.messages.Error.{Error}
use Rattle.p4_types.specs.declared.messages.Status.{Status}
use Rattle.wire_messages.specs.Message.{each}
use Rattle.p4v1_read.specs.Nested.{read}
use Rattle.p4v1_wire.specs.ServerMessages.{error_of}

-- the Error that a detail is, where its type is that
abbrev pub error_in : Any → Option Error
error_in detail = if bytes_eq detail.type_url (codes "type.googleapis.com/p4.v1.Error") then read error_of detail.value else None

-- the Errors that all details are, in order
abbrev pub errors_in : Status → Option (List Error)
errors_in status = each error_in status.details
