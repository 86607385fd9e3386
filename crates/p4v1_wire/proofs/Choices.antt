-- The members of choices are in range as rows; what they hold is said of them.
use Rattle.std.proofs.Common.{Option, Some, None}
use Rattle.p4_types.specs.declared.messages.FieldMatchKind.{FieldMatchKind}
use Rattle.p4_types.specs.declared.messages.StreamErrorDetails.{StreamErrorDetails}
use Rattle.p4_types.specs.declared.messages.StreamErrorDetails.TheVariants as details
use Rattle.wire_messages.specs.Written.{RowsInRange}
use Rattle.p4v1_wire.specs.EntityRows.{kind_choice_rows}
use Rattle.p4v1_wire.specs.StreamRows.{details_choice_rows}

pub kind_choice_in_range : (kind : Option FieldMatchKind) → RowsInRange (kind_choice_rows kind)
unfolding kind_choice_rows
kind_choice_in_range None = tt
kind_choice_in_range (Some kind) = (tt, tt)

pub details_choice_in_range : (choice : Option StreamErrorDetails) → RowsInRange (details_choice_rows choice)
unfolding details_choice_rows
details_choice_in_range None = tt
details_choice_in_range (Some (details.PacketOut m)) = (tt, tt)
details_choice_in_range (Some (details.DigestListAck m)) = (tt, tt)
details_choice_in_range (Some (details.Other m)) = (tt, tt)
