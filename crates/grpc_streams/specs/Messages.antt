-- The messages that the data of a stream spell (gRPC over HTTP/2, "Length-Prefixed-Message"; the limit is this project's profile).
use Rattle.std.specs.Prelude.{ℕ, zero, suc, ◌+◌, ◌==◌, nat_lt, if◌then◌else◌, List, [], ◌∷◌, ◌++◌, length, take, drop, Option, Some, None, Result, Ok, Err}
use Rattle.std.specs.Int.{w32, from_be_bytes, to_be_bytes}
use Rattle.p4_types.specs.declared.code.Code.{Code}
use Rattle.p4_types.specs.declared.code.Code.TheVariants as codes_of
use Rattle.grpc_streams.specs.declared.splitting.Split.{Split}

-- the longest message that is read: 8 MiB
abbrev pub max_message : ℕ
max_message = 8388608

-- the length that stands behind a flag
abbrev pub size_at : List ℕ → ℕ
size_at bytes = from_be_bytes w32 bytes

-- How long the message is with which bytes begin, where it is whole. It is refused as soon as its flag has come, which is 1 for a compressed one and else 0, and a longer one than is read as soon as its length has.
unfoldable pub front_at : List ℕ → Result (Option ℕ) Code
front_at [] = Ok None
front_at (flag ∷ bytes) =
    if flag == 1 then Err codes_of.Unimplemented
    else if nat_lt 1 flag then Err codes_of.InvalidArgument
    else if nat_lt (length bytes) 4 then Ok None
    else if nat_lt max_message (size_at bytes) then Err codes_of.ResourceExhausted
    else if nat_lt (length bytes) (4 + size_at bytes) then Ok None
    else Ok (Some (size_at bytes))

-- messages before those of a split
abbrev pub behind : List (List ℕ) → Split → Split
behind messages split = record { messages = messages ++ split.messages; rest = split.rest }

-- a split of bytes of which the front is known, where what is behind a whole message is split too
abbrev pub from_front : List ℕ → Result (Option ℕ) Code → (List ℕ → Split) → Split
from_front bytes (Err code) split = record { messages = []; rest = Err code }
from_front bytes (Ok None) split = record { messages = []; rest = Ok bytes }
from_front bytes (Ok (Some size)) split = behind (take size (drop 5 bytes) ∷ []) (split (drop size (drop 5 bytes)))

-- the messages of bytes, of which there are at most so many
unfoldable pub split_in : ℕ → List ℕ → Split
split_in zero bytes = record { messages = []; rest = Ok bytes }
split_in (suc more) bytes = from_front bytes (front_at bytes) (λ rest. split_in more rest)

-- the messages of bytes
abbrev pub split_of : List ℕ → Split
split_of bytes = split_in (length bytes) bytes

-- a message as it is sent: not compressed, behind its length in four bytes
abbrev pub framed : List ℕ → List ℕ
framed message = 0 ∷ (to_be_bytes w32 (length message) ++ message)
