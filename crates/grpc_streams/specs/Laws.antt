-- Laws of messages.
use Rattle.std.specs.Prelude.{◌≡◌, ℕ, List, [], ◌++◌, Result, Ok, Err}
use Rattle.p4_types.specs.declared.code.Code.{Code}
use Rattle.grpc_streams.specs.declared.splitting.Split.{Split}
use Rattle.grpc_streams.specs.Messages.{behind, split_of}

-- what is behind whole messages goes on with these bytes, unless it is refused
abbrev pub rest_with : Result (List ℕ) Code → List ℕ → Split
rest_with (Err code) bytes = record { messages = []; rest = Err code }
rest_with (Ok rest) bytes = split_of (rest ++ bytes)

-- Cutting the data of a stream in two changes neither its messages nor what is refused.
abbrev pub AnyCut : Type 0
AnyCut = (first second : List ℕ) → split_of (first ++ second) ≡ behind (split_of first).messages (rest_with (split_of first).rest second)
