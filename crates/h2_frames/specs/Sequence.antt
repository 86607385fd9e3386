-- Bytes as frames one after another (RFC 9113, section 4.1).
use Rattle.std.specs.Prelude.{◌≡◌, ℕ, zero, suc, ◌+◌, ◌||◌, nat_lt, Bool, true, if◌then◌else◌, List, [], ◌∷◌, ◌++◌, length, take, drop, All}
use Rattle.std.specs.List.{flat_map}
use Rattle.h2_frames.specs.Reading.{head_at}

-- a frame as it came: nine bytes of head, and its payload with the padding, of which all counts in windows
pub record Framed : Type 0 where
  pub head : List ℕ
  pub payload : List ℕ

-- the bytes of such a frame
abbrev pub framed_bytes : Framed → List ℕ
framed_bytes framed = framed.head ++ framed.payload

-- how long the payload is, as the head at the front of these bytes says
abbrev pub payload_length : List ℕ → ℕ
payload_length bytes = (head_at (take 9 bytes)).length

-- no whole frame stands at the front of these bytes
abbrev pub is_part : List ℕ → Bool
is_part bytes = nat_lt (length bytes) 9 || nat_lt (length bytes) (9 + payload_length bytes)

-- the frame at the front
abbrev pub first_of : List ℕ → Framed
first_of bytes = record { head = take 9 bytes; payload = take (payload_length bytes) (drop 9 bytes) }

-- the bytes behind it
abbrev pub behind_first : List ℕ → List ℕ
behind_first bytes = drop (payload_length bytes) (drop 9 bytes)

-- frames before those of other bytes
abbrev pub onto : List Framed → List Framed × List ℕ → List Framed × List ℕ
onto frames others = (frames ++ others.0, others.1)

-- the whole frames from the front on, at most so many, and the rest behind them
unfoldable pub split_in : ℕ → List ℕ → List Framed × List ℕ
split_in zero bytes = ([], bytes)
split_in (suc more) bytes = if is_part bytes then ([], bytes) else onto (first_of bytes ∷ []) (split_in more (behind_first bytes))

-- The whole frames of bytes, and the rest that is no whole frame. As each takes nine bytes at least, there are no more of them than bytes.
abbrev pub frames_of : List ℕ → List Framed × List ℕ
frames_of bytes = split_in (length bytes) bytes

-- a head of nine bytes, and a payload as long as it says
pub record IsFramed (framed : Framed) : Type 0 where
  pub nine : length framed.head ≡ 9
  pub whole : length framed.payload ≡ (head_at framed.head).length

-- These frames and this rest are the bytes, and no whole frame stands at the front of the rest.
pub record AreFrames (bytes : List ℕ) (split : List Framed × List ℕ) : Type 0 where
  pub joined : flat_map framed_bytes split.0 ++ split.1 ≡ bytes
  pub each : All IsFramed split.0
  pub rest : is_part split.1 ≡ true

-- Bytes are their frames and their rest.
abbrev pub FramesJoined : Type 0
FramesJoined = (bytes : List ℕ) → AreFrames bytes (frames_of bytes)

-- Bytes that come later change no whole frame: with the rest they are what follows.
abbrev pub LaterFrames : Type 0
LaterFrames = (first later : List ℕ) → ◌≡◌ {A = List Framed × List ℕ} (frames_of (first ++ later)) (onto (frames_of first).0 (frames_of ((frames_of first).1 ++ later)))
