-- A frame: the numbers of its header, its flags, and its payload, as document 01, "Frame header", states them.
-- These are definitions: they assume nothing.
use Rattle.std.specs.Prelude.{ℕ, ◌/◌, ◌%◌, Bool, cond, ◌&&◌, ◌||◌, not, List, ◌++◌, length, take, drop, eqb}
use Rattle.frame.specs.declared.Header.{Header}
use Rattle.frame.specs.Header.{length_of, header_of, header_bytes}

pub record Frame : Type 0 where
  pub request : ℕ
  pub stream : ℕ
  pub stream_flags : ℕ
  pub type : ℕ
  pub flags : ℕ
  pub payload : List ℕ

-- the frame of a header and a payload
abbrev pub framed : Header → List ℕ → Frame
framed h payload = record {
  request = h.request;
  stream = h.stream;
  stream_flags = h.stream_flags;
  type = h.kind;
  flags = h.flags;
  payload = payload;
}

-- the frame that stands at the front of a work area
unfoldable pub frame_of : List ℕ → Frame
frame_of w = framed (header_of w) (take (length_of w) (drop 8 w))

-- a frame's header and its bytes
abbrev pub header_for : Frame → Header
header_for f = record {
  length = length f.payload;
  request = f.request;
  stream = f.stream;
  stream_flags = f.stream_flags;
  kind = f.type;
  flags = f.flags;
}

unfoldable pub frame_bytes : Frame → List ℕ
frame_bytes f = header_bytes (header_for f) ++ f.payload

-- a flag is set
unfoldable pub flag : ℕ → ℕ → Bool
flag value n = eqb (n / value % 2) 1

unfoldable pub is_even : ℕ → Bool
is_even n = eqb (n % 2) 0

unfoldable pub begins : Frame → Bool
begins f = flag 0x01 f.stream_flags

unfoldable pub ends : Frame → Bool
ends f = flag 0x02 f.stream_flags

unfoldable pub is_type : ℕ → Frame → Bool
is_type t f = eqb f.type t

-- of a command frame
unfoldable pub is_new : Frame → Bool
is_new f = flag 0x01 f.flags

unfoldable pub is_more : Frame → Bool
is_more f = flag 0x04 f.flags

unfoldable pub data_follows : Frame → Bool
data_follows f = flag 0x08 f.flags

-- of a data frame
unfoldable pub is_last : Frame → Bool
is_last f = eqb f.flags 0x02

-- 18: exactly one of new and continuation; more or last; 0x02
unfoldable pub flags_fit : Frame → Bool
flags_fit f =
    cond (is_type 1 f) (not (eqb (f.flags % 4) 0) && not (eqb (f.flags % 4) 3))
    (cond (is_type 2 f) (eqb f.flags 0x01 || eqb f.flags 0x02)
    (eqb f.flags 0x02))
