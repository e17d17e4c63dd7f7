-- The bytes that a byte string stands for, and the number of the refusal of a longer one.
use Rattle.std.specs.Prelude.{ℕ, List, take}
use Rattle.items.specs.declared.byte_string.stored.ByteString.{ByteString}
use Rattle.items.specs.declared.byte_string.stored.TooLong.{TooLong}

abbrev pub bytes_of : ByteString → List ℕ
bytes_of s = take s.len s.bytes

abbrev pub too_long_number : TooLong → ℕ
too_long_number refused = 4
