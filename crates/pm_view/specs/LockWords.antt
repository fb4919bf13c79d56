-- A lock word: bit k where lane k reads, bit 32 + k where lane k writes.
use Rattle.std.specs.Prelude.{ℕ, ◌+◌, ◌/◌, ◌^◌, ◌==◌, if◌then◌else◌, Option, Some, None, bit_and, bit_or}
use Rattle.std.specs.Int.{bit_not, w64}

abbrev pub reader_bit : ℕ → ℕ
reader_bit lane = 2 ^ lane

abbrev pub writer_bit : ℕ → ℕ
writer_bit lane = 2 ^ (32 + lane)

-- the word once the lane writes, where nobody has the lock
abbrev pub with_writer : ℕ → ℕ → Option ℕ
with_writer lane word = if word == 0 then Some (writer_bit lane) else None

-- the word once the lane reads, where nobody writes
abbrev pub with_reader : ℕ → ℕ → Option ℕ
with_reader lane word = if word / 2 ^ 32 == 0 then Some (bit_or word (reader_bit lane)) else None

-- the word once the lane, which reads, writes, where it is the only reader
abbrev pub with_raised : ℕ → ℕ → Option ℕ
with_raised lane word = if word == reader_bit lane then Some (writer_bit lane) else None

-- the word once the lane has given the lock back
abbrev pub without_lane : ℕ → ℕ → ℕ
without_lane lane word = bit_and word (bit_not w64 (bit_or (reader_bit lane) (writer_bit lane)))
