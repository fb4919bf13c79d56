-- NUMBERS THAT ARE DRAWN: the states of a linear congruential generator.
use Rattle.std.specs.Prelude.{ℕ, ◌+◌, ◌*◌, ◌%◌, ◌^◌}

-- the state after one
abbrev pub next_state : ℕ → ℕ
next_state x = (x * 6364136223846793005 % 2 ^ 64 + 1442695040888963407) % 2 ^ 64
