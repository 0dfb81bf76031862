-- What the laws of the same name speak of. Definitions only.
use Rattle.std.specs.Prelude.{ℕ, ◌*◌, ◌%◌, ◌^◌}

-- the code's `1 << s`
abbrev pub bit : ℕ → ℕ
bit s = (1 * 2 ^ s) % 18446744073709551616
