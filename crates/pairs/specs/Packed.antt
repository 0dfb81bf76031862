-- An entry of the packed pairs. Definitions only.
use Rattle.std.specs.Prelude.{ℕ, ◌*◌, ◌/◌, ◌%◌, ◌^◌, get_or}
use Rattle.packed_pairs.specs.Packed.{four_pairs, eight_blacks}

-- one of them
abbrev pub entry_of : ℕ → ℕ
entry_of i = get_or four_pairs (i / 4) 0 / 2 ^ (i % 4 * 16) % 65536

abbrev pub black_of : ℕ → ℕ
black_of pair = get_or eight_blacks (pair / 8) 0 / 2 ^ (pair % 8 * 8) % 256
