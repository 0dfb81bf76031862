-- How long a header and a set are.
use Rattle.std.specs.Prelude.{◌≡◌, refl, List, [], ◌∷◌, ℕ, ◌+◌, ◌*◌, length}
use Rattle.std.proofs.Common.{arith}
use Rattle.endings.specs.Ending.{table_size}
use Rattle.sets.specs.Layout.{word4, header_size, set_size, entries_of, header_of}

pub length-entries : (cs : List ℕ) (offset : ℕ) → length (entries_of cs offset) ≡ 12 * length cs
unfolding entries_of word4
length-entries [] offset = refl
length-entries (c ∷ cs) offset = let e = length-entries cs (offset + table_size) in omega arith

pub length-header : (cs : List ℕ) → length (header_of cs) ≡ header_size (length cs)
unfolding header_of word4
length-header cs = let e = length-entries cs (header_size (length cs)) in omega arith

-- "With four tables the file is 236,596 bytes, with none 4"
pub four-tables : set_size 4 ≡ 236596
four-tables = refl

pub no-tables : set_size 0 ≡ 4
no-tables = refl
