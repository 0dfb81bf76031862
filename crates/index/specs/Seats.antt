-- An ending's men on squares of the board, and the number they have there. Definitions only.
use Rattle.std.specs.Prelude.{◌≡◌, Bool, cond, ◌&&◌, ◌||◌, ℕ, ◌+◌, ◌*◌, ◌/◌, ◌%◌, ◌<◌, T, leb, eqb}
use Rattle.numbering.specs.Kings.{pair_of, kings_of}
use Rattle.numbering.specs.Keys.{board_at}
use Rattle.numbering.specs.Material.{known, men_of}
use Rattle.position.specs.declared.Men.{Men}
use Rattle.position.specs.declared.Place.{Place}
use Rattle.position.specs.Posed.{board_in, material_for}
use Rattle.index.specs.Least.{packed, turned_key, least_of}

-- kings and men stand on the board, two on one square perhaps, and none is missing
pub record Seated (m : Men) (q : Place) : Type 0 where
  pub ending : T (known (material_for m))
  pub colour : m.colour < 2
  pub white : q.white < 64
  pub black : q.black < 64
  pub first : q.first < 64
  pub second : leb 64 q.second ≡ leb 4 m.second

-- what stands at a number, used or not
pub record StandsAt (m : Men) (n : ℕ) (q : Place) : Type 0 where
  pub seated : Seated m q
  pub side : q.side < 2
  pub board : board_in m q ≡ board_at (men_of (material_for m)) n

-- two men of one kind and one side
abbrev pub alike : Men → Bool
alike m = eqb m.first m.second && eqb 0 m.colour

-- there is no second man
abbrev pub alone : Place → Bool
alone q = leb 64 q.second

-- the key of the squares as they stand
unfoldable pub key_at : Place → ℕ
key_at q = packed q.white q.black q.first (cond (alone q) 0 q.second)

-- the least key of the class
unfoldable pub least_at : Men → Place → ℕ
least_at m q = least_of (alike m) (turned_key q.white q.black q.first q.second)

-- the place that a key tells, and its number
unfoldable pub place_from : Bool → ℕ → ℕ → Place
place_from single side n = record {
  side = side;
  white = n / 262144 % 64;
  black = n / 4096 % 64;
  first = n / 64 % 64;
  second = cond single 64 (n % 64);
}

-- the number of a side, a pair and the men's squares in a key
abbrev pub number_by : Bool → ℕ → ℕ → ℕ → ℕ
number_by single side pair n =
    let kings = side * 462 + pair in cond single (kings * 64 + n / 64 % 64) (kings * 4096 + n % 4096)

unfoldable pub number_from : Bool → ℕ → ℕ → ℕ
number_from single side n = let kings = n / 4096 % 4096 in number_by single side (pair_of (kings / 64) (kings % 64)) n

-- the place of a number's side and pair, and of the men's squares
unfoldable pub seat_of : ℕ → ℕ → ℕ → Place
seat_of lead first second =
    let kings = kings_of (lead % 462) in
    record { side = lead / 462 % 2; white = kings / 64; black = kings % 64; first = first; second = second }

-- a man stands on a king's square or the other man's
unfoldable pub shares : Place → Bool
shares q =
    eqb q.white q.first
    || (eqb q.black q.first
    || (eqb q.white q.second || (eqb q.black q.second || eqb q.first q.second)))
