-- The men of a position in standard order and colours, and the normal place of its class, as code makes them.
-- Definitions only.
use Rattle.std.specs.Prelude.{◌≡◌, Bool, false, cond, ◌⊎◌, ℕ, ◌-◌, ◌<◌, ◌/◌, ◌%◌, T, ltb, eqb}
use Rattle.rules.specs.declared.Piece.{Piece}
use Rattle.rules.specs.Pawn.{inner}
use Rattle.pawn_numbers.specs.declared.PawnPlace.{PawnPlace}
use Rattle.pawn_numbers.specs.PawnNumber.{separated}
use Rattle.pawn_numbers.specs.Places.{pawn_in, normal_of}
use Rattle.numbering.specs.Material.{material_in}
use Rattle.numbering.specs.Number.{arranged}
use Rattle.position.specs.declared.Position.{Position}
use Rattle.position.specs.declared.Men.{Men}
use Rattle.position.specs.declared.Place.{Place}
use Rattle.position.specs.Keyed.{board_of, man_in}
use Rattle.position.specs.Maps.{symmetry_of}
use Rattle.position.specs.Posed.{board_in, material_for, Complete}
use Rattle.index.specs.declared.Arranged.{Arranged}
use Rattle.index.specs.declared.NormalPlace.{NormalPlace}
use Rattle.index.specs.Least.{turned_key, transposed_key, rising_key}
use Rattle.index.specs.Endings.{normal_in, map_in}
use Rattle.index.specs.Seats.{Seated, alike, alone, least_at, place_from}

-- "The kind earlier in Q, R, B, N counts as first, and for one each it is White's": two men change places
unfoldable pub goes_after : Piece → Piece → Bool
goes_after a c = cond (eqb a.kind c.kind) (ltb c.colour a.colour) (ltb c.kind a.kind)

-- the first man White's: colours, kings and side to move are exchanged where he is Black's
unfoldable pub white_first : Piece → Piece → Position → Arranged
white_first a c p =
    let black = eqb a.colour 1 in
    record {
      men = record { first = a.kind; second = c.kind; colour = cond black (1 - c.colour) c.colour };
      place = record {
        side = cond black (1 - p.side) p.side;
        white = cond black p.black_king p.white_king;
        black = cond black p.white_king p.black_king;
        first = a.square;
        second = c.square;
      };
    }

unfoldable pub arranged_as : Position → Arranged
arranged_as p =
    let a = man_in p.first in
    let c = man_in p.second in
    cond (goes_after a c) (white_first c a p) (white_first a c p)

-- the men and the place are the board's with its men in standard order
pub record Arranges (p : Position) (r : Arranged) : Type 0 where
  pub seated : Seated r.men r.place
  pub side : r.place.side < 2
  pub board : board_in r.men r.place ≡ arranged (board_of p)
  pub material : material_for r.men ≡ material_in (board_of p).men

-- file and rank are exchanged once the reversals are made
unfoldable pub swaps_at : Men → Place → Bool
swaps_at m q =
    let k = turned_key q.white q.black q.first q.second in
    ltb (rising_key (alike m) (transposed_key k)) (rising_key (alike m) k)

-- the normal place by a key and the one with file and rank exchanged, and the map that leads to it
unfoldable pub normal_by : Men → Place → ℕ → ℕ → NormalPlace
normal_by m q s t = record {
  men = m;
  place = place_from (alone q) q.side (cond (ltb t s) t s);
  via = record { files = ltb 3 (q.white % 8); ranks = ltb 3 (q.white / 8); swap = ltb t s };
}

-- the normal place of a class and the map that leads to it
unfoldable pub normal_as : Arranged → NormalPlace
normal_as r =
    let m = r.men in
    let q = r.place in
    record {
      men = m;
      place = place_from (alone q) q.side (least_at m q);
      via = record { files = ltb 3 (q.white % 8); ranks = ltb 3 (q.white / 8); swap = swaps_at m q };
    }

-- ---- a lone pawn (02, P12)

-- its ending's men: the pawn White's
abbrev pub pawn_men : Men
pawn_men = record { first = 4; second = 4; colour = 0 }

-- where the kings and the pawn stand
abbrev pub pawn_place : PawnPlace → Place
pawn_place q = record { side = q.side; white = q.white; black = q.black; first = q.pawn; second = 64 }

unfoldable pub pawn_normal_as : Position → NormalPlace
pawn_normal_as p =
    let a = man_in p.first in
    let n = normal_of a.colour p.side p.white_king p.black_king a.square in
    record {
      men = pawn_men;
      place = pawn_place n.place;
      via = record { files = n.files; ranks = n.colours; swap = false };
    }

-- kings and pawn are on the board, the pawn on ranks 2 to 7, no two on one square, and the kings do not touch
pub record PawnSeated (m : Men) (q : Place) : Type 0 where
  pub men : m ≡ pawn_men
  pub second : q.second ≡ 64
  pub side : q.side < 2
  pub white : q.white < 64
  pub black : q.black < 64
  pub inner : T (inner q.first)
  pub separated : T (separated (pawn_in 0 q.side q.white q.black q.first))

-- ---- of every ending

-- all the men of an ending are there, and no refusal but 6 applies
abbrev pub Whole : Men → Place → Type 0
Whole m q = Complete m q ⊎ PawnSeated m q

pub record Normalises (p : Position) (r : NormalPlace) : Type 0 where
  pub board : board_in r.men r.place ≡ normal_in (material_in (board_of p).men) (board_of p)
  pub map : symmetry_of r.via ≡ map_in (material_in (board_of p).men) (board_of p)
  pub whole : Whole r.men r.place
  pub material : material_for r.men ≡ material_in (board_of p).men
