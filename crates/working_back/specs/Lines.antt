-- The numbers of a man's squares, those that he came from or went to, where nothing is exchanged: at equal steps from a base. Definitions only.
use Rattle.std.specs.Prelude.{◌≡◌, true, cond, ℕ, ◌+◌, ◌*◌, ◌^◌, ◌<◌, leb, eqb}
use Rattle.std.specs.Int.Bits.{bit_xor}
use Rattle.position.specs.declared.Men.{Men}
use Rattle.position.specs.declared.Place.{Place}
use Rattle.numbering.specs.Number.{number_of}
use Rattle.position.specs.Posed.{board_in}
use Rattle.movegen.specs.Places.{place_after}
use Rattle.successors.specs.declared.Frame.{Frame}
use Rattle.retracting.specs.Retracting.{Leads, GoesBack, Seat, place_before}
use Rattle.working_back.specs.declared.lines.Line.{Line}
use Rattle.working_back.specs.Spared.{Quietly}

abbrev pub base_of : Men → Place → ℕ → ℕ → Frame → ℕ
base_of m q taken to f =
    cond (leb 4 m.second) (f.kings * 64)
    (cond (eqb q.first to) (f.kings * 4096 + bit_xor (cond (eqb taken 2) to q.second) f.flip)
    (f.kings * 4096 + bit_xor (cond (eqb taken 1) to q.first) f.flip * 64))

abbrev pub scale_of : Men → Place → ℕ → ℕ
scale_of m q to = cond (leb 4 m.second) 1 (cond (eqb q.first to) 64 1)

-- the line has the number of the place before a move from s, whichever square that is
pub record LinedBefore (m : Men) (q : Place) (taken to : ℕ) (line : Line) : Type 0 where
  pub bounded : line.base < 2 ^ 48
  pub serves : (s : ℕ) → GoesBack m q taken s to → line.plain ≡ true
      → line.base + bit_xor s line.flip * line.scale ≡ number_of (board_in m (place_before q taken s to))

-- .. the number after another move
abbrev pub Serves : Men → Place → ℕ → ℕ → Line → Type 0
Serves m o s t line = line.plain ≡ true → line.base + bit_xor t line.flip * line.scale ≡ number_of (board_in m (place_after o s t))

pub record LinedAfter (m : Men) (q : Place) (taken to : ℕ) (line : Line) : Type 0 where
  pub bounded : line.base < 2 ^ 48
  pub serves : (kind s t : ℕ) → Leads m (place_before q taken s to) s to q
      → Seat m (place_before q taken s to) kind (place_before q taken s to).side s → Quietly m (place_before q taken s to) kind s t
      → Serves m (place_before q taken s to) s t line
