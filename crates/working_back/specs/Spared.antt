-- A piece put back that had another move, which spares its side the loss (02, P11). Definitions only.
use Rattle.std.specs.Prelude.{◌≡◌, true, false, cond, not, ◌&&◌, List, ℕ, ◌+◌, ◌<◌, T, eqb, get_or}
use Rattle.theory.specs.Judge.{refutes}
use Rattle.board.specs.Reach.{reaches}
use Rattle.board.specs.Sets.{has}
use Rattle.rules.specs.Rules.{occupied, carried}
use Rattle.numbering.specs.Number.{number_of}
use Rattle.position.specs.Posed.{board_in}
use Rattle.position.specs.declared.Men.{Men}
use Rattle.position.specs.declared.Place.{Place}
use Rattle.movegen.specs.Places.{place_after}
use Rattle.working_back.specs.declared.spared.Ground.{Ground}

-- a square that the piece on s may go to, taking nothing: what stands there is legal or has the byte 0
pub record Quietly (m : Men) (o : Place) (kind s t : ℕ) : Type 0 where
  pub reached : T (reaches (occupied (board_in m o)) kind s t)
  pub free : occupied (board_in m o) t ≡ false
  pub apart : kind ≡ 5 → reaches (has 0) 5 (cond (eqb o.side 0) o.black o.white) t ≡ false

-- the byte of a place is not 0, and shows that depth k is not required where a move leads to it
pub record Sparing (m : Men) (k : ℕ) (p : Place) (u : List ℕ) : Type 0 where
  pub some : get_or u (number_of (board_in m p)) 0 ≡ 0 → ⊥
  pub refuting : refutes (2 + k) (get_or u (number_of (board_in m p)) 0) ≡ true

pub record Spared (m : Men) (k : ℕ) (o : Place) (kind s : ℕ) (u : List ℕ) : Type 0 where
  pub target : ℕ
  pub quietly : Quietly m o kind s target
  pub sparing : Sparing m k (place_after o s target) u

-- ---- wherever the piece that went to `to` came from

-- what stands after it went to t instead: the man that it took on `to` stands there
unfoldable pub place_on : Place → ℕ → ℕ → ℕ → Place
place_on q taken to t = record {
  side = q.side;
  white = carried to t q.white;
  black = carried to t q.black;
  first = cond (eqb taken 1) to (carried to t q.first);
  second = cond (eqb taken 2) to (carried to t q.second);
}

-- what stands still before its move, and squares that are not looked at: those among them, and for a king the ones next to the other
pub record Grounds (m : Men) (q : Place) (taken kind to : ℕ) (g : Ground) : Type 0 where
  pub stood : (u : ℕ) → u < 64 → has g.stood u ≡ (occupied (board_in m q) u && not (eqb taken 0 && eqb u to))
  pub free : (u : ℕ) → u < 64 → has g.shut u ≡ false → has g.stood u ≡ false
  pub apart : kind ≡ 5 → (u : ℕ) → u < 64 → has g.shut u ≡ false
      → reaches (has 0) 5 (cond (eqb q.side 0) q.white q.black) u ≡ false
