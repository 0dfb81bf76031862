-- What one of the eight maps, the colours exchanged or not, makes of a position's answer (02, P5 and P9). Definitions only.
use Rattle.std.specs.Prelude.{◌≡◌, Bool, true, false, List, ℕ, T}
use Rattle.symmetry.specs.Symmetry.{Symmetry}
use Rattle.numbering.specs.Fits.{two_fit, mirror}
use Rattle.position.specs.declared.Position.{Position}
use Rattle.position.specs.Keyed.{board_of}
use Rattle.position.specs.Maps.{changed_position}
use Rattle.endings.specs.Answers.{mapped_answer, look_up_of}

-- "Turning a position then turns its move, but for that mirror pair."
pub record MoveTurned (t : List ℕ) (m : Symmetry) (x : Bool) (p : Position) : Type 0 where
  -- unless two maps fit and m exchanges file and rank: the same answer, its move turned
  pub plain : (T (two_fit (board_of p)) → m.swap ≡ false)
      → look_up_of t (changed_position m x p) ≡ mapped_answer m (look_up_of t p)
  -- and there: the same answer, its move's mirror image turned
  pub mirrored : T (two_fit (board_of p)) → m.swap ≡ true
      → look_up_of t (changed_position m x p) ≡ mapped_answer m (mapped_answer (mirror (board_of p)) (look_up_of t p))
