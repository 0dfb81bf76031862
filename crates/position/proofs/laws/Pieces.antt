-- The pieces of a position one by one, as code goes through them: a test over a board's pieces is a test of each of the
-- four.
use Rattle.std.specs.Prelude.{◌≡◌, Bool, false, ◌&&◌, ℕ, ◌^◌, ◌<◌, None, Option, Some}
use Rattle.std.proofs.Math.Path.{sym}
use Rattle.std.proofs.Common.{ap, inl, arith, ne_eqb, eq-eqb}
use Rattle.std.proofs.Math.Bool.{or-false, and-false}
use Rattle.std.proofs.Math.Dec.{eqb}
use Rattle.std.specs.Int.Bits.{bit_or}
use Rattle.std.proofs.lemmas.Nat.{or_lt}
use Rattle.finite.specs.Members.{any}
use Rattle.finite.specs.Tests.{any_append}
use Rattle.board.specs.Sets.{has}
use Rattle.board.proofs.laws.SetLaws.{has-or}
use Rattle.rules.specs.declared.Piece.{Piece}
use Rattle.rules.specs.Rules.{pieces, occupied, stands}
use Rattle.rules.proofs.laws.OnBoard.{attacks-off, goes_to-off}
use Rattle.position.specs.declared.Position.{Position}
use Rattle.position.specs.declared.Pieces.{Pieces}
use Rattle.position.specs.Keyed.{slot_men, board_of, nobody, man_in}
use Rattle.position.specs.Over.{strikes, attacked_over, goes_from, goes_over}
use Rattle.position.specs.Pieces.{any_piece, own_on, pieces_of, stands_on}

-- ---- a test that nobody passes

module _ (f : Piece → Bool) (none : f nobody ≡ false) where
  slot-any : (s : Option Piece) → any f (slot_men s) ≡ f (man_in s)
  unfolding any
  slot-any None = sym none
  slot-any (Some m) = or-false (f m)

  any-four : (p : Position) (a : Pieces) → a ≡ pieces_of p → any f (pieces (board_of p)) ≡ any_piece f a
  unfolding any board_of
  any-four p a e =
      rw (any_append f (slot_men p.first) (slot_men p.second), slot-any p.first, slot-any p.second)
      (ap (any_piece f) (sym e))

-- ---- the rules, piece by piece

module _ (p : Position) (a : Pieces) (e : a ≡ pieces_of p) where
  pub occupied-four : (t : ℕ) → t < 64 → occupied (board_of p) t ≡ any_piece (stands_on t) a
  unfolding occupied
  occupied-four t h = any-four (stands_on t) (ne_eqb t 64 (λ q. omega arith)) p a e

  pub stands-four : (colour t : ℕ) → t < 64 → stands (board_of p) colour t ≡ any_piece (own_on colour t) a
  unfolding stands
  stands-four colour t h =
      any-four (own_on colour t) (rw (ne_eqb 64 t (λ q. omega arith)) (and-false (eqb 0 colour))) p a e

  pub attacked-four : (occ : ℕ → Bool) (colour t : ℕ)
      → attacked_over occ (board_of p) colour t ≡ any_piece (strikes occ colour t) a
  unfolding attacked_over
  attacked-four occ colour t =
      any-four (strikes occ colour t) (rw (attacks-off occ nobody t (inl (omega arith))) (and-false (eqb 0 colour))) p a e

  pub goes-four : (occ : ℕ → Bool) (from t : ℕ)
      → goes_over occ (board_of p) from t ≡ any_piece (goes_from occ p.side from t) a
  unfolding goes_over board_of
  goes-four occ from t =
      any-four (goes_from occ p.side from t)
      (rw (goes_to-off occ nobody t (inl (omega arith))) (and-false (eqb 0 p.side && eqb 64 from))) p a e

-- ---- sets gathered piece by piece

pub union-four : (f : Piece → Bool) (p : Pieces) (a b c d t : ℕ) → has a t ≡ f p.white → has b t ≡ f p.black
    → has c t ≡ f p.first → has d t ≡ f p.second
    → has (bit_or a (bit_or b (bit_or c d))) t ≡ any_piece f p
union-four f p a b c d t ea eb ec ed =
    rw (has-or a (bit_or b (bit_or c d)) t, has-or b (bit_or c d) t, has-or c d t, ea, eb, ec, ed)

pub union-lt : (a b c d : ℕ) → a < 2 ^ 64 → b < 2 ^ 64 → c < 2 ^ 64 → d < 2 ^ 64
    → bit_or a (bit_or b (bit_or c d)) < 2 ^ 64
union-lt a b c d ha hb hc hd = or_lt 64 a (bit_or b (bit_or c d)) ha (or_lt 64 b (bit_or c d) hb (or_lt 64 c d hc hd))

-- a test that begins with an equality
pub ne-and : (a b : ℕ) (x : Bool) → (a ≡ b → ⊥) → (eqb a b && x) ≡ false
ne-and a b x h = rw (ne_eqb a b h)

pub eq-and : (a b : ℕ) (x : Bool) → a ≡ b → (eqb a b && x) ≡ x
eq-and a b x e = rw (eq-eqb a b e)
