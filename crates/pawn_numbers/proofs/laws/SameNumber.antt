-- Boards with a pawn have one number exactly if the reversal of the files, the exchange of colours and ranks, or both
-- make one into the other (02, P12); then one byte is true of both.
use Rattle.std.specs.Prelude.{◌≡◌, ◌↔◌, ℕ, ◌<◌, T}
use Rattle.std.proofs.Common.{ap, subst, sym, ◌∙◌, ⊎_elim, arith}
use Rattle.finite.specs.Orbit.{least, least-le, least-at, class-kept, class-one}
use Rattle.theory.specs.Value.{TrueByte}
use Rattle.rules.specs.Rules.{Board, legal_with_pawn}
use Rattle.rules.specs.Chess.{chess}
use Rattle.pawn_numbers.specs.PawnNumber.{Flip, flipped, flips, normal_pawn, pawn_key, pawn_flip, pawn_number, pawn_size, HasPawn}
use Rattle.pawn_numbers.proofs.laws.FlipLaws.{every-flip, then, flips-compose, flip-undone, has-flipped, byte-flipped}
use Rattle.pawn_numbers.proofs.laws.NormalPawn.{normal-flipped, one-flip, number_lt, key-own}

-- the number is the least key of the class, which has one normal board
number_is : (b : Board) → HasPawn b → pawn_number b ≡ least flipped normal_pawn pawn_key pawn_size flips b
unfolding pawn_number
number_is b h =
    ⊎_elim
    (λ z. absurd
    (let l = number_lt b h in
    let k = least-le flipped normal_pawn pawn_key pawn_size b (every-flip (pawn_flip b)) (normal-flipped b h) in
    omega (arith, z, k, l)))
    (λ z. sym (z.2 ∙ ap (λ (s : Flip). pawn_key (flipped s b)) (one-flip b h z.0 z.1)))
    (least-at flipped normal_pawn pawn_key pawn_size flips b)

pub number-along : (s : Flip) (b : Board) → HasPawn b → pawn_number (flipped s b) ≡ pawn_number b
number-along s b h =
    number_is (flipped s b) (has-flipped s b h)
    ∙ class-kept flipped normal_pawn pawn_key pawn_size flips every-flip then (λ s. s) HasPawn has-flipped
    (λ s t b h. flips-compose s t b) (λ s b h. flip-undone s b) s b h
    ∙ sym (number_is b h)

-- demand 2's sameness for boards with a pawn
pub same_number : (b c : Board) → HasPawn b → HasPawn c
    → (pawn_number b ≡ pawn_number c) ↔ ((s : Flip) × (flipped s b ≡ c))
same_number b c h k = (
  λ e. class-one flipped normal_pawn pawn_key pawn_size flips every-flip then (λ s. s) HasPawn has-flipped
      (λ s t b h. flips-compose s t b) (λ s b h. flip-undone s b) key-own b c h k
      (subst (λ (n : ℕ). n < pawn_size) (number_is b h) (number_lt b h)) (sym (number_is b h) ∙ e ∙ number_is c k),
  λ s. sym (number-along s.0 b h) ∙ ap pawn_number s.1,
)

-- a byte that is true of a legal board is true of every board with its number
pub byte-same : (b c : Board) (v : ℕ) → HasPawn b → HasPawn c → T (legal_with_pawn b) → pawn_number b ≡ pawn_number c
    → TrueByte chess b v → TrueByte chess c v
byte-same b c v h k l e t =
    let s = (same_number b c h k).0 e in
    subst (λ (d : Board). TrueByte chess d v) s.1 (byte-flipped s.0 b v l t)
