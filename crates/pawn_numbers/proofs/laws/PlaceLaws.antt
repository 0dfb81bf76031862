-- Places and boards: the place of a number, the normal place of a position as keyed, and what the code computes of them.
use Rattle.std.specs.Prelude.{◌≡◌, refl, Bool, true, false, cond, not, ◌&&◌, ◌||◌, ℕ, zero, suc, ◌%◌, ◌<◌, T, eqb, ltb}
use Rattle.std.proofs.Common.{ap, sym, eqb→eq}
use Rattle.std.specs.Int.Bits.{bit_xor}
use Rattle.finite.specs.Members.{any}
use Rattle.finite.specs.Below.{all_below, below}
use Rattle.board.specs.Reach.{reaches}
use Rattle.symmetry.specs.Symmetry.{mapped}
use Rattle.rules.specs.Pawn.{inner}
use Rattle.rules.specs.Rules.{piece_of, apart, touching, legal_with_pawn}
use Rattle.rules.specs.Changed.{other, swapped, changed}
use Rattle.rules.specs.Changed.{keeping}
use Rattle.pawn_numbers.specs.declared.PawnPlace.{PawnPlace}
use Rattle.pawn_numbers.specs.PawnNumber.{flipped, pawn_key, pawn_flip, pawn_number, pawn_board, separated, HasPawn}
use Rattle.pawn_numbers.specs.Places.{pawn_in, seated, place_of, flip_bits, place_by, normal_of}
use Rattle.pawn_numbers.proofs.laws.FlipLaws.{legal-has}
use Rattle.pawn_numbers.proofs.laws.NormalPawn.{white-by}

pub place-board : (n : ℕ) → seated (place_of n) ≡ pawn_board n
unfolding place_of pawn_board
place-board n = refl

-- the place of a normal position is its normal board ..
pub normal-seated : (c s w k p : ℕ) → c < 2
    → seated (normal_of c s w k p).place ≡ flipped (pawn_flip (pawn_in c s w k p)) (pawn_in c s w k p)
unfolding normal_of flipped changed
normal-seated c s w k p h =
    let x = eqb c 1 in
    let m = keeping (ltb 3 (p % 8)) x in
    ap (λ (d : ℕ). pawn_in d (swapped x s) (mapped m (cond x k w)) (mapped m (cond x w k)) (mapped m p))
    (sym ((white-by x c h).1 refl))

-- .. and its key the position's number
pub normal-number : (c s w k p : ℕ) → pawn_key (seated (normal_of c s w k p).place) ≡ pawn_number (pawn_in c s w k p)
unfolding normal_of pawn_number pawn_key flipped changed
normal-number c s w k p = refl

-- ---- for the code

turns : Bool → Bool → ℕ → Bool
turns f x s = eqb (bit_xor s (flip_bits f x)) (mapped (keeping f x) s)

all-turn : (f x : Bool) → T (all_below (turns f x) 64)
unfolding all_below turns mapped
all-turn true true = tt
all-turn true false = tt
all-turn false true = tt
all-turn false false = tt

pub bits-turn : (f x : Bool) (s : ℕ) → s < 64 → bit_xor s (flip_bits f x) ≡ mapped (keeping f x) s
unfolding turns
bits-turn f x s h =
    eqb→eq (bit_xor s (flip_bits f x)) (mapped (keeping f x) s) (below (turns f x) 64 (all-turn f x) s h)

-- a normal place by the flip of its board
pub normal-by : (c s w k p : ℕ) (x : Bool) → eqb c 1 ≡ x
    → normal_of c s w k p
    ≡ record { place = place_by (ltb 3 (p % 8)) x s (cond x k w) (cond x w k) p; files = ltb 3 (p % 8); colours = x }
unfolding normal_of place_by flipped changed
normal-by c s w k p x e =
    ap (λ (x : Bool).
    record { place = place_by (ltb 3 (p % 8)) x s (cond x k w) (cond x w k) p; files = ltb 3 (p % 8); colours = x }) e

-- a white pawn's number by its place with the files reversed or not
pub number-by : (q : PawnPlace)
    → pawn_key (seated (place_by (ltb 3 (q.pawn % 8)) false q.side q.white q.black q.pawn))
    ≡ pawn_number (seated q)
unfolding place_by pawn_number pawn_key flipped changed
number-by q = refl

three-apart : (a b c t : Bool) → (not (a || (b || false)) && (not (c || false) && (not false && true)) && not t)
    ≡ cond (a || (b || c)) false (not t)
three-apart true b c t = refl
three-apart false true c t = refl
three-apart false false true t = refl
three-apart false false false t = refl

pub separated-is : (w k p s : ℕ)
    → separated (pawn_in 0 s w k p)
    ≡ cond (eqb w k || (eqb w p || eqb k p)) false (not (reaches (λ (u : ℕ). false) 5 w k))
unfolding separated apart any touching
separated-is w k p s = three-apart (eqb w k) (eqb w p) (eqb k p) (reaches (λ (u : ℕ). false) 5 w k)

-- a side exchanged or not, as told
pub white-exchanged : (x : Bool) (s : ℕ) → x ≡ true → s ≡ 0 → 1 ≡ swapped x s
unfolding swapped other
white-exchanged x s e d = rw (e, d) refl

pub black-exchanged : (x : Bool) (s : ℕ) → x ≡ true → s ≡ 1 → 0 ≡ swapped x s
unfolding swapped other
black-exchanged x s e d = rw (e, d) refl

pub neither-side : (x : Bool) (s : ℕ) → (s ≡ 0 → ⊥) → (s ≡ 1 → ⊥) → s ≡ swapped x s
unfolding swapped other
neither-side true zero n m = absurd (n refl)
neither-side true (suc zero) n m = absurd (m refl)
neither-side true (suc (suc s)) n m = refl
neither-side false s n m = refl

pub side-kept : (x : Bool) (s : ℕ) → x ≡ false → s ≡ swapped x s
unfolding swapped
side-kept x s e = rw e refl

-- ---- positions as keyed

-- none of the refusals 1 to 3 and 18
pub has-pawn-in : (c s w k p : ℕ) → c < 2 → s < 2 → w < 64 → k < 64 → T (inner p) → HasPawn (pawn_in c s w k p)
has-pawn-in c s w k p hc hs hw hk hp = record {
  colour = c;
  square = p;
  men = refl;
  white-or-black = hc;
  inner = hp;
  side = hs;
  white = hw;
  black = hk;
}

pub pawn-in-has : (c s w k p : ℕ) → T (legal_with_pawn (pawn_in c s w k p)) → HasPawn (pawn_in c s w k p)
pawn-in-has c s w k p l = legal-has (pawn_in c s w k p) (piece_of 4 c p) refl tt l
