-- The men's part of a key: its range, and that it tells the men's squares.
use Rattle.std.specs.Prelude.{◌≡◌, refl, Bool, List, [], ◌∷◌, map, ℕ, ◌+◌, ◌*◌, ◌<◌, T, ltb}
use Rattle.std.proofs.Common.{ap, mul_assoc, arith, ltb→lt}
use Rattle.finite.specs.Truth.{and_left, and_right}
use Rattle.finite.specs.Members.{all}
use Rattle.rules.specs.declared.Piece.{Piece}
use Rattle.numbering.specs.Keys.{key_from, spread, unplaced}

abbrev pub on_board : Piece → Bool
on_board m = ltb m.square 64

pub head-on : (a : Piece) (l : List Piece) → T (all on_board (a ∷ l)) → a.square < 64
unfolding all
head-on a l t = ltb→lt a.square 64 (and_left (on_board a) (all on_board l) t)

pub tail-on : (a : Piece) (l : List Piece) → T (all on_board (a ∷ l)) → T (all on_board l)
unfolding all
tail-on a l t = and_right (on_board a) (all on_board l) t

-- ---- keys

pub key-from-lt : (l : List Piece) (n k : ℕ) → T (all on_board l) → n < k → key_from n l < k * spread l
unfolding key_from spread
key-from-lt [] n k t h = omega arith
key-from-lt (a ∷ l) n k t h =
    let s = head-on a l t in
    rw (← mul_assoc k 64 (spread l)) (key-from-lt l (n * 64 + a.square) (k * 64) (tail-on a l t) (omega arith))

piece_eq : {a b : Piece} → unplaced a ≡ unplaced b → a.square ≡ b.square → a ≡ b
piece_eq {a} {b} u e =
    λ i. record { kind = ap (λ (m : Piece). m.kind) u i; colour = ap (λ (m : Piece). m.colour) u i; square = e i }

-- men of one ending with one key stand on the same squares
pub key-from-own : (l k : List Piece) (m n : ℕ) → map unplaced l ≡ map unplaced k → T (all on_board l)
    → T (all on_board k) → key_from m l ≡ key_from n k → (m ≡ n) × (l ≡ k)
unfolding key_from
key-from-own [] [] m n u s t e = (e, refl)
key-from-own [] (b ∷ k) m n u s t e = let z : ◌≡◌ {A = ℕ} 0 1 = cc in absurd (omega arith)
key-from-own (a ∷ l) [] m n u s t e = let z : ◌≡◌ {A = ℕ} 0 1 = cc in absurd (omega arith)
key-from-own (a ∷ l) (b ∷ k) m n u s t e =
    let v : map unplaced l ≡ map unplaced k = cc in
    let w : unplaced a ≡ unplaced b = cc in
    let r = key-from-own l k (m * 64 + a.square) (n * 64 + b.square) v (tail-on a l s) (tail-on b k t) e in
    let x = head-on a l s in
    let y = head-on b k t in
    let d : m * 64 + a.square ≡ n * 64 + b.square = r.0 in
    let q : a.square ≡ b.square = omega arith in
    let p : a ≡ b = piece_eq w q in
    let j : l ≡ k = r.1 in
    (omega arith, cc)
