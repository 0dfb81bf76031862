-- A position as keyed is legal, with men that have a table, exactly where no refusal from 1 to 6 applies.
use Rattle.std.specs.Prelude.{◌≡◌, refl, Bool, true, false, cond, not, ◌&&◌, ◌||◌, List, [], ◌∷◌, ◌++◌, ℕ, ◌-◌, T, leb, ltb, eqb, None, Option, Some}
use Rattle.std.proofs.Common.{sym, ap, ◌∙◌, arith, lt-ltb, leb-false, eq-eqb, ne_eqb}
use Rattle.finite.specs.Truth.{and_left, and_right, and_both, true_of, of-true, false_of, refuted, implies}
use Rattle.finite.specs.Members.{all}
use Rattle.rules.specs.declared.Piece.{Piece}
use Rattle.rules.specs.Pawn.{pawn, inner}
use Rattle.rules.specs.Rules.{piece_of, pieces, known, touching, in_check, apart, legal_of, legal}
use Rattle.rules.proofs.laws.Legal.{legal-facts}
use Rattle.position.specs.declared.Position.{Position}
use Rattle.position.specs.Keyed.{slot_men, board_of, one_man, man_in, man_kind, colour_of, man_square}
use Rattle.position.proofs.laws.SlotLaws.{leb-not}
use Rattle.position.specs.Refusals.{ranked, bad_men, bad_man, bad_side, bad_square, bad_pawn, shared_square, kings_touch, later_refusal, placing_refusal, standing_refusal}

-- ---- men that have a table: one, of either side

-- what is in the slots is one man
slots-one : (side white black : ℕ) (f s : Option Piece) → bad_men f s ≡ false
    → ◌≡◌ {A = Position} (record { side = side; white_king = white; black_king = black; first = f; second = s })
    (one_man (man_in f).kind (man_in f).colour side white (man_in f).square black)
slots-one side white black None s e = absurd (refuted e tt)
slots-one side white black (Some m) (Some n) e = absurd (refuted e tt)
slots-one side white black (Some m) None e = refl

pub one-alone : (p : Position) → bad_man p ≡ false
    → p ≡ one_man (man_kind p) (colour_of p) p.side p.white_king (man_square p) p.black_king
one-alone p e = slots-one p.side p.white_king p.black_king p.first p.second e

-- the rules know them if they have a colour
slots-known : (f s : Option Piece) → bad_men f s ≡ false
    → all known (slot_men f ++ slot_men s) ≡ all (λ m. ltb m.colour 2) (slot_men f ++ slot_men s)
unfolding all
slots-known None s e = absurd (refuted e tt)
slots-known (Some m) (Some n) e = absurd (refuted e tt)
slots-known (Some m) None e = rw (lt-ltb m.kind 4 (leb-false 4 m.kind e))

-- none of them is a pawn
kind-pawnless : (k : ℕ) → leb 4 k ≡ false → T (not (eqb k 4))
kind-pawnless k e = let h = leb-false 4 k e in rw (ne_eqb k 4 (λ q. omega arith)) tt

slots-pawnless : (f s : Option Piece) → bad_men f s ≡ false → T (all (λ a. not (pawn a)) (slot_men f ++ slot_men s))
unfolding all
slots-pawnless None s e = absurd (refuted e tt)
slots-pawnless (Some m) (Some n) e = absurd (refuted e tt)
slots-pawnless (Some m) None e = and_both (not (pawn m)) true (kind-pawnless m.kind e) tt

pub man-pawnless : (p : Position) → bad_man p ≡ false → T (all (λ a. not (pawn a)) (board_of p).men)
unfolding board_of
man-pawnless p e = slots-pawnless p.first p.second e

-- so that none stands on rank 1 or 8
pub pawnless-ranked : (ms : List Piece) → T (all (λ a. not (pawn a)) ms) → T (all ranked ms)
unfolding all
pawnless-ranked [] t = tt
pawnless-ranked (a ∷ ms) t =
    and_both (ranked a) (all ranked ms)
    (go (pawn a) (and_left (not (pawn a)) (all (λ c. not (pawn c)) ms) t))
    (pawnless-ranked ms (and_right (not (pawn a)) (all (λ c. not (pawn c)) ms) t))
  where
    go : (x : Bool) → T (not x) → T (implies x (inner a.square))
    go true t = absurd t
    go false t = tt

pub pawnless-placed : (p : Position) → T (all (λ a. not (pawn a)) (board_of p).men) → bad_pawn p ≡ false
unfolding bad_pawn
pawnless-placed p t = ap not (true_of {b = all ranked (board_of p).men} (pawnless-ranked (board_of p).men t))

-- 18 is for others
pub placing-pieces : (p : Position) → placing_refusal p
    ≡ cond (bad_man p) 1
    (cond (bad_side p) 2 (cond (bad_square p) 3 (cond (shared_square p) 4 (cond (kings_touch p) 5 0))))
unfolding placing_refusal
placing-pieces p = go (bad_man p) refl
  where
    go : (x : Bool) → bad_man p ≡ x → cond x 1 (later_refusal p)
        ≡ cond x 1
        (cond (bad_side p) 2 (cond (bad_square p) 3 (cond (shared_square p) 4 (cond (kings_touch p) 5 0))))
    go true e = refl
    go false e = rw (pawnless-placed p (man-pawnless p e))

-- ---- the chain, over the tests: men, side, colours, squares on the board, apart, touching kings, check

unfoldable pub chain : Bool → Bool → Bool → Bool → Bool → Bool → ℕ
chain m s h q a t = cond m 1 (cond (not s || not h) 2 (cond (not q) 3 (cond (not a) 4 (cond t 5 0))))

pub agree : (m s k h q a t c : Bool) → (m ≡ false → k ≡ h)
    → (not m && (s && k && q && a && not t && not c))
    ≡ eqb (cond (eqb (chain m s h q a t) 0) (cond c 6 0) (chain m s h q a t)) 0
unfolding chain
agree true s k h q a t c e = refl
agree false s k h q a t c e = rw (e refl) (rest s h q a t c)
  where
    rest : (s h q a t c : Bool)
        → (s && h && q && a && not t && not c)
        ≡ eqb (cond (eqb (chain false s h q a t) 0) (cond c 6 0) (chain false s h q a t)) 0
    rest false h q a t c = refl
    rest true false q a t c = refl
    rest true true false a t c = refl
    rest true true true false t c = refl
    rest true true true true true c = refl
    rest true true true true false true = refl
    rest true true true true false false = refl

pub legal-standing : (p : Position) → (not (bad_man p) && legal (board_of p)) ≡ eqb (standing_refusal p) 0
unfolding legal_of standing_refusal bad_side bad_square shared_square board_of chain
legal-standing p =
    rw (placing-pieces p, leb-not 2 p.side)
    (agree (bad_man p) (ltb p.side 2) (all known (board_of p).men) (all (λ m. ltb m.colour 2) (board_of p).men)
    (all (λ m. ltb m.square 64) (pieces (board_of p))) (apart (pieces (board_of p))) (touching (board_of p))
    (in_check (board_of p) (1 - p.side))
    (slots-known p.first p.second))

-- ---- where no refusal applies

pub standing-facts : (p : Position) → standing_refusal p ≡ 0 → (bad_man p ≡ false) × T (legal (board_of p))
standing-facts p z =
    let t : T (not (bad_man p) && legal (board_of p)) = of-true (legal-standing p ∙ eq-eqb (standing_refusal p) 0 z) in
    (false_of (and_left (not (bad_man p)) (legal (board_of p)) t), and_right (not (bad_man p)) (legal (board_of p)) t)

pub one-men : (p : Position) → bad_man p ≡ false → (board_of p).men ≡ piece_of (man_kind p) (colour_of p) (man_square p) ∷ []
unfolding board_of
one-men p e = ap (λ (q : Position). (board_of q).men) (one-alone p e)

-- one man: legality alone tells
pub one-standing : (kind colour side white square black : ℕ)
    → legal (board_of (one_man kind colour side white square black))
    ≡ eqb (standing_refusal (one_man kind colour side white square black)) 0
unfolding board_of all
one-standing kind colour side white square black =
    let p = one_man kind colour side white square black in
    let b = board_of p in
    sym (implied (not (bad_man p)) (legal b)
    (λ t. known-man kind
    (and_left (ltb kind 4) (ltb colour 2) (and_left (ltb kind 4 && ltb colour 2) true (legal-facts b t).men))))
    ∙ legal-standing p
  where
    implied : (a c : Bool) → (T c → T a) → (a && c) ≡ c
    implied true c h = refl
    implied false true h = absurd (h tt)
    implied false false h = refl

    known-man : (k : ℕ) → T (ltb k 4) → T (not (leb 4 k))
    known-man k t = rw (leb-not 4 k, true_of {b = ltb k 4} t) tt
