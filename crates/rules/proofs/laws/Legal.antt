-- A legal board, fact by fact.
use Rattle.std.specs.Prelude.{◌≡◌, refl, Bool, true, false, not, ◌&&◌, ◌-◌, ◌<◌, T, ltb}
use Rattle.std.proofs.Common.{⊎_elim, ltb→lt, lt-ltb, ne_eqb, arith}
use Rattle.finite.specs.Truth.{and_left, and_right, or_left, or_cases, true_of}
use Rattle.finite.specs.Members.{all, all_in, all-out}
use Rattle.rules.specs.declared.Piece.{Piece}
use Rattle.rules.specs.Pawn.{pawn, inner}
use Rattle.rules.specs.Rules.{Board, pieces, known, known_or_pawn, apart, touching, in_check, legal_of, legal, legal_with_pawn}

pub record LegalOf (admits : Piece → Bool) (b : Board) : Type 0 where
  pub side : b.side < 2
  pub men : T (all admits b.men)
  pub squares : T (all (λ m. ltb m.square 64) (pieces b))
  pub apart : T (apart (pieces b))
  pub kings : touching b ≡ false
  pub safe : in_check b (1 - b.side) ≡ false

abbrev pub Legal : Board → Type 0
Legal = LegalOf known

-- six tests, each by itself
record Six (a b c d e f : Bool) : Type 0 where
  s0 : T a
  s1 : T b
  s2 : T c
  s3 : T d
  s4 : e ≡ false
  s5 : f ≡ false

six : (a b c d e f : Bool) → T (a && b && c && d && not e && not f) → Six a b c d e f
six true true true true false false t = record { s0 = tt; s1 = tt; s2 = tt; s3 = tt; s4 = refl; s5 = refl }
six true true true true false true t = absurd t
six true true true true true f t = absurd t
six true true true false e f t = absurd t
six true true false d e f t = absurd t
six true false c d e f t = absurd t
six false b c d e f t = absurd t

pub legal_of-facts : (admits : Piece → Bool) (b : Board) → T (legal_of admits b) → LegalOf admits b
unfolding legal_of
legal_of-facts admits b t =
    let s = six (ltb b.side 2) (all admits b.men) (all (λ m. ltb m.square 64) (pieces b)) (apart (pieces b))
    (touching b) (in_check b (1 - b.side)) t in
    record {
      side = ltb→lt b.side 2 s.s0;
      men = s.s1;
      squares = s.s2;
      apart = s.s3;
      kings = s.s4;
      safe = s.s5;
    }

pub facts-legal_of : (admits : Piece → Bool) (b : Board) → LegalOf admits b → T (legal_of admits b)
unfolding legal_of
facts-legal_of admits b l =
    rw (
      lt-ltb b.side 2 l.side,
      true_of {b = all admits b.men} l.men,
      true_of {b = all (λ m. ltb m.square 64) (pieces b)} l.squares,
      true_of {b = apart (pieces b)} l.apart,
      l.kings,
      l.safe,
    ) tt

pub legal-facts : (b : Board) → T (legal b) → Legal b
legal-facts = legal_of-facts known

pub facts-legal : (b : Board) → Legal b → T (legal b)
facts-legal = facts-legal_of known

-- ---- what is admitted

-- White's or Black's
pub admitted-colour : (a : Piece) → T (known_or_pawn a) → a.colour < 2
admitted-colour a t =
    ⊎_elim (λ k. ltb→lt a.colour 2 (and_right (ltb a.kind 4) (ltb a.colour 2) k))
    (λ k. ltb→lt a.colour 2
    (and_right (pawn a) (ltb a.colour 2) (and_left (pawn a && ltb a.colour 2) (inner a.square) k)))
    (or_cases (known a) (pawn a && ltb a.colour 2 && inner a.square) t)

-- ---- without a pawn

-- a queen, rook, bishop or knight is no pawn
pub known-piece : (a : Piece) → T (known a) → pawn a ≡ false
known-piece a t =
    let k = ltb→lt a.kind 4 (and_left (ltb a.kind 4) (ltb a.colour 2) t) in
    ne_eqb a.kind 4 (λ e. omega arith)

pub legal-pawnless : (b : Board) → T (legal b) → T (all (λ a. not (pawn a)) b.men)
legal-pawnless b t =
    all_in (λ a. not (pawn a)) b.men (λ a i. rw (known-piece a (all-out known i (legal-facts b t).men)) tt)

pub legal-with-pawn : (b : Board) → T (legal b) → T (legal_with_pawn b)
legal-with-pawn b t =
    let l = legal-facts b t in
    facts-legal_of known_or_pawn b (record {
      side = l.side;
      men = all_in known_or_pawn b.men
          (λ a i. or_left (known a) (pawn a && ltb a.colour 2 && inner a.square) (all-out known i l.men));
      squares = l.squares;
      apart = l.apart;
      kings = l.kings;
      safe = l.safe;
    })
