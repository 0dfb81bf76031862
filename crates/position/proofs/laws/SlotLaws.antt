-- Refusals 2 to 4 and 18 slot by slot, as code asks them.
use Rattle.std.specs.Prelude.{◌≡◌, refl, Bool, not, ◌&&◌, ◌||◌, ◌∷◌, ◌++◌, ℕ, leb, ltb, eqb, None, Option, Some}
use Rattle.std.proofs.Common.{sym, ap, ap₂, ◌∙◌, ⊎_elim, lt-ltb, le-ltb, le-leb}
use Rattle.std.proofs.Math.Bool.{true, false}
use Rattle.std.proofs.lemmas.Bool.{lt-leb}
use Rattle.finite.specs.Truth.{le-or-lt, implies}
use Rattle.finite.specs.Members.{any, all}
use Rattle.rules.specs.declared.Piece.{Piece}
use Rattle.rules.specs.Pawn.{pawn, inner, outer}
use Rattle.rules.specs.Rules.{piece_of, apart}
use Rattle.position.specs.declared.Position.{Position}
use Rattle.position.specs.Keyed.{slot_men, board_of}
use Rattle.position.specs.Refusals.{ranked, bad_side, bad_square, bad_pawn, shared_square, slot_foreign, slot_off, slot_astray, slot_on, slots_share}

pub leb-not : (m n : ℕ) → leb m n ≡ not (ltb n m)
leb-not m n = ⊎_elim (λ h. rw (le-leb m n h, le-ltb n m h)) (λ h. rw (lt-leb m n h, lt-ltb n m h)) (le-or-lt m n)

-- ---- over Boolean variables; an absent man passes

off-four : (a b c d : Bool) → (not a || (not b || (not c || not d))) ≡ not (a && (b && (c && (d && true))))
off-four false b c d = refl
off-four true false c d = refl
off-four true true false d = refl
off-four true true true false = refl
off-four true true true true = refl

-- the kings; the white king and each man; the black king and each man; the men
shared-four : (wb wm wn bm bn mn : Bool)
    → (wb || ((wm || wn) || ((bm || bn) || mn)))
    ≡ not (not (wb || (wm || (wn || false)))
    && (not (bm || (bn || false)) && (not (mn || false) && (not false && true))))
shared-four true wm wn bm bn mn = refl
shared-four false true wn bm bn mn = refl
shared-four false false true bm bn mn = refl
shared-four false false false true bn mn = refl
shared-four false false false false true mn = refl
shared-four false false false false false true = refl
shared-four false false false false false false = refl

-- a side and two men
foreign-three : (s a b : Bool) → (s || (not a || not b)) ≡ (s || not (a && (b && true)))
foreign-three true a b = refl
foreign-three false false b = refl
foreign-three false true false = refl
foreign-three false true true = refl

-- two men
astray-two : (a b : Bool) → (not a || not b) ≡ not (a && (b && true))
astray-two false b = refl
astray-two true false = refl
astray-two true true = refl

-- ---- a pawn on rank 1 or 8

outer-not : (s : ℕ) → outer s ≡ not (inner s)
outer-not s = rw (leb-not 56 s) (go (leb-not 8 s))
  where
    swap : (a b : Bool) → (a || not b) ≡ not (not a && b)
    swap true b = refl
    swap false true = refl
    swap false false = refl

    go : leb 8 s ≡ not (ltb s 8) → (ltb s 8 || not (ltb s 56)) ≡ not (ltb 7 s && ltb s 56)
    go e = swap (ltb s 8) (ltb s 56) ∙ ap (λ (x : Bool). not (x && ltb s 56)) (sym e)

pub astray-not : (m : Piece) → (pawn m && outer m.square) ≡ not (ranked m)
astray-not m = go (pawn m)
  where
    go : (x : Bool) → (x && outer m.square) ≡ not (implies x (inner m.square))
    go true = outer-not m.square
    go false = refl

-- ---- the men in two slots

astray-slots : (f k : Option Piece) → (slot_astray f || slot_astray k) ≡ not (all ranked (slot_men f ++ slot_men k))
unfolding all
astray-slots None None = astray-two true true
astray-slots None (Some n) = ap (λ (x : Bool). false || x) (astray-not n) ∙ astray-two true (ranked n)
astray-slots (Some m) None = ap (λ (x : Bool). x || false) (astray-not m) ∙ astray-two (ranked m) true
astray-slots (Some m) (Some n) = ap₂ ◌||◌ (astray-not m) (astray-not n) ∙ astray-two (ranked m) (ranked n)

foreign-slots : (s : Bool) (f k : Option Piece)
    → (s || (slot_foreign f || slot_foreign k)) ≡ (s || not (all (λ m. ltb m.colour 2) (slot_men f ++ slot_men k)))
unfolding all
foreign-slots s None None = foreign-three s true true
foreign-slots s None (Some n) = rw (leb-not 2 n.colour) (foreign-three s true (ltb n.colour 2))
foreign-slots s (Some m) None = rw (leb-not 2 m.colour) (foreign-three s (ltb m.colour 2) true)
foreign-slots s (Some m) (Some n) =
    rw (leb-not 2 m.colour, leb-not 2 n.colour) (foreign-three s (ltb m.colour 2) (ltb n.colour 2))

module _ (white black : ℕ) where
  off-slots : (f s : Option Piece)
      → (leb 64 white || (leb 64 black || (slot_off f || slot_off s)))
      ≡ not (all (λ m. ltb m.square 64) (piece_of 5 0 white ∷ piece_of 5 1 black ∷ slot_men f ++ slot_men s))
  unfolding all
  off-slots None None = rw (leb-not 64 white, leb-not 64 black) (off-four (ltb white 64) (ltb black 64) true true)
  off-slots None (Some n) =
      rw (leb-not 64 white, leb-not 64 black, leb-not 64 n.square)
      (off-four (ltb white 64) (ltb black 64) true (ltb n.square 64))
  off-slots (Some m) None =
      rw (leb-not 64 white, leb-not 64 black, leb-not 64 m.square)
      (off-four (ltb white 64) (ltb black 64) (ltb m.square 64) true)
  off-slots (Some m) (Some n) =
      rw (leb-not 64 white, leb-not 64 black, leb-not 64 m.square, leb-not 64 n.square)
      (off-four (ltb white 64) (ltb black 64) (ltb m.square 64) (ltb n.square 64))

  shared-slots : (f s : Option Piece)
      → (eqb white
      black || ((slot_on white f || slot_on white s) || ((slot_on black f || slot_on black s) || slots_share f s)))
      ≡ not (apart (piece_of 5 0 white ∷ piece_of 5 1 black ∷ slot_men f ++ slot_men s))
  unfolding apart any
  shared-slots None None = shared-four (eqb white black) false false false false false
  shared-slots None (Some n) =
      shared-four (eqb white black) false (eqb white n.square) false (eqb black n.square) false
  shared-slots (Some m) None =
      shared-four (eqb white black) (eqb white m.square) false (eqb black m.square) false false
  shared-slots (Some m) (Some n) =
      shared-four (eqb white black) (eqb white m.square) (eqb white n.square) (eqb black m.square)
      (eqb black n.square) (eqb m.square n.square)

module _ (p : Position) where
  pub foreign-by-slots : (leb 2 p.side || (slot_foreign p.first || slot_foreign p.second)) ≡ bad_side p
  unfolding bad_side board_of
  foreign-by-slots = foreign-slots (leb 2 p.side) p.first p.second

  pub off-by-slots : (leb 64
      p.white_king || (leb 64 p.black_king || (slot_off p.first || slot_off p.second))) ≡ bad_square p
  unfolding bad_square board_of
  off-by-slots = off-slots p.white_king p.black_king p.first p.second

  pub astray-by-slots : (slot_astray p.first || slot_astray p.second) ≡ bad_pawn p
  unfolding bad_pawn board_of
  astray-by-slots = astray-slots p.first p.second

  pub shared-by-slots : (eqb p.white_king
      p.black_king
      || ((slot_on p.white_king p.first || slot_on p.white_king p.second)
      || ((slot_on p.black_king p.first || slot_on p.black_king p.second) || slots_share p.first
      p.second))) ≡ shared_square p
  unfolding shared_square board_of
  shared-by-slots = shared-slots p.white_king p.black_king p.first p.second
