-- A lone pawn as keyed: its board, its normal place, and its number.
use Rattle.std.specs.Prelude.{◌≡◌, refl, Bool, false, cond, ◌&&◌, ◌||◌, [], ◌∷◌, ◌++◌, ℕ, ◌<◌, ◌/◌, ◌%◌, leb, eqb, Err, None, Ok, Option, Some}
use Rattle.std.proofs.Math.Path.{ap, subst, subst⁻¹, sym}
use Rattle.std.proofs.Common.{◌∙◌, inl, arith, lt→ltb, le-leb, eqb-true}
use Rattle.std.proofs.Math.Bool.{true, not}
use Rattle.std.proofs.Math.Logic.{inr}
use Rattle.std.proofs.Math.Dec.{T, ltb, ltb→lt}
use Rattle.std.proofs.lemmas.Bool.{lt-leb, not-true, not-false}
use Rattle.finite.specs.Truth.{and_left, and_right, and_both, refuted, of-true, true_of, false_of, true-not-false}
use Rattle.finite.specs.Members.{all}
use Rattle.rules.specs.declared.Piece.{Piece}
use Rattle.rules.specs.Pawn.{inner}
use Rattle.rules.specs.Rules.{Board, piece_of, pieces, apart, touching}
use Rattle.rules.specs.Changed.{changed}
use Rattle.rules.proofs.laws.PawnLaws.{inner-kept}
use Rattle.rules.specs.Changed.{keeping}
use Rattle.numbering.specs.declared.Material.{Material}
use Rattle.numbering.specs.Material.{known, material_in}
use Rattle.numbering.proofs.laws.ChangeLaws.{coloured}
use Rattle.pawn_numbers.specs.declared.PawnPlace.{PawnPlace}
use Rattle.pawn_numbers.specs.declared.PawnNormal.{PawnNormal}
use Rattle.pawn_numbers.specs.PawnNumber.{Flip, flipped, pawn_flip, pawn_key, pawn_board, used_pawn, separated, slot_square, HasPawn}
use Rattle.pawn_numbers.specs.Places.{pawn_in, seated, place_of, normal_of}
use Rattle.pawn_numbers.proofs.laws.BackLaws.{board-has}
use Rattle.pawn_numbers.proofs.laws.FlipLaws.{has-flipped, separated-flipped, flip-upright}
use Rattle.pawn_numbers.proofs.laws.PlaceLaws.{place-board, normal-seated, normal-number, has-pawn-in}
use Rattle.position.specs.declared.Position.{Position}
use Rattle.position.specs.Keyed.{slot_men, board_of, keyed, man_in, man_kind, colour_of, man_square}
use Rattle.position.specs.Refusals.{ranked, bad_men_of, bad_pawn, placing_with}
use Rattle.position.specs.Posed.{posed, board_in}
use Rattle.position.proofs.laws.PlacedLaws.{passes}
use Rattle.position.proofs.laws.BothSizes.{placed-men-with}
use Rattle.position.proofs.laws.StandingWith.{PawnOrPieces, pawn-or-pieces}
use Rattle.index.specs.declared.NormalPlace.{NormalPlace}
use Rattle.index.specs.Answers.{found_at}
use Rattle.index.specs.Endings.{number_in, normal_in, map_in}
use Rattle.index.specs.Arranging.{pawn_men, pawn_place, pawn_normal_as, PawnSeated, Normalises}
use Rattle.index.proofs.laws.SeatLaws.{board-one}
use Rattle.index.proofs.laws.CompleteLaws.{PlacedOf, placed-facts-with, facts-placed-with}

-- ---- which man is keyed

-- the board with a pawn as keyed
abbrev pub pawn_keyed : Position → Board
pawn_keyed p = pawn_in (colour_of p) p.side p.white_king p.black_king (man_square p)

-- a first man of kind 4 is alone
pub keyed-pawn : (p : Position) → placing_with p ≡ 0 → man_kind p ≡ 4 → board_of p ≡ pawn_keyed p
unfolding board_of
keyed-pawn p z e = go p.first p.second (placed-men-with p z) e
  where
    with : Option Piece → Option Piece → Position
    with f s = record { side = p.side; white_king = p.white_king; black_king = p.black_king; first = f; second = s }

    go : (f s : Option Piece) → bad_men_of f s ≡ false → (man_in f).kind ≡ 4 → board_of (with f s) ≡ pawn_keyed (with f s)
    go None s w e = absurd (refuted w tt)
    go (Some a) (Some c) w e = absurd (refuted (first-false (leb 4 a.kind) (leb 4 c.kind) w) (of-true {b = leb 4 a.kind} (le-leb 4 a.kind (omega arith))))
      where
        first-false : (x y : Bool) → (x || y) ≡ false → x ≡ false
        first-false true y e = absurd (refuted e tt)
        first-false false y e = refl
    go (Some a) None w e =
        ap (λ (k : ℕ). record {
          side = p.side;
          white = p.white_king;
          black = p.black_king;
          men = piece_of k a.colour a.square ∷ [];
        }) e

-- a first man of another kind is of an ending of pieces
abbrev is_pawn : Material → Bool
is_pawn (Material.One kind) = false
is_pawn (Material.Two first second rivals) = false
is_pawn Material.Pawn = true

first_kind : (f s : Option Piece) → bad_men_of f s ≡ false → material_in (slot_men f ++ slot_men s) ≡ Material.Pawn
    → (man_in f).kind ≡ 4
first_kind None s w e = refl
first_kind (Some a) None w e = eqb-true a.kind 4 (go (eqb a.kind 4) (ap is_pawn e))
  where
    go : (x : Bool) → is_pawn (cond x Material.Pawn (Material.One a.kind)) ≡ true → x ≡ true
    go true e = refl
    go false e = e
first_kind (Some a) (Some c) w e = absurd (true-not-false (ap is_pawn e) refl)

pub keyed-pieces : (p : Position) → placing_with p ≡ 0 → (man_kind p ≡ 4 → ⊥) → T (known (material_in (board_of p).men))
keyed-pieces p z n = go (pawn-or-pieces p (placed-men-with p z))
  where
    go : PawnOrPieces (board_of p).men → T (known (material_in (board_of p).men))
    go (inl e) = absurd (n (first_kind p.first p.second (placed-men-with p z) (unfold board_of in e)))
    go (inr t) = t.0

pub keyed-kind : (p : Position) → placing_with p ≡ 0 → material_in (board_of p).men ≡ Material.Pawn → man_kind p ≡ 4
unfolding board_of
keyed-kind p z e = first_kind p.first p.second (placed-men-with p z) e

-- ---- its normal place and its number

module _ (p : Position) (z : placing_with p ≡ 0) (e : man_kind p ≡ 4) where
  abbrev b : Board
  b = pawn_keyed p

  abbrev w : PlacedOf p
  w = placed-facts-with p z

  abbrev colour : ℕ
  colour = colour_of p

  abbrev square : ℕ
  square = man_square p

  -- what refusals 2, 3, 18, 4 and 5 leave
  record Facts : Type 0 where
    colours : colour < 2
    whites : p.white_king < 64
    blacks : p.black_king < 64
    inners : T (inner square)
    apart-men : T (apart (pieces b))
    kings : touching b ≡ false

  facts : Facts
  unfolding all bad_pawn
  facts =
      let q = keyed-pawn p z e in
      let cs = subst (λ (c : Board). T (all coloured c.men)) q w.colours in
      let on = subst (λ (c : Board). T (all (λ a. ltb a.square 64) (pieces c))) q w.squares in
      let rs = subst (λ (c : Board). T (all ranked c.men)) q (passes (all ranked (board_of p).men) w.pawns) in
      let white = ltb p.white_king 64 in
      let black = ltb p.black_king 64 in
      let man = ltb square 64 && true in
      record {
        colours = ltb→lt colour 2 (and_left (ltb colour 2) true cs);
        whites = ltb→lt p.white_king 64 (and_left white (black && man) on);
        blacks = ltb→lt p.black_king 64 (and_left black man (and_right white (black && man) on));
        inners = and_left (inner square) true rs;
        apart-men = subst (λ (c : Board). T (apart (pieces c))) q w.distinct;
        kings = subst (λ (c : Board). touching c ≡ false) q w.kings;
      }

  pub keyed-has : HasPawn b
  keyed-has =
      has-pawn-in colour p.side p.white_king p.black_king square facts.colours w.side
      facts.whites facts.blacks facts.inners

  pub keyed-material : material_in (board_of p).men ≡ Material.Pawn
  keyed-material = ap (λ (c : Board). material_in c.men) (keyed-pawn p z e)

  keyed-separated : T (separated b)
  unfolding separated
  keyed-separated =
      and_both (apart (pieces b)) (not (touching b)) facts.apart-men
      (subst⁻¹ (λ (x : Bool). T (not x)) facts.kings tt)

  abbrev f : Flip
  f = pawn_flip b

  -- the normal board
  abbrev q : PawnPlace
  q = (normal_of colour p.side p.white_king p.black_king square).place

  normal-is : seated q ≡ flipped f b
  normal-is =
      normal-seated colour p.side p.white_king p.black_king square facts.colours

  square-inner : T (inner q.pawn)
  unfolding normal_of flipped changed
  square-inner =
      subst⁻¹ T (inner-kept (keeping f.files f.colours) f.colours square (flip-upright f.files f.colours))
      facts.inners

  square-on : q.pawn < 64
  square-on =
      let l = ltb→lt q.pawn 56 (and_right (ltb 7 q.pawn) (ltb q.pawn 56) square-inner) in omega arith

  pub pawn-seated : PawnSeated pawn_men (pawn_place q)
  pawn-seated =
      let h = subst⁻¹ HasPawn normal-is (has-flipped f b keyed-has) in
      record {
        men = refl;
        second = refl;
        side = h.side;
        white = h.white;
        black = h.black;
        inner = square-inner;
        separated = subst⁻¹ (λ (c : Board). T (separated c)) normal-is
            (subst⁻¹ T (separated-flipped f b) keyed-separated);
      }

  place_is : board_in pawn_men (pawn_place q) ≡ flipped f b
  place_is = board-one pawn_men (pawn_place q) square-on refl ∙ normal-is

  pub pawn-normalises : Normalises p (pawn_normal_as p)
  unfolding pawn_normal_as normal_of
  pawn-normalises = record {
    board = subst⁻¹ (λ (c : Board). board_in pawn_men (pawn_place q) ≡ normal_in (material_in c.men) c)
        (keyed-pawn p z e) place_is;
    map = subst⁻¹ (λ (c : Board). keeping f.files f.colours ≡ map_in (material_in c.men) c)
        (keyed-pawn p z e) refl;
    whole = inr pawn-seated;
    material = sym keyed-material;
  }

  pub pawn-number : pawn_key (seated q) ≡ number_in (material_in (board_of p).men) (board_of p)
  pawn-number =
      normal-number colour p.side p.white_king p.black_king square
      ∙ sym (ap (λ (c : Board). number_in (material_in c.men) c) (keyed-pawn p z e))

pub placed-pawn : (p : Position) → placing_with p ≡ 0 → material_in (board_of p).men ≡ Material.Pawn
    → HasPawn (board_of p)
placed-pawn p z e =
    let k = keyed-kind p z e in subst⁻¹ HasPawn (keyed-pawn p z k) (keyed-has p z k)

-- ---- for the code, which has the first man in hand

module _ (p : Position) (a : Piece) (h : a ≡ man_in p.first) where
  pub pieces-told : (a.kind ≡ 4 → ⊥) → placing_with p ≡ 0 → T (known (material_in (board_of p).men))
  pieces-told n z = keyed-pieces p z (λ e. n (ap (λ (x : Piece). x.kind) h ∙ e))

  module _ (e : a.kind ≡ 4) (z : placing_with p ≡ 0) where
    is-pawn : man_kind p ≡ 4
    is-pawn = sym (ap (λ (x : Piece). x.kind) h) ∙ e

    pub pawn-place-told : (r : NormalPlace) → r ≡ pawn_normal_as p → Normalises p r
    pawn-place-told r g = subst⁻¹ (Normalises p) g (pawn-normalises p z is-pawn)

    pub pawn-number-told : (n : PawnNormal)
        → n ≡ normal_of a.colour p.side p.white_king p.black_king a.square
        → (r : ℕ) → r ≡ pawn_key (seated n.place) → r ≡ number_in (material_in (board_of p).men) (board_of p)
    pawn-number-told n g r i =
        i
        ∙ ap (λ (x : PawnNormal). pawn_key (seated x.place)) g
        ∙ ap (λ (x : Piece). pawn_key (seated (normal_of x.colour p.side p.white_king p.black_king
        x.square).place)) h
        ∙ pawn-number p z is-pawn

-- ---- numbering back

place-on : (n : ℕ) → (place_of n).pawn < 64
unfolding place_of
place-on n = omega arith

posed-at : (n : ℕ) → posed pawn_men (pawn_place (place_of n)) ≡ keyed (pawn_board n)
unfolding posed place_of pawn_board
posed-at n = rw (lt-leb 64 (place_of n).pawn (place-on n))

module _ (n : ℕ) (q : PawnPlace) (e : q ≡ place_of n) (u : Bool) (g : u ≡ separated (seated q)) where
  used-at : used_pawn n ≡ u
  unfolding used_pawn
  used-at = sym (g ∙ ap (λ (x : PawnPlace). separated (seated x)) e ∙ ap separated (place-board n))

  pub pawn-unused : not u ≡ true → Err 9 ≡ found_at Material.Pawn n
  pawn-unused z = sym (rw (used-at ∙ not-true u z))

  pub pawn-found : not u ≡ false → Ok (posed pawn_men (pawn_place q)) ≡ found_at Material.Pawn n
  pawn-found z =
      ap Ok (ap (λ (x : PawnPlace). posed pawn_men (pawn_place x)) e ∙ posed-at n)
      ∙ sym (rw (used-at ∙ not-false u z))

-- what stands at a used number is placed
pub keyed-at : (n : ℕ) → board_of (keyed (pawn_board n)) ≡ pawn_board n
unfolding board_of pawn_board
keyed-at n = refl

men-at : (n : ℕ) → bad_men_of (keyed (pawn_board n)).first (keyed (pawn_board n)).second ≡ false
unfolding pawn_board
men-at n = refl

pub used-placed : (n : ℕ) → T (used_pawn n) → placing_with (keyed (pawn_board n)) ≡ 0
unfolding all bad_pawn used_pawn separated
used-placed n u =
    let b = pawn_board n in
    let h = board-has n in
    facts-placed-with (keyed b) (record {
      men = men-at n;
      side = h.side;
      colours = subst⁻¹ (λ (c : Board). T (all coloured c.men)) (keyed-at n) (unfold pawn_board in tt);
      squares = subst⁻¹ (λ (c : Board). T (all (λ a. ltb a.square 64) (pieces c))) (keyed-at n)
          (and_both (ltb b.white 64) _ (lt→ltb b.white 64 h.white)
          (and_both (ltb b.black 64) _ (lt→ltb b.black 64 h.black) (on n)));
      pawns = ap not
          (true_of {b = all ranked (board_of (keyed b)).men}
          (subst⁻¹ (λ (c : Board). T (all ranked c.men)) (keyed-at n) (in-ranks n)));
      distinct = subst⁻¹ (λ (c : Board). T (apart (pieces c))) (keyed-at n) (and_left (apart (pieces b)) _ u);
      kings = subst⁻¹ (λ (c : Board). touching c ≡ false) (keyed-at n)
          (false_of (and_right (apart (pieces b)) (not (touching b)) u));
    })
  where
    on : (n : ℕ) → T (all (λ a. ltb a.square 64) (pawn_board n).men)
    on n = unfold all pawn_board in
        and_both (ltb (slot_square (n / 4096 % 24)) 64) true (lt→ltb (slot_square (n / 4096 % 24)) 64 (omega arith)) tt

    in-ranks : (n : ℕ) → T (all ranked (pawn_board n).men)
    in-ranks n = unfold all pawn_board in
        let s = slot_square (n / 4096 % 24) in
        and_both (inner s) true
        (and_both (ltb 7 s) (ltb s 56) (lt→ltb 7 s (omega arith)) (lt→ltb s 56 (omega arith))) tt
