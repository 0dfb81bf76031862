-- A capture is taken back on every board that goes alike: if one leads from the board at a number of two men to a man left alone, then a place of that
-- number leads to what the place at his number in his own ending leaves of the two.
use Rattle.std.specs.Prelude.{◌≡◌, Bool, true, cond, not, ◌⊎◌, leb, eqb, None, Some}
use Rattle.std.proofs.Math.Path.{refl, sym, ap, subst⁻¹}
use Rattle.std.proofs.Common.{ap₂, subst, ◌∙◌}
use Rattle.std.proofs.Math.Bool.{false}
use Rattle.std.proofs.Math.Logic.{inl, inr}
use mathlib.Core.List.{List, [], ◌∷◌, map, ◌++◌}
use Prim.Native.Nat.{ℕ, zero, suc, ◌-◌, ◌/◌, ◌%◌, ◌<◌, ◌≤◌}
use native.Mathlib.Omega.{arith}
use Rattle.std.proofs.Math.Dec.{T}
use borrow.Author.Tests.{lt-leb, le-leb, lt-ltb, leb-false}
use Rattle.finite.specs.Truth.{le-or-lt, refuted}
use Rattle.finite.specs.Members.{◌∈◌, map-out}
use Rattle.theory.specs.Game.{next}
use Rattle.symmetry.specs.Symmetry.{Symmetry, mapped}
use Rattle.symmetry.proofs.laws.SymmetryLaws.{mapped-off, mapped-on, eqb-mapped}
use Rattle.rules.specs.declared.Piece.{Piece}
use Rattle.rules.specs.Rules.{Board, piece_of, empty, legal, carried, moved, moves, can_move}
use Rattle.rules.specs.Changed.{other, swapped, changed, changed_piece}
use Rattle.rules.specs.Reordered.{crossed}
use Rattle.rules.specs.Chess.{chess, played}
use Rattle.rules.proofs.laws.ChessLaws.{of-moves, plain-played}
use Rattle.rules.proofs.laws.Legal.{legal-facts}
use Rattle.rules.proofs.laws.CanMove.{can-on}
use Rattle.rules.proofs.laws.ChangedRules.{legal-changed, legal-fits, can_move-changed}
use Rattle.numbering.specs.declared.Material.{Material}
use Rattle.numbering.specs.Change.{Change}
use Rattle.numbering.specs.Keys.{board_at}
use Rattle.numbering.specs.Men.{material_of}
use Rattle.numbering.specs.Number.{number_of}
use Rattle.numbering.specs.Material.{known, men_of, size_of}
use Rattle.position.specs.declared.Men.{Men}
use Rattle.position.specs.declared.Place.{Place}
use Rattle.position.specs.Keyed.{board_of, slot_men}
use Rattle.position.specs.Posed.{posed, board_in, material_for, Complete}
use Rattle.position.proofs.laws.PlacedLaws.{kings-separate}
use Rattle.index.specs.Seats.{Seated, StandsAt, seat_of, alone}
use Rattle.index.proofs.laws.NormalKey.{one_board}
use Rattle.index.proofs.laws.SeatLaws.{board-one, known_two}
use Rattle.index.proofs.laws.PlaceLaws.{stands-two, material-by}
use Rattle.index.proofs.laws.EndingsLaws.{legal-of}
use Rattle.index.proofs.laws.CompleteLaws.{complete-seated, seated-complete}
use Rattle.movegen.specs.Places.{square_after, place_after}
use Rattle.movegen.proofs.laws.Places.{place-moved}
use Rattle.four_men.specs.Same.{Same, changed_as}
use Rattle.four_men.specs.Reading.{Within, full, legal_number_of}
use Rattle.four_men.proofs.laws.Captures.{within-few, within-closed}
use Rattle.four_men.proofs.laws.Numbered.{live_at, same_number, same_at}
use Rattle.retracting.specs.Retracting.{Leads, lone_of, left_place}
use Rattle.retracting.proofs.laws.Causes.{place-eq}

-- ---- a place under a map of the board

abbrev mapped_place : Symmetry → Place → Place
mapped_place m q = record {
  side = q.side;
  white = mapped m q.white;
  black = mapped m q.black;
  first = mapped m q.first;
  second = mapped m q.second;
}

off-mapped : (m : Symmetry) (s : ℕ) → leb 64 (mapped m s) ≡ leb 64 s
off-mapped m s = go (le-or-lt 64 s)
  where
    go : (64 ≤ s) ⊎ (s < 64) → leb 64 (mapped m s) ≡ leb 64 s
    go (inl h) = ap (leb 64) (mapped-off m s h)
    go (inr h) = lt-leb 64 (mapped m s) (mapped-on m s h) ∙ sym (lt-leb 64 s h)

men-mapped : (m : Symmetry) (k c k' c' x y : ℕ) (a b : Bool)
    → (slot_men (cond a None (Some (piece_of k c (mapped m x)))) ++ slot_men (cond b None (Some (piece_of k' c' (mapped m y)))))
    ≡ map (changed_piece m false)
    (slot_men (cond a None (Some (piece_of k c x))) ++ slot_men (cond b None (Some (piece_of k' c' y))))
unfolding swapped
men-mapped m k c k' c' x y true true = refl
men-mapped m k c k' c' x y true false = refl
men-mapped m k c k' c' x y false true = refl
men-mapped m k c k' c' x y false false = refl

map-board : (s : Symmetry) (m : Men) (q : Place) → board_in m (mapped_place s q) ≡ changed s false (board_in m q)
unfolding board_of posed changed swapped
map-board s m q =
    ap (λ (l : List Piece). record { side = q.side; white = mapped s q.white; black = mapped s q.black; men = l })
    (ap₂ (λ (a b : Bool).
    slot_men (cond a None (Some (piece_of m.first 0 (mapped s q.first))))
    ++ slot_men (cond b None (Some (piece_of m.second m.colour (mapped s q.second)))))
    (off-mapped s q.first) (off-mapped s q.second)
    ∙ men-mapped s m.first 0 m.second m.colour q.first q.second (leb 64 q.first) (leb 64 q.second))

carried-mapped : (m : Symmetry) (f t s : ℕ) → carried (mapped m f) (mapped m t) (mapped m s) ≡ mapped m (carried f t s)
carried-mapped m f t s = rw (eqb-mapped m s f) (go (eqb s f))
  where
    go : (x : Bool) → cond x (mapped m t) (mapped m s) ≡ mapped m (cond x t s)
    go true = refl
    go false = refl

square-mapped : (m : Symmetry) (f t s : ℕ) → square_after (mapped m f) (mapped m t) (mapped m s) ≡ mapped m (square_after f t s)
square-mapped m f t s = rw (eqb-mapped m s t, carried-mapped m f t s) (go (eqb s t))
  where
    go : (x : Bool) → cond x 64 (mapped m (carried f t s)) ≡ mapped m (cond x 64 (carried f t s))
    go true = sym (mapped-off m 64 (omega arith))
    go false = refl

place-mapped : (m : Symmetry) (p : Place) (f t : ℕ)
    → place_after (mapped_place m p) (mapped m f) (mapped m t) ≡ mapped_place m (place_after p f t)
unfolding place_after
place-mapped m p f t =
    place-eq refl (carried-mapped m f t p.white) (carried-mapped m f t p.black) (square-mapped m f t p.first)
    (square-mapped m f t p.second)

-- ---- a man left alone, and the one at his number

colours-are : (x : Bool) (col : ℕ) → col < 2 → 0 ≡ swapped x col → x ≡ eqb col 1
unfolding swapped other
colours-are true zero h e = absurd (omega arith)
colours-are true (suc zero) h e = refl
colours-are false zero h e = refl
colours-are false (suc zero) h e = absurd (omega arith)
colours-are x (suc (suc n)) h e = absurd (omega arith)

top : Piece → List Piece → Piece
top d [] = d
top d (a ∷ l) = a

-- what the change tells of them
record Turned (s : Change) (col x : ℕ) (c : Board) (t : Place) : Type 0 where
  colours : s.colours ≡ eqb col 1
  side : t.side ≡ swapped s.colours c.side
  white : t.white ≡ mapped s.symmetry (cond s.colours c.black c.white)
  black : t.black ≡ mapped s.symmetry (cond s.colours c.white c.black)
  square : t.first ≡ mapped s.symmetry x

turned-of : (s : Change) (kind col x : ℕ) (c : Board) (t : Place) → col < 2 → c.men ≡ piece_of kind col x ∷ []
    → one_board kind t.side t.white t.black t.first ≡ changed_as s c → Turned s col x c t
unfolding changed top crossed
turned-of s kind col x c t h e f =
    let g : piece_of kind 0 t.first ∷ [] ≡ map (changed_piece s.symmetry s.colours) (crossed s.order (piece_of kind col x ∷ [])) =
    ap (λ (b : Board). b.men) f ∙ ap (λ (l : List Piece). map (changed_piece s.symmetry s.colours) (crossed s.order l)) e in
    let k = go s.order g in
    record {
      colours = colours-are s.colours col h (ap (λ (a : Piece). a.colour) k);
      side = ap (λ (b : Board). b.side) f;
      white = ap (λ (b : Board). b.white) f;
      black = ap (λ (b : Board). b.black) f;
      square = ap (λ (a : Piece). a.square) k;
    }
  where
    go : (o : Bool)
        → piece_of kind 0 t.first ∷ [] ≡ map (changed_piece s.symmetry s.colours) (crossed o (piece_of kind col x ∷ []))
        → piece_of kind 0 t.first ≡ changed_piece s.symmetry s.colours (piece_of kind col x)
    go true g = ap (top (piece_of kind 0 0)) g
    go false g = ap (top (piece_of kind 0 0)) g

-- ---- the capture

after-cases : (f t s : ℕ) → t < 64 → s < 64 → (square_after f t s ≡ 64) ⊎ (square_after f t s < 64)
after-cases f t s h k = go (eqb s t) (eqb s f)
  where
    go : (x y : Bool) → (cond x 64 (cond y t s) ≡ 64) ⊎ (cond x 64 (cond y t s) < 64)
    go true y = inl refl
    go false true = inr h
    go false false = inr k

-- a capture on a board at this number, and its reverse into the place at the number of the man left alone
pub record Captured (m : Men) (n : ℕ) (c : Board) : Type 0 where
  pub taken : ℕ
  pub which : (taken ≡ 1) ⊎ (taken ≡ 2)
  pub colour : ℕ
  pub square : ℕ
  pub alone : c.men ≡ piece_of (lone_of m taken).first colour square ∷ []
  pub back : (t : Place) → Complete (lone_of m taken) t
      → board_in (lone_of m taken) t ≡ board_at (men_of (Material.One (lone_of m taken).first)) (number_of c)
      → (p : Place) × (from : ℕ) × (to : ℕ) × Leads m p from to (left_place m taken t) × (number_of (board_in m p) ≡ n)

module _ (m : Men) (w : T (known (material_for m))) (cl : m.colour < 2) (two : m.second < 4) (n : ℕ)
    (h : n < size_of (material_for m)) (live : T (legal_number_of (material_for m) n)) (c : Board)
    (i : c ∈ next chess (board_at (men_of (material_for m)) n)) where
  abbrev M : Material
  M = material_for m

  abbrev b : Board
  b = board_at (men_of M) n

  there : Within M b × T (full M b.men) × (number_of b ≡ n)
  there = live_at M w n h live

  legal-b : T (legal b)
  legal-b = legal-of M w b there.0.legality

  p0 : Place
  p0 = seat_of (n / 64 / 64) (n / 64 % 64) (n % 64)

  st : StandsAt m n p0
  unfolding p0
  st = stands-two m w cl n h two

  f0 : ℕ
  f0 = (map-out (played b) c (moves b) i).0.from

  t0 : ℕ
  t0 = (map-out (played b) c (moves b) i).0.to

  can0 : T (can_move (board_in m p0) f0 t0)
  unfolding f0 t0
  can0 =
      let v = map-out (played b) c (moves b) i in
      subst⁻¹ (λ (x : Board). T (can_move x v.0.from v.0.to)) st.board (of-moves b v.0 v.1).1.can

  on : (f0 < 64) × (t0 < 64)
  on = can-on (board_in m p0) f0 t0 can0

  q0 : Place
  q0 = place_after p0 f0 t0

  after0 : c ≡ board_in m q0
  unfolding f0 t0 q0
  after0 =
      let v = map-out (played b) c (moves b) i in
      v.2 ∙ plain-played b v.0 legal-b v.1 ∙ ap (λ (x : Board). moved x f0 t0) (sym st.board)
      ∙ sym (place-moved f0 t0 on.0 on.1 m p0)

  legal0 : T (legal (board_in m p0))
  legal0 = subst⁻¹ (λ (x : Board). T (legal x)) st.board legal-b

  legal-c : T (legal c)
  legal-c = legal-of M w c (within-closed M w b c there.0 i).legality

  -- under any map the move leads from a place of this number
  module _ (s : Symmetry) where
    abbrev p : Place
    p = mapped_place s p0

    board-p : board_in m p ≡ changed s false (board_in m p0)
    board-p = map-board s m p0

    legal-p : T (legal (board_in m p))
    legal-p = subst⁻¹ (λ (x : Board). T (legal x)) board-p (subst⁻¹ T (legal-changed s false (board_in m p0)) legal0)

    seated-p : Seated m p
    seated-p = record {
      ending = w;
      colour = cl;
      white = mapped-on s p0.white st.seated.white;
      black = mapped-on s p0.black st.seated.black;
      first = mapped-on s p0.first st.seated.first;
      second = off-mapped s p0.second ∙ st.seated.second;
    }

    complete-p : Complete m p
    unfolding board_of posed
    complete-p =
        let l = legal-facts (board_in m p) legal-p in
        seated-complete m p seated-p l.side (kings-separate (board_in m p) l.squares l.apart l.kings) l.apart

    leads-p : Leads m p (mapped s f0) (mapped s t0) (mapped_place s q0)
    unfolding q0
    leads-p = record {
      complete = complete-p;
      legality = legal-p;
      can = subst⁻¹ (λ (x : Board). T (can_move x (mapped s f0) (mapped s t0))) board-p
          (subst⁻¹ T (can_move-changed s false (board_in m p0) f0 t0 (legal-fits s false (board_in m p0) legal0)
          (legal-facts (board_in m p0) legal0).side) can0);
      arrives = place-mapped s p0 f0 t0;
    }

    number-p : number_of (board_in m p) ≡ n
    unfolding crossed
    number-p =
        ap number_of (board-p ∙ ap (changed s false) st.board)
        ∙ sym (same_number M w b (changed s false b)
        (record { symmetry = s; order = false; colours = false }, within-few M w b there.0, (λ g. absurd g), refl) there.1)
        ∙ there.2

    reached : (q : Place) → mapped_place s q0 ≡ q
        → (p : Place) × (from : ℕ) × (to : ℕ) × Leads m p from to q × (number_of (board_in m p) ≡ n)
    reached q e = (
      p,
      mapped s f0,
      mapped s t0,
      subst (λ (x : Place). Leads m p (mapped s f0) (mapped s t0) x) e leads-p,
      number-p,
    )

  -- the man left alone goes like the one at his number
  same-lone : (kind col x : ℕ) → kind < 4 → c.men ≡ piece_of kind col x ∷ [] → Same c (board_at (men_of (Material.One kind)) (number_of c))
  unfolding material_of
  same-lone kind col x l e =
      same_at (Material.One kind) (subst⁻¹ T (lt-ltb kind 4 l) tt) c
      (record { legality = legal-c; men = inl (ap material_of e) }) (subst⁻¹ (λ (y : List Piece). T (not (empty y))) e tt)

  kinds : (m.first < 4) × (m.second < 4)
  kinds = let z = known_two m w (lt-leb 4 m.second two) in (omega (arith, z.0, two), two)

  lone-board : (k : Men) (t : Place) → k.second ≡ 4 → Complete k t
      → board_in k t ≡ one_board k.first t.side t.white t.black t.first
  lone-board k t e d =
      let s = complete-seated k t d in board-one k t s.first (s.second ∙ ap (leb 4) e)

  c-side : c.side ≡ q0.side
  unfolding board_of posed
  c-side = ap (λ (x : Board). x.side) after0

  c-white : c.white ≡ q0.white
  unfolding board_of posed
  c-white = ap (λ (x : Board). x.white) after0

  c-black : c.black ≡ q0.black
  unfolding board_of posed
  c-black = ap (λ (x : Board). x.black) after0

  side0 : q0.side < 2
  unfolding q0 place_after
  side0 = omega arith

  -- the second was taken
  took-second : q0.first < 64 → q0.second ≡ 64 → Captured m n c
  unfolding left_place swapped
  took-second a e = record {
    taken = 2;
    which = inr refl;
    colour = 0;
    square = q0.first;
    alone = men;
    back = λ t d z. go t d z (same-lone m.first 0 q0.first kinds.0 men);
  }
    where
      men : c.men ≡ piece_of m.first 0 q0.first ∷ []
      men = ap (λ (x : Board). x.men) (after0 ∙ board-one m q0 a (le-leb 64 q0.second (omega (arith, e))))

      go : (t : Place) → Complete (lone_of m 2) t → board_in (lone_of m 2) t ≡ board_at (men_of (Material.One m.first)) (number_of c)
          → Same c (board_at (men_of (Material.One m.first)) (number_of c))
          → (p : Place) × (from : ℕ) × (to : ℕ) × Leads m p from to (left_place m 2 t) × (number_of (board_in m p) ≡ n)
      go t d z x =
          let u = turned-of x.0 m.first 0 q0.first c t (omega arith) men
          (sym (lone-board (lone_of m 2) t refl d) ∙ z ∙ x.3) in
          reached x.0.symmetry (left_place m 2 t)
          (place-eq
          (sym (u.side ∙ ap (λ (y : Bool). swapped y c.side) u.colours ∙ c-side))
          (sym (u.white ∙ ap (λ (y : Bool). mapped x.0.symmetry (cond y c.black c.white)) u.colours ∙ ap (mapped x.0.symmetry) c-white))
          (sym (u.black ∙ ap (λ (y : Bool). mapped x.0.symmetry (cond y c.white c.black)) u.colours ∙ ap (mapped x.0.symmetry) c-black))
          (sym u.square)
          (ap (mapped x.0.symmetry) e ∙ mapped-off x.0.symmetry 64 (omega arith)))

  lone-men : (q : Place) → q.first ≡ 64 → q.second < 64
      → (board_in m q).men ≡ piece_of m.second m.colour q.second ∷ []
  unfolding board_of posed
  lone-men q a l = rw (le-leb 64 q.first (omega (arith, a)), lt-leb 64 q.second l)

  other-back : (s : ℕ) → s < 2 → 1 - other s ≡ s
  unfolding other
  other-back zero l = refl
  other-back (suc zero) l = refl
  other-back (suc (suc k)) l = absurd (omega arith)

  -- the first was taken
  took-first : q0.first ≡ 64 → q0.second < 64 → Captured m n c
  unfolding left_place swapped
  took-first a e = record {
    taken = 1;
    which = inl refl;
    colour = m.colour;
    square = q0.second;
    alone = men;
    back = λ t d z. go t d z (same-lone m.second m.colour q0.second kinds.1 men);
  }
    where
      men : c.men ≡ piece_of m.second m.colour q0.second ∷ []
      men = ap (λ (x : Board). x.men) after0 ∙ lone-men q0 a e

      by : (t : Place) (s : Change) → Turned s m.colour q0.second c t → (x : Bool) → s.colours ≡ x
          → mapped_place s.symmetry q0
          ≡ cond x (record { side = 1 - t.side; white = t.black; black = t.white; first = 64; second = t.first })
          (record { side = t.side; white = t.white; black = t.black; first = 64; second = t.first })
      by t s u true z =
          place-eq
          (sym (ap (λ (y : ℕ). 1 - y) (u.side ∙ ap (λ (y : Bool). swapped y c.side) z) ∙ other-back c.side (subst⁻¹ (λ (y : ℕ). y < 2) c-side side0) ∙ c-side))
          (sym (u.black ∙ ap (λ (y : Bool). mapped s.symmetry (cond y c.white c.black)) z ∙ ap (mapped s.symmetry) c-white))
          (sym (u.white ∙ ap (λ (y : Bool). mapped s.symmetry (cond y c.black c.white)) z ∙ ap (mapped s.symmetry) c-black))
          (ap (mapped s.symmetry) a ∙ mapped-off s.symmetry 64 (omega arith)) (sym u.square)
      by t s u false z =
          place-eq
          (sym (u.side ∙ ap (λ (y : Bool). swapped y c.side) z ∙ c-side))
          (sym (u.white ∙ ap (λ (y : Bool). mapped s.symmetry (cond y c.black c.white)) z ∙ ap (mapped s.symmetry) c-white))
          (sym (u.black ∙ ap (λ (y : Bool). mapped s.symmetry (cond y c.white c.black)) z ∙ ap (mapped s.symmetry) c-black))
          (ap (mapped s.symmetry) a ∙ mapped-off s.symmetry 64 (omega arith)) (sym u.square)

      go : (t : Place) → Complete (lone_of m 1) t → board_in (lone_of m 1) t ≡ board_at (men_of (Material.One m.second)) (number_of c)
          → Same c (board_at (men_of (Material.One m.second)) (number_of c))
          → (p : Place) × (from : ℕ) × (to : ℕ) × Leads m p from to (left_place m 1 t) × (number_of (board_in m p) ≡ n)
      go t d z x =
          let u = turned-of x.0 m.second m.colour q0.second c t cl men
          (sym (lone-board (lone_of m 1) t refl d) ∙ z ∙ x.3) in
          reached x.0.symmetry (left_place m 1 t) (by t x.0 u (eqb m.colour 1) u.colours)

  first0 : (q0.first ≡ 64) ⊎ (q0.first < 64)
  unfolding q0 place_after
  first0 = after-cases f0 t0 p0.first on.1 st.seated.first

  second0 : (q0.second ≡ 64) ⊎ (q0.second < 64)
  unfolding q0 place_after
  second0 =
      after-cases f0 t0 p0.second on.1
      (leb-false 64 p0.second (st.seated.second ∙ lt-leb 4 m.second two))

  none_left : (q : Place) → q.first ≡ 64 → q.second ≡ 64 → (board_in m q).men ≡ []
  unfolding board_of posed
  none_left q a e = rw (le-leb 64 q.first (omega (arith, a)), le-leb 64 q.second (omega (arith, e)))

  both_left : (q : Place) → q.first < 64 → q.second < 64
      → (board_in m q).men ≡ piece_of m.first 0 q.first ∷ piece_of m.second m.colour q.second ∷ []
  unfolding board_of posed
  both_left q a e = rw (lt-leb 64 q.first a, lt-leb 64 q.second e)

  pub captured : full M c.men ≡ false → (c.men ≡ [] → ⊥) → Captured m n c
  captured nf mn = go first0 second0
    where
      go : (q0.first ≡ 64) ⊎ (q0.first < 64) → (q0.second ≡ 64) ⊎ (q0.second < 64) → Captured m n c
      go (inl a) (inl e) = absurd (mn (ap (λ (x : Board). x.men) after0 ∙ none_left q0 a e))
      go (inl a) (inr e) = took-first a e
      go (inr a) (inl e) = took-second a e
      go (inr a) (inr e) =
          absurd (refuted nf
          (subst⁻¹ (λ (l : List Piece). T (full M l)) (ap (λ (x : Board). x.men) after0 ∙ both_left q0 a e)
          (subst⁻¹ (λ (x : Material). T (full x (piece_of m.first 0 q0.first ∷ piece_of m.second m.colour q0.second ∷ [])))
          (material-by m false (lt-leb 4 m.second two)) tt)))
