-- The byte of what is left of an ending's men: in its own table, or in a lent one.
use Rattle.std.proofs.Math.Path.{◌≡◌, sym, ap, subst, subst⁻¹}
use Rattle.std.specs.Prelude.{refl, Bool, true, false, not, ◌&&◌, ◌||◌, ◌⊎◌, ℕ, ◌-◌, ◌≤◌, ◌<◌, T, leb, eqb, ltb, length}
use Rattle.std.proofs.Common.{◌∙◌, arith, leb→le, ltb→lt, le-leb, lt-ltb, ltb-true, eq-eqb, ne_eqb}
use Rattle.std.proofs.Math.Logic.{inl, inr, ⊎_elim}
use mathlib.Core.List.{List, [], ◌∷◌}
use Rattle.std.proofs.Math.ListN.{get_or, get_or-eq_default}
use Rattle.std.proofs.lemmas.Bool.{lt-leb}
use Rattle.finite.specs.Truth.{le-or-lt, or_cases, and_left, and_right, of-true, refuted, true-not-false, cond-true, cond-false}
use Rattle.table_theory.specs.Tables.{reads}
use Rattle.rules.specs.declared.Piece.{Piece}
use Rattle.rules.specs.Rules.{Board, piece_of, moved, can_move}
use Rattle.rules.proofs.laws.CanMove.{can-on}
use Rattle.rules.specs.Chess.{chess}
use Rattle.numbering.specs.Number.{number_of}
use Rattle.numbering.specs.declared.Material.{Material}
use Rattle.numbering.specs.Material.{known, men_of}
use Rattle.index.specs.Endings.{number_in}
use Rattle.index.proofs.laws.EndingsLaws.{pieces-number}
use Rattle.index.proofs.laws.PlaceLaws.{piece-by}
use Rattle.position.specs.declared.Men.{Men}
use Rattle.position.specs.declared.Place.{Place}
use Rattle.position.specs.Keyed.{board_of, one_man}
use Rattle.position.specs.Posed.{board_in, material_for, Complete}
use Rattle.endings.specs.Ending.{byte_of}
use Rattle.four_men.specs.Lending.{Lent}
use Rattle.four_men.specs.Reading.{full, lent_for, lent_byte, numbered}
use Rattle.four_men.proofs.laws.Materials.{two-of}
use Rattle.index.specs.Seats.{Seated, alike}
use Rattle.successors.specs.declared.Frame.{Frame}
use Rattle.successors.specs.Framing.{frame_for, number_on}
use Rattle.successors.proofs.laws.FramingLaws.{number-framed}
use Rattle.movegen.specs.Places.{square_after, place_after}
use Rattle.movegen.proofs.laws.Places.{place-moved}
use Rattle.successors.specs.Successors.{bytes_in, Remains, framed_after}
use Rattle.successors.proofs.laws.PlaceLaws.{both-there, none-there, first-there, second-there, Whole, whole, remains, remains-after}

-- ---- numbers

-- all the men of an ending are there
abbrev pub AllThere : Men → Place → Type 0
AllThere m q = (q.first < 64) × ((4 ≤ m.second) ⊎ (q.second < 64))

module _ (m : Men) (q : Place) (w : Remains m q) where
  one-men : q.first < 64 → 4 ≤ m.second → (board_in m q).men ≡ piece_of m.first 0 q.first ∷ []
  one-men h k = ap (λ (b : Board). b.men) (first-there m q h (w.alone k)) ∙ (unfold board_of in refl)

  is_one : 4 ≤ m.second → material_for m ≡ Material.One m.first
  is_one k = piece-by m w.ending (le-leb 4 m.second k)

  is-two : m.second < 4 → material_for m ≡ Material.Two m.first m.second (eqb m.colour 1)
  is-two k = rw (lt-leb 4 m.second k)

  -- where the second man stands there are two
  pub two-there : q.second < 64 → m.second < 4
  two-there h = go (le-or-lt 4 m.second)
    where
      go : (4 ≤ m.second) ⊎ (m.second < 4) → m.second < 4
      go (inl k) = absurd (omega (arith, w.alone k))
      go (inr k) = k

  pub own-seated : AllThere m q → Seated m q
  own-seated a = record {
    ending = w.ending;
    colour = w.colour;
    white = w.white;
    black = w.black;
    first = a.0;
    second = go (le-or-lt 4 m.second) a.1;
  }
    where
      go : (4 ≤ m.second) ⊎ (m.second < 4) → (4 ≤ m.second) ⊎ (q.second < 64)
          → leb 64 q.second ≡ leb 4 m.second
      go (inl k) x = le-leb 64 q.second (w.alone k) ∙ sym (le-leb 4 m.second k)
      go (inr k) (inl j) = absurd (omega arith)
      go (inr k) (inr h) = lt-leb 64 q.second h ∙ sym (lt-leb 4 m.second k)

-- ---- bytes

module _ (mat : Material) (l : Lent) (t : List ℕ) (b : Board) where
  bytes-own : T (known mat) → T (full mat b.men) → reads chess (numbered mat l) t b ≡ get_or t (number_of b) 0
  unfolding reads numbered
  bytes-own k h =
      cond-true (full mat b.men) (get_or t (number_in mat b) 0) (lent_byte mat l b) h
      ∙ ap (λ (f : Board → ℕ). get_or t (f b) 0) (pieces-number mat k)

  bytes-lent : full mat b.men ≡ false → reads chess (numbered mat l) t b ≡ lent_byte mat l b
  unfolding reads numbered
  bytes-lent e = cond-false (full mat b.men) (get_or t (number_in mat b) 0) (lent_byte mat l b) (refuted e)

module _ (j k : ℕ) (r : Bool) (l : Lent) (b : Board) where
  lone-byte : (a : Piece) → b.men ≡ a ∷ []
      → lent_byte (Material.Two j k r) l b ≡ get_or (lent_for j l a.kind) (number_of b) 0
  unfolding byte_of
  lone-byte a e = rw e

  bare-byte : b.men ≡ [] → lent_byte (Material.Two j k r) l b ≡ 1
  unfolding byte_of
  bare-byte e = rw e

module _ (m : Men) (q : Place) (w : Remains m q) (first second table : List ℕ) where
  pub byte-own : AllThere m q → (n c : ℕ) → n ≡ number_of (board_in m q) → c ≡ get_or table n 0
      → c ≡ bytes_in m first second table (board_in m q)
  byte-own a n c e h =
      h ∙ ap (λ (k : ℕ). get_or table k 0) e
      ∙ sym (bytes-own (material_for m) (record { first = first; second = second }) table (board_in m q) w.ending
      (there (le-or-lt 4 m.second) a.1))
    where
      there : (4 ≤ m.second) ⊎ (m.second < 4) → (4 ≤ m.second) ⊎ (q.second < 64)
          → T (full (material_for m) (board_in m q).men)
      there (inl k) x = rw (is_one m q w k, one-men m q w a.0 k) tt
      there (inr k) (inl j) = absurd (omega arith)
      there (inr k) (inr h) = rw (is-two m q w k, both-there m q a.0 h) tt

  -- one of two men, alone
  lent-to : (kind colour square : ℕ) (tab : List ℕ) → m.second < 4
      → board_in m q ≡ board_of (one_man kind colour q.side q.white square q.black)
      → lent_for m.first (record { first = first; second = second }) kind ≡ tab
      → (n c : ℕ) → n ≡ number_of (board_of (one_man kind colour q.side q.white square q.black))
      → c ≡ get_or tab n 0
      → c ≡ bytes_in m first second table (board_in m q)
  lent-to kind colour square tab k e f n c g h =
      let men : (board_in m q).men ≡ piece_of kind colour square ∷ [] =
      ap (λ (b : Board). b.men) e ∙ (unfold board_of in refl) in
      h ∙ ap (λ (i : ℕ). get_or tab i 0) (g ∙ sym (ap number_of e))
      ∙ sym (bytes-lent (material_for m) (record { first = first; second = second }) table (board_in m q)
      (rw (is-two m q w k, men))
      ∙ rw (is-two m q w k)
      (lone-byte m.first m.second (eqb m.colour 1) (record { first = first; second = second }) (board_in m q)
      (piece_of kind colour square) men ∙ ap (λ (t : List ℕ). get_or t (number_of (board_in m q)) 0) f))

  pub byte-first : q.first < 64 → 64 ≤ q.second → m.second < 4 → (n c : ℕ)
      → n ≡ number_of (board_of (one_man m.first 0 q.side q.white q.first q.black)) → c ≡ get_or first n 0
      → c ≡ bytes_in m first second table (board_in m q)
  byte-first h k j =
      lent-to m.first 0 q.first first j (first-there m q h k) (rw (eq-eqb m.first m.first refl))

  pub byte-like : 64 ≤ q.first → q.second < 64 → m.second ≡ m.first → (n c : ℕ)
      → n ≡ number_of (board_of (one_man m.second m.colour q.side q.white q.second q.black))
      → c ≡ get_or first n 0
      → c ≡ bytes_in m first second table (board_in m q)
  byte-like h k e =
      lent-to m.second m.colour q.second first (two-there m q w k) (second-there m q h k)
      (rw (eq-eqb m.second m.first e))

  pub byte-second : 64 ≤ q.first → q.second < 64 → (m.second ≡ m.first → ⊥) → (n c : ℕ)
      → n ≡ number_of (board_of (one_man m.second m.colour q.side q.white q.second q.black))
      → c ≡ get_or second n 0
      → c ≡ bytes_in m first second table (board_in m q)
  byte-second h k e =
      lent-to m.second m.colour q.second second (two-there m q w k) (second-there m q h k)
      (rw (ne_eqb m.second m.first e))

  pub byte-bare : 64 ≤ q.first → 64 ≤ q.second → 1 ≡ bytes_in m first second table (board_in m q)
  byte-bare h k = go (le-or-lt 4 m.second)
    where
      go : (4 ≤ m.second) ⊎ (m.second < 4) → 1 ≡ bytes_in m first second table (board_in m q)
      go (inl j) =
          sym (bytes-lent (material_for m) (record { first = first; second = second }) table (board_in m q)
          (rw (is_one m q w j, none-there m q h k)) ∙ rw (is_one m q w j))
      go (inr j) =
          sym (bytes-lent (material_for m) (record { first = first; second = second }) table (board_in m q)
          (rw (is-two m q w j, none-there m q h k)) ∙ rw (is-two m q w j)
          (bare-byte m.first m.second (eqb m.colour 1) (record { first = first; second = second })
          (board_in m q)
          (none-there m q h k)))

-- the byte read at a number, and beyond the table's end
pub read-beyond : (t : List ℕ) (n : ℕ) → length t ≤ n → 0 ≡ get_or t n 0
read-beyond t n h = sym (get_or-eq_default t 0 h)

-- ---- as code asks

-- all the men of a complete place are there
pub all_there : (m : Men) (q : Place) → Complete m q → AllThere m q
all_there m q c = (w.first, go (le-or-lt 4 m.second) (le-or-lt 64 q.second))
  where
    w : Whole m q
    w = whole m q c

    go : (4 ≤ m.second) ⊎ (m.second < 4) → (64 ≤ q.second) ⊎ (q.second < 64) → (4 ≤ m.second) ⊎ (q.second < 64)
    go (inl k) x = inl k
    go (inr k) (inr h) = inr h
    go (inr k) (inl h) =
        let d = two-of m.first m.second (eqb m.colour 1) (board_in m q).men
        (c.men ∙ ap men_of (is-two m q (remains m q c) k)) in
        let e : piece_of m.first 0 q.first ∷ [] ≡ d.0 ∷ d.1 ∷ [] =
        sym (ap (λ (b : Board). b.men) (first-there m q w.first h) ∙ (unfold board_of in refl)) ∙ d.2 in
        let z : ◌≡◌ {A = ℕ} 0 1 = cc in absurd (omega arith)

pub lone-facts : (kind square : ℕ) → (ltb kind 4 && leb 64 square) ≡ true → (kind < 4) × (64 ≤ square)
lone-facts kind square e =
    let t = of-true e in (
      ltb→lt kind 4 (and_left (ltb kind 4) (leb 64 square) t),
      leb→le 64 square (and_right (ltb kind 4) (leb 64 square) t),
    )

there-or : (kind square : ℕ) → (ltb kind 4 && leb 64 square) ≡ false → (4 ≤ kind) ⊎ (square < 64)
there-or kind square e = go (le-or-lt 4 kind) (le-or-lt 64 square)
  where
    go : (4 ≤ kind) ⊎ (kind < 4) → (64 ≤ square) ⊎ (square < 64) → (4 ≤ kind) ⊎ (square < 64)
    go (inl k) x = inl k
    go (inr k) (inr h) = inr h
    go (inr k) (inl h) =
        absurd (true-not-false {b = ltb kind 4 && leb 64 square} (rw (lt-ltb kind 4 k, le-leb 64 square h)) e)

pub there-all : (m : Men) (q : Place) → q.first < 64 → (ltb m.second 4 && leb 64 q.second) ≡ false → AllThere m q
there-all m q h e = (h, there-or m.second q.second e)

-- the byte after a legal move
pub byte-moved : (m : Men) (q : Place) → Complete m q → (first second table : List ℕ) (from to c : ℕ) (next : Place)
    → T (can_move (board_in m q) from to) → next ≡ place_after q from to
    → (Remains m next → c ≡ bytes_in m first second table (board_in m next))
    → c ≡ bytes_in m first second table (moved (board_in m q) from to)
byte-moved m q w first second table from to c next t e f =
    let o = can-on (board_in m q) from to t in
    f (subst⁻¹ (Remains m) e (remains-after m q from to w o.0 o.1))
    ∙ ap (λ (p : Place). bytes_in m first second table (board_in m p)) e
    ∙ ap (bytes_in m first second table) (place-moved from to o.0 o.1 m q)

module _ (m : Men) (q : Place) (from to x y : ℕ) where
  four : (a b c d e : Bool) → (not (a || b) && (c && (d || e))) ≡ true → (a ≡ false) × (b ≡ false) × (c ≡ true) ×
      ((d || e) ≡ true)
  four true b c d e h = absurd (refuted (sym h) tt)
  four false true c d e h = absurd (refuted (sym h) tt)
  four false false true d e h = (refl, refl, refl, h)
  four false false false d e h = absurd (refuted (sym h) tt)

  framed-there : x ≡ square_after from to q.first → y ≡ square_after from to q.second
      → framed_after m q from x y ≡ true → AllThere m (place_after q from to)
  unfolding place_after
  framed-there hx hy g =
      let k = four (eqb q.white from) (eqb q.black from) (ltb x 64) (leb 4 m.second) (ltb y 64) g in (
        subst (λ (s : ℕ). s < 64) hx (ltb-true x 64 k.2),
        ⊎_elim (λ t. inl (leb→le 4 m.second t)) (λ t. inr (subst (λ (s : ℕ). s < 64) hy (ltb→lt y 64 t)))
            (or_cases (leb 4 m.second) (ltb y 64) (of-true k.3)),
      )

  framed-number : (f : Frame) → f ≡ frame_for (1 - q.side) q.white q.black
      → x ≡ square_after from to q.first → y ≡ square_after from to q.second → framed_after m q from x y ≡ true
      → number_on f (leb 4 m.second) (alike m) x y
      ≡ number_on (frame_for (place_after q from to).side (place_after q from to).white (place_after q from to).black)
      (leb 4 m.second) (alike m) (place_after q from to).first (place_after q from to).second
  unfolding place_after
  framed-number f e hx hy g =
      let k = four (eqb q.white from) (eqb q.black from) (ltb x 64) (leb 4 m.second) (ltb y 64) g in
      rw (e, hx, hy, k.0, k.1)

-- and by a frame, where the kings stay and the men are all there
pub byte-framed : (m : Men) (q : Place) → Complete m q → (first second table : List ℕ) (from to x y n c : ℕ) (f : Frame)
    → T (can_move (board_in m q) from to) → f ≡ frame_for (1 - q.side) q.white q.black
    → x ≡ square_after from to q.first → y ≡ square_after from to q.second → framed_after m q from x y ≡ true
    → n ≡ number_on f (leb 4 m.second) (alike m) x y → c ≡ get_or table n 0
    → c ≡ bytes_in m first second table (moved (board_in m q) from to)
byte-framed m q w first second table from to x y n c f t e hx hy g hn hc =
    let o = can-on (board_in m q) from to t in
    let p = place_after q from to in
    let r = remains-after m q from to w o.0 o.1 in
    let a = framed-there m q from to x y hx hy g in
    byte-own m p r first second table a n c
    (hn ∙ framed-number m q from to x y f e hx hy g ∙ number-framed m p (own-seated m p r a)) hc
    ∙ ap (bytes_in m first second table) (place-moved from to o.0 o.1 m q)
