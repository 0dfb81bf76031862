-- Within a row of 64 numbers what stands at them differs in the last man's square alone.
use Rattle.std.specs.Prelude.{◌≡◌, Bool, true, false, cond, List, [], ◌∷◌, ℕ, ◌+◌, ◌*◌, ◌/◌, ◌%◌, ◌<◌, ◌≤◌, leb, eqb}
use Rattle.std.proofs.Math.Path.{refl, ap}
use Rattle.std.proofs.Common.{ap₂, subst, sym, ◌∙◌, arith, le-leb, leb-true, leb-false}
use Rattle.std.proofs.lemmas.Bool.{lt-leb}
use Rattle.rules.specs.declared.Piece.{Piece}
use Rattle.rules.specs.Rules.{Board, piece_of}
use Rattle.rules.proofs.laws.Changed.{board-eq}
use Rattle.numbering.specs.declared.Material.{Material}
use Rattle.numbering.specs.Kings.{kings_of}
use Rattle.numbering.specs.Keys.{leading, men_at, board_at}
use Rattle.numbering.specs.Material.{men_of}
use Rattle.position.specs.declared.Men.{Men}
use Rattle.position.specs.declared.Place.{Place}
use Rattle.index.specs.Seats.{StandsAt, alone}
use Rattle.index.proofs.laws.NormalKey.{one_board, pair_board}
use Rattle.index.proofs.laws.SeatLaws.{board-one, board-two}
use Rattle.index.proofs.laws.PlaceLaws.{material-by, piece-by}
use Rattle.deciding.specs.Rows.{RowOf, with_last}

-- ---- the boards of a row

first_square : List Piece → ℕ
first_square [] = 0
first_square (p ∷ ps) = p.square

second_colour : List Piece → ℕ
second_colour [] = 0
second_colour (p ∷ []) = 0
second_colour (p ∷ q ∷ ps) = q.colour

module _ (side white black n : ℕ) where
  same_row : n / 64 * 64 / 64 ≡ n / 64
  same_row = omega arith

  one-row : (kind x : ℕ)
      → one_board kind side white black x ≡ board_at (men_of (Material.One kind)) (n / 64 * 64)
      → one_board kind side white black (n % 64) ≡ board_at (men_of (Material.One kind)) n
  unfolding board_at leading men_at
  one-row kind x e =
      board-eq (ap (λ (b : Board). b.side) e ∙ ap (λ (r : ℕ). r / 462) same_row)
      (ap (λ (b : Board). b.white) e ∙ ap (λ (r : ℕ). kings_of (r % 462) / 64) same_row)
      (ap (λ (b : Board). b.black) e ∙ ap (λ (r : ℕ). kings_of (r % 462) % 64) same_row) refl

  two-row : (j k d x y : ℕ) (rivals : Bool)
      → pair_board j k d side white black x y ≡ board_at (men_of (Material.Two j k rivals)) (n / 64 * 64)
      → pair_board j k d side white black x (n % 64) ≡ board_at (men_of (Material.Two j k rivals)) n
  unfolding board_at leading men_at first_square second_colour
  two-row j k d x y rivals e =
      board-eq (ap (λ (b : Board). b.side) e ∙ ap (λ (r : ℕ). r / 64 / 462) same_row)
      (ap (λ (b : Board). b.white) e ∙ ap (λ (r : ℕ). kings_of (r / 64 % 462) / 64) same_row)
      (ap (λ (b : Board). b.black) e ∙ ap (λ (r : ℕ). kings_of (r / 64 % 462) % 64) same_row)
      (ap₂ (λ (s c : ℕ). piece_of j 0 s ∷ piece_of k c (n % 64) ∷ [])
      (ap (λ (b : Board). first_square b.men) e ∙ ap (λ (r : ℕ). r % 64) same_row)
      (ap (λ (b : Board). second_colour b.men) e))

-- what is true of a row's first number is at the next number too, if it is in the row
pub row_kept : (P : ℕ → Type 0) (n : ℕ) → ((n + 1) % 64 ≡ 0 → ⊥) → P (n / 64 * 64) → P ((n + 1) / 64 * 64)
row_kept P n h p = let e : n / 64 * 64 ≡ (n + 1) / 64 * 64 = omega arith in subst P e p

-- ---- the places of a row

module _ (m : Men) (n : ℕ) (q : Place) (a : RowOf m n q) where
  last : n % 64 < 64
  last = omega arith

  row_one : 4 ≤ m.second
      → StandsAt m n
      (record { side = q.side; white = q.white; black = q.black; first = n % 64; second = q.second })
  row_one h =
      let s = a.seated in
      let none : alone q ≡ true = s.second ∙ le-leb 4 m.second h in
      let one = piece-by m s.ending (le-leb 4 m.second h) in
      record {
        seated = record {
          ending = s.ending;
          colour = s.colour;
          white = s.white;
          black = s.black;
          first = last;
          second = s.second;
        };
        side = a.side;
        board = board-one m
            (record { side = q.side; white = q.white; black = q.black; first = n % 64; second = q.second }) last none
            ∙ one-row q.side q.white q.black n m.first q.first
            (sym (board-one m q s.first none) ∙ a.board
            ∙ ap (λ (x : Material). board_at (men_of x) (n / 64 * 64)) one)
            ∙ ap (λ (x : Material). board_at (men_of x) n) (sym one);
      }

  row-two : m.second < 4
      → StandsAt m n
      (record { side = q.side; white = q.white; black = q.black; first = q.first; second = n % 64 })
  row-two h =
      let s = a.seated in
      let some : alone q ≡ false = s.second ∙ lt-leb 4 m.second h in
      let there = lt-leb 64 (n % 64) last in
      let two = material-by m false (lt-leb 4 m.second h) in
      record {
        seated = record {
          ending = s.ending;
          colour = s.colour;
          white = s.white;
          black = s.black;
          first = s.first;
          second = there ∙ sym (lt-leb 4 m.second h);
        };
        side = a.side;
        board = board-two m
            (record { side = q.side; white = q.white; black = q.black; first = q.first; second = n % 64 }) s.first
            there
            ∙ two-row q.side q.white q.black n m.first m.second m.colour q.first q.second
            (eqb m.colour 1)
            (sym (board-two m q s.first some) ∙ a.board
            ∙ ap (λ (x : Material). board_at (men_of x) (n / 64 * 64)) two)
            ∙ ap (λ (x : Material). board_at (men_of x) n) (sym two);
      }

  pub row-stands : StandsAt m n (with_last m q (n % 64))
  row-stands = go (leb 4 m.second) refl
    where
      go : (x : Bool) → leb 4 m.second ≡ x
          → StandsAt m n
          (record {
            side = q.side;
            white = q.white;
            black = q.black;
            first = cond x (n % 64) q.first;
            second = cond x q.second (n % 64);
          })
      go true e = row_one (leb-true 4 m.second e)
      go false e = row-two (leb-false 4 m.second e)

  -- the next number, if it is in the row
  pub row_next : ((n + 1) % 64 ≡ 0 → ⊥) → RowOf m (n + 1) q
  row_next h = row_kept (λ (x : ℕ). StandsAt m x q) n h a

-- another number of the row
pub row_same : (m : Men) (n : ℕ) (q : Place) → RowOf m n q → (s : ℕ) → s < 64 → RowOf m (n / 64 * 64 + s) q
row_same m n q a s h =
    let e : n / 64 * 64 ≡ (n / 64 * 64 + s) / 64 * 64 = omega arith in subst (λ (x : ℕ). StandsAt m x q) e a

-- what stands there, by the last man's square
pub row-square : (m : Men) (n : ℕ) (q : Place) → RowOf m n q → (s : ℕ) → s < 64
    → StandsAt m (n / 64 * 64 + s) (with_last m q s)
row-square m n q a s h =
    let d : (n / 64 * 64 + s) % 64 ≡ s = omega arith in
    subst (λ (x : ℕ). StandsAt m (n / 64 * 64 + s) (with_last m q x)) d
    (row-stands m (n / 64 * 64 + s) q (row_same m n q a s h))

-- a row's first number
pub row_first : (m : Men) (n : ℕ) (q : Place) → n % 64 ≡ 0 → StandsAt m n q → RowOf m n q
row_first m n q h s = let e : n ≡ n / 64 * 64 = omega arith in subst (λ (x : ℕ). StandsAt m x q) e s
