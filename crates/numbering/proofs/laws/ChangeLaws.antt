-- Changes compose, each is taken back by one, and they keep what a board has to have for a number.
use Rattle.std.specs.Prelude.{◌≡◌, Bool, true, cond, not, ◌&&◌, List, [], ◌∷◌, map, ℕ, ◌<◌, min, max, T, eqb, ltb}
use Rattle.std.proofs.Math.Path.{refl}
use Rattle.std.proofs.Common.{ap, ap₂, sym, ◌∙◌, arith, ltb→lt, lt→ltb}
use Rattle.std.proofs.Math.Bool.{false, xor}
use mathlib.Core.List.Memᴰ
use Rattle.finite.specs.Truth.{eqb-sym}
use Rattle.finite.specs.Members.{◌∈◌, all, map-in}
use Rattle.board.specs.Reach.{reaches}
use Rattle.symmetry.specs.Symmetry.{Symmetry, inverse, composed, symmetries}
use Rattle.symmetry.proofs.laws.SymmetryLaws.{every-symmetry, ltb-mapped}
use Rattle.symmetry.proofs.laws.Opposite.{reaches-sym}
use Rattle.rules.specs.declared.Piece.{Piece}
use Rattle.rules.specs.Rules.{Board, piece_of}
use Rattle.rules.specs.Changed.{swapped, changed_piece, changed}
use Rattle.rules.specs.Reordered.{crossed, reordered}
use Rattle.rules.proofs.laws.Changed.{eqb-swapped, ltb-swapped, changed-back, changed-composed, board-eq}
use Rattle.rules.proofs.laws.ChangedRules.{all_map}
use Rattle.rules.proofs.laws.ReorderedLaws.{crossed-map, crossed-back, all-crossed}
use Rattle.numbering.specs.Kings.{separate}
use Rattle.numbering.specs.Keys.{unplaced}
use Rattle.numbering.specs.Men.{exchangeable, material_of}
use Rattle.numbering.specs.Change.{Change, change, changed_by, then, undo, changes}
use Rattle.numbering.proofs.laws.KingMaps.{separate-mapped}
use Rattle.numbering.proofs.laws.MenLaws.{on_board}

-- ---- there are thirty-two

pub every-change : (s : Change) → s ∈ changes
every-change s = go s.order s.colours s.symmetry
  where
    go : (e x : Bool) (m : Symmetry) → change e x m ∈ changes
    go false false m = Memᴰ.append_left _ (map-in (change false false) (every-symmetry m))
    go false true m =
        Memᴰ.append_right (map (change false false) symmetries)
        (Memᴰ.append_left _ (map-in (change false true) (every-symmetry m)))
    go true false m =
        Memᴰ.append_right (map (change false false) symmetries)
        (Memᴰ.append_right (map (change false true) symmetries)
        (Memᴰ.append_left _ (map-in (change true false) (every-symmetry m))))
    go true true m =
        Memᴰ.append_right (map (change false false) symmetries)
        (Memᴰ.append_right (map (change false true) symmetries)
        (Memᴰ.append_right (map (change true false) symmetries) (map-in (change true true) (every-symmetry m))))

-- ---- two men in the other order

pub crossed-again : (e f : Bool) (l : List Piece) → crossed f (crossed e l) ≡ crossed (xor e f) l
unfolding crossed xor
crossed-again false false l = refl
crossed-again false true l = refl
crossed-again true false l = refl
crossed-again true true [] = refl
crossed-again true true (a ∷ []) = refl
crossed-again true true (a ∷ c ∷ []) = refl
crossed-again true true (a ∷ c ∷ d ∷ l) = refl

exchangeable-crossed : (e : Bool) (l : List Piece) → exchangeable (crossed e l) ≡ exchangeable l
unfolding crossed exchangeable
exchangeable-crossed false l = refl
exchangeable-crossed true [] = refl
exchangeable-crossed true (a ∷ []) = refl
exchangeable-crossed true (a ∷ c ∷ []) = rw (eqb-sym c.kind a.kind, eqb-sym c.colour a.colour)
exchangeable-crossed true (a ∷ c ∷ d ∷ l) = refl

exchangeable-map : (m : Symmetry) (x : Bool) (l : List Piece) → exchangeable (map (changed_piece m x) l) ≡ exchangeable l
unfolding exchangeable
exchangeable-map m x [] = refl
exchangeable-map m x (a ∷ []) = refl
exchangeable-map m x (a ∷ c ∷ []) = rw (eqb-swapped x a.colour c.colour)
exchangeable-map m x (a ∷ c ∷ d ∷ l) = refl

exchangeable-by : (s : Change) (b : Board) → exchangeable (changed_by s b).men ≡ exchangeable b.men
unfolding changed_by changed
exchangeable-by s b =
    exchangeable-map s.symmetry (s.colours && exchangeable b.men) (crossed s.order b.men)
    ∙ exchangeable-crossed s.order b.men

-- the order and the map, in either order
reordered-changed : (f : Bool) (m : Symmetry) (x : Bool) (b : Board)
    → reordered f (changed m x b) ≡ changed m x (reordered f b)
unfolding changed
reordered-changed f m x b = board-eq refl refl refl (crossed-map (changed_piece m x) f b.men)

reordered-again : (e f : Bool) (b : Board) → reordered f (reordered e b) ≡ reordered (xor e f) b
reordered-again e f b = board-eq refl refl refl (crossed-again e f b.men)

pub xor-and : (a c e : Bool) → xor (a && e) (c && e) ≡ (xor a c && e)
unfolding xor
xor-and true true true = refl
xor-and true true false = refl
xor-and true false true = refl
xor-and true false false = refl
xor-and false true true = refl
xor-and false true false = refl
xor-and false false true = refl
xor-and false false false = refl

pub changes-compose : (s t : Change) (b : Board) → changed_by t (changed_by s b) ≡ changed_by (then s t) b
unfolding changed_by then
changes-compose s t b =
    let x = s.colours && exchangeable b.men in
    let y = t.colours && exchangeable b.men in
    ap (λ (z : Bool). changed t.symmetry (t.colours && z)
    (reordered t.order (changed s.symmetry x (reordered s.order b)))) (exchangeable-by s b)
    ∙ ap (changed t.symmetry y) (reordered-changed t.order s.symmetry x (reordered s.order b))
    ∙ changed-composed s.symmetry t.symmetry x y (reordered t.order (reordered s.order b))
    ∙ ap₂ (changed (composed s.symmetry t.symmetry)) (xor-and s.colours t.colours (exchangeable b.men))
    (reordered-again s.order t.order b)

pub change-undone : (s : Change) (b : Board) → changed_by (undo s) (changed_by s b) ≡ b
unfolding changed_by undo
change-undone s b =
    let x = s.colours && exchangeable b.men in
    ap (λ (z : Bool). changed (inverse s.symmetry) (s.colours && z)
    (reordered s.order (changed s.symmetry x (reordered s.order b)))) (exchangeable-by s b)
    ∙ ap (changed (inverse s.symmetry) x) (reordered-changed s.order s.symmetry x (reordered s.order b))
    ∙ changed-back s.symmetry x (reordered s.order (reordered s.order b))
    ∙ board-eq refl refl refl (crossed-back s.order b.men)

-- ---- what a board has to have for a number

abbrev pub coloured : Piece → Bool
coloured m = ltb m.colour 2

pub record HasNumber (material : List Piece) (b : Board) : Type 0 where
  pub men : material_of b.men ≡ material
  pub side : b.side < 2
  pub colours : T (all coloured b.men)
  pub squares : T (all on_board b.men)
  pub kings : T (separate b.white b.black)

separate-sym : (white black : ℕ) → separate black white ≡ separate white black
unfolding separate
separate-sym white black =
    rw (eqb-sym black white, reaches-sym (λ s. false) 5 black white)
    (swap (ltb white 64) (ltb black 64) (not (eqb white black)) (not (reaches (λ s. false) 5 white black)))
  where
    swap : (a c d e : Bool) → (c && a && d && e) ≡ (a && c && d && e)
    swap true true d e = refl
    swap true false d e = refl
    swap false true d e = refl
    swap false false d e = refl

separate-exchanged : (x : Bool) (white black : ℕ)
    → separate (cond x black white) (cond x white black) ≡ separate white black
separate-exchanged true white black = separate-sym white black
separate-exchanged false white black = refl

pub pieces-eq : {k k' c c' n n' d d' : ℕ} → k ≡ k' → c ≡ c' → n ≡ n' → d ≡ d'
    → ◌≡◌ {A = List Piece} (piece_of k c 0 ∷ piece_of n d 0 ∷ []) (piece_of k' c' 0 ∷ piece_of n' d' 0 ∷ [])
pieces-eq p q r t = cc

unplaced-mapped : (m : Symmetry) (l : List Piece) → map unplaced (map (changed_piece m false) l) ≡ map unplaced l
unfolding swapped
unplaced-mapped m [] = refl
unplaced-mapped m (a ∷ l) = ap (λ (k : List Piece). unplaced a ∷ k) (unplaced-mapped m l)

material-crossed : (e : Bool) (l : List Piece) → material_of (crossed e l) ≡ material_of l
unfolding material_of crossed
material-crossed false l = refl
material-crossed true [] = refl
material-crossed true (a ∷ []) = refl
material-crossed true (a ∷ c ∷ []) =
    let k = a.kind in
    let n = c.kind in
    let p : min n k ≡ min k n = omega arith in
    let q : max n k ≡ max k n = omega arith in
    pieces-eq p refl q (ap (λ (t : Bool). cond t 0 1) (eqb-sym c.colour a.colour))
material-crossed true (a ∷ c ∷ d ∷ l) = refl

material-map : (m : Symmetry) (x : Bool) (l : List Piece)
    → material_of (map (changed_piece m (x && exchangeable l)) l) ≡ material_of l
unfolding material_of exchangeable
material-map m x [] = refl
material-map m x (a ∷ []) = refl
material-map m x (a ∷ c ∷ []) =
    pieces-eq refl refl refl
    (ap (λ (t : Bool). cond t 0 1) (eqb-swapped (x && exchangeable (a ∷ c ∷ [])) a.colour c.colour))
material-map m true (a ∷ c ∷ d ∷ l) = unplaced-mapped m (a ∷ c ∷ d ∷ l)
material-map m false (a ∷ c ∷ d ∷ l) = unplaced-mapped m (a ∷ c ∷ d ∷ l)

pub has-changed : {material : List Piece} (s : Change) (b : Board) → HasNumber material b
    → HasNumber material (changed_by s b)
unfolding changed_by changed
has-changed s b h =
    let x = s.colours && exchangeable b.men in
    let l = crossed s.order b.men in
    record {
      men = ap (λ (z : Bool). material_of (map (changed_piece s.symmetry (s.colours && z)) l))
          (sym (exchangeable-crossed s.order b.men)) ∙ material-map s.symmetry s.colours l
          ∙ material-crossed s.order b.men ∙ h.men;
      side = side x;
      colours = rw (
        all_map s.symmetry x coloured coloured (λ a. ltb-swapped x a.colour) l,
        all-crossed coloured s.order b.men,
      ) h.colours;
      squares = rw (
        all_map s.symmetry x on_board on_board (λ a. ltb-mapped s.symmetry a.square) l,
        all-crossed on_board s.order b.men,
      ) h.squares;
      kings = rw (
        separate-mapped s.symmetry (cond x b.black b.white) (cond x b.white b.black),
        separate-exchanged x b.white b.black,
      ) h.kings;
    }
  where
    side : (x : Bool) → swapped x b.side < 2
    side x = omega (arith, ltb→lt (swapped x b.side) 2 (rw (ltb-swapped x b.side) (lt→ltb b.side 2 h.side)))

-- ---- one man: order does not count, and the colours may be exchanged

pub one-change : (s : Change) (b : Board) (a : Piece) → b.men ≡ a ∷ []
    → changed_by s b ≡ changed s.symmetry s.colours b
unfolding changed_by exchangeable
one-change s b a e = rw e (ap₂ (changed s.symmetry) (kept s.colours) (board-eq refl refl refl (still s.order)))
  where
    kept : (x : Bool) → (x && true) ≡ x
    kept true = refl
    kept false = refl

    still : (e : Bool) → crossed e (a ∷ []) ≡ a ∷ []
    still true = unfold crossed in refl
    still false = unfold crossed in refl
