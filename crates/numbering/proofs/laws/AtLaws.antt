-- The board of a number: it bears it, and every board with a number has the normal board of its class there. For one
-- man and for two.
use Rattle.std.specs.Prelude.{◌≡◌, refl, ◌&&◌, List, [], ◌∷◌, map, ℕ, ◌+◌, ◌*◌, ◌/◌, ◌%◌, ◌<◌, T, eqb}
use Rattle.std.proofs.Math.Path.{ap, sym}
use Rattle.std.proofs.Common.{subst, ◌∙◌, mul_assoc, arith, lt→ltb, eq-eqb}
use Rattle.std.proofs.Math.Dec.{eqb→eq}
use Rattle.finite.specs.Truth.{and_left, and_right, and_both, of-true, true_of}
use Rattle.finite.specs.Members.{all}
use Rattle.rules.specs.declared.Piece.{Piece}
use Rattle.rules.specs.Rules.{Board, piece_of, pieces, apart}
use Rattle.rules.specs.Reordered.{reordered}
use Rattle.rules.proofs.laws.ChangedRules.{apart-changed}
use Rattle.rules.proofs.laws.ReorderedLaws.{apart-crossed}
use Rattle.numbering.specs.Kings.{king_rule, pair_of, kings_of}
use Rattle.numbering.specs.Keys.{key_from, key_of, unplaced, ending_of, spread, leading, men_at, board_at}
use Rattle.numbering.specs.Men.{exchangeable, standard, material_of}
use Rattle.numbering.specs.Change.{Change, changed_by}
use Rattle.numbering.specs.Number.{normalised, number_of, used}
use Rattle.numbering.proofs.laws.PairLaws.{KingsOf, kings-of}
use Rattle.numbering.proofs.laws.MenLaws.{on_board}
use Rattle.numbering.proofs.laws.Numberable.{Numberable, ruled-separate}
use Rattle.numbering.proofs.laws.KeyLaws.{key-own}
use Rattle.numbering.proofs.laws.ChangeLaws.{HasNumber}
use Rattle.numbering.proofs.laws.ClassLaws.{standing, normalising, normal-image, normal-has, normal-ruled, number_lt, number-along}

-- ---- the digits of a number

men-key : (ending : List Piece) (n : ℕ) → key_from (leading ending n) (men_at ending n) ≡ n
unfolding key_from leading men_at
men-key [] n = refl
men-key (m ∷ ms) n = let e : leading ms n / 64 * 64 + leading ms n % 64 ≡ leading ms n = omega arith in
    ap (λ (k : ℕ). key_from k (men_at ms n)) e ∙ men-key ms n

leading_lt : (ending : List Piece) (n k : ℕ) → n < k * spread ending → leading ending n < k
unfolding leading spread
leading_lt [] n k h = omega arith
leading_lt (m ∷ ms) n k h = omega (arith, leading_lt ms n (k * 64) (rw (mul_assoc k 64 (spread ms)) h))

men-on : (ending : List Piece) (n : ℕ) → T (all on_board (men_at ending n))
unfolding all men_at
men-on [] n = tt
men-on (m ∷ ms) n =
    and_both (on_board (piece_of m.kind m.colour (leading ms n % 64))) (all on_board (men_at ms n))
    (lt→ltb (leading ms n % 64) 64 (omega arith)) (men-on ms n)

men-unplaced : (ending : List Piece) (n : ℕ) → map unplaced (men_at ending n) ≡ map unplaced ending
unfolding men_at
men-unplaced [] n = refl
men-unplaced (m ∷ ms) n = ap (λ (l : List Piece). unplaced m ∷ l) (men-unplaced ms n)

unplaced-twice : (l : List Piece) → map unplaced (map unplaced l) ≡ map unplaced l
unplaced-twice [] = refl
unplaced-twice (a ∷ l) = ap (λ (k : List Piece). unplaced a ∷ k) (unplaced-twice l)

-- ---- the board at a number, of any list of men

pub kings-at : (ending : List Piece) (n : ℕ) → KingsOf (leading ending n % 462)
kings-at ending n = kings-of (leading ending n % 462) (omega arith)

-- it has that number for its key
pub key-at : (ending : List Piece) (n : ℕ) → key_of (board_at ending n) ≡ n
unfolding key_of board_at
key-at ending n =
    let q = (kings-at ending n).bears in
    let e : leading ending n / 462 * 462 + pair_of (kings_of (leading ending n % 462) / 64)
    (kings_of (leading ending n % 462) % 64) ≡ leading ending n = omega arith in
    ap (λ (k : ℕ). key_from k (men_at ending n)) e ∙ men-key ending n

pub ruled-at : (ending : List Piece) (n : ℕ) → T (king_rule (board_at ending n).white (board_at ending n).black)
unfolding board_at
ruled-at ending n = (kings-at ending n).ruled

-- a list of men is an ending where it is some board's
pub numberable-at : (ending : List Piece) (n : ℕ) → map unplaced ending ≡ ending → n < 924 * spread ending
    → Numberable ending (board_at ending n)
unfolding board_at ending_of
numberable-at ending n p h =
    let k = leading_lt ending n 924 h in
    let w = kings_of (leading ending n % 462) / 64 in
    let b = kings_of (leading ending n % 462) % 64 in
    record {
      men = men-unplaced ending n
          ∙ p;
      side = omega arith;
      squares = men-on ending n;
      kings = ruled-separate w b (ruled-at ending n);
    }

-- ---- material

-- it has no squares
material-unplaced : (l : List Piece) → map unplaced (material_of l) ≡ material_of l
unfolding material_of
material-unplaced [] = refl
material-unplaced (a ∷ []) = refl
material-unplaced (a ∷ c ∷ []) = refl
material-unplaced (a ∷ c ∷ d ∷ l) = unplaced-twice (a ∷ c ∷ d ∷ l)

-- ---- the board at a number; a list of men is a material if it is some board's

module _ {material : List Piece} (w : material_of material ≡ material) (n : ℕ) where
  bare : map unplaced material ≡ material
  bare = subst (λ (m : List Piece). map unplaced m ≡ m) (w) (material-unplaced material)

  -- a used number leads back to a board that bears it
  pub used-number : T (used (board_at material n)) → number_of (board_at material n) ≡ n
  unfolding used
  used-number u =
      eqb→eq (number_of (board_at material n)) (key_of (board_at material n))
      (and_right (apart (pieces (board_at material n))) _ u) ∙ key-at material n

module _ {material : List Piece} (w : material_of material ≡ material) (b : Board) (h : HasNumber material b) where
  -- a board's normal image stands at its number ..
  pub at-number : board_at material (number_of b) ≡ normalised b
  unfolding number_of
  at-number =
      let r = normal-ruled b h in
      let s = standing (normalised b) (normal-has b h)
      (and_right (king_rule (normalised b).white (normalised b).black) (standard (normalised b).men) r) in
      key-own (board_at material (number_of b))
      (numberable-at material (number_of b) (bare w (number_of b)) (number_lt b h)) (normalised b) s
      (ruled-at material (number_of b))
      (and_left (king_rule (normalised b).white (normalised b).black) (standard (normalised b).men) r)
      (key-at material (number_of b))

  -- .. and that is an image of it
  pub image-at : (s : Change) × (board_at material (number_of b) ≡ changed_by s b)
  image-at = (normalising b, at-number ∙ normal-image b)

-- ---- used numbers

pub apart_by : (s : Change) (b : Board) → apart (pieces (changed_by s b)) ≡ apart (pieces b)
unfolding changed_by
apart_by s b = apart-changed s.symmetry (s.colours && exchangeable b.men) (reordered s.order b)
    ∙ apart-crossed s.order b

module _ {material : List Piece} (w : material_of material ≡ material) (b : Board) (h : HasNumber material b) where
  -- the number of a board is used, if no two of its men share a square
  pub number-used : T (apart (pieces b)) → T (used (board_at material (number_of b)))
  unfolding used
  number-used t =
      let e = at-number w b h ∙ normal-image b in
      let n : number_of (board_at material (number_of b)) ≡ key_of (board_at material (number_of b)) = ap number_of e
      ∙ number-along (normalising b) b h ∙ sym (key-at material (number_of b)) in
      and_both (apart (pieces (board_at material (number_of b))))
      (eqb (number_of (board_at material (number_of b))) (key_of (board_at material (number_of b))))
      (of-true (ap (λ (c : Board). apart (pieces c)) e ∙ apart_by (normalising b) b ∙ true_of {b = apart (pieces b)} t))
      (of-true (eq-eqb (number_of (board_at material (number_of b))) (key_of (board_at material (number_of b))) n))
