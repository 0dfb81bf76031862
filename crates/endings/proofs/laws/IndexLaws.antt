-- What the index says of an ending's legal boards: their numbers are in range and legal, the board at a number is an image of each board
-- with that number, and legal boards are those that no refusal from 1 to 6 meets.
use Rattle.std.specs.Prelude.{◌≡◌, refl, Bool, true, false, not, ◌&&◌, ◌||◌, List, [], ◌∷◌, ℕ, ◌<◌, T, eqb, ltb}
use Rattle.std.proofs.Common.{sym, ap, subst, ◌∙◌}
use Rattle.std.proofs.Math.Path.{subst⁻¹}
use Rattle.finite.specs.Truth.{and_left, and_right, and_both, true_of}
use Rattle.finite.specs.Members.{any, all}
use Rattle.board.specs.Reach.{reaches}
use Rattle.symmetry.specs.Symmetry.{Symmetry}
use Rattle.rules.specs.declared.Piece.{Piece}
use Rattle.rules.specs.Rules.{Board, piece_of, known, apart, touching, legal}
use Rattle.rules.proofs.laws.Legal.{legal-facts}
use Rattle.rules.specs.Changed.{changed}
use Rattle.rules.proofs.laws.ChangedRules.{legal-changed}
use Rattle.numbering.specs.Kings.{separate}
use Rattle.numbering.specs.Normal.{normal_map}
use Rattle.numbering.specs.Keys as keys
use Rattle.numbering.specs.Keys.{spread}
use Rattle.numbering.specs.Men.{material_of}
use Rattle.numbering.specs.Change.{change}
use Rattle.numbering.specs.Number.{normalised, number_of, used}
use Rattle.numbering.proofs.laws.ChangeLaws.{HasNumber, coloured, one-change}
use Rattle.numbering.proofs.laws.ClassLaws.{number_lt, number-along}
use Rattle.numbering.proofs.laws.AtLaws as classes
use Rattle.numbering.proofs.laws.LoneLaws.{lone-normal}
use Rattle.position.proofs.laws.PlacedLaws.{ending_with}
use Rattle.index.specs.Answers.{position_at, unused}
use Rattle.index.proofs.laws.AnswerLaws.{board-at, unused-exactly}
use Rattle.endings.specs.Ending.{LoneOf, Lone, lone_board_at, legal_number}

four : (a b c d : Bool) → T a → T b → c ≡ false → d ≡ false → T (a && b && not c && not d)
four a b c d p q e f = rw (true_of {b = a} p, true_of {b = b} q, e, f) tt

first-apart : (e f g : Bool) → T (not (e || f) && g) → e ≡ false
first-apart true f g t = absurd t
first-apart false f g t = refl

pub legal-kings : (b : Board) → T (legal b) → T (separate b.white b.black)
unfolding separate all apart any touching
legal-kings b t =
    let l = legal-facts b t in
    let men = all (λ m. ltb m.square 64) b.men in
    let black = and_right (ltb b.white 64) (ltb b.black 64 && men) l.squares in
    four (ltb b.white 64) (ltb b.black 64) (eqb b.white b.black)
    (reaches (λ s. false) 5 b.white b.black)
    (and_left (ltb b.white 64) (ltb b.black 64 && men) l.squares) (and_left (ltb b.black 64) men black)
    (first-apart (eqb b.white b.black) (any (λ x. eqb b.white x.square) b.men)
    (apart (piece_of 5 1 b.black ∷ b.men)) l.apart) l.kings

-- the rules know his colour
lone-coloured : (kind : ℕ) (b : Board) → T (legal b) → Lone kind b → T (all coloured b.men)
unfolding all
lone-coloured kind b t l =
    let k = subst (λ (m : List Piece). T (all known m)) l.1.1 (legal-facts b t).men in
    subst⁻¹ (λ (m : List Piece). T (all coloured m)) l.1.1
    (and_both (ltb l.0 2) true
    (and_right (ltb kind 4) (ltb l.0 2) (and_left (ltb kind 4 && ltb l.0 2) true k)) tt)

-- the board of a position of the ending has a number in that ending
pub lone-has : (kind : ℕ) (b : Board) → T (legal b) → Lone kind b → HasNumber (ending_with kind) b
unfolding all material_of
lone-has kind b t l =
    let men = all (λ m. ltb m.square 64) b.men in
    record {
      men = ap material_of l.1.1;
      side = (legal-facts b t).side;
      colours = lone-coloured kind b t l;
      squares = and_right (ltb b.black 64) men
          (and_right (ltb b.white 64) (ltb b.black 64 && men) (legal-facts b t).squares);
      kings = legal-kings b t;
    }

material : (kind : ℕ) → material_of (ending_with kind) ≡ ending_with kind
unfolding material_of
material kind = refl

board-is : (kind n : ℕ) → lone_board_at kind n ≡ keys.board_at (ending_with kind) n
unfolding lone_board_at
board-is kind n = board-at kind n

-- numbers go with the eight maps and the exchange of colours
pub number-image : (kind : ℕ) (m : Symmetry) (x : Bool) (b : Board) → T (legal b) → Lone kind b
    → number_of (changed m x b) ≡ number_of b
number-image kind m x b t l = ap number_of (sym (one-change (change false x m) b _ l.1.1))
    ∙ number-along (change false x m) b (lone-has kind b t l)

-- the board at a board's number is one of its images
pub image-at : (kind : ℕ) (b : Board) → T (legal b) → Lone kind b
    → (m : Symmetry) × (x : Bool) × (lone_board_at kind (number_of b) ≡ changed m x b)
image-at kind b t l =
    let i = classes.image-at (material kind) b (lone-has kind b t l) in
    (i.0.symmetry, i.0.colours, board-is kind (number_of b) ∙ i.1 ∙ one-change i.0 b _ l.1.1)

-- of a white man it is his normal board
pub normal-at : (kind : ℕ) (b : Board) → T (legal b) → LoneOf kind 0 b
    → lone_board_at kind (number_of b) ≡ changed (normal_map b) false b
normal-at kind b t l =
    board-is kind (number_of b) ∙ classes.at-number (material kind) b (lone-has kind b t (0, l)) ∙ go b.men l.1
  where
    at : List Piece → Board
    at ms = record { side = b.side; white = b.white; black = b.black; men = ms }

    go : (ms : List Piece) → ms ≡ piece_of kind 0 l.0 ∷ []
        → normalised (at ms) ≡ changed (normal_map (at ms)) false (at ms)
    go ms e = subst⁻¹ (λ (k : List Piece). normalised (at k) ≡ changed (normal_map (at k)) false (at k)) e
        (lone-normal kind b.side b.white l.0 b.black)

used-is : (kind n : ℕ) → used (lone_board_at kind n) ≡ not (unused (position_at kind n))
unfolding lone_board_at
used-is kind n = unused-exactly kind n

-- a legal board's number is in range, and legal
pub number-of-ending : (kind : ℕ) (b : Board) → T (legal b) → Lone kind b
    → (number_of b < 59136) × T (legal_number kind (number_of b))
unfolding legal_number spread
number-of-ending kind b t l =
    let s = lone-has kind b t l in
    let i = image-at kind b t l in
    let u : T (used (lone_board_at kind (number_of b))) =
    subst (λ (c : Board). T (used c)) (sym (board-is kind (number_of b)))
    (classes.number-used (material kind) b s (legal-facts b t).apart) in (
      number_lt b s,
      and_both (not (unused (position_at kind (number_of b)))) (legal (lone_board_at kind (number_of b)))
          (subst T (used-is kind (number_of b)) u) (rw (i.2, legal-changed i.0 i.1 b) t),
    )

-- the board at a legal number bears it
pub number_at : (kind n : ℕ) → n < 59136 → T (legal_number kind n) → number_of (lone_board_at kind n) ≡ n
unfolding legal_number spread
number_at kind n h t =
    let u : T (used (lone_board_at kind n)) =
    subst T (sym (used-is kind n)) (and_left (not (unused (position_at kind n))) (legal (lone_board_at kind n)) t) in
    ap number_of (board-is kind n)
    ∙ classes.used-number (material kind) n (subst (λ (c : Board). T (used c)) (board-is kind n) u)
