-- What the answers are, by the tests that lead to them, and the board at a number.
use Rattle.std.specs.Prelude.{◌≡◌, Bool, true, false, not, ◌&&◌, ◌||◌, List, [], ◌∷◌, ◌++◌, ℕ, ◌+◌, ◌*◌, ◌/◌, ◌%◌, ◌<◌, ◌≤◌, T, eqb, Err, None, Ok, Option, Some}
use Rattle.std.proofs.Math.Path.{refl}
use Rattle.std.proofs.Common.{sym, ap, ◌∙◌, arith}
use borrow.Author.Tests.{le-leb, lt-leb, eq-eqb, ne_eqb}
use Rattle.finite.specs.Truth.{refuted, eqb-sym}
use Rattle.finite.specs.Members.{any}
use Rattle.rules.specs.Rules.{apart}
use Rattle.numbering.specs.Kings.{above, on_diagonal, king_rule, pair_of, kings_of}
use Rattle.numbering.specs.Keys.{key_from, key_of, leading, men_at, board_at}
use Rattle.numbering.specs.Number.{number_of, used}
use Rattle.numbering.proofs.laws.PairLaws.{KingsOf, kings-of}
use Rattle.numbering.proofs.laws.Numberable.{separate-apart, ruled-separate}
use Rattle.numbering.proofs.laws.LoneLaws.{lone-bears}
use Rattle.rules.specs.declared.Piece.{Piece}
use Rattle.position.specs.declared.Position.{Position}
use Rattle.position.specs.Keyed.{slot_men, board_of, lone}
use Rattle.position.specs.Refusals.{placing_refusal}
use Rattle.position.proofs.laws.PlacedLaws.{ending_with}
use Rattle.index.specs.Answers.{number_answer, position_at, unused, placed_at}

-- ---- numbering

-- the digits of some men and of more
key-append : (n : ℕ) (k l : List Piece) → key_from n (k ++ l) ≡ key_from (key_from n k) l
unfolding key_from
key-append n [] l = refl
key-append n (m ∷ k) l = key-append (n * 64 + m.square) k l

-- the digits slot by slot
pub by_slots : (n one two : ℕ) (f s : Option Piece) → one ≡ key_from n (slot_men f) → two ≡ key_from one (slot_men s)
    → two ≡ key_from n (slot_men f ++ slot_men s)
by_slots n one two f s g h = h ∙ ap (λ (k : ℕ). key_from k (slot_men s)) g ∙ sym (key-append n (slot_men f) (slot_men s))

-- the digits of a position and the pair of its kings are its key
pub position-key : (p n : Position) (pair key : ℕ) → n ≡ p → pair ≡ pair_of n.white_king n.black_king
    → key ≡ key_from (n.side * 462 + pair) (slot_men n.first ++ slot_men n.second) → key ≡ key_of (board_of p)
position-key p n pair key e f g =
    g
    ∙ ap (λ (q : ℕ). key_from (n.side * 462 + q) (slot_men n.first ++ slot_men n.second)) f
    ∙ key-slots n
    ∙ ap (λ (q : Position). key_of (board_of q)) e
  where
    key-slots : (q : Position)
        → key_from (q.side * 462 + pair_of q.white_king q.black_king)
        (slot_men q.first ++ slot_men q.second) ≡ key_of (board_of q)
    key-slots q = unfold key_of board_of in refl

-- a man's digit, by what is found in his slot
pub no_digit : (n : ℕ) (slot : Option Piece) → slot ≡ None → n ≡ key_from n (slot_men slot)
unfolding key_from
no_digit n slot e = sym (ap (λ (s : Option Piece). key_from n (slot_men s)) e)

pub one-digit : (n : ℕ) (slot : Option Piece) (m : Piece) → slot ≡ Some m → n * 64 + m.square ≡ key_from n (slot_men slot)
unfolding key_from
one-digit n slot m e = sym (ap (λ (s : Option Piece). key_from n (slot_men s)) e)

pub numbered_is : (p : Position) → placing_refusal p ≡ 0 → number_answer p ≡ Ok (number_of (board_of p))
unfolding number_answer
numbered_is p z = rw (eq-eqb (placing_refusal p) 0 z)

pub numbered-refused : (p : Position) → (placing_refusal p ≡ 0 → ⊥)
    → number_answer p ≡ Err (placing_refusal p)
unfolding number_answer
numbered-refused p f = rw (ne_eqb (placing_refusal p) 0 f)

-- ---- numbering back

module _ (kind n : ℕ) where
  -- it is the board with this key
  pub board-at : board_of (position_at kind n) ≡ board_at (ending_with kind) n
  unfolding board_of position_at board_at leading men_at
  board-at = refl

  pub kings-at : KingsOf (n / 64 % 462)
  kings-at = kings-of (n / 64 % 462) (omega arith)

  pub placed-above : kind < 4 → 59136 ≤ n → placed_at kind n ≡ Err 8
  unfolding placed_at
  placed-above h k = rw (lt-leb 4 kind h, le-leb 59136 n k)

  pub placed-unused : kind < 4 → n < 59136 → unused (position_at kind n) ≡ true → placed_at kind n ≡ Err 9
  unfolding placed_at
  placed-unused h k u = rw (lt-leb 4 kind h, lt-leb 59136 n k, u)

  pub placed-used : kind < 4 → n < 59136 → unused (position_at kind n) ≡ false
      → placed_at kind n ≡ Ok (position_at kind n)
  unfolding placed_at
  placed-used h k u = rw (lt-leb 4 kind h, lt-leb 59136 n k, u)

-- ---- unused exactly where 01 says

tests : (wb ws bs d : Bool) → wb ≡ false
    → ((not (wb || (ws || false)) && (not (bs || false) && (not false && true))) && not d) ≡ not (ws || (bs || d))
tests true ws bs d e = absurd (refuted e tt)
tests false true bs d e = refl
tests false false true d e = refl
tests false false false d e = refl

-- with kings by the rule, a board with one man of White's is used exactly if 01's sentence does not call it unused
pub used-is : (kind side white square black : ℕ) → T (king_rule white black) → square < 64
    → used (board_of (lone kind side white square black)) ≡ not (unused (lone kind side white square black))
unfolding used unused apart any board_of
used-is kind side white square black t h =
    rw (lone-bears kind side white square black t h)
    (tests (eqb white black) (eqb white square) (eqb black square)
    (on_diagonal white && (on_diagonal black && above square))
    (separate-apart white black (ruled-separate white black t))
    ∙ ap (λ (x : Bool). not (eqb white square || (x || (on_diagonal white && (on_diagonal black && above square)))))
    (eqb-sym black square))

pub unused-exactly : (kind n : ℕ) → used (board_of (position_at kind n)) ≡ not (unused (position_at kind n))
unfolding position_at
unused-exactly kind n = let kings = kings_of (n / 64 % 462) in
    used-is kind (n / 64 / 462) (kings / 64) (n % 64) (kings % 64) (kings-at kind n).ruled (omega arith)
