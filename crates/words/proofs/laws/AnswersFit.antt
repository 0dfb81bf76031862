-- The library's answers fit their words, so that each word is read back with nothing asked of the answer; only
-- look-up and filling read lent tables, whose members are bytes.
use Rattle.answers.specs.Advice.{BestMove}
use Rattle.std.specs.Prelude.{◌≡◌, Bool, cond, not, ◌&&◌, List, [], ◌∷◌, ◌++◌, ℕ, zero, suc, ◌-◌, ◌%◌, ◌^◌, ◌≤◌, ◌<◌, T, leb, length, get_or, Err, None, Ok, Some, Result, Option}
use Rattle.std.proofs.Math.Path.{refl, subst⁻¹}
use Rattle.std.proofs.Common.{sym, ap, subst, ltb→lt}
use Rattle.std.proofs.Math.Bool.{true, false}
use mathlib.Core.List.Memᴰ
use Rattle.std.proofs.Math.Option as maybe
use Rattle.std.proofs.Math.Option.{none, some}
use native.Mathlib.Omega.{arith}
use Rattle.std.proofs.Math.Dec.{eqb, ltb}
use borrow.Author.Tests.{leb-false, eqb-true, eqb-false, ltb-true}
use Rattle.finite.specs.Truth.{and_left, and_right, of-true, refuted}
use Rattle.finite.specs.Members.{◌∈◌, all, first_out, none_in}
use Rattle.finite.specs.Lowest.{lowest}
use Rattle.theory.specs.Required.{required_at}
use Rattle.theory.specs.Play.{suits, first_suited}
use Rattle.table_theory.specs.Tables.{reads, wrong_at}
use Rattle.symmetry.specs.Symmetry.{Symmetry, inverse}
use Rattle.symmetry.proofs.laws.SymmetryLaws.{mapped-on}
use Rattle.rules.specs.declared.Piece.{Piece}
use Rattle.rules.specs.declared.Move.{Move}
use Rattle.rules.specs.Rules.{Board, empty, promotes, moves}
use Rattle.rules.proofs.laws.MoveLists.{ListedMove}
use Rattle.rules.specs.Chess.{chess, played}
use Rattle.rules.proofs.laws.ChessLaws.{of-moves}
use Rattle.numbering.specs.declared.Material.{Material}
use Rattle.numbering.specs.Men.{material_of}
use Rattle.numbering.specs.Material.{given, material_in, size_of}
use Rattle.numbering.specs.Keys.{spread, men_at, board_at}
use Rattle.numbering.specs.Number.{number_of}
use Rattle.numbering.proofs.laws.ClassLaws.{number_lt}
use Rattle.pawn_numbers.specs.PawnNumber.{pawn_number, pawn_board}
use Rattle.pawn_numbers.proofs.laws.NormalPawn.{number_lt as pawn-number-lt}
use Rattle.position.specs.declared.Position.{Position}
use Rattle.position.specs.Keyed.{slot_men, board_of, man_in, man_kind, man_square, keyed}
use Rattle.position.specs.Refusals.{bad_men_of, placing_with, standing_with}
use Rattle.position.proofs.laws.BothSizes.{placed-men-with, placing-with-most, standing-with-most}
use Rattle.index.specs.Answers.{number_with, placed_with}
use Rattle.index.specs.Endings.{number_in, board_for, used_in, normal_in, map_in}
use Rattle.index.proofs.laws.EndingsLaws.{pieces-number}
use Rattle.index.proofs.laws.PawnLaws.{pawn_keyed, keyed-pawn, keyed-pieces, keyed-has, keyed-material}
use Rattle.index.proofs.laws.CompleteLaws.{PlacedOf, placed-facts-with}
use Rattle.index.proofs.laws.NormalPlaceLaws.{placed-has}
use Rattle.move_list.proofs.laws.Served.{served-moves, few-moves}
use Rattle.move_list.specs.Answers.{count_answer}
use Rattle.answers.specs.declared.Answer.{Answer}
use Rattle.answers.specs.declared.Checked.{Checked}
use Rattle.endings.specs.Ending.{byte_of}
use Rattle.endings.specs.Answers.{Fill, advice_of, mapped_advice, answer_of, chosen_by}
use Rattle.four_men.specs.Lending.{Lent, part_of, borrowed}
use Rattle.four_men.specs.Reading.{full, lent_to, part_for, lent_byte, numbered}
use Rattle.four_men.specs.Answers.{lengths_fit, lent_accepted, check_with, fill_with, look_up_with}
use Rattle.four_men.specs.Truth.{FillTrueOf, LentBytes}
use Rattle.four_men.proofs.laws.Filling.{filled-1, filled-7, filled-17, filled-true-with}
use Rattle.four_men.proofs.laws.Numbers.{used-bears-with}
use Rattle.four_men.proofs.laws.Parts.{part-byte}
use Rattle.fifty.specs.Marks.{is_refused, at_count, look_up_at_with}
use Rattle.words.specs.Words.{number_word, second_square, placed_word, count_word, filled_word, checked_word, marked_word}
use Rattle.words.specs.Reading.{number_read, seated, placed_read, count_read, filled_read, checked_read, marked_read, Byte, TableBytes, SmallBytes, RefusalFits, NumberFits, PositionFits, PlacedFits, CountFits, FilledFits, CheckedFits, AdviceFits, AnswerFits, MarkedFits}
use Rattle.words.proofs.laws.ReadingLaws.{number-read, placed-read, count-read, filled-read, checked-read, marked-read}

-- ---- a position's refusals

positive : (n : ℕ) → (n ≡ 0 → ⊥) → 1 ≤ n
positive zero f = absurd (f refl)
positive (suc n) f = omega arith

pub refusal-fits : (n most : ℕ) → eqb n 0 ≡ false → n ≤ most → most < 256 → RefusalFits n
refusal-fits n most e h k = let low = positive n (eqb-false n 0 e) in (low, omega arith)

-- ---- number, position and count

-- two slots hold at most two men: at most 4,096 numbers for each pair of kings and side to move
few-spread : (f s : Option Piece) → bad_men_of f s ≡ false → spread (material_of (slot_men f ++ slot_men s)) ≤ 4096
unfolding spread material_of
few-spread None s e = absurd (refuted e tt)
few-spread (Some a) None e = omega arith
few-spread (Some a) (Some c) e = omega arith

pieces-few : (p : Position) → placing_with p ≡ 0 → number_of (board_of p) < 2 ^ 31
unfolding board_of
pieces-few p z =
    omega (
      arith,
      number_lt (board_of p) (placed-has p (placed-facts-with p z)),
      few-spread p.first p.second (placed-men-with p z),
    )

-- of pieces by their own rule, of a pawn by his
number-few : (p : Position) → placing_with p ≡ 0 → number_in (material_in (board_of p).men) (board_of p) < 2 ^ 31
number-few p z = go (eqb (man_kind p) 4) refl
  where
    go : (x : Bool) → eqb (man_kind p) 4 ≡ x → number_in (material_in (board_of p).men) (board_of p) < 2 ^ 31
    go true e =
        let k = eqb-true (man_kind p) 4 e in
        let h : pawn_number (pawn_keyed p) < 2 ^ 31 = omega (arith, pawn-number-lt (pawn_keyed p) (keyed-has p z k)) in
        subst⁻¹ (λ (m : Material). number_in m (board_of p) < 2 ^ 31) (keyed-material p z k)
        (subst⁻¹ (λ (b : Board). pawn_number b < 2 ^ 31) (keyed-pawn p z k) h)
    go false e =
        let t = keyed-pieces p z (eqb-false (man_kind p) 4 e) in
        subst⁻¹ (λ (f : Board → ℕ). f (board_of p) < 2 ^ 31) (pieces-number (material_in (board_of p).men) t)
        (pieces-few p z)

pub number_fits : (p : Position) → NumberFits (number_with p)
unfolding number_with
number_fits p = go (eqb (placing_with p) 0) refl
  where
    go : (b : Bool) → eqb (placing_with p) 0 ≡ b
        → NumberFits
        (cond b (Ok (number_in (material_in (board_of p).men) (board_of p)))
        (Err (placing_with p)))
    go true e = number-few p (eqb-true (placing_with p) 0 e)
    go false e = refusal-fits (placing_with p) 18 e (placing-with-most p) (omega arith)

-- squares on the board, and 64 for an absent man, are bytes
abbrev on : Piece → Bool
on m = ltb m.square 64

slots-on : (f s : Option Piece) → T (all on (slot_men f ++ slot_men s)) → Byte (man_in f).square × Byte (man_in s).square
unfolding all
slots-on None None t = (omega arith, omega arith)
slots-on None (Some c) t = (omega arith, omega (arith, ltb→lt c.square 64 (and_left (on c) true t)))
slots-on (Some a) None t = (omega (arith, ltb→lt a.square 64 (and_left (on a) true t)), omega arith)
slots-on (Some a) (Some c) t = (
  omega (arith, ltb→lt a.square 64 (and_left (on a) (on c && true) t)),
  omega (arith, ltb→lt c.square 64 (and_left (on c) true (and_right (on a) (on c && true) t))),
)

placed-squares : (m : Material) (p : Position) → PlacedOf p
    → p ≡ seated m p.side p.white_king (man_square p) p.black_king (second_square p) → PositionFits m p
unfolding board_of all
placed-squares m p w e =
    let men = slot_men p.first ++ slot_men p.second in
    let a = ltb p.white_king 64 in
    let b = ltb p.black_king 64 in
    let s = slots-on p.first p.second (and_right b (all on men) (and_right a (b && all on men) w.squares)) in
    record {
      own = e;
      side = omega (arith, w.side);
      white = omega (arith, ltb→lt p.white_king 64 (and_left a (b && all on men) w.squares));
      square = s.0;
      black = omega (arith, ltb→lt p.black_king 64 (and_left b (all on men) (and_right a (b && all on men) w.squares)));
      second = s.1;
    }

-- what stands at a number has the men of its ending
own-men : (m : Material) (n : ℕ)
    → (let p = keyed (board_for m n) in
    p ≡ seated m p.side p.white_king (man_square p) p.black_king (second_square p))
unfolding board_at men_at pawn_board
own-men (Material.One kind) n = refl
own-men (Material.Two j k r) n = refl
own-men Material.Pawn n = refl

pub placed-fits : (m : Material) (n : ℕ) → PlacedFits m (placed_with m n)
unfolding placed_with
placed-fits m n = go (given m) refl (leb (size_of m) n) refl (used_in m n) refl
  where
    go : (a : Bool) → given m ≡ a → (b : Bool) → leb (size_of m) n ≡ b → (c : Bool) → used_in m n ≡ c
        → PlacedFits m
        (cond (not a) (Err 1)
        (cond b (Err 8) (cond c (Ok (keyed (board_for m n))) (Err 9))))
    go false e b f c g = (omega arith, omega arith)
    go true e true f c g = (omega arith, omega arith)
    go true e false f false g = (omega arith, omega arith)
    go true e false f true g =
        let p = keyed (board_for m n) in
        let r = used-bears-with m (of-true e) n (leb-false (size_of m) n f) (of-true g) in
        placed-squares m p (placed-facts-with p r.placed) (own-men m n)

moves-few : (p : Position) → standing_with p ≡ 0 → length (moves (board_of p)) ≤ 62
moves-few p z = let e = ap length (served-moves p z) in omega (arith, e, few-moves p)

pub count_fits : (p : Position) → CountFits (count_answer p)
unfolding count_answer
count_fits p = go (eqb (standing_with p) 0) refl
  where
    go : (b : Bool) → eqb (standing_with p) 0 ≡ b
        → CountFits (cond b (Ok (length (moves (board_of p)))) (Err (standing_with p)))
    go true e = omega (arith, moves-few p (eqb-true (standing_with p) 0 e))
    go false e = refusal-fits (standing_with p) 18 e (standing-with-most p) (omega arith)

-- ---- fill and check

-- what is lent is bytes
lent-are : (m : Material) (l : Lent) → SmallBytes l → LentBytes m l
lent-are (Material.One kind) l h t i n = absurd (none_in refl i)
lent-are (Material.Two j k r) l h t (Memᴰ.head e) n = subst (λ (u : List ℕ). get_or u n 0 < 256) (sym e) (h.0 n)
lent-are (Material.Two j k r) l h t (Memᴰ.tail (Memᴰ.head e)) n =
    subst (λ (u : List ℕ). get_or u n 0 < 256) (sym e) (h.1 n)
lent-are (Material.Two j k r) l h t (Memᴰ.tail (Memᴰ.tail i)) n = elim i [ ]
lent-are Material.Pawn l h t i n = go i
  where
    part : (kind : ℕ) → t ≡ part_of kind l.first → get_or t n 0 < 256
    part kind e = subst (λ (u : List ℕ). get_or u n 0 < 256) (sym e) (part-byte kind l.first h.0 n)

    go : t ∈ borrowed Material.Pawn l → get_or t n 0 < 256
    go (Memᴰ.head e) = part 0 e
    go (Memᴰ.tail (Memᴰ.head e)) = part 1 e
    go (Memᴰ.tail (Memᴰ.tail (Memᴰ.head e))) = part 2 e
    go (Memᴰ.tail (Memᴰ.tail (Memᴰ.tail (Memᴰ.head e)))) = part 3 e
    go (Memᴰ.tail (Memᴰ.tail (Memᴰ.tail (Memᴰ.tail i)))) = elim i [ ]

size-most : (m : Material) → size_of m ≤ 3784704
size-most (Material.One kind) = omega arith
size-most (Material.Two j k r) = omega arith
size-most Material.Pawn = omega arith

module _ (m : Material) (l : Lent) (t : List ℕ) where
  fill-true-fits : (f : Fill) → FillTrueOf m f → FilledFits f.answer
  fill-true-fits f (FillTrueOf.greatest n e w d x h) = subst FilledFits (sym e) (omega arith)
  fill-true-fits f (FillTrueOf.none-decided e w d) = subst FilledFits (sym e) tt
  fill-true-fits f (FillTrueOf.too-deep e z n h d) = subst FilledFits (sym e) (omega arith, omega arith)

  refused-so : (k : ℕ) → RefusalFits k → fill_with m l t ≡ record { answer = Err k; bytes = t }
      → FilledFits (fill_with m l t).answer
  refused-so k h e = subst (λ (f : Fill). FilledFits f.answer) (sym e) h

  pub filled-fits : SmallBytes l → FilledFits (fill_with m l t).answer
  filled-fits small = go (given m) refl (lengths_fit m l t) refl (lent_accepted m l) refl
    where
      go : (a : Bool) → given m ≡ a → (b : Bool) → lengths_fit m l t ≡ b → (c : Bool) → lent_accepted m l ≡ c
          → FilledFits (fill_with m l t).answer
      go false e b f c g = refused-so 1 (omega arith, omega arith) (filled-1 m l t e)
      go true e false f c g = refused-so 7 (omega arith, omega arith) (filled-7 m l t (of-true e) f)
      go true e true f false g = refused-so 17 (omega arith, omega arith) (filled-17 m l t (of-true e) (of-true f) g)
      go true e true f true g =
          fill-true-fits (fill_with m l t)
          (filled-true-with m l t (of-true e) (of-true f) (of-true g) (lent-are m l small))

  pub checked-fits : CheckedFits (check_with m l t)
  unfolding check_with
  checked-fits =
      go (given m) (lengths_fit m l t) (lent_accepted m l) (lowest (wrong_at chess (numbered m l) t) (size_of m))
      (ltb (lowest (wrong_at chess (numbered m l) t) (size_of m)) (size_of m)) refl
    where
      go : (a b d : Bool) (low : ℕ) (c : Bool) → ltb low (size_of m) ≡ c
          → CheckedFits
          (cond (not a) (Err 1)
          (cond (not b) (Err 7)
          (cond (not d) (Err 17) (cond c (Ok (Checked.Wrong low)) (Ok Checked.Accepted)))))
      go false b d low c e = (omega arith, omega arith)
      go true false d low c e = (omega arith, omega arith)
      go true true false low c e = (omega arith, omega arith)
      go true true true low true e = omega (arith, ltb-true low (size_of m) e, size-most m)
      go true true true low false e = tt

-- ---- look-up

-- what a listed move becomes is nothing or one of the four
becomes-few : (b : Board) (m : Move) → ListedMove b m → m.becomes < 5
becomes-few b m w = go (promotes b m.from m.to) refl
  where
    go : (x : Bool) → promotes b m.from m.to ≡ x → m.becomes < 5
    go true e = (w.named (of-true e)).1
    go false e = omega (arith, w.plain e)

-- the squares of a suited move are on the board
suited-on : (bytes : Board → ℕ) (b : Board) (m : Move) → first_suited chess bytes b ≡ some m
    → (m.from < 64) × (m.to < 64) × (m.becomes < 5)
unfolding first_suited
suited-on bytes b m e =
    let i = (first_out (λ v. suits (bytes b) (bytes (played b v))) (moves b) m e).0 in
    let w = (of-moves b m i).1 in (w.from_on, w.to-on, becomes-few b m w)

-- and stay there under a map
advice-fits : (k : Symmetry) (o : maybe.Option Move)
    → ((m : Move) → o ≡ some m → (m.from < 64) × (m.to < 64) × (m.becomes < 5))
    → AdviceFits (mapped_advice k (advice_of o))
advice-fits k none h = tt
advice-fits k (some m) h =
    let r = h m refl in (
      omega (arith, mapped-on k m.from r.0),
      omega (arith, mapped-on k m.to r.1),
      r.2,
    )

chosen-fits : (by : Board → Symmetry) (normal : Board → Board) (bytes : Board → ℕ) (b : Board)
    → AdviceFits (chosen_by by normal bytes b)
unfolding chosen_by
chosen-fits by normal bytes b =
    advice-fits (inverse (by b)) (first_suited chess bytes (normal b)) (suited-on bytes (normal b))

byte_fits : (t : List ℕ) (b : Board) → TableBytes t → Byte (byte_of t b)
unfolding byte_of
byte_fits t b h = go (empty b.men)
  where
    go : (e : Bool) → Byte (cond e 1 (get_or t (number_of b) 0))
    go true = omega arith
    go false = h (number_of b)

-- what a capture or a promotion leaves is read in a lent table
lent_fits : (m : Material) (l : Lent) (b : Board) → SmallBytes l → Byte (lent_byte m l b)
lent_fits (Material.One kind) l b h = omega arith
lent_fits (Material.Two j k r) l b h = byte_fits (lent_to j l b.men) b (go b.men)
  where
    by : (e : Bool) → TableBytes (cond e l.first l.second)
    by true = h.0
    by false = h.1

    go : (men : List Piece) → TableBytes (lent_to j l men)
    go [] = h.0
    go (a ∷ men) = by (eqb a.kind j)
lent_fits Material.Pawn l b h = byte_fits (part_for l b.men) b (go b.men)
  where
    go : (men : List Piece) → TableBytes (part_for l men)
    go [] = λ n. omega arith
    go (a ∷ men) = part-byte a.kind l.first h.0

reads_fit : (m : Material) (l : Lent) (t : List ℕ) (b : Board) → SmallBytes l → TableBytes t
    → Byte (reads chess (numbered m l) t b)
unfolding reads numbered
reads_fit m l t b h g = go (full m b.men)
  where
    go : (e : Bool) → Byte (cond e (get_or t (number_in m b) 0) (lent_byte m l b))
    go true = g (number_in m b)
    go false = lent_fits m l b h

value-fits : (n : ℕ) (a : BestMove) → Byte n → AdviceFits a → AnswerFits (answer_of n a)
unfolding answer_of
value-fits n a h k = go (leb n 1) (eqb (n % 2) 1)
  where
    go : (x y : Bool) → AnswerFits (cond x (Ok (Answer.Draw a)) (cond y (Ok (Answer.Win (n - 2) a)) (Ok (Answer.Loss (n - 2) a))))
    go true y = k
    go false true = (omega arith, k)
    go false false = (omega arith, k)

module _ (l : Lent) (t : List ℕ) (p : Position) where
  abbrev own : Material
  own = material_in (board_of p).men

  abbrev bytes : Board → ℕ
  bytes = reads chess (numbered own l) t

  abbrev advice : BestMove
  advice = chosen_by (map_in own) (normal_in own) bytes (board_of p)

  look-up-fits : SmallBytes l → TableBytes t → AnswerFits (look_up_with l t p)
  unfolding look_up_with
  look-up-fits h g =
      go (eqb (standing_with p) 0) refl (lengths_fit own l t)
      (eqb (bytes (board_of p)) (required_at chess bytes (board_of p)))
      (answer_of (bytes (board_of p)) advice)
      (value-fits (bytes (board_of p)) advice (reads_fit own l t (board_of p) h g)
      (chosen-fits (map_in own) (normal_in own) bytes (board_of p)))
    where
      go : (a : Bool) → eqb (standing_with p) 0 ≡ a → (f c : Bool) (x : Result Answer ℕ) → AnswerFits x
          → AnswerFits
          (cond (not a) (Err (standing_with p))
          (cond (not f) (Err 7) (cond (not c) (Err 11) x)))
      go false e f c x k = refusal-fits (standing_with p) 18 e (standing-with-most p) (omega arith)
      go true e false c x k = (omega arith, omega arith)
      go true e true false x k = (omega arith, omega arith)
      go true e true true x k = k

-- refusal 19 fits like the others
pub counted-fits : (l : Lent) (t : List ℕ) (c : ℕ) (p : Position) → SmallBytes l → TableBytes t
    → MarkedFits (look_up_at_with l t c p)
unfolding look_up_at_with at_count
counted-fits l t c p h g = go (is_refused (look_up_with l t p)) (ltb 99 c)
  where
    go : (a b : Bool) → AnswerFits (cond a (look_up_with l t p) (cond b (Err 19) (look_up_with l t p)))
    go true b = look-up-fits l t p h g
    go false true = (omega arith, omega arith)
    go false false = look-up-fits l t p h g

-- ---- so each of the library's words is read back

pub number-told : (p : Position) → number_read (number_word (number_with p)) ≡ number_with p
number-told p = number-read (number_with p) (number_fits p)

pub placed-told : (m : Material) (n : ℕ) → placed_read m (placed_word (placed_with m n)) ≡ placed_with m n
placed-told m n = placed-read m (placed_with m n) (placed-fits m n)

pub count-told : (p : Position) → count_read (count_word (count_answer p)) ≡ count_answer p
count-told p = count-read (count_answer p) (count_fits p)

pub filled-told : (m : Material) (l : Lent) (t : List ℕ) → SmallBytes l
    → filled_read (filled_word (fill_with m l t).answer) ≡ (fill_with m l t).answer
filled-told m l t h = filled-read (fill_with m l t).answer (filled-fits m l t h)

pub checked-told : (m : Material) (l : Lent) (t : List ℕ)
    → checked_read (checked_word (check_with m l t)) ≡ check_with m l t
checked-told m l t = checked-read (check_with m l t) (checked-fits m l t)

pub look-up-told : (l : Lent) (t : List ℕ) (c : ℕ) (p : Position) → SmallBytes l → TableBytes t
    → marked_read (marked_word (look_up_at_with l t c p)) ≡ look_up_at_with l t c p
look-up-told l t c p h g = marked-read (look_up_at_with l t c p) (counted-fits l t c p h g)
