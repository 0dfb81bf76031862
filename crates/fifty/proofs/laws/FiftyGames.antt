-- P13, with DEMAND 3 in it: every list of legal moves from any legal position of an ending, of pieces or of a pawn, in
-- which one side, either one, plays the moves that look-up gives with accepted tables, at whatever counts from 0 to 99.
-- From a marked position the winner mates before the loser may claim, whatever the replies and captures.
use Rattle.answers.specs.Advice.{BestMove}
use Rattle.std.specs.Prelude.{◌≡◌, Bool, true, false, cond, not, ◌&&◌, ◌↔◌, List, [], ◌∷◌, ℕ, ◌+◌, ◌≤◌, T, leb, ltb, length, None, Some, Err, Ok, Result}
use Rattle.std.proofs.Math.Path.{refl, ap}
use Rattle.std.proofs.Common.{sym, subst, ◌∙◌, inl, arith, leb→le, le→leb, le-ltb}
use Rattle.std.proofs.Math.Option.{Option, none}
use Rattle.finite.specs.Truth.{true_of, and_right}
use Rattle.finite.specs.Members.{all}
use Rattle.theory.specs.Value.{WonIn, LostIn, Drawn, DepthIs}
use Rattle.theory.specs.Play.{LegalGame, Follows, at_ply, Promised}
use Rattle.theory.proofs.laws.Depth.{one-depth, draw-is}
use Rattle.theory.proofs.laws.Fifty.{won-clear, lost-clear}
use Rattle.rules.specs.declared.Move.{Move}
use Rattle.symmetry.specs.Symmetry.{Symmetry}
use Rattle.rules.specs.Pawn.{pawn}
use Rattle.rules.specs.Rules.{Board, empty, legal}
use Rattle.rules.proofs.laws.Legal.{legal-pawnless}
use Rattle.rules.specs.Chess.{chess}
use Rattle.answers.specs.declared.Answer.{Answer}
use Rattle.answers.specs.declared.Checked.{Checked}
use Rattle.endings.specs.Ending.{Lone, byte_of}
use Rattle.endings.specs.Truth.{TrueAnswerBy, TrueAnswer}
use Rattle.four_men.specs.Truth.{TrueAnswerIn}
use Rattle.endings.specs.Answers.{check_of, look_up_of}
use Rattle.position.specs.Keyed.{keyed}
use Rattle.endings.specs.GamePromise.{move_of_answer, desk_move, GamePromise}
use Rattle.endings.proofs.laws.Games.{games}
use Rattle.table_theory.specs.Tables.{reads}
use Rattle.numbering.specs.declared.Material.{Material}
use Rattle.numbering.specs.Material.{OfMaterial, legal_in}
use Rattle.four_men.specs.Lending.{Lent}
use Rattle.four_men.specs.Reading.{numbered}
use Rattle.four_men.specs.Reading as endings
use Rattle.four_men.specs.Answers.{check_with, look_up_with}
use Rattle.four_men.specs.GamePromise.{table_then, looked_up, desk_move_with, GamePromiseWith}
use Rattle.four_men.proofs.laws.Materials.{lone-material}
use Rattle.four_men.proofs.laws.Turned.{known_of}
use Rattle.four_men.proofs.laws.Checking.{accepted-with}
use Rattle.four_men.proofs.laws.Games.{games-with}
use Rattle.fifty.specs.Marks.{Marked, marks, is_refused, at_count, look_up_at, look_up_at_with}
use Rattle.fifty.specs.FiftyPromise.{zeroing, answer_at, answer_at_with, move_at, counted_move, counted_move_with, PlaysBy, PlaysCounted, PlaysCountedWith, ClearBy, Pawnless, Timely, Within, CountsPromise, FiftyPromise, FiftyPromiseWith}
use Rattle.fifty.proofs.laws.Pawnless.{both_of, within-at, keyed-pawnless, stays-pawnless}

-- at a count from 0 to 99 the answer is look-up's own
at-99 : (c : ℕ) (a : Result Answer ℕ) → c ≤ 99 → at_count c a ≡ a
unfolding at_count
at-99 c a h = go (is_refused a)
  where
    go : (r : Bool) → cond r a (cond (ltb 99 c) (Err 19) a) ≡ a
    go true = refl
    go false = rw (le-ltb 99 c h)

-- ---- one answer and its mark

-- what a true answer calls a board, without its move
data Called (b : Board) (a : Result Answer ℕ) : Type 0 where
  won : (n : ℕ) (x : BestMove) → WonIn chess n b → a ≡ Ok (Answer.Win n x) → Called b a
  lost : (n : ℕ) (x : BestMove) → LostIn chess n b → a ≡ Ok (Answer.Loss n x) → Called b a
  drawn : (x : BestMove) → Drawn chess b → a ≡ Ok (Answer.Draw x) → Called b a

called-by : {by : Board → Symmetry} {normal : Board → Board} (b : Board) (a : Result Answer ℕ) → TrueAnswerBy by normal b a
    → Called b a
called-by b a (TrueAnswerBy.won n m w f e) = Called.won n (Some m) w e
called-by b a (TrueAnswerBy.lost n m w f e) = Called.lost n (Some m) w e
called-by b a (TrueAnswerBy.mate w o e) = Called.lost 0 None w e
called-by b a (TrueAnswerBy.drawn m w f e) = Called.drawn (Some m) w e
called-by b a (TrueAnswerBy.stalemate w o e) = Called.drawn None w e

-- a board of depth n is marked exactly where the count and n make at most 100
depth-within : (b : Board) (n c : ℕ) → DepthIs chess n b → T (leb (c + n) 100) ↔ Timely b c
depth-within b n c d = (
  λ t. (n, d, leb→le (c + n) 100 t),
  λ w. let e = one-depth chess w.0 n b w.1 d in le→leb (c + n) 100 (omega (arith, w.2)),
)

marks-within : (b : Board) (c : ℕ) (a : Result Answer ℕ) → Called b a → T (marks c a) ↔ Timely b c
marks-within b c a (Called.won n x w e) =
    subst (λ (z : Result Answer ℕ). T (marks c z) ↔ Timely b c) (sym e) (depth-within b n c (DepthIs.win w))
marks-within b c a (Called.lost n x w e) =
    subst (λ (z : Result Answer ℕ). T (marks c z) ↔ Timely b c) (sym e) (depth-within b n c (DepthIs.loss w))
marks-within b c a (Called.drawn x w e) =
    subst (λ (z : Result Answer ℕ). T (marks c z) ↔ Timely b c) (sym e)
    (λ t. absurd t, λ v. absurd ((draw-is chess b).0 w v.0 v.1))

module _ (reads : Board → ℕ) (pick : Board → Option Move) (side : Bool) (b : Board) (ms : List Move)
    (p : Promised chess reads pick side b ms) (c : ℕ) where
  clear-by : (a : Result Answer ℕ) → Called b a → T (marks c a) → ClearBy a side b ms c
  clear-by a (Called.won n x w e) t =
      let h = leb→le (c + n) 100 (subst (λ (z : Result Answer ℕ). T (marks c z)) e t) in
      subst (λ (z : Result Answer ℕ). ClearBy z side b ms c) (sym e)
      (λ f. won-clear chess zeroing reads pick side b ms p n c h w f)
  clear-by a (Called.lost n x w e) t =
      let h = leb→le (c + n) 100 (subst (λ (z : Result Answer ℕ). T (marks c z)) e t) in
      subst (λ (z : Result Answer ℕ). ClearBy z side b ms c) (sym e)
      (λ f. lost-clear chess zeroing reads pick side b ms p n c h w f)
  clear-by a (Called.drawn x w e) t = absurd (subst (λ (z : Result Answer ℕ). T (marks c z)) e t)

-- ---- the answers at any counts, from what look-up answers without one

module _ (looked : Board → Result Answer ℕ) (answer : Board → ℕ → Marked)
    (is : (b : Board) (c : ℕ) → (answer b c).answer ≡ at_count c (looked b)) where
  -- the answer at a count from 0 to 99, and its move, are look-up's own
  same_answer : (b : Board) (c : ℕ) → c ≤ 99 → (answer b c).answer ≡ looked b
  same_answer b c h = is b c ∙ at-99 c (looked b) h

  abbrev own : Board → Option Move
  own b = cond (empty b.men) none (move_of_answer (looked b))

  same_move : (b : Board) (c : ℕ) → c ≤ 99 → move_at answer c b ≡ own b
  same_move b c h = ap (λ (a : Result Answer ℕ). cond (empty b.men) none (move_of_answer a)) (same_answer b c h)

  module _ (pick : Board → Option Move) (by : ℕ → Board → Option Move)
      (counted : (b : Board) (c : ℕ) → c ≤ 99 → by c b ≡ pick b) where
    plays-own : (side : Bool) (b : Board) (ms : List Move) → PlaysBy by side b ms → Follows chess pick side b ms
    plays-own side b [] f = tt
    plays-own side b (m ∷ ms) f = (
      λ e. let g = f.0 e in sym (counted b g.0 g.1) ∙ g.2,
      plays-own side (chess.play b m) ms f.1,
    )

  -- from the promise of the game
  module _ (Truly : Board → Result Answer ℕ → Type 0) (tells : (b : Board) (a : Result Answer ℕ) → Truly b a → Called b a)
      (reads : Board → ℕ) (pick : Board → Option Move) (side : Bool) (b : Board) (ms : List Move)
      (called : Truly b (looked b))
      (answers : (i : ℕ) → i ≤ length ms → empty (at_ply chess b ms i).men ≡ false
      → Truly (at_ply chess b ms i) (looked (at_ply chess b ms i)))
      (p : Promised chess reads pick side b ms)
      (marking : (i : ℕ) (c : ℕ) → (answer (at_ply chess b ms i) c).within_fifty
      ≡ (all (λ a. not (pawn a)) (at_ply chess b ms i).men && marks c (answer (at_ply chess b ms i) c).answer))
      (free : Pawnless b → (i : ℕ) → Pawnless (at_ply chess b ms i)) where
    same-mark : (i : ℕ) (c : ℕ) → c ≤ 99 → (answer (at_ply chess b ms i) c).within_fifty
        ≡ (all (λ a. not (pawn a)) (at_ply chess b ms i).men && marks c (looked (at_ply chess b ms i)))
    same-mark i c h =
        marking i c
        ∙ ap (λ (a : Result Answer ℕ). all (λ x. not (pawn x)) (at_ply chess b ms i).men && marks c a)
        (same_answer (at_ply chess b ms i) c h)

    at-counts : CountsPromise Truly answer side b ms
    at-counts = record {
      called = λ c k. subst (Truly b) (sym (same_answer b c k)) called;
      answers = λ i h n c k. subst (Truly (at_ply chess b ms i)) (sym (same_answer (at_ply chess b ms i) c k))
          (answers i h n);
      marked = λ i h n c k. let q = at_ply chess b ms i in
          subst (λ (x : Bool). T x ↔ Within q c) (sym (same-mark i c k))
          (both_of (all (λ a. not (pawn a)) q.men) (marks c (looked q))
          (marks-within q c (looked q) (tells q _ (answers i h n))));
      pawnless = λ f i h. free f i;
      clear = λ c k x. subst (λ (a : Result Answer ℕ). ClearBy a side b ms c) (sym (same_answer b c k))
          (clear-by reads pick side b ms p c (looked b) (tells b _ called)
          (and_right (all (λ a. not (pawn a)) b.men) (marks c (looked b)) (subst T (same-mark 0 c k) x)));
    }

-- ---- the game with one man

abbrev looked-one : List ℕ → Board → Result Answer ℕ
looked-one t b = look_up_of t (keyed b)

is_one : (t : List ℕ) (b : Board) (c : ℕ) → (answer_at t b c).answer ≡ at_count c (looked-one t b)
unfolding look_up_at
is_one t b c = refl

-- a piece is no pawn
marking-one : (t : List ℕ) (b : Board) (c : ℕ) → T (legal b) → (answer_at t b c).within_fifty
    ≡ (all (λ a. not (pawn a)) b.men && marks c (answer_at t b c).answer)
unfolding look_up_at
marking-one t b c g =
    sym (ap (λ (x : Bool). x && marks c (at_count c (looked-one t b)))
    (true_of {b = all (λ a. not (pawn a)) b.men} (legal-pawnless b g)))

pub counted-desk : (t : List ℕ) (b : Board) (c : ℕ) → c ≤ 99 → counted_move t c b ≡ desk_move t b
unfolding counted_move desk_move
counted-desk t b c h = same_move (looked-one t) (answer_at t) (is_one t) b c h

-- The table is accepted for the ending; b is a legal board of it; ms is a game from b; the side plays the desk's moves
-- in it, at any counts.
pub fifty-games : (kind : ℕ) (t : List ℕ) → check_of kind t ≡ Ok Checked.Accepted → (b : Board) → T (legal b) → Lone kind b
    → (side : Bool) (ms : List Move) → LegalGame chess b ms → PlaysCounted t side b ms → FiftyPromise t side b ms
fifty-games kind t ok b l m side ms game plays = record {
  game = g;
  counts = at-counts (looked-one t) (answer_at t) (is_one t) TrueAnswer (λ b a x. called-by b a x) (byte_of t)
      (desk_move t) side b ms g.called g.answers g.promised
      (λ i c. marking-one t (at_ply chess b ms i) c (stands i))
      (λ f i. legal-pawnless (at_ply chess b ms i) (stands i));
}
  where
    g : GamePromise t side b ms
    g = games kind t ok b l m side ms game
        (plays-own (looked-one t) (answer_at t) (is_one t) (desk_move t) (counted_move t) (counted-desk t) side b ms plays)

    stands : (i : ℕ) → T (legal (at_ply chess b ms i))
    stands i =
        (within-at (Material.One kind) (known_of (Material.One kind) b l (lone-material kind b m)) b ms
        (record { legality = l; men = inl (lone-material kind b m) }) game i).legality

-- ---- of every ending, through captures and promotions until bare kings

module _ (m : Material) (l : Lent) (t : List ℕ) where
  is-with : (b : Board) (c : ℕ) → (answer_at_with m l t b c).answer ≡ at_count c (looked_up m l t b)
  unfolding look_up_at_with looked_up
  is-with b c = refl

  -- a mark "never .. with a pawn"
  marking-with : (b : Board) (c : ℕ) → endings.Within m b → (answer_at_with m l t b c).within_fifty
      ≡ (all (λ a. not (pawn a)) b.men && marks c (answer_at_with m l t b c).answer)
  unfolding look_up_at_with
  marking-with b c d =
      ap (λ (x : Bool). x && marks c (at_count c (look_up_with l (table_then m l t b.men) (keyed b)))) (keyed-pawnless m b d)

  pub counted-desk-with : (b : Board) (c : ℕ) → c ≤ 99 → counted_move_with m l t c b ≡ desk_move_with m l t b
  unfolding counted_move_with desk_move_with
  counted-desk-with b c h = same_move (looked_up m l t) (answer_at_with m l t) is-with b c h

  -- The tables are accepted; b is a legal board of the ending; ms is a game from b; the side plays the desk's moves in
  -- it, at any counts.
  pub fifty-games-with : check_with m l t ≡ Ok Checked.Accepted → (b : Board) → T (legal_in m b) → OfMaterial m b
      → (side : Bool) (ms : List Move) → LegalGame chess b ms → PlaysCountedWith m l t side b ms
      → FiftyPromiseWith m l t side b ms
  fifty-games-with ok b g e side ms game plays = record {
    game = whole;
    counts = at-counts (looked_up m l t) (answer_at_with m l t) is-with TrueAnswerIn (λ b a x. called-by b a x)
        (reads chess (numbered m l) t) (desk_move_with m l t) side b ms whole.called whole.answers
        whole.promised (λ i c. marking-with (at_ply chess b ms i) c (here i))
        (λ f i. stays-pawnless m b (at_ply chess b ms i) e (here i) f);
  }
    where
      whole : GamePromiseWith m l t side b ms
      whole = games-with m l t ok b g e side ms game
          (plays-own (looked_up m l t) (answer_at_with m l t) is-with (desk_move_with m l t) (counted_move_with m l t)
          counted-desk-with side b ms plays)

      here : (i : ℕ) → endings.Within m (at_ply chess b ms i)
      here i = within-at m (accepted-with m l t ok).0 b ms (record { legality = g; men = inl e }) game i
