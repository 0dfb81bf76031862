-- A board has one true answer: value, depth and move are all pinned by the rules of chess.
use Rattle.std.specs.Prelude.{◌≡◌, refl, List, [], ◌∷◌, ◌++◌, ℕ, ◌-◌, Some, Ok, Result}
use Rattle.std.proofs.Common.{sym, ap, subst, ◌∙◌}
use mathlib.Core.List.Memᴰ
use Rattle.finite.specs.Members.{◌∈◌, none_in}
use Rattle.theory.specs.Value.{WonIn, LostIn, Drawn, DepthIs}
use Rattle.theory.proofs.laws.Within.{won-not-lost}
use Rattle.theory.proofs.laws.Depth.{one-depth}
use Rattle.symmetry.specs.Symmetry.{Symmetry, inverse}
use Rattle.rules.specs.declared.Move.{Move}
use Rattle.rules.specs.Rules.{Board, moves}
use Rattle.rules.specs.Changed.{mapped_move}
use Rattle.rules.proofs.laws.Changed.{move-back}
use Rattle.rules.specs.Chess.{chess, played}
use Rattle.answers.specs.declared.Answer.{Answer}
use Rattle.endings.specs.Truth.{First, ChosenBy, TrueAnswerBy}

-- ---- the first of a list is one

module _ (Sought : Move → Type 0) where
  one_split : (xs ys : List Move) (m v : Move) (r s : List Move) → xs ++ (m ∷ r) ≡ ys ++ (v ∷ s) → Sought m → Sought v
      → ((u : Move) → u ∈ xs → Sought u → ⊥) → ((u : Move) → u ∈ ys → Sought u → ⊥) → m ≡ v
  one_split [] [] m v r s e p q f g = cc
  one_split [] (y ∷ ys) m v r s e p q f g = let z : m ≡ y = cc in absurd (g y (Memᴰ.head refl) (subst Sought z p))
  one_split (x ∷ xs) [] m v r s e p q f g = let z : v ≡ x = cc in absurd (f x (Memᴰ.head refl) (subst Sought z q))
  one_split (x ∷ xs) (y ∷ ys) m v r s e p q f g = let t : xs ++ (m ∷ r) ≡ ys ++ (v ∷ s) = cc in
      one_split xs ys m v r s t p q (λ u i. f u (Memᴰ.tail i)) (λ u i. g u (Memᴰ.tail i))

  one-first : (ms : List Move) (m v : Move) → First Sought ms m → First Sought ms v → m ≡ v
  one-first ms m v f g =
      one_split f.before g.before m v f.rest g.rest (sym f.split ∙ g.split) f.sought g.sought
      f.none-earlier g.none-earlier

-- the chosen move is one, since a map loses nothing; and there is none where there is no move
one-chosen : {by : Board → Symmetry} {normal : Board → Board} (Sought : Board → Type 0) (b : Board) (m v : Move)
    → ChosenBy by normal Sought b m → ChosenBy by normal Sought b v → m ≡ v
one-chosen {by} {normal} Sought b m v f g =
    let e = one-first (λ u. Sought (played (normal b) u)) (moves (normal b)) (mapped_move (by b) m)
    (mapped_move (by b) v) f.there g.there in
    sym (move-back (by b) m) ∙ ap (mapped_move (inverse (by b))) e ∙ move-back (by b) v

no-chosen : {by : Board → Symmetry} {normal : Board → Board} (Sought : Board → Type 0) (b : Board) (m : Move)
    → ChosenBy by normal Sought b m → moves b ≡ [] → ⊥
no-chosen Sought b m f e = none_in e f.legal

-- ---- won, lost and drawn exclude one another

module _ (b : Board) where
  not-both : (n k : ℕ) → WonIn chess n b → LostIn chess k b → ⊥
  not-both n k w l = won-not-lost chess n k b w.within l.within

  won-drawn : (n : ℕ) → WonIn chess n b → Drawn chess b → ⊥
  won-drawn n w d = d.not-won n w.within

  lost-drawn : (n : ℕ) → LostIn chess n b → Drawn chess b → ⊥
  lost-drawn n l d = d.not-lost n l.within

  one-won : {by : Board → Symmetry} {normal : Board → Board} (n k : ℕ) (m v : Move) → WonIn chess n b → WonIn chess k b → ChosenBy by normal (LostIn chess (n - 1)) b m
      → ChosenBy by normal (LostIn chess (k - 1)) b v
      → ◌≡◌ {A = Result Answer ℕ} (Ok (Answer.Win n (Some m))) (Ok (Answer.Win k (Some v)))
  one-won {by} {normal} n k m v w x f g =
      let z = one-depth chess k n b (DepthIs.win x) (DepthIs.win w) in
      let h = subst (λ (j : ℕ). ChosenBy by normal (LostIn chess (j - 1)) b v) z g in
      ap (λ (u : Move). (Ok (Answer.Win n (Some u)))) (one-chosen _ b m v f h)
      ∙ ap (λ (j : ℕ). (Ok (Answer.Win j (Some v)))) (sym z)

  one-lost : {by : Board → Symmetry} {normal : Board → Board} (n k : ℕ) (m v : Move) → LostIn chess n b → LostIn chess k b → ChosenBy by normal (WonIn chess (n - 1)) b m
      → ChosenBy by normal (WonIn chess (k - 1)) b v
      → ◌≡◌ {A = Result Answer ℕ} (Ok (Answer.Loss n (Some m))) (Ok (Answer.Loss k (Some v)))
  one-lost {by} {normal} n k m v w x f g =
      let z = one-depth chess k n b (DepthIs.loss x) (DepthIs.loss w) in
      let h = subst (λ (j : ℕ). ChosenBy by normal (WonIn chess (j - 1)) b v) z g in
      ap (λ (u : Move). (Ok (Answer.Loss n (Some u)))) (one-chosen _ b m v f h)
      ∙ ap (λ (j : ℕ). (Ok (Answer.Loss j (Some v)))) (sym z)

-- a board's true answer is one
pub one_answer : {by : Board → Symmetry} {normal : Board → Board} (b : Board) (a c : Result Answer ℕ)
    → TrueAnswerBy by normal b a → TrueAnswerBy by normal b c → a ≡ c
one_answer b a c (TrueAnswerBy.won n m w f e) (TrueAnswerBy.won k v x g d) = e ∙ one-won b n k m v w x f g ∙ sym d
one_answer b a c (TrueAnswerBy.won n m w f e) (TrueAnswerBy.lost k v x g d) = absurd (not-both b n k w x)
one_answer b a c (TrueAnswerBy.won n m w f e) (TrueAnswerBy.mate x o d) = absurd (not-both b n 0 w x)
one_answer b a c (TrueAnswerBy.won n m w f e) (TrueAnswerBy.drawn v x g d) = absurd (won-drawn b n w x)
one_answer b a c (TrueAnswerBy.won n m w f e) (TrueAnswerBy.stalemate x o d) = absurd (won-drawn b n w x)
one_answer b a c (TrueAnswerBy.lost n m w f e) (TrueAnswerBy.won k v x g d) = absurd (not-both b k n x w)
one_answer b a c (TrueAnswerBy.lost n m w f e) (TrueAnswerBy.lost k v x g d) = e ∙ one-lost b n k m v w x f g ∙ sym d
one_answer b a c (TrueAnswerBy.lost n m w f e) (TrueAnswerBy.mate x o d) = absurd (no-chosen _ b m f o)
one_answer b a c (TrueAnswerBy.lost n m w f e) (TrueAnswerBy.drawn v x g d) = absurd (lost-drawn b n w x)
one_answer b a c (TrueAnswerBy.lost n m w f e) (TrueAnswerBy.stalemate x o d) = absurd (lost-drawn b n w x)
one_answer b a c (TrueAnswerBy.mate w o e) (TrueAnswerBy.won k v x g d) = absurd (not-both b k 0 x w)
one_answer b a c (TrueAnswerBy.mate w o e) (TrueAnswerBy.lost k v x g d) = absurd (no-chosen _ b v g o)
one_answer b a c (TrueAnswerBy.mate w o e) (TrueAnswerBy.mate x q d) = e ∙ sym d
one_answer b a c (TrueAnswerBy.mate w o e) (TrueAnswerBy.drawn v x g d) = absurd (lost-drawn b 0 w x)
one_answer b a c (TrueAnswerBy.mate w o e) (TrueAnswerBy.stalemate x q d) = absurd (lost-drawn b 0 w x)
one_answer b a c (TrueAnswerBy.drawn m w f e) (TrueAnswerBy.won k v x g d) = absurd (won-drawn b k x w)
one_answer b a c (TrueAnswerBy.drawn m w f e) (TrueAnswerBy.lost k v x g d) = absurd (lost-drawn b k x w)
one_answer b a c (TrueAnswerBy.drawn m w f e) (TrueAnswerBy.mate x o d) = absurd (lost-drawn b 0 x w)
one_answer b a c (TrueAnswerBy.drawn m w f e) (TrueAnswerBy.drawn v x g d) =
    e ∙ ap (λ (u : Move). (Ok (Answer.Draw (Some u)))) (one-chosen _ b m v f g) ∙ sym d
one_answer b a c (TrueAnswerBy.drawn m w f e) (TrueAnswerBy.stalemate x o d) = absurd (no-chosen _ b m f o)
one_answer b a c (TrueAnswerBy.stalemate w o e) (TrueAnswerBy.won k v x g d) = absurd (won-drawn b k x w)
one_answer b a c (TrueAnswerBy.stalemate w o e) (TrueAnswerBy.lost k v x g d) = absurd (lost-drawn b k x w)
one_answer b a c (TrueAnswerBy.stalemate w o e) (TrueAnswerBy.mate x q d) = absurd (lost-drawn b 0 x w)
one_answer b a c (TrueAnswerBy.stalemate w o e) (TrueAnswerBy.drawn v x g d) = absurd (no-chosen _ b v g o)
one_answer b a c (TrueAnswerBy.stalemate w o e) (TrueAnswerBy.stalemate x q d) = e ∙ sym d
