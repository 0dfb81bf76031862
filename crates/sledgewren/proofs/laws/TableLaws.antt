-- The answers of filling, checking and numbering back for the ending that a word is read as.
use Rattle.position.specs.declared.Position.{Position}
use Rattle.std.specs.Prelude.{◌≡◌, Bool, true, false, cond, List, ℕ, Result, Err, Option}
use Rattle.std.proofs.Common.{ap, ◌∙◌, arith}
use Rattle.numbering.specs.declared.Material.{Material}
use Rattle.numbering.specs.Material.{known}
use Rattle.index.specs.Answers.{placed_with}
use Rattle.answers.specs.declared.Checked.{Checked}
use Rattle.four_men.specs.Lending.{Lent}
use Rattle.four_men.specs.Answers.{fill_with, check_with}
use Rattle.four_men.specs.CheckedTrue.{CheckPromiseWith}
use Rattle.filling.specs.FillPromise.{FillPromiseWith, fill_back_with, FillBackPromise}
use Rattle.words.specs.Reading.{filled_read, SmallBytes, FilledFits}
use Rattle.words.proofs.laws.ReadingLaws.{filled-read}
use Rattle.words.proofs.laws.AnswersFit.{filled-fits}
use Rattle.sledgewren.specs.Words.{placed_word, filled_word, checked_word}

pub filled-by : (m n : Material) (l : Lent) (t u : List ℕ) (a : Result (Option ℕ) ℕ) (r : ℕ) → m ≡ n → FillPromiseWith m l t a u
    → r ≡ filled_word a → (r ≡ filled_word (fill_with n l t).answer) × (u ≡ (fill_with n l t).bytes)
filled-by m n l t u a r e f w = (
  w ∙ ap filled_word (f.answered ∙ ap (λ (x : Material). (fill_with x l t).answer) e),
  f.left ∙ ap (λ (x : Material). (fill_with x l t).bytes) e,
)

pub filled-back-by : (m n : Material) (l : Lent) (t u : List ℕ) (a : Result (Option ℕ) ℕ) (r : ℕ) → m ≡ n → FillBackPromise m l t a u
    → r ≡ filled_word a → (r ≡ filled_word (fill_back_with n l t).answer) × (u ≡ (fill_back_with n l t).bytes)
filled-back-by m n l t u a r e f w = (
  w ∙ ap filled_word (f.answered ∙ ap (λ (x : Material). (fill_back_with x l t).answer) e),
  f.left ∙ ap (λ (x : Material). (fill_back_with x l t).bytes) e,
)

-- the quick fill's answer is read back too
pub back-told : (m : Material) (l : Lent) (t : List ℕ) → SmallBytes l
    → filled_read (filled_word (fill_back_with m l t).answer) ≡ (fill_back_with m l t).answer
unfolding fill_back_with
back-told m l t h = filled-read _ (go (known m))
  where
    go : (x : Bool) → FilledFits (cond x (fill_with m l t) (record { answer = Err 1; bytes = t })).answer
    go true = filled-fits m l t h
    go false = (omega arith, omega arith)

pub checked-by : (m n : Material) (l : Lent) (t : List ℕ) (a : Result Checked ℕ) (r : ℕ) → m ≡ n → CheckPromiseWith m l t a
    → r ≡ checked_word a → r ≡ checked_word (check_with n l t)
checked-by m n l t a r e f w = w ∙ ap checked_word (f.answered ∙ ap (λ (x : Material). check_with x l t) e)

pub placed_by : (m e : Material) (n : ℕ) (a : Result Position ℕ) (r : ℕ) → m ≡ e → a ≡ placed_with m n → r ≡ placed_word a
    → r ≡ placed_word (placed_with e n)
placed_by m e n a r q f w = w ∙ ap placed_word (f ∙ ap (λ (x : Material). placed_with x n) q)
