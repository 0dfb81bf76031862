-- What the code's steps make of an answer at a count.
use Rattle.std.specs.Prelude.{◌≡◌, Bool, ◌&&◌, ℕ, ◌≤◌, ◌<◌, Err, Result}
use Rattle.std.proofs.Math.Path.{sym}
use Rattle.std.proofs.Common.{ap, ◌∙◌}
use Rattle.std.proofs.Math.Bool.{true, false}
use borrow.Author.Tests.{lt-ltb, le-ltb}
use Rattle.answers.specs.declared.Answer.{Answer}
use Rattle.desk_refusals.specs.declared.Refusal.{Refusal}
use Rattle.desk_refusals.proofs.laws.Numbers.{one-answer}
use Rattle.fifty.specs.declared.Marked as declared
use Rattle.fifty.specs.Marks.{Marked, marked_as, marks, is_refused, at_count, marked_for}

module _ (c : ℕ) (a : Result Answer ℕ) (r : Bool) (e : r ≡ is_refused a) where
  pub kept-refused : r ≡ true → a ≡ at_count c a
  unfolding at_count
  kept-refused t = let f : is_refused a ≡ true = sym e ∙ t in sym (rw f)

  pub refused-19 : r ≡ false → 99 < c → Err 19 ≡ at_count c a
  unfolding at_count
  refused-19 t h = let f : is_refused a ≡ false = sym e ∙ t in sym (rw (f, lt-ltb 99 c h))

  pub kept-counted : r ≡ false → c ≤ 99 → a ≡ at_count c a
  unfolding at_count
  kept-counted t h = let f : is_refused a ≡ false = sym e ∙ t in sym (rw (f, le-ltb 99 c h))

-- an answer found, brought to the count, and marked
pub marked-with : (free : Bool) (c : ℕ) (found answer : Result Answer ℕ) (mark : Bool) → answer ≡ at_count c found
    → mark ≡ marks c answer
    → ◌≡◌ {A = Marked} (record { answer = answer; within_fifty = free && mark }) (marked_for free c (at_count c found))
marked-with free c found answer mark f g =
    ap (λ (b : Bool). record { answer = answer; within_fifty = free && b }) g ∙ ap (marked_for free c) f

pub marked-found : (free is : Bool) (c : ℕ) (found looked : Result Answer ℕ) (r : Marked) → free ≡ is → found ≡ looked
    → r ≡ marked_for free c (at_count c found) → r ≡ marked_for is c (at_count c looked)
marked-found free is c found looked r f e h =
    h ∙ ap (λ (a : Result Answer ℕ). marked_for free c (at_count c a)) e
    ∙ ap (λ (x : Bool). marked_for x c (at_count c looked)) f

-- two answers at a count that are one by number, and marked alike, are one
pub one-mark : (m n : declared.Marked Refusal) → marked_as m ≡ marked_as n → m ≡ n
one-mark m n e =
    ap {B = declared.Marked Refusal} (λ (a : Result Answer Refusal). record { answer = a; within_fifty = m.within_fifty })
    (one-answer m.answer n.answer (ap (λ (x : Marked). x.answer) e))
    ∙ ap {B = declared.Marked Refusal} (λ (w : Bool). record { answer = n.answer; within_fifty = w })
    (ap (λ (x : Marked). x.within_fifty) e)
