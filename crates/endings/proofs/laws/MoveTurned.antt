-- Turning a position turns its move, but for the mirror pair where two maps fit: once for all eight maps, the colours exchanged
-- or not, every table and every position (02, P5 and P9).
use Rattle.rules.specs.declared.Move.{Move}
use Rattle.std.specs.Prelude.{◌≡◌, refl, Bool, true, false, cond, not, List, ℕ, ◌-◌, ◌%◌, T, leb, eqb, length, None, Option, Some, Err, Ok, Result}
use Rattle.std.proofs.Common.{sym, ◌∙◌}
use Rattle.std.proofs.Math.Path.{ap}
use borrow.Author.Tests.{eqb-true}
use Rattle.theory.specs.Required.{required_at}
use Rattle.theory.specs.Play.{first_suited}
use Rattle.symmetry.specs.Symmetry.{Symmetry, mapped, inverse, composed, exchange}
use Rattle.symmetry.proofs.laws.SymmetryLaws.{undone-by, undone-mirror}
use Rattle.rules.specs.Rules.{Board, legal}
use Rattle.rules.specs.Changed.{changed}
use Rattle.rules.specs.Chess.{chess}
use Rattle.numbering.specs.Number.{normal_by, normalised}
use Rattle.numbering.specs.Fits.{two_fit, mirror}
use Rattle.numbering.specs.Change.{Change, change, changed_by}
use Rattle.numbering.proofs.laws.ChangeLaws.{HasNumber, one-change}
use Rattle.numbering.proofs.laws.FitLaws.{same-normal, turn-plain, turn-mirrored}
use Rattle.position.specs.declared.Position.{Position}
use Rattle.position.specs.Keyed.{board_of, man_kind}
use Rattle.position.specs.Refusals.{standing_refusal}
use Rattle.position.specs.Maps.{changed_position}
use Rattle.position.proofs.laws.Legality.{standing-facts}
use Rattle.position.proofs.laws.PlacedLaws.{ending_with}
use Rattle.position.proofs.laws.ChangedRefusals.{change-board, standing-changed}
use Rattle.answers.specs.declared.Answer.{Answer}
use Rattle.endings.specs.Ending.{Lone, table_size, byte_of}
use Rattle.endings.specs.Answers.{advice_of, answer_of, mapped_advice, mapped_answer, chosen_by, chosen, look_up_of}
use Rattle.endings.specs.MoveTurned.{MoveTurned}
use Rattle.endings.proofs.laws.EndingLaws.{Turned}
use Rattle.endings.proofs.laws.IndexLaws.{lone-has}
use Rattle.endings.proofs.laws.Checking.{keyed-lone, keyed-ending}
use Rattle.endings.proofs.laws.Turning.{byte-turned, required-turned}

-- ---- the chosen move

-- by squares
pub advice-by : (k m n : Symmetry) (a : Option Move) → ((s : ℕ) → mapped k s ≡ mapped m (mapped n s))
    → mapped_advice k a ≡ mapped_advice m (mapped_advice n a)
advice-by k m n (Some v) h = rw (h v.from, h v.to)
advice-by k m n None h = refl

pub advice-by-three : (k m x n : Symmetry) (a : Option Move) → ((s : ℕ) → mapped k s ≡ mapped m (mapped x (mapped n s)))
    → mapped_advice k a ≡ mapped_advice m (mapped_advice x (mapped_advice n a))
advice-by-three k m x n (Some v) h = rw (h v.from, h v.to)
advice-by-three k m x n None h = refl

module _ (kind : ℕ) (t : List ℕ) (m : Symmetry) (x : Bool) (b : Board) (l : T (legal b)) (lone : Lone kind b) where
  abbrev c : Board
  c = changed m x b

  abbrev turning : Change
  turning = change false x m

  -- with one man the order does not count
  as-changed : changed_by turning b ≡ c
  as-changed = one-change turning b _ lone.1.1

  has : HasNumber (ending_with kind) b
  has = lone-has kind b l lone

  -- both boards have one normal board, and so one move there
  there : chosen (byte_of t) c
      ≡ mapped_advice (inverse (normal_by c)) (advice_of (first_suited chess (byte_of t) (normalised b)))
  unfolding chosen_by
  there =
      ap (λ (n : Board). mapped_advice (inverse (normal_by c)) (advice_of (first_suited chess (byte_of t) n)))
      (ap normalised (sym as-changed) ∙ same-normal b has turning)

  chosen_plain : (T (two_fit b) → m.swap ≡ false) → chosen (byte_of t) c ≡ mapped_advice m (chosen (byte_of t) b)
  unfolding chosen_by
  chosen_plain h =
      there
      ∙ advice-by (inverse (normal_by c)) m (inverse (normal_by b))
      (advice_of (first_suited chess (byte_of t) (normalised b)))
      (undone-by m (normal_by c) (normal_by b)
      (ap (λ (d : Board). composed m (normal_by d)) (sym as-changed) ∙ turn-plain turning b has h))

  chosen-mirrored : T (two_fit b) → m.swap ≡ true
      → chosen (byte_of t) c ≡ mapped_advice m (mapped_advice (mirror b) (chosen (byte_of t) b))
  unfolding chosen_by mirror
  chosen-mirrored w h =
      there
      ∙ advice-by-three (inverse (normal_by c)) m (mirror b) (inverse (normal_by b))
      (advice_of (first_suited chess (byte_of t) (normalised b)))
      (λ u. undone-by m (normal_by c) (composed (normal_by b) exchange)
      (ap (λ (d : Board). composed m (normal_by d)) (sym as-changed) ∙ turn-mirrored turning b has w h) u
      ∙ ap (mapped m) (undone-mirror (normal_by b) u))

-- ---- the answer

-- a change of answers that changes the move alone
pub record MovesOnly (f : Result Answer ℕ → Result Answer ℕ) (g : Option Move → Option Move) : Type 0 where
  pub refused : (n : ℕ) → f (Err n) ≡ Err n
  pub valued : (n : ℕ) (a : Option Move) → f (answer_of n a) ≡ answer_of n (g a)

pub mapped-only : (m : Symmetry) → MovesOnly (mapped_answer m) (mapped_advice m)
unfolding answer_of
mapped-only m = record { refused = λ n. refl; valued = λ n a. go n a (leb n 1) (eqb (n % 2) 1) }
  where
    go : (n : ℕ) (a : Option Move) (x y : Bool)
        → mapped_answer m (cond x (Ok (Answer.Draw a)) (cond y (Ok (Answer.Win (n - 2) a)) (Ok (Answer.Loss (n - 2) a)))) ≡ cond x
        (Ok (Answer.Draw (mapped_advice m a))) (cond y (Ok (Answer.Win (n - 2) (mapped_advice m a)))
        (Ok (Answer.Loss (n - 2) (mapped_advice m a))))
    go n a true y = refl
    go n a false true = refl
    go n a false false = refl

pub twice-only : (m k : Symmetry)
    → MovesOnly (λ a. mapped_answer m (mapped_answer k a)) (λ a. mapped_advice m (mapped_advice k a))
twice-only m k = record {
  refused = λ n. refl;
  valued = λ n a. ap (mapped_answer m) ((mapped-only k).valued n a) ∙ (mapped-only m).valued n (mapped_advice k a);
}

-- look-up's chain of tests: what stands, the table's length, the byte
abbrev chain : Bool → Bool → Bool → ℕ → Result Answer ℕ → Result Answer ℕ
chain a b c n x = cond (not a) (Err n) (cond (not b) (Err 7) (cond (not c) (Err 11) x))

module _ (f : Result Answer ℕ → Result Answer ℕ) (g : Option Move → Option Move) (only : MovesOnly f g) where
  chain-turned : (a b c d : Bool) (n : ℕ) (x y : Result Answer ℕ) → (a ≡ true → d ≡ c) → (a ≡ true → y ≡ f x)
      → chain a b d n y ≡ f (chain a b c n x)
  chain-turned false b c d n x y h k = sym (only.refused n)
  chain-turned true false c d n x y h k = sym (only.refused 7)
  chain-turned true true true d n x y h k = rw (h refl) (k refl)
  chain-turned true true false d n x y h k = rw (h refl) (sym (only.refused 11))

  module _ (t : List ℕ) (m : Symmetry) (x : Bool) (p : Position) where
    abbrev q : Position
    q = changed_position m x p

    abbrev right : Board → Bool
    right b = eqb (byte_of t b) (required_at chess (byte_of t) b)

    -- where nothing refuses the position, the turned one is its image
    turned : standing_refusal p ≡ 0 → Turned (man_kind p) (board_of p) (board_of q)
    turned z = (keyed-ending (man_kind p) p refl z, m, x, ((standing-facts p z).1, change-board m x p))

    -- the tests go with the maps; so it is enough to know what becomes of the chosen move
    answer-turned : (standing_refusal p ≡ 0 → chosen (byte_of t) (board_of q) ≡ g (chosen (byte_of t) (board_of p)))
        → look_up_of t q ≡ f (look_up_of t p)
    unfolding look_up_of
    answer-turned h =
        rw (standing-changed m x p)
        (chain-turned (eqb (standing_refusal p) 0) (eqb (length t) table_size) (right (board_of p)) (right (board_of q))
        (standing_refusal p) (answer_of (byte_of t (board_of p)) (chosen (byte_of t) (board_of p)))
        (answer_of (byte_of t (board_of q)) (chosen (byte_of t) (board_of q)))
        (λ e. let y = turned (eqb-true (standing_refusal p) 0 e) in
        rw (
          byte-turned (man_kind p) t (board_of p) (board_of q) y,
          required-turned (man_kind p) t (board_of p) (board_of q) y,
        ))
        (λ e. let z = eqb-true (standing_refusal p) 0 e in
        rw (byte-turned (man_kind p) t (board_of p) (board_of q) (turned z), h z)
        (sym (only.valued (byte_of t (board_of p)) (chosen (byte_of t) (board_of p))))))

-- The theorem, on any table and any position, refused ones too.
pub move-turned : (t : List ℕ) (m : Symmetry) (x : Bool) (p : Position) → MoveTurned t m x p
move-turned t m x p = record {
  plain = λ h. answer-turned (mapped_answer m) (mapped_advice m) (mapped-only m) t m x p
      (λ z. here ∙ chosen_plain (man_kind p) t m x (board_of p) (standing-facts p z).1 (keyed-lone (man_kind p) p refl z)
      h);
  mirrored = λ w h. answer-turned (λ a. mapped_answer m (mapped_answer (mirror (board_of p)) a))
      (λ a. mapped_advice m (mapped_advice (mirror (board_of p)) a)) (twice-only m (mirror (board_of p))) t m x p
      (λ z. here ∙ chosen-mirrored (man_kind p) t m x (board_of p) (standing-facts p z).1
      (keyed-lone (man_kind p) p refl z) w h);
}
  where
    here : chosen (byte_of t) (board_of (changed_position m x p)) ≡ chosen (byte_of t) (changed m x (board_of p))
    here = ap (chosen (byte_of t)) (change-board m x p)
