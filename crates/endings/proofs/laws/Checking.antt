-- Checking accepts a table exactly when it is the true one (demand 2).
use Rattle.std.specs.Prelude.{◌≡◌, refl, Bool, true, false, cond, not, ◌↔◌, List, ℕ, ◌<◌, ◌≤◌, T, leb, ltb, eqb, length, get_or, Err, Ok, Result}
use Rattle.std.proofs.Common.{sym, subst, ◌∙◌, inr}
use Rattle.std.proofs.Math.Path.{fun_ext}
use native.Mathlib.Omega.{arith}
use borrow.Author.Tests.{lt-leb, eq-eqb, le-ltb, leb-false, ltb-false, eqb-true}
use Rattle.finite.specs.Truth.{fails, refuted}
use Rattle.finite.specs.Lowest.{lowest, lowest-none, lowest-le}
use Rattle.theory.specs.Value.{TrueByte}
use Rattle.table_theory.specs.Tables.{reads, wrong_at, Accepted, True}
use Rattle.table_theory.proofs.laws.Acceptance.{accepted-true, true-accepted, true-reads, reads-inside}
use Rattle.rules.specs.declared.Piece.{Piece}
use Rattle.rules.specs.Rules.{Board, empty}
use Rattle.rules.specs.Chess.{chess}
use Rattle.position.specs.declared.Position.{Position}
use Rattle.position.specs.Keyed.{board_of, man_kind, colour_of, man_square}
use Rattle.position.specs.Refusals.{standing_refusal}
use Rattle.position.proofs.laws.Legality.{standing-facts, one-men}
use Rattle.numbering.specs.Number.{number_of}
use Rattle.answers.specs.declared.Checked.{Checked}
use Rattle.endings.specs.Ending.{Lone, Ending, table_size, lone_board_at, byte_of, ending}
use Rattle.endings.proofs.laws.EndingLaws.{has-man, live_at, lawful, outer-true}
use Rattle.endings.specs.Truth.{TrueTable}
use Rattle.endings.specs.CheckedTrue.{CheckPromise}
use Rattle.endings.specs.Answers.{check_of}

-- how a board is read
pub byte_reads : (kind : ℕ) (t : List ℕ) → byte_of t ≡ reads chess (ending kind) t
unfolding byte_of reads ending
byte_reads kind t = fun_ext (λ b. go (empty b.men) (get_or t (number_of b) 0))
  where
    go : (e : Bool) (n : ℕ) → cond e 1 n ≡ cond (not e) n 1
    go true n = refl
    go false n = refl

-- a keyed position of the ending that nothing refuses
pub keyed-lone : (kind : ℕ) (p : Position) → man_kind p ≡ kind → standing_refusal p ≡ 0 → Lone kind (board_of p)
keyed-lone kind p e z = (colour_of p, (man_square p, one-men p (standing-facts p z).0 ∙ rw e))

pub keyed-ending : (kind : ℕ) (p : Position) → man_kind p ≡ kind → standing_refusal p ≡ 0 → Ending kind (board_of p)
keyed-ending kind p e z = record { legality = (standing-facts p z).1; men = inr (keyed-lone kind p e z) }

-- the true table in the words of chess and of `numbered`
pub true-chess : (kind : ℕ) (t : List ℕ) → True chess (ending kind) t ↔ TrueTable kind t
unfolding ending lawful lone_board_at
true-chess kind t = (forth, back)
  where
    forth : True chess (ending kind) t → TrueTable kind t
    forth w = record {
      legal-true =
          λ b l m. rw (← reads-inside chess (ending kind) t b (manned b m))
          (true-reads chess (ending kind) (lawful kind) t (outer-true kind) w b (record { legality = l; men = inr m }));
      others-zero = w.others-zero;
    }
      where
        manned : (b : Board) → Lone kind b → T (not (empty b.men))
        manned b m = subst (λ (l : List Piece). T (not (empty l))) (sym m.1.1) tt

    back : TrueTable kind t → True chess (ending kind) t
    back w = record {
      legal-true = λ n h l. let a = live_at kind n h l in
          subst (λ (k : ℕ). TrueByte chess (lone_board_at kind n) (get_or t k 0)) a.2
          (w.legal-true (lone_board_at kind n) a.0.legality (has-man kind (lone_board_at kind n) a.0 a.1));
      others-zero = w.others-zero;
    }

-- ---- the checker's answer

-- the one way to be accepted
accepted-by : (a b c : Bool) (n : ℕ)
    → cond {A = (Result Checked ℕ)} a (Err 1)
    (cond (not b) (Err 7) (cond c (Ok (Checked.Wrong n)) (Ok Checked.Accepted))) ≡ Ok Checked.Accepted
    → (a ≡ false) × (b ≡ true) × (c ≡ false)
accepted-by true b c n e = let z : ◌≡◌ {A = ℕ} 0 1 = cc in absurd (omega arith)
accepted-by false false c n e = let z : ◌≡◌ {A = ℕ} 0 1 = cc in absurd (omega arith)
accepted-by false true true n e = let z : ◌≡◌ {A = ℕ} 0 1 = cc in absurd (omega arith)
accepted-by false true false n e = (refl, refl, refl)

module _ (kind : ℕ) (t : List ℕ) where
  abbrev low : ℕ
  low = lowest (wrong_at chess (ending kind) t) table_size

  none-wrong : (table_size ≤ low) ↔ Accepted chess (ending kind) t
  unfolding ending
  none-wrong = (
    λ e n h. fails (wrong_at chess (ending kind) t n)
        (λ w. omega (arith, lowest-le (wrong_at chess (ending kind) t) table_size n h w)),
    λ ok. let e = lowest-none (wrong_at chess (ending kind) t) table_size (λ n h w. refuted (ok n h) w) in omega arith,
  )

  -- the checker's answer where nothing is refused
  asked : kind < 4 → length t ≡ table_size
      → check_of kind t ≡ cond (ltb low table_size) (Ok (Checked.Wrong low)) (Ok Checked.Accepted)
  unfolding check_of
  asked h e = rw (lt-leb 4 kind h, eq-eqb (length t) table_size e)

  -- Checking accepts a table if and only if it is the true one, whoever made it.
  pub accepts-true-only : (check_of kind t ≡ Ok Checked.Accepted) ↔ ((kind < 4) × (length t ≡ table_size) × TrueTable kind t)
  unfolding check_of
  accepts-true-only = (forth, back)
    where
      forth : check_of kind t ≡ Ok Checked.Accepted → (kind < 4) × (length t ≡ table_size) × TrueTable kind t
      forth e =
          let r = accepted-by (leb 4 kind) (eqb (length t) table_size) (ltb low table_size) low e in (
            leb-false 4 kind r.0,
            eqb-true (length t) table_size r.1,
            (true-chess kind t).0
                (accepted-true chess (ending kind) (lawful kind) t (outer-true kind)
                (none-wrong.0 (ltb-false low table_size r.2))),
          )

      back : (kind < 4) × (length t ≡ table_size) × TrueTable kind t → check_of kind t ≡ Ok Checked.Accepted
      back x = asked x.0 x.1
          ∙ rw (le-ltb low table_size
          (none-wrong.1
          (true-accepted chess (ending kind) (lawful kind) t (outer-true kind) ((true-chess kind t).1 x.2))))

  pub accepted-ending : check_of kind t ≡ Ok Checked.Accepted
      → (kind < 4) × (length t ≡ table_size) × Accepted chess (ending kind) t
  unfolding check_of
  accepted-ending e = let r = accepted-by (leb 4 kind) (eqb (length t) table_size) (ltb low table_size) low e in
      (leb-false 4 kind r.0, eqb-true (length t) table_size r.1, none-wrong.0 (ltb-false low table_size r.2))

-- what checking is by its definition, it is in truth
pub check-promised : (kind : ℕ) (t : List ℕ) (r : Result Checked ℕ) → r ≡ check_of kind t → CheckPromise kind t r
check-promised kind t r e = record {
  answered = e;
  true-only = let w = accepts-true-only kind t in (λ a. w.0 (sym e ∙ a), λ x. e ∙ w.1 x);
}
