-- Writing a number with its check: refusals 8 and 9 exactly in their cases and for any man alike; what is written is accepted on a line, and leads
-- back.
use Rattle.std.specs.Prelude.{◌≡◌, refl, Bool, true, false, cond, List, ℕ, ◌<◌, ◌≤◌, leb, replicate, Err, Ok, Result}
use Rattle.std.proofs.Common.{ap, sym, ◌∙◌, arith, lit<, leb-true, leb-false}
use Rattle.std.proofs.lemmas.Bool.{lt-leb}
use Rattle.check_digits.specs.Check.{with_check, digit_bytes}
use Rattle.position.specs.declared.Position.{Position}
use Rattle.index.specs.Answers.{placed_at, position_at, unused}
use Rattle.index.proofs.laws.AnswerLaws.{placed-above, placed-unused, placed-used}
use Rattle.lines.specs.Grammar.{kind_named}
use Rattle.lines.specs.Typed.{number_line}
use Rattle.lines.proofs.laws.WrittenLines.{written-line, written-request, no-space}
use Rattle.desk_refusals.specs.declared.Refusal.{Refusal}
use Rattle.desk_refusals.proofs.laws.Numbers.{some-number, one-number}
use Rattle.typed.specs.Writing.{Written, written_as, written_by, written_of, typed_line, LeadsBack}

-- ---- for the code: by what numbering back answers

pub writes_at : (n : ℕ) (p : Position) → Ok p ≡ placed_at 0 n → (bs : List ℕ) → bs ≡ digit_bytes 7 (with_check n)
    → ◌≡◌ {A = Written} (record { refusal = 0; digits = bs }) (written_of n)
unfolding written_of written_by
writes_at n p e bs d = rw (← e, d)

pub writes-refused : (n k : ℕ) → Err k ≡ placed_at 0 n
    → ◌≡◌ {A = Written} (record { refusal = k; digits = replicate 7 0 }) (written_of n)
unfolding written_of written_by
writes-refused n k e = rw (← e)

-- ---- the three cases

-- 59,136 and above is refused 8
pub writes-8 : (n : ℕ) → 59136 ≤ n → written_of n ≡ record { refusal = 8; digits = replicate 7 0 }
unfolding written_of written_by
writes-8 n h = rw (placed-above 0 n (lit< tt) h)

-- an unused number is refused 9
pub writes-9 : (n : ℕ) → n < 59136 → unused (position_at 0 n) ≡ true
    → written_of n ≡ record { refusal = 9; digits = replicate 7 0 }
unfolding written_of written_by
writes-9 n h u = rw (placed-unused 0 n (lit< tt) h u)

-- any other is written with its check
pub writes-used : (n : ℕ) → n < 59136 → unused (position_at 0 n) ≡ false
    → written_of n ≡ record { refusal = 0; digits = digit_bytes 7 (with_check n) }
unfolding written_of written_by
writes-used n h u = rw (placed-used 0 n (lit< tt) h u)

-- ---- for any man alike

either : (n : ℕ) (a u : Bool) (p q : Position)
    → written_by n (cond a (Err 8) (cond u (Err 9) (Ok p)))
    ≡ written_by n (cond a (Err 8) (cond u (Err 9) (Ok q)))
unfolding written_by
either n true u p q = refl
either n false true p q = refl
either n false false p q = refl

-- what a number is written as does not depend on the man
pub same-for-all : (kind n : ℕ) → kind < 4 → written_by n (placed_at kind n) ≡ written_of n
unfolding written_of placed_at unused position_at
same-for-all kind n h =
    rw (lt-leb 4 kind h) (either n (leb 59136 n) (unused (position_at 0 n)) (position_at kind n) (position_at 0 n))

same-unused : (kind n : ℕ) → unused (position_at kind n) ≡ unused (position_at 0 n)
unfolding unused position_at
same-unused kind n = refl

-- ---- it leads back

used-back : (letter n : ℕ) → kind_named letter < 4 → n < 59136 → unused (position_at 0 n) ≡ false
    → LeadsBack letter n (number_line letter n)
used-back letter n m h u = record {
  right = written-line letter n (omega arith) (no-space letter m);
  request = written-request letter n (omega arith) m;
  placed = placed-used (kind_named letter) n m h (same-unused (kind_named letter) n ∙ u);
}

-- a number that the writer does not refuse, on a line of any man
pub written_back : (letter n : ℕ) → kind_named letter < 4 → (written_of n).refusal ≡ 0
    → LeadsBack letter n (typed_line letter (written_of n))
written_back letter n m z = go (leb 59136 n) refl (unused (position_at 0 n)) refl
  where
    refused : (k : ℕ) → written_of n ≡ record { refusal = k; digits = replicate 7 0 } → 0 < k
        → LeadsBack letter n (typed_line letter (written_of n))
    refused k e h = absurd (omega (arith, ap (λ (w : Written). w.refusal) e))

    go : (a : Bool) → leb 59136 n ≡ a → (u : Bool) → unused (position_at 0 n) ≡ u
        → LeadsBack letter n (typed_line letter (written_of n))
    go true e u f = refused 8 (writes-8 n (leb-true 59136 n e)) (lit< tt)
    go false e true f = refused 9 (writes-9 n (leb-false 59136 n e) f) (lit< tt)
    go false e false f = rw (writes-used n (leb-false 59136 n e) f) (used-back letter n m (leb-false 59136 n e) f)

-- what two calls write is one where it is one by number
pub one-written : (r s : Result (List ℕ) Refusal) → written_as r ≡ written_as s → r ≡ s
one-written (Ok ds) (Ok es) e = ap (λ (w : Written). Ok w.digits) e
one-written (Ok ds) (Err s) e = absurd (some-number s (sym (ap (λ (w : Written). w.refusal) e)))
one-written (Err r) (Ok es) e = absurd (some-number r (ap (λ (w : Written). w.refusal) e))
one-written (Err r) (Err s) e = ap Err (one-number r s (ap (λ (w : Written). w.refusal) e))
