-- Laws by which the checker's code is proved: what stands at a number, the lowest wrong number, and the refusals before
-- it.
use Rattle.std.specs.Prelude.{◌≡◌, Bool, true, ◌⊎◌, List, ℕ, ◌+◌, ◌<◌, ◌≤◌, length, get_or, None, Option, Some, Err, Ok, Result}
use Rattle.std.proofs.Math.Path.{sym, ap, subst⁻¹}
use Rattle.std.proofs.Common.{subst, ◌∙◌, inl, inr, eq-or-lt_of_le, le_of_suc-le-suc, add-one, arith}
use Rattle.std.proofs.Math.Bool.{false, not}
use Rattle.std.proofs.Math.Dec.{T, eqb}
use borrow.Author.Tests.{lt-ltb, le-ltb}
use Rattle.finite.specs.Truth.{refuted, of-true}
use Rattle.finite.specs.Lowest.{lowest, lowest-none, lowest-is}
use Rattle.theory.specs.Required.{required_at}
use Rattle.table_theory.specs.Tables.{reads, required_byte, wrong_at}
use Rattle.rules.specs.Rules.{Board}
use Rattle.rules.specs.Chess.{chess}
use Rattle.numbering.specs.declared.Material.{Material}
use Rattle.numbering.specs.Material.{known, given, size_of}
use Rattle.index.specs.Endings.{board_for}
use Rattle.answers.specs.declared.Checked.{Checked}
use Rattle.position.specs.declared.Men.{Men}
use Rattle.position.specs.Posed.{material_for}
use Rattle.endings.specs.Answers.{check_of}
use Rattle.endings.specs.CheckedTrue.{CheckPromise}
use Rattle.endings.proofs.laws.Checking.{check-promised}
use Rattle.four_men.specs.Lending.{Lent}
use Rattle.four_men.specs.Reading.{legal_number_of, numbered}
use Rattle.four_men.specs.Answers.{lengths_fit, accepts, lent_accepted, check_with}
use Rattle.four_men.proofs.laws.Alone.{check-alone}
use Rattle.four_men.proofs.laws.Checking.{long_of}
use Rattle.position.specs.declared.Place.{Place}
use Rattle.deciding.specs.Deciding.{StandingFor}
use Rattle.deciding.specs.Rows.{RowOf}
use Rattle.checking.specs.Right.{Numbers, Ended, RightBelow, found}

-- ---- the byte required at a number

module _ (m : Material) (l : Lent) (t : List ℕ) (n c : ℕ) where
  -- nothing legal stands there
  pub zero_right : legal_number_of m n ≡ false → eqb c 0 ≡ eqb c (required_byte chess (numbered m l) t n)
  unfolding required_byte numbered
  zero_right e = sym (rw e)

  -- a legal position stands there
  pub position-right : (b : Board) (r : Bool) → b ≡ board_for m n → legal_number_of m n ≡ true
      → r ≡ eqb c (required_at chess (reads chess (numbered m l) t) b) → r ≡ eqb c (required_byte chess (numbered m l) t n)
  unfolding required_byte numbered
  position-right b r e g h =
      h ∙ ap (λ (d : Board). eqb c (required_at chess (reads chess (numbered m l) t) d)) e ∙ sym (rw g)

-- what code finds there
pub legal-there : (m : Men) (n : ℕ) (s : Option Place) (q row : Place)
    → Numbers m n × (T (known (material_for m)) → RowOf m n row)
    → (T (given (material_for m)) → (T (known (material_for m)) → RowOf m n row) → StandingFor m n s)
    → s ≡ Some q → StandingFor m n (Some q)
legal-there m n s q row h f e = subst (StandingFor m n) e (f h.0.0.ending h.1)

pub none-there : (m : Men) (n : ℕ) (s : Option Place) (row : Place)
    → Numbers m n × (T (known (material_for m)) → RowOf m n row)
    → (T (given (material_for m)) → (T (known (material_for m)) → RowOf m n row) → StandingFor m n s)
    → s ≡ None → legal_number_of (material_for m) n ≡ false
none-there m n s row h f e = subst (StandingFor m n) e (f h.0.0.ending h.1)

-- ---- the loop

pub size-most : (m : Material) → size_of m ≤ 3784704
size-most (Material.One kind) = omega arith
size-most (Material.Two first second rivals) = omega arith
size-most Material.Pawn = omega arith

module _ (m : Material) (l : Lent) (t : List ℕ) where
  right-at : (n : ℕ) → eqb (get_or t n 0) (required_byte chess (numbered m l) t n) ≡ true
      → wrong_at chess (numbered m l) t n ≡ false
  unfolding wrong_at
  right-at n e = rw e

  pub right-more : (n : ℕ) (right : Bool) → right ≡ eqb (get_or t n 0) (required_byte chess (numbered m l) t n)
      → right ≡ true → RightBelow m l t n → RightBelow m l t (n + 1)
  right-more n right e q r k h = go (eq-or-lt_of_le (le_of_suc-le-suc (subst (λ (i : ℕ). k < i) (add-one n) h)))
    where
      go : (k ≡ n) ⊎ (k < n) → wrong_at chess (numbered m l) t k ≡ false
      go (inl z) = rw z (right-at n (sym e ∙ q))
      go (inr h) = r k h

  -- a wrong byte after right ones is the lowest wrong
  pub found-wrong : (n : ℕ) (right : Bool) → n < size_of m
      → right ≡ eqb (get_or t n 0) (required_byte chess (numbered m l) t n) → right ≡ false → RightBelow m l t n
      → Ok (Checked.Wrong n) ≡ found m l t
  unfolding found
  found-wrong n right h e q r =
      let low : lowest (wrong_at chess (numbered m l) t) (size_of m) ≡ n =
      lowest-is (wrong_at chess (numbered m l) t) (size_of m) n h (λ j k x. refuted (r j k) x) (wrong n (sym e ∙ q)) in
      sym (rw (low, lt-ltb n (size_of m) h))
    where
      wrong : (n : ℕ) → eqb (get_or t n 0) (required_byte chess (numbered m l) t n) ≡ false
          → T (wrong_at chess (numbered m l) t n)
      wrong n f = unfold wrong_at in of-true (ap not f)

  pub found_right : (n : ℕ) → size_of m ≤ n → RightBelow m l t n → Ok Checked.Accepted ≡ found m l t
  unfolding found
  found_right n h r =
      let low : lowest (wrong_at chess (numbered m l) t) (size_of m) ≡ size_of m =
      lowest-none (wrong_at chess (numbered m l) t) (size_of m) (λ j k x. refuted (r j (omega arith)) x) in
      sym (rw (low, le-ltb (size_of m) (size_of m) (omega arith)))

  -- ---- the refusals before it, as the code asks them

  module _ (is : Bool) (e : is ≡ given m) where
    pub refused-ending : is ≡ false → Err 1 ≡ check_with m l t
    unfolding check_with
    refused-ending z = sym (rw (sym e ∙ z))

    module _ (g : is ≡ true) (fit : Bool) (f : fit ≡ lengths_fit m l t) where
      pub refused-lengths : fit ≡ false → Err 7 ≡ check_with m l t
      unfolding check_with
      refused-lengths z = sym (rw (sym e ∙ g, sym f ∙ z))

      module _ (long : fit ≡ true) where
        -- the men by which the table is read
        pub their-table : (n : Men) → (T (given m) → (material_for n ≡ m) × (n.colour < 2)) → Ended n (length t)
        their-table n h =
            let k : T (given m) = of-true (sym e ∙ g) in
            let w = h k in (
              record { ending = subst⁻¹ (λ (x : Material). T (given x)) w.0 k; colour = w.1 },
              long_of m l t (of-true (sym f ∙ long)) ∙ ap size_of (sym w.0),
            )

        module _ (ok : Bool) (a : ok ≡ lent_accepted m l) where
          pub refused-lent : ok ≡ false → Err 17 ≡ check_with m l t
          unfolding check_with
          refused-lent z = sym (rw (sym e ∙ g, sym f ∙ long, sym a ∙ z))

          pub found-last : ok ≡ true → (n : Men) → (T (given m) → (material_for n ≡ m) × (n.colour < 2))
              → (r : Result Checked ℕ) → r ≡ found (material_for n) l t → r ≡ check_with m l t
          unfolding check_with found
          found-last z n h r q =
              q ∙ ap (λ (x : Material). found x l t) (h (of-true (sym e ∙ g))).0
              ∙ sym (rw (sym e ∙ g, sym f ∙ long, sym a ∙ z))

-- ---- the lent tables

module _ (m : Material) (j k : ℕ) (r : Bool) (l : Lent) (e : m ≡ Material.Two j k r) (c : Result Checked ℕ)
    (h : c ≡ check_of j l.first) (a : Bool) (f : a ≡ accepts c) where
  -- the first is not accepted
  pub first-refused : a ≡ false → false ≡ lent_accepted m l
  first-refused z = sym (rw (e, ← h, ← f, z))

  -- it is, and so it lies with the second
  pub second-decides : a ≡ true → (d : Result Checked ℕ) → d ≡ check_of k l.second → (b : Bool) → b ≡ accepts d
      → b ≡ lent_accepted m l
  second-decides z d q b g = g ∙ sym (rw (e, ← h, ← f, z, ← q))

-- one man's table: it borrows none
pub one-promised : (kind : ℕ) (l : Lent) (t : List ℕ) (r : Result Checked ℕ) → r ≡ check_with (Material.One kind) l t
    → CheckPromise kind t r
one-promised kind l t r e = check-promised kind t r (e ∙ check-alone kind l t)
