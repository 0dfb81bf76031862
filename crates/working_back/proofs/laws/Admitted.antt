-- What is admitted: the lengths of the tables, and the numbering over them.
use Rattle.std.specs.Prelude.{◌≡◌, refl, Bool, cond, ◌&&◌, List, ℕ, ◌<◌, ◌≤◌, T, eqb, length}
use Rattle.std.proofs.Common.{sym, subst, ◌∙◌, arith, eqb→eq}
use Rattle.std.proofs.Math.Path.{subst⁻¹}
use Rattle.std.proofs.lemmas.Bool.{lt-leb}
use Rattle.finite.specs.Truth.{and_left, and_right}
use Rattle.numbering.specs.declared.Material.{Material}
use Rattle.numbering.specs.Material.{given, one_of, large_size, size_of}
use Rattle.position.specs.declared.Men.{Men}
use Rattle.position.specs.Posed.{material_for}
use Rattle.endings.specs.Ending.{table_size}
use Rattle.four_men.specs.Lending.{lent}
use Rattle.four_men.specs.Reading.{numbered}
use Rattle.four_men.specs.Answers.{lengths_fit}
use Rattle.pawn_numbers.specs.PawnNumber.{pawn_size}
use Rattle.four_men.proofs.laws.Checking.{long_of}
use Rattle.working_back.specs.Admitted.{over, Admitted}

pub size-over : (m : Men) (first second : List ℕ) → (over m first second).size ≡ size_of (material_for m)
unfolding numbered
size-over m first second = refl

pub size-most : (m : Material) → size_of m ≤ 3784704
size-most (Material.One kind) = omega arith
size-most (Material.Two j k r) = omega arith
size-most Material.Pawn = omega arith

-- ---- what is admitted

module _ (m : Men) (first second t : List ℕ) (a : Admitted m first second t) where
  pub long : length t ≡ size_of (material_for m)
  long = long_of (material_for m) (lent first second) t a.lengths

  pub sized : length t ≡ (over m first second).size
  sized = long ∙ sym (size-over m first second)

  pub most : length t ≤ 3784704
  most = subst⁻¹ (λ (s : ℕ). s ≤ 3784704) long (size-most (material_for m))

  pub in_size : (n : ℕ) → n < length t → n < size_of (material_for m)
  in_size n h = subst (λ (s : ℕ). n < s) long h

  pub small-number : (n : ℕ) → n < length t → n < 3784704
  small-number n h = let z = most in omega arith

  -- a table of the same length
  pub admitted-kept : (u : List ℕ) → length u ≡ length t → Admitted m first second u
  admitted-kept u e = record { ending = a.ending; colour = a.colour; lengths = fits (material_for m) a.lengths }
    where
      fits : (m : Material) → T (lengths_fit m (lent first second) t) → T (lengths_fit m (lent first second) u)
      fits (Material.One kind) h = rw e h
      fits (Material.Two j k r) h = rw e h
      fits Material.Pawn h = rw e h

  -- with two men the lent tables have their lengths
  pub lent-long : m.second < 4 → (length first ≡ table_size) × (length second ≡ table_size)
  lent-long h =
      let f : T (lengths_fit (Material.Two m.first m.second (eqb m.colour 1)) (lent first second) t) =
      subst (λ (x : Bool). T (lengths_fit
      (cond x (one_of m.first) (Material.Two m.first m.second (eqb m.colour 1)))
      (lent first second) t)) (lt-leb 4 m.second h) a.lengths in
      let g = and_right (eqb (length t) large_size) (eqb (length first) table_size && eqb (length second) table_size) f in (
        eqb→eq (length first) table_size (and_left (eqb (length first) table_size) (eqb (length second) table_size) g),
        eqb→eq (length second) table_size (and_right (eqb (length first) table_size) (eqb (length second) table_size) g),
      )

  -- a pawn's run of four has its length
  pub run_long : material_for m ≡ Material.Pawn → length first ≡ 236544
  run_long e =
      let f : T (lengths_fit Material.Pawn (lent first second) t) =
      subst (λ (x : Material). T (lengths_fit x (lent first second) t)) e a.lengths in
      eqb→eq (length first) 236544 (and_right (eqb (length t) pawn_size) (eqb (length first) 236544) f)

pub admitted_of : (m : Material) (men : Men) (first second t : List ℕ) → (material_for men ≡ m) × (men.colour < 2)
    → T (given m) → T (lengths_fit m (lent first second) t) → Admitted men first second t
admitted_of m men first second t e w h = record {
  ending = subst (λ (x : Material). T (given x)) (sym e.0) w;
  colour = e.1;
  lengths = subst (λ (x : Material). T (lengths_fit x (lent first second) t)) (sym e.0) h;
}
