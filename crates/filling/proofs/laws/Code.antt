-- Laws by which filling's code is proved: a number's verdict, and the starting bytes.
use Rattle.std.specs.Prelude.{◌≡◌, refl, Bool, false, cond, List, ℕ, eqb, get_or}
use Rattle.std.proofs.Math.Path.{sym}
use Rattle.std.proofs.Common.{◌∙◌, eqb→eq, eq-eqb, ne_eqb}
use Rattle.finite.specs.Truth.{by-test, of-true}
use Rattle.finite.specs.Mapped.{map_from}
use Rattle.table_theory.specs.Tables.{settles, start_byte}
use Rattle.rules.specs.Chess.{chess}
use Rattle.numbering.specs.declared.Material.{Material}
use Rattle.position.specs.declared.Men.{Men}
use Rattle.four_men.specs.Lending.{Lent}
use Rattle.four_men.specs.Reading.{legal_number_of, numbered}
use Rattle.four_men.specs.Steps.{nothing}
use Rattle.deciding.specs.Deciding.{required_of}
use Rattle.working_back.specs.Admitted.{over}

-- ---- a number's verdict

module _ (m : Men) (first second t : List ℕ) (k n : ℕ) where
  pub verdict-settled : (get_or t n 0 ≡ 1 → ⊥) → false ≡ settles chess (over m first second) k t n
  unfolding settles
  verdict-settled h = sym (rw (ne_eqb (get_or t n 0) 1 h))

  pub verdict-required : get_or t n 0 ≡ 1 → (needs : Bool) → needs ≡ required_of m first second t k n
      → needs ≡ settles chess (over m first second) k t n
  unfolding settles numbered required_of
  verdict-required one needs e = e ∙ sym (rw (eq-eqb (get_or t n 0) 1 one))

  pub verdict-none : false ≡ required_of m first second t k n → false ≡ settles chess (over m first second) k t n
  verdict-none e =
      by-test (eqb (get_or t n 0) 1) (λ w. verdict-required (eqb→eq (get_or t n 0) 1 w) false e)
      (λ w. verdict-settled (λ z. w (of-true (eq-eqb (get_or t n 0) 1 z))))

-- ---- the starting bytes

-- as the code writes them
pub start-byte : (m : Material) (n b : ℕ) (live : Bool) → live ≡ legal_number_of m n
    → cond live 1 0 ≡ start_byte chess (numbered m nothing) n b
unfolding numbered
start-byte m n b live e = rw e

-- whatever is lent
pub start-any : (m : Material) (l : Lent) (t : List ℕ)
    → map_from (start_byte chess (numbered m nothing)) 0 t ≡ map_from (start_byte chess (numbered m l)) 0 t
unfolding numbered
start-any m l t = refl
