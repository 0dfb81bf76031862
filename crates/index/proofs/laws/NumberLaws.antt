-- Demand 2's sameness: positions of one ending have one number exactly if a change makes one into the other; and the
-- number as code finds it.
use Rattle.std.specs.Prelude.{◌≡◌, ◌↔◌, false, ℕ, ◌<◌, Ok}
use Rattle.std.proofs.Math.Path.{ap, subst⁻¹, sym}
use Rattle.std.proofs.Common.{subst, ◌∙◌}
use Rattle.numbering.specs.Normal.{normal_map}
use Rattle.numbering.specs.KingMaps.{swapping}
use Rattle.numbering.specs.Keys.{key_of, spread}
use Rattle.numbering.specs.Change.{change, changed_by}
use Rattle.numbering.specs.Number.{number_of}
use Rattle.numbering.proofs.laws.ChangeLaws.{HasNumber, one-change}
use Rattle.numbering.proofs.laws.ClassLaws as classes
use Rattle.numbering.proofs.laws.ClassLaws.{number_lt, number-along}
use Rattle.numbering.proofs.laws.LoneLaws.{lone-normal}
use Rattle.position.specs.declared.Position.{Position}
use Rattle.position.specs.Keyed.{board_of, lone, man_kind, man_square}
use Rattle.position.specs.Refusals.{placing_refusal}
use Rattle.position.specs.Maps.{normal_position}
use Rattle.position.specs.Owned.{black_owns, white_owned}
use Rattle.position.proofs.laws.Legality.{one-men}
use Rattle.position.proofs.laws.MapLaws.{map-board}
use Rattle.position.proofs.laws.OwnerLaws.{owned-board, owned-lone}
use Rattle.position.proofs.laws.PlacedLaws.{placed-facts, ending_with, placed-has, placed-colour}
use Rattle.index.specs.Answers.{number_answer}
use Rattle.index.proofs.laws.AnswerLaws.{numbered_is}
use Rattle.index.specs.NumberLaws.{SameClass}

-- the board of a placed position has a number
pub board-has : (p : Position) → placing_refusal p ≡ 0 → HasNumber (ending_with (man_kind p)) (board_of p)
board-has p z = placed-has p (placed-facts p z)

-- ---- the number

-- all numbers of one ending are below 59,136
pub number-below : (p : Position) → placing_refusal p ≡ 0 → number_of (board_of p) < 59136
unfolding spread
number-below p z = number_lt (board_of p) (board-has p z)

pub same_class : (p q : Position) → placing_refusal p ≡ 0 → SameClass p q → number_of (board_of q) ≡ number_of (board_of p)
same_class p q z s = ap number_of s.1 ∙ number-along s.0 (board_of p) (board-has p z)

pub same_number : (p q : Position) → placing_refusal p ≡ 0 → placing_refusal q ≡ 0 → man_kind p ≡ man_kind q
    → (number_answer p ≡ number_answer q) ↔ SameClass p q
same_number p q y z m = (there, here)
  where
    there : number_answer p ≡ number_answer q → SameClass p q
    there e =
        let n : number_of (board_of p) ≡ number_of (board_of q) = cc (sym (numbered_is p y) ∙ e ∙ numbered_is q z) in
        let h = subst (λ (k : ℕ). HasNumber (ending_with k) (board_of p)) m (board-has p y) in
        let c = (classes.same_number (board_of p) (board_of q) h (board-has q z)).0 n in
        (c.0, sym c.1)

    here : SameClass p q → number_answer p ≡ number_answer q
    here s = numbered_is p y ∙ ap Ok (sym (same_class p q y s)) ∙ sym (numbered_is q z)

-- ---- as code finds it: the key of the normal position with the man White's

module _ (p : Position) (z : placing_refusal p ≡ 0) where
  owned-class : board_of (white_owned p) ≡ changed_by (change false (black_owns p) (swapping false)) (board_of p)
  owned-class =
      owned-board p
      ∙ sym (one-change (change false (black_owns p) (swapping false)) (board_of p) _ (one-men p (placed-facts p z).men))

  lone-key : key_of (board_of (normal_position (white_owned p))) ≡ number_of (board_of (white_owned p))
  lone-key =
      subst⁻¹ (λ (q : Position). key_of (board_of (normal_position q)) ≡ number_of (board_of q))
      (owned-lone p (placed-facts p z).men (placed-colour p (placed-facts p z)))
      (by_map (man_kind p) (white_owned p).side (white_owned p).white_king (man_square p) (white_owned p).black_king)
    where
      by_map : (kind side white square black : ℕ)
          → key_of (board_of (normal_position (lone kind side white square black)))
          ≡ number_of (board_of (lone kind side white square black))
      by_map kind side white square black =
          unfold number_of normal_position board_of in
          ap key_of (map-board (normal_map (board_of (lone kind side white square black)))
          (lone kind side white square black) ∙ sym (lone-normal kind side white square black))

  pub owned-number : key_of (board_of (normal_position (white_owned p))) ≡ number_of (board_of p)
  owned-number = lone-key ∙ ap number_of owned-class
      ∙ number-along (change false (black_owns p) (swapping false)) (board_of p) (board-has p z)
