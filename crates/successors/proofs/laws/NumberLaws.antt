-- What stands at a number: a legal position, or nothing that is one.
use Rattle.std.specs.Prelude.{◌≡◌, refl, Bool, true, false, cond, not, ◌&&◌, ℕ, ◌-◌, T, eqb, None, Option, Some}
use Rattle.std.proofs.Common.{sym, ap, subst, ◌∙◌, eq-eqb}
use Rattle.rules.specs.Rules.{Board, in_check, legal, legal_with_pawn}
use Rattle.numbering.specs.Keys.{board_at}
use Rattle.numbering.specs.Number.{used}
use Rattle.numbering.specs.Material.{known, men_of}
use Rattle.position.specs.declared.Men.{Men}
use Rattle.position.specs.declared.Place.{Place}
use Rattle.position.specs.Keyed.{board_of}
use Rattle.position.specs.Refusals.{bad_men_of, placing_with, standing_with}
use Rattle.position.specs.Posed.{posed, board_in, material_for, Complete}
use Rattle.position.proofs.laws.BothSizes.{placed-men-with}
use Rattle.position.proofs.laws.PosedLaws.{complete-pawnless}
use Rattle.position.proofs.laws.StandingWith.{legal-standing-with, pawnless-same}
use Rattle.four_men.specs.Reading.{legal_number_of}
use Rattle.four_men.proofs.laws.Numbered.{live-is}
use Rattle.successors.specs.Successors.{StandingAt}

-- a complete place is legal exactly where the side not to move is not in check
pub complete-legal : (m : Men) (q : Place) → Complete m q
    → legal (board_in m q) ≡ not (in_check (board_in m q) (1 - q.side))
complete-legal m q c =
    sym (pawnless-same (board_in m q) (complete-pawnless c))
    ∙ ap (λ (x : Bool). not x && legal_with_pawn (board_of (posed m q))) (sym bad) ∙ legal-standing-with (posed m q)
    ∙ stands
  where
    bad : bad_men_of (posed m q).first (posed m q).second ≡ false
    bad = placed-men-with (posed m q) c.placed

    go : (x : Bool) → eqb (cond x 6 0) 0 ≡ not x
    go true = refl
    go false = refl

    stands : eqb (standing_with (posed m q)) 0 ≡ not (in_check (board_in m q) (1 - q.side))
    stands = unfold standing_with posed in
        rw (eq-eqb (placing_with (posed m q)) 0 c.placed) (go (in_check (board_in m q) (1 - q.side)))

module _ (m : Men) (n : ℕ) (q : Place) (k : T (known (material_for m)))
    (at : board_in m q ≡ board_at (men_of (material_for m)) n) where
  pub found-unused : used (board_at (men_of (material_for m)) n) ≡ false → StandingAt m n None
  found-unused e =
      live-is (material_for m) k n ∙ ap (λ (x : Bool). x && legal (board_at (men_of (material_for m)) n)) e

  module _ (u : used (board_at (men_of (material_for m)) n) ≡ true) (c : Complete m q) where
    number-legal : legal_number_of (material_for m) n ≡ not (in_check (board_in m q) (1 - q.side))
    number-legal =
        live-is (material_for m) k n ∙ ap (λ (x : Bool). x && legal (board_at (men_of (material_for m)) n)) u
        ∙ ap legal (sym at) ∙ complete-legal m q c

    pub found-illegal : in_check (board_in m q) (1 - q.side) ≡ true → StandingAt m n None
    found-illegal e = number-legal ∙ ap not e

    pub found-legal : in_check (board_in m q) (1 - q.side) ≡ false → StandingAt m n (Some q)
    found-legal e = (number-legal ∙ ap not e, c, at)

-- what is found tells
pub told-legal : (m : Men) (n : ℕ) (s : Option Place) (q : Place) → s ≡ Some q → StandingAt m n s
    → StandingAt m n (Some q)
told-legal m n s q e w = subst (StandingAt m n) e w

pub told-nothing : (m : Men) (n : ℕ) (s : Option Place) → s ≡ None → StandingAt m n s
    → legal_number_of (material_for m) n ≡ false
told-nothing m n s e w = subst (StandingAt m n) e w

pub checked-other : (b : Board) (x y : ℕ) (r v : Bool) → x ≡ y → r ≡ in_check b x → r ≡ v → in_check b y ≡ v
checked-other b x y r v e h k = ap (in_check b) (sym e) ∙ sym h ∙ k
