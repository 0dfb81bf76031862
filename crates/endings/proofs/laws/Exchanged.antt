-- With the colours exchanged, every square stays: a legal board has the same moves, in the same order and with the same marks.
use Rattle.std.specs.Prelude.{◌≡◌, Bool, false, ℕ, T}
use Rattle.std.proofs.Common.{sym, ap, ◌∙◌}
use Rattle.std.proofs.Math.Path.{ap₂, subst⁻¹}
use Rattle.std.proofs.Math.Bool.{cond}
use mathlib.Core.List.{List, [], ◌∷◌, map, flat_map}
use Rattle.finite.specs.Filter.{filter}
use Rattle.board.specs.Sets.{squares}
use Rattle.symmetry.specs.Symmetry.{mapped}
use Rattle.rules.specs.declared.Move.{Move}
use Rattle.rules.specs.Rules.{Board, legal, can_move, taking, move_of, promotion_of, promotes, moves_onto, moves_from, all_moves, moves}
use Rattle.rules.specs.Changed.{changed}
use Rattle.rules.proofs.laws.Legal.{legal-facts, legal-pawnless}
use Rattle.rules.proofs.laws.MoveLists.{none-promotes}
use Rattle.rules.proofs.laws.ChangedRules.{legal-fits, legal-changed, can_move-changed, taking-changed, bare-changed}
use Rattle.numbering.specs.KingMaps.{swapping}
use Rattle.numbering.proofs.laws.NormalLaws.{stays-diagonal}

stays : (s : ℕ) → s ≡ mapped (swapping false) s
stays s = sym (stays-diagonal false s (λ t. absurd t))

module _ (x : Bool) (b : Board) (l : T (legal b)) where
  abbrev recoloured : Board
  recoloured = changed (swapping false) x b

  same-can : can_move recoloured ≡ can_move b
  same-can = λ i from to. same from to i
    where
      same : (from to : ℕ) → can_move recoloured from to ≡ can_move b from to
      same from to =
          ap₂ (can_move recoloured) (stays from) (stays to)
          ∙ can_move-changed (swapping false) x b from to (legal-fits (swapping false) x b l) (legal-facts b l).side

  same-taking : taking recoloured ≡ taking b
  same-taking = λ i to. same to i
    where
      same : (to : ℕ) → taking recoloured to ≡ taking b to
      same to = ap (taking recoloured) (stays to) ∙ taking-changed (swapping false) x b 0 to (legal-facts b l).side

  -- without a pawn neither promotes
  same-promotes : promotes recoloured ≡ promotes b
  same-promotes = λ i from to. same from to i
    where
      there : T (legal recoloured)
      there = subst⁻¹ T (legal-changed (swapping false) x b) l

      same : (from to : ℕ) → promotes recoloured from to ≡ promotes b from to
      same from to =
          none-promotes recoloured from to (legal-pawnless recoloured there)
          ∙ sym (none-promotes b from to (legal-pawnless b l))

  same-list : all_moves recoloured ≡ all_moves b
  unfolding all_moves moves_from moves_onto
  same-list = λ i. flat_map
      (λ from. flat_map
      (λ to. cond (same-promotes i from to) (map (promotion_of from to (same-taking i to)) (1 ∷ 2 ∷ 3 ∷ 4 ∷ []))
      (move_of from to (same-taking i to) ∷ []))
      (filter (same-can i from) squares)) squares

  pub same-moves : moves recoloured ≡ moves b
  unfolding moves
  same-moves = ap₂ (λ (e : Bool) (l : List Move). cond e [] l) (bare-changed (swapping false) x b) same-list
