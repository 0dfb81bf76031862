-- Whether a position has a pawn, slot by slot and in a game.
use Rattle.std.specs.Prelude.{◌≡◌, refl, Bool, true, false, ◌&&◌, ◌⊎◌, ◌↔◌, ℕ, take, None, Option, Some}
use Rattle.std.proofs.Common.{ap, inl, inr}
use Rattle.std.proofs.Math.Path.{subst, subst⁻¹}
use Rattle.std.proofs.Math.Bool.{not}
use mathlib.Core.List.{List, [], ◌∷◌, ◌++◌}
use Rattle.std.proofs.Math.Dec.{T}
use Rattle.finite.specs.Truth.{and_left, and_right, and_both}
use Rattle.finite.specs.Members.{all, map-in}
use Rattle.theory.specs.Play.{LegalGame, after, at_ply}
use Rattle.theory.proofs.laws.Choice.{legal-take}
use Rattle.rules.specs.declared.Piece.{Piece}
use Rattle.rules.specs.declared.Move.{Move}
use Rattle.rules.specs.Pawn.{pawn}
use Rattle.rules.specs.Rules.{Board}
use Rattle.rules.specs.Reordered.{Few}
use Rattle.rules.proofs.laws.Legal.{legal-pawnless}
use Rattle.rules.specs.Chess.{chess, played}
use Rattle.numbering.specs.declared.Material.{Material}
use Rattle.numbering.specs.Material.{given, OfMaterial}
use Rattle.position.specs.declared.Position.{Position}
use Rattle.position.specs.Keyed.{slot_men, board_of, keyed}
use Rattle.four_men.specs.Reading.{Fewer}
use Rattle.four_men.specs.Reading as endings
use Rattle.four_men.proofs.laws.Materials.{few-of}
use Rattle.four_men.proofs.laws.PawnWithin.{lone-pawn}
use Rattle.four_men.proofs.laws.Given.{closed-for}
use Rattle.four_men.proofs.laws.Standing.{keyed-back}
use Rattle.fifty.specs.Marks.{pawnless, slot_free}
use Rattle.fifty.specs.FiftyPromise.{Pawnless}

-- ---- slot by slot

pub free-by-slots : (p : Position) → (slot_free p.first && slot_free p.second) ≡ pawnless p
unfolding board_of all
free-by-slots p = go p.first p.second
  where
    last : (x : Bool) → x ≡ (x && true)
    last true = refl
    last false = refl

    go : (f s : Option Piece) → (slot_free f && slot_free s) ≡ all (λ a. not (pawn a)) (slot_men f ++ slot_men s)
    go None None = refl
    go None (Some c) = last (not (pawn c))
    go (Some a) None = refl
    go (Some a) (Some c) = ap (λ (x : Bool). not (pawn a) && x) (last (not (pawn c)))

-- ---- a pawn and a mark

pub both_of : {W : Type 0} (f x : Bool) → T x ↔ W → T (f && x) ↔ (T f × W)
both_of f x e = (λ t. (and_left f x t, e.0 (and_right f x t)), λ v. and_both f x v.0 (e.1 v.1))

-- ---- in a game

module _ (m : Material) (w : T (given m)) where
  pub within-after : (b : Board) (ms : List Move) → endings.Within m b → LegalGame chess b ms
      → endings.Within m (after chess b ms)
  within-after b [] d g = d
  within-after b (v ∷ ms) d g =
      within-after (played b v) ms (closed-for m w b (played b v) d (map-in (played b) g.0)) g.1

  pub within-at : (b : Board) (ms : List Move) → endings.Within m b → LegalGame chess b ms → (i : ℕ)
      → endings.Within m (at_ply chess b ms i)
  within-at b ms d g i = within-after b (take i ms) d (legal-take chess i b ms g)

few-within : (m : Material) (b : Board) → OfMaterial m b ⊎ Fewer m b → Few b.men
few-within m b (inl e) = few-of m b.men e
few-within (Material.One kind) b (inr e) = subst⁻¹ Few e tt
few-within (Material.Two j k r) b (inr (inl e)) = subst⁻¹ Few e tt
few-within (Material.Two j k r) b (inr (inr (inl x))) = subst⁻¹ Few x.1.1 tt
few-within (Material.Two j k r) b (inr (inr (inr x))) = subst⁻¹ Few x.1.1 tt
few-within Material.Pawn b (inr (inl e)) = subst⁻¹ Few e tt
few-within Material.Pawn b (inr (inr x)) = subst⁻¹ Few x.2.1.1 tt

-- a board keyed has the board's men
pub keyed-pawnless : (m : Material) (b : Board) → endings.Within m b
    → pawnless (keyed b) ≡ all (λ a. not (pawn a)) b.men
keyed-pawnless m b d =
    ap (λ (c : Board). all (λ a. not (pawn a)) c.men) (keyed-back b (few-within m b d.men))

-- of an ending without a pawn there never is one
pub stays-pawnless : (m : Material) (b q : Board) → OfMaterial m b → endings.Within m q → Pawnless b → Pawnless q
stays-pawnless (Material.One kind) b q e d t = legal-pawnless q d.legality
stays-pawnless (Material.Two j k r) b q e d t = legal-pawnless q d.legality
stays-pawnless Material.Pawn b q e d t =
    absurd (unfold all in subst (λ (l : List Piece). T (all (λ a. not (pawn a)) l)) (lone-pawn b e).1.1 t)
