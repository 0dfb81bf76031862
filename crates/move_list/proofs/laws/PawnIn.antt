-- Where a move from a square promotes, by the two slots.
use Rattle.std.specs.Prelude.{◌≡◌, refl, Bool, true, false, ◌&&◌, ℕ, eqb, None, Option, Some}
use Rattle.std.proofs.Math.Path.{sym, ap}
use Rattle.std.proofs.Common.{ap₂, ◌∙◌}
use Rattle.std.proofs.Math.Bool.{◌||◌, or-false}
use Rattle.finite.specs.Members.{any}
use Rattle.finite.specs.Tests.{any_append}
use Rattle.board.specs.Sets.{pack, set_of}
use Rattle.rules.specs.declared.Piece.{Piece}
use Rattle.rules.specs.Pawn.{pawn, outer}
use Rattle.rules.specs.Rules.{promotes}
use Rattle.position.specs.declared.Position.{Position}
use Rattle.position.specs.Keyed.{slot_men, board_of}

abbrev pub pawn_on : ℕ → Piece → Bool
pawn_on square m = pawn m && eqb m.square square

pub pawn-absent : (slot : Option Piece) (square : ℕ) → slot ≡ None → false ≡ any (pawn_on square) (slot_men slot)
unfolding any
pawn-absent slot square e = sym (rw e)

pub pawn-present : (slot : Option Piece) (square : ℕ) (m : Piece) → slot ≡ Some m
    → (pawn m && eqb m.square square) ≡ any (pawn_on square) (slot_men slot)
unfolding any
pawn-present slot square m e = sym (rw e (or-false (pawn_on square m)))

outer-ranks : set_of outer ≡ 18374686479671623935
unfolding set_of pack
outer-ranks = refl

nothing : set_of (λ t. false) ≡ 0
unfolding set_of pack
nothing = refl

module _ (p : Position) (from : ℕ) (f s : Bool) (ef : f ≡ any (pawn_on from) (slot_men p.first))
    (es : s ≡ any (pawn_on from) (slot_men p.second)) where
  on-slots : any (pawn_on from) (board_of p).men ≡ (f || s)
  unfolding board_of
  on-slots = any_append (pawn_on from) (slot_men p.first) (slot_men p.second) ∙ sym (ap₂ ◌||◌ ef es)

  by-pawn : set_of (promotes (board_of p) from) ≡ set_of (λ t. (f || s) && outer t)
  unfolding promotes
  by-pawn = ap (λ (x : Bool). set_of (λ t. x && outer t)) on-slots

  pub set-pawn : (f || s) ≡ true → 18374686479671623935 ≡ set_of (promotes (board_of p) from)
  set-pawn h = sym (by-pawn ∙ ap (λ (x : Bool). set_of (λ t. x && outer t)) h ∙ outer-ranks)

  pub set-none : (f || s) ≡ false → 0 ≡ set_of (promotes (board_of p) from)
  set-none h = sym (by-pawn ∙ ap (λ (x : Bool). set_of (λ t. x && outer t)) h ∙ nothing)
