-- `position::later_refusal` meets its contract: each return by the tests that led there.
use mathlib.Core.Path.{◌≡◌, sym, ◌∙◌}
use Rattle.std.proofs.Common.{Bool, false, ◌<◌, ◌^◌, ℕ}
use Rattle.board.specs.Sets.{has, set_of}
use Rattle.board.proofs.laws.ReachLaws.{reaches-has, king-reaches}
use Rattle.board.specs.Reach.{reaches}
use Rattle.rules.specs.Rules.{touching}
use Rattle.position.specs.declared.Position.{Position}
use Rattle.position.specs.Keyed.{board_of}
use Rattle.position.proofs.refusals.later_refusal.Goals as goal

-- the answer about Black's king in the set of White's
touches : (p : Position) (reach : ℕ) (held : Bool) → reach ≡ set_of (reaches (has 0) 5 p.white_king) → reach < 2 ^ 64
    → held ≡ has reach p.black_king → held ≡ touching (board_of p)
unfolding touching board_of
touches p reach held is small e = e ∙ reaches-has _ _ _ _ is small ∙ king-reaches (has 0) (λ s. false) _ _

pub returns-then-bad_side : goal.returns-then-bad_side
returns-then-bad_side c = sym (rw (sym c.bad_side.ensures ∙ c.if-bad_side.true))

pub returns-then-bad_square : goal.returns-then-bad_square
returns-then-bad_square c =
    sym (rw (
      sym c.bad_side.ensures ∙ c.if-bad_side.false,
      sym c.bad_square.ensures ∙ c.if-bad_square.true,
    ))

pub returns-then-bad_pawn : goal.returns-then-bad_pawn
returns-then-bad_pawn c =
    sym (rw (
      sym c.bad_side.ensures
          ∙ c.if-bad_side.false,
      sym c.bad_square.ensures ∙ c.if-bad_square.false,
      sym c.bad_pawn.ensures ∙ c.if-bad_pawn.true,
    ))

pub returns-then-shared_square : goal.returns-then-shared_square
returns-then-shared_square c =
    sym (rw (
      sym c.bad_side.ensures ∙ c.if-bad_side.false,
      sym c.bad_square.ensures ∙ c.if-bad_square.false,
      sym c.bad_pawn.ensures ∙ c.if-bad_pawn.false,
      sym c.shared_square.ensures ∙ c.if-shared_square.true,
    ))

pub returns-then-has : goal.returns-then-has
returns-then-has c =
    sym (rw (
      sym c.bad_side.ensures ∙ c.if-bad_side.false,
      sym c.bad_square.ensures ∙ c.if-bad_square.false,
      sym c.bad_pawn.ensures ∙ c.if-bad_pawn.false,
      sym c.shared_square.ensures ∙ c.if-shared_square.false,
      sym (touches c.args.p _ _ c.targets.ensures c.targets.type_inv c.has.ensures) ∙ c.if-has.true,
    ))

pub returns : goal.returns
returns c =
    sym (rw (
      sym c.bad_side.ensures ∙ c.if-bad_side.false,
      sym c.bad_square.ensures ∙ c.if-bad_square.false,
      sym c.bad_pawn.ensures ∙ c.if-bad_pawn.false,
      sym c.shared_square.ensures ∙ c.if-shared_square.false,
      sym (touches c.args.p _ _ c.targets.ensures c.targets.type_inv c.has.ensures) ∙ c.if-has.false,
    ))
