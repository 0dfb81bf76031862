-- `retracting::legal_between` meets its contract.
use mathlib.Core.Path.{◌≡◌, refl, ap, subst, ◌∙◌}
use mathlib.Core.Bool.{Bool, ◌&&◌}
use Prim.Native.Nat.{ℕ, ◌<◌}
use lib.Bits.{bit_and}
use lib.Dec.{T}
use Rattle.finite.specs.Truth.{and_left}
use Rattle.board.specs.Reach.{reaches}
use Rattle.board.specs.Sets.{has}
use Rattle.rules.specs.Rules.{legal}
use Rattle.position.specs.Posed.{board_in}
use Rattle.retracting.specs.Retracting.{place_before}
use Rattle.retracting.proofs.laws.Code.{in_both}
use Rattle.retracting.proofs.places.legal_between.Goals as goal

pub returns : goal.returns
returns c =
    λ apart s h.
    let x = c.args in
    let a = c.targets in
    let b = c.targets-2 in
    let among : (i : ℕ) → i < 64
    → has (bit_and x.squares (bit_and a.result b.result)) i
    ≡ (has x.squares i && (reaches (has x.stood) x.kind x.at i && reaches (has x.stood) x.kind x.king i)) =
    in_both x.squares a.result b.result _ _ (reaches (has x.stood) x.kind x.at) (reaches (has x.stood) x.kind x.king) a.ensures
    b.ensures refl refl in
    c.legal_from.ensures (λ i l t. apart i l (and_left (has x.squares i) _ (subst T (among i l) t))) s h
    ∙ ap (λ (b : Bool). b && legal (board_in x.m (place_before x.q x.taken s x.to))) (among s h)
