-- What is read after a promotion, in an accepted part of the lent run, is true, and a depth read there is one that the
-- part holds.
use Rattle.std.specs.Prelude.{◌≡◌, refl, Bool, List, [], ◌∷◌, ℕ, zero, suc, ◌+◌, ◌<◌, T, get_or, Ok}
use Rattle.std.proofs.Common.{sym, ◌∙◌, arith}
use Rattle.std.proofs.Math.Path.{subst⁻¹}
use Rattle.std.proofs.Math.Bool.{true, false, cond}
use mathlib.Core.List.Memᴰ
use Rattle.finite.specs.Members.{◌∈◌, all-out}
use Rattle.theory.specs.Value.{DepthIs, TrueByte}
use Rattle.theory.proofs.laws.Consistency.{consistent-true}
use Rattle.theory.proofs.laws.TrueBytes.{byte-is}
use Rattle.table_theory.specs.Tables.{OuterTrue}
use Rattle.rules.specs.Rules.{Board, empty}
use Rattle.rules.specs.Chess.{chess}
use Rattle.numbering.specs.Number.{number_of}
use Rattle.numbering.specs.declared.Material.{Material}
use Rattle.answers.specs.declared.Checked.{Checked}
use Rattle.endings.specs.Ending.{Ending, byte_of}
use Rattle.endings.specs.Answers.{check_of}
use Rattle.endings.proofs.laws.EndingDrawn.{ending-closed}
use Rattle.endings.proofs.laws.LookingUp.{accepted-bytes}
use Rattle.four_men.specs.Lending.{Lent, part_of, borrowed}
use Rattle.four_men.specs.Reading.{Fewer, Within, full, lent_byte, numbered, holds_depth}
use Rattle.four_men.specs.Answers.{accepts, lent_accepted}
use Rattle.four_men.proofs.laws.Lent.{accepted-is, lent-depth}
use Rattle.four_men.proofs.laws.Captures.{fewer-of}
use Rattle.four_men.proofs.laws.PawnWithin.{lower-pawn}
use Rattle.four_men.proofs.laws.PawnLawful.{part-byte, lawful-pawn}

below-four : (kind : ℕ) → kind < 4 → kind ∈ 0 ∷ 1 ∷ 2 ∷ 3 ∷ []
below-four zero h = Memᴰ.head refl
below-four (suc zero) h = Memᴰ.tail (Memᴰ.head refl)
below-four (suc (suc zero)) h = Memᴰ.tail (Memᴰ.tail (Memᴰ.head refl))
below-four (suc (suc (suc zero))) h = Memᴰ.tail (Memᴰ.tail (Memᴰ.tail (Memᴰ.head refl)))
below-four (suc (suc (suc (suc n)))) h = absurd (omega arith)

part-lent : (l : Lent) (kind : ℕ) → kind < 4 → part_of kind l.first ∈ borrowed Material.Pawn l
part-lent l zero h = Memᴰ.head refl
part-lent l (suc zero) h = Memᴰ.tail (Memᴰ.head refl)
part-lent l (suc (suc zero)) h = Memᴰ.tail (Memᴰ.tail (Memᴰ.head refl))
part-lent l (suc (suc (suc zero))) h = Memᴰ.tail (Memᴰ.tail (Memᴰ.tail (Memᴰ.head refl)))
part-lent l (suc (suc (suc (suc n)))) h = absurd (omega arith)

module _ (l : Lent) (ok : T (lent_accepted Material.Pawn l)) where
  -- each kind's part is accepted for it
  pub part-accepted : (kind : ℕ) → kind < 4 → check_of kind (part_of kind l.first) ≡ Ok Checked.Accepted
  part-accepted kind h =
      accepted-is (check_of kind (part_of kind l.first))
      (all-out (λ k. accepts (check_of k (part_of k l.first))) (below-four kind h) ok)

  pub part-true : (kind : ℕ) (b : Board) → kind < 4 → Ending kind b → TrueByte chess b (lent_byte Material.Pawn l b)
  part-true kind b h d =
      subst⁻¹ (TrueByte chess b) (part-byte l kind b d)
      (consistent-true chess (Ending kind) (ending-closed kind) (byte_of (part_of kind l.first))
      (accepted-bytes kind (part_of kind l.first) (part-accepted kind h)) b d)

  pub fewer-true-pawn : (b : Board) → Within Material.Pawn b → Fewer Material.Pawn b
      → TrueByte chess b (lent_byte Material.Pawn l b)
  fewer-true-pawn b d f = let x = lower-pawn b d.legality f in part-true x.0 b x.1 x.2

  -- what is read elsewhere is true
  pub outer-true-pawn : OuterTrue chess (numbered Material.Pawn l) (lawful-pawn l)
  unfolding numbered lawful-pawn
  outer-true-pawn b d e = fewer-true-pawn b d (fewer-of Material.Pawn b d e)

  -- a position that is read elsewhere has a depth that a part holds
  pub fewer-held-pawn : (b : Board) → Within Material.Pawn b → Fewer Material.Pawn b → (n : ℕ) → DepthIs chess n b
      → T (holds_depth (borrowed Material.Pawn l) n)
  fewer-held-pawn b d f n h =
      let x = lower-pawn b d.legality f in
      let t = part_of x.0 l.first in
      let v = read t (sym (part-byte l x.0 b x.2)
      ∙ (byte-is chess b (lent_byte Material.Pawn l b) n (part-true x.0 b x.1 x.2)).1 h) in
      lent-depth (borrowed Material.Pawn l) t v.0 n (part-lent l x.0 x.1) v.1
    where
      read : (t : List ℕ) → byte_of t b ≡ 2 + n → (i : ℕ) × (get_or t i 0 ≡ 2 + n)
      read t g = unfold byte_of in by (empty b.men) g
        where
          by : (x : Bool) → cond x 1 (get_or t (number_of b) 0) ≡ 2 + n → (i : ℕ) × (get_or t i 0 ≡ 2 + n)
          by true g = absurd (omega arith)
          by false g = (number_of b, g)

  pub held-pawn : (b : Board) → Within Material.Pawn b → full Material.Pawn b.men ≡ false → (n : ℕ)
      → DepthIs chess n b → T (holds_depth (borrowed Material.Pawn l) n)
  held-pawn b d e n h = fewer-held-pawn b d (fewer-of Material.Pawn b d e) n h
