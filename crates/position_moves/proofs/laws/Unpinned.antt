-- A man whose square no foe attacks, his king lifted, is not pinned: on any board, with pawns or without.
use Rattle.std.specs.Prelude.{◌≡◌, refl, Bool, true, ◌&&◌, ℕ, ◌<◌, eqb}
use Rattle.std.proofs.Common.{sym, ap, ◌∙◌}
use Rattle.std.proofs.Math.Bool.{false}
use Rattle.finite.specs.Truth.{fails, refuted}
use Rattle.finite.specs.Members.{◌∈◌, any, any-in, any_out, any_same}
use Rattle.rules.specs.declared.Piece.{Piece}
use Rattle.rules.specs.Pawn.{pawn}
use Rattle.rules.specs.Rules.{Board}
use Rattle.rules.proofs.laws.CanMove.{attacks-piece}
use Rattle.rules.proofs.laws.OnBoard.{attacks-pawn, attacks-same, hits-any}
use Rattle.position.specs.Over.{strikes, men_over, lifted}
use Rattle.movegen.proofs.laws.Opening.{unpinned}

-- only what stands on the board counts
pub men-same : (occ occ' : ℕ → Bool) → ((u : ℕ) → u < 64 → occ u ≡ occ' u) → (b : Board) (colour t : ℕ)
    → men_over occ b colour t ≡ men_over occ' b colour t
unfolding men_over
men-same occ occ' same b colour t =
    any_same (strikes occ colour t) (strikes occ' colour t) b.men
    (λ m i. ap (λ (r : Bool). eqb m.colour colour && r) (attacks-same occ occ' same m t))

module _ (occ : ℕ → Bool) (foe at square : ℕ) where
  strike-unpinned : (x : Piece) → strikes (lifted occ at) foe at x ≡ false → strikes (lifted occ at) foe square x ≡ false
      → strikes (lifted occ square) foe at x ≡ false
  strike-unpinned x e f = go (pawn x) refl
    where
      own : Bool → Bool
      own r = eqb x.colour foe && r

      go : (k : Bool) → pawn x ≡ k → strikes (lifted occ square) foe at x ≡ false
      go true k =
          ap own (attacks-pawn (lifted occ square) x at k
          ∙ hits-any (lifted occ square) (lifted occ at) x.colour x.square at
          ∙ sym (attacks-pawn (lifted occ at) x at k)) ∙ e
      go false k =
          ap own (attacks-piece (lifted occ square) x at k)
          ∙ unpinned occ foe at square x (sym (ap own (attacks-piece (lifted occ at) x at k)) ∙ e)
          (sym (ap own (attacks-piece (lifted occ at) x square k)) ∙ f)

  pub men-free : (b : Board) → men_over (lifted occ at) b foe at ≡ false → men_over (lifted occ at) b foe square ≡ false
      → men_over (lifted occ square) b foe at ≡ false
  unfolding men_over
  men-free b e f =
      fails (any (strikes (lifted occ square) foe at) b.men)
      (λ h. let v = any_out (strikes (lifted occ square) foe at) b.men h in
      refuted (strike-unpinned v.0 (none at e v.0 v.1) (none square f v.0 v.1)) v.2)
    where
      none : (t : ℕ) → any (strikes (lifted occ at) foe t) b.men ≡ false → (x : Piece) → x ∈ b.men
          → strikes (lifted occ at) foe t x ≡ false
      none t q x i = fails (strikes (lifted occ at) foe t x) (λ h. refuted q (any-in (strikes (lifted occ at) foe t) i h))
