-- An ending's boards are closed under moves, and bare kings are drawn.
use Rattle.std.specs.Prelude.{◌≡◌, false, ◌⊎◌, List, [], ◌∷◌, ℕ, T}
use Rattle.std.proofs.Common.{sym, ◌∙◌, subst, inl, inr, ⊎_elim}
use Rattle.std.proofs.Math.Dec.{not_T}
use Rattle.finite.specs.Truth.{refuted}
use Rattle.finite.specs.Members.{map-out}
use Rattle.theory.specs.Value.{Drawn}
use Rattle.theory.specs.Required.{Closed}
use Rattle.theory.proofs.laws.Depth.{stuck-drawn}
use Rattle.rules.specs.declared.Piece.{Piece}
use Rattle.rules.specs.Rules.{Board, piece_of, empty, legal, carried, carried_piece, moved, moves, mated}
use Rattle.rules.proofs.laws.Legal.{legal-facts}
use Rattle.rules.proofs.laws.Taken.{lone-man, bare-safe}
use Rattle.rules.specs.Chess.{chess, played}
use Rattle.rules.proofs.laws.ChessLaws.{of-moves, plain-played, next-legal}
use Rattle.endings.specs.Ending.{LoneOf, Lone, Ending}

-- a move keeps the man, his kind and his colour, or takes him
pub men-next : (kind colour : ℕ) (b : Board) (from to : ℕ) → LoneOf kind colour b
    → ((moved b from to).men ≡ []) ⊎ LoneOf kind colour (moved b from to)
men-next kind colour b from to l = go (lone-man b (piece_of kind colour l.0) from to l.1)
  where
    go : ((moved b from to).men ≡ []) ⊎ ((moved b from to).men ≡ carried_piece from to (piece_of kind colour l.0) ∷ [])
        → ((moved b from to).men ≡ []) ⊎ LoneOf kind colour (moved b from to)
    go (inl e) = inl e
    go (inr e) = inr (carried from to l.0, e)

pub ending-closed : (kind : ℕ) → Closed chess (Ending kind)
ending-closed kind b q d i =
    let w = map-out (played b) q (moves b) i in
    record {
      legality = next-legal b q d.legality i;
      men = subst (λ (c : Board). (c.men ≡ []) ⊎ Lone kind c)
          (sym (w.2 ∙ plain-played b w.0 d.legality w.1))
          (go d.men w.0.from w.0.to (of-moves b w.0 w.1).0);
    }
  where
    go : (b.men ≡ []) ⊎ Lone kind b → (from to : ℕ) → empty b.men ≡ false
        → ((moved b from to).men ≡ []) ⊎ Lone kind (moved b from to)
    go (inl e) from to n = absurd (refuted n (subst (λ (l : List Piece). T (empty l)) (sym e) tt))
    go (inr l) from to n = ⊎_elim inl (λ k. inr (l.0, k)) (men-next kind l.0 b from to l.1)

-- ---- bare kings: the game is over, drawn

module _ (b : Board) (l : T (legal b)) (e : b.men ≡ []) where
  pub bare-over : moves b ≡ []
  unfolding moves
  bare-over = rw e

  pub bare-unmated : mated b ≡ false
  unfolding mated
  bare-unmated = rw (bare-safe b b.side (legal-facts b l).side l e)

  pub bare-drawn : Drawn chess b
  bare-drawn = stuck-drawn chess b bare-over (not_T (mated b) (refuted bare-unmated))
