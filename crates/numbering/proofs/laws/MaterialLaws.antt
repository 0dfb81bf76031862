-- The ending of one man, by his kind: a piece's or the pawn's.
use Rattle.std.specs.Prelude.{◌≡◌, refl, Bool, true, false, cond, [], ◌∷◌, ℕ, ◌<◌, T, ltb, eqb}
use Rattle.std.proofs.Common.{ap, arith, ltb→lt, ne_eqb, eqb-true}
use Rattle.rules.specs.Rules.{piece_of}
use Rattle.numbering.specs.declared.Material.{Material}
use Rattle.numbering.specs.Material.{known, given, one_of, men_of}

-- a piece's
pub one_piece : (kind : ℕ) → kind < 4 → one_of kind ≡ Material.One kind
one_piece kind h = rw (ne_eqb kind 4 (λ z. absurd (omega (arith, z))))

pub one_known : (kind : ℕ) → T (known (one_of kind)) → kind < 4
one_known kind t = go (eqb kind 4) t
  where
    go : (e : Bool) → T (known (cond e Material.Pawn (Material.One kind))) → kind < 4
    go true t = absurd t
    go false t = ltb→lt kind 4 t

-- his men, of either
pub one-men : (kind : ℕ) → men_of (one_of kind) ≡ piece_of kind 0 0 ∷ []
one-men kind = go (eqb kind 4) refl
  where
    go : (e : Bool) → eqb kind 4 ≡ e → men_of (cond e Material.Pawn (Material.One kind)) ≡ piece_of kind 0 0 ∷ []
    go true h = ap (λ (k : ℕ). piece_of k 0 0 ∷ []) (rw (eqb-true kind 4 h))
    go false h = refl

-- an ending of pieces is an ending
pub known-given : (m : Material) → T (known m) → T (given m)
known-given (Material.One kind) t = t
known-given (Material.Two first second rivals) t = t
known-given Material.Pawn t = tt
