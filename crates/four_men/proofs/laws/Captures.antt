-- What a move leaves: all the men, one of two alone, or bare kings. So an ending with what its captures leave is
-- closed.
use Rattle.std.specs.Prelude.{◌≡◌, refl, Bool, true, false, not, ◌⊎◌, List, [], ◌∷◌, map, ℕ, T, eqb}
use Rattle.std.proofs.Common.{sym, ap, subst, ◌∙◌, inl, inr, ⊎_elim, arith, ne_eqb}
use Rattle.std.proofs.Math.Path.{subst⁻¹}
use Rattle.finite.specs.Truth.{refuted}
use Rattle.finite.specs.Members.{◌∈◌, map-out, none_in}
use Rattle.finite.specs.Filter.{filter, keep}
use Rattle.theory.specs.Game.{next}
use Rattle.theory.specs.Required.{Closed}
use Rattle.rules.specs.declared.Piece.{Piece}
use Rattle.rules.specs.Rules.{Board, piece_of, carried, carried_piece, left, legal, moved, moves}
use Rattle.rules.specs.Reordered.{Few}
use Rattle.rules.specs.Reordered.{LegalFew}
use Rattle.rules.specs.Chess.{chess, played}
use Rattle.rules.proofs.laws.ChessLaws.{plain-played, next-legal}
use Rattle.numbering.specs.Men.{material_of}
use Rattle.endings.specs.Ending.{Lone}
use Rattle.endings.proofs.laws.EndingDrawn.{ending-closed, bare-over}
use Rattle.numbering.specs.declared.Material.{Material}
use Rattle.numbering.specs.Material.{known, OfMaterial}
use Rattle.index.proofs.laws.EndingsLaws.{legal-of, of-legal}
use Rattle.four_men.specs.Reading.{Fewer, Within, full}
use Rattle.four_men.proofs.laws.Materials.{one-of, two-of, both-kinds, few-of, full-of}

-- one man of this kind
abbrev LoneMan : ℕ → List Piece → Type 0
LoneMan kind k = (colour : ℕ) × ((s : ℕ) × (k ≡ piece_of kind colour s ∷ []))

-- by the men before it
abbrev Leaves : List Piece → List Piece → Type 0
Leaves [] k = Unit {0}
Leaves (a ∷ []) k = (material_of k ≡ material_of (a ∷ [])) ⊎ (k ≡ [])
Leaves (a ∷ c ∷ []) k =
    (material_of k ≡ material_of (a ∷ c ∷ [])) ⊎ ((k ≡ []) ⊎ (LoneMan a.kind k ⊎ LoneMan c.kind k))
Leaves (a ∷ c ∷ d ∷ l) k = Unit {0}

leaves : (from to : ℕ) (l : List Piece) → Leaves l (map (carried_piece from to) (left to l))
unfolding filter material_of
leaves from to [] = tt
leaves from to (a ∷ []) = go (not (eqb a.square to))
  where
    go : (x : Bool) → Leaves (a ∷ []) (map (carried_piece from to) (keep x a []))
    go true = inl refl
    go false = inr refl
leaves from to (a ∷ c ∷ []) = go (not (eqb a.square to)) (not (eqb c.square to))
  where
    go : (x y : Bool) → Leaves (a ∷ c ∷ []) (map (carried_piece from to) (keep x a (keep y c [])))
    go true true = inl refl
    go true false = inr (inr (inl (a.colour, (carried from to a.square, refl))))
    go false true = inr (inr (inr (c.colour, (carried from to c.square, refl))))
    go false false = inr (inl refl)
leaves from to (a ∷ c ∷ d ∷ l) = tt

leaves-next : (b q : Board) → T (legal b) → q ∈ next chess b → Leaves b.men q.men
unfolding moved
leaves-next b q l h =
    let w = map-out (played b) q (moves b) h in
    subst⁻¹ (λ (c : Board). Leaves b.men c.men) (w.2 ∙ plain-played b w.0 l w.1)
    (leaves w.0.from w.0.to b.men)

-- a man of one of the two kinds
either-kind : (j k i : ℕ) (r : Bool) (q : Board) → (i ≡ j) ⊎ (i ≡ k) → LoneMan i q.men
    → Fewer (Material.Two j k r) q
either-kind j k i r q (inl e) w = inr (inl (subst (λ (x : ℕ). Lone x q) e w))
either-kind j k i r q (inr e) w = inr (inr (subst (λ (x : ℕ). Lone x q) e w))

own-next : (m : Material) → T (known m) → (b q : Board) → T (legal b) → OfMaterial m b → q ∈ next chess b
    → OfMaterial m q ⊎ Fewer m q
own-next Material.Pawn s b q t e h = absurd s
own-next (Material.One kind) s b q t e h =
    let w = one-of kind b.men e in
    ⊎_elim (λ r. inl (r ∙ ap material_of (sym w.1) ∙ e)) (λ r. inr r)
    (subst (λ (l : List Piece). Leaves l q.men) w.1 (leaves-next b q t h))
own-next (Material.Two j k r) s b q t e h =
    let w = two-of j k r b.men e in
    go w.0 w.1 w.2 (both-kinds j k r w.0 w.1 w.3)
    (subst (λ (l : List Piece). Leaves l q.men) w.2 (leaves-next b q t h))
  where
    go : (a c : Piece) → b.men ≡ a ∷ c ∷ [] → ((a.kind ≡ j) ⊎ (a.kind ≡ k)) × ((c.kind ≡ j) ⊎ (c.kind ≡ k))
        → Leaves (a ∷ c ∷ []) q.men → OfMaterial (Material.Two j k r) q ⊎ Fewer (Material.Two j k r) q
    go a c f x (inl v) = inl (v ∙ ap material_of (sym f) ∙ e)
    go a c f x (inr (inl v)) = inr (inl v)
    go a c f x (inr (inr (inl v))) = inr (either-kind j k a.kind r q x.0 v)
    go a c f x (inr (inr (inr v))) = inr (either-kind j k c.kind r q x.1 v)

-- ---- closed

pub fewer-next : (m : Material) → T (known m) → (b q : Board) → Within m b → Fewer m b → q ∈ next chess b → Fewer m q
fewer-next Material.Pawn s b q d f h = absurd s
fewer-next (Material.One kind) s b q d e h = absurd (none_in (ap (map (played b)) (bare-over b d.legality e)) h)
fewer-next (Material.Two j k r) s b q d (inl e) h =
    absurd (none_in (ap (map (played b)) (bare-over b d.legality e)) h)
fewer-next (Material.Two j k r) s b q d (inr (inl l)) h =
    ⊎_elim (λ e. inl e) (λ x. inr (inl x))
    (ending-closed j b q (record { legality = d.legality; men = inr l }) h).men
fewer-next (Material.Two j k r) s b q d (inr (inr l)) h =
    ⊎_elim (λ e. inl e) (λ x. inr (inr x))
    (ending-closed k b q (record { legality = d.legality; men = inr l }) h).men

pub within-closed : (m : Material) → T (known m) → Closed chess (Within m)
within-closed m s b q d h =
    record { legality = of-legal m s q (next-legal b q (legal-of m s b d.legality) h); men = go d.men }
  where
    go : OfMaterial m b ⊎ Fewer m b → OfMaterial m q ⊎ Fewer m q
    go (inl e) = own-next m s b q (legal-of m s b d.legality) e h
    go (inr f) = inr (fewer-next m s b q d f h)

-- ---- two men at most; with a man taken the board is not full

pub within-few : (m : Material) → T (known m) → (b : Board) → Within m b → LegalFew b
within-few m s b d = record { legality = legal-of m s b d.legality; few = go m d.men }
  where
    go : (m : Material) → OfMaterial m b ⊎ Fewer m b → Few b.men
    go m (inl e) = few-of m b.men e
    go (Material.One kind) (inr e) = subst⁻¹ Few e tt
    go Material.Pawn (inr (inl e)) = subst⁻¹ Few e tt
    go Material.Pawn (inr (inr x)) = subst⁻¹ Few x.2.1.1 tt
    go (Material.Two j k r) (inr (inl e)) = subst⁻¹ Few e tt
    go (Material.Two j k r) (inr (inr (inl w))) = subst⁻¹ Few w.1.1 tt
    go (Material.Two j k r) (inr (inr (inr w))) = subst⁻¹ Few w.1.1 tt

pub fewer-not-full : (m : Material) (b : Board) → Fewer m b → full m b.men ≡ false
fewer-not-full (Material.One kind) b e = ap (full (Material.One kind)) e
fewer-not-full Material.Pawn b (inl e) = ap (full Material.Pawn) e
fewer-not-full Material.Pawn b (inr (kind, h, w)) =
    ap (full Material.Pawn) w.1.1 ∙ ne_eqb kind 4 (λ z. absurd (omega (arith, z, h)))
fewer-not-full (Material.Two j k r) b (inl e) = ap (full (Material.Two j k r)) e
fewer-not-full (Material.Two j k r) b (inr (inl w)) = ap (full (Material.Two j k r)) w.1.1
fewer-not-full (Material.Two j k r) b (inr (inr w)) = ap (full (Material.Two j k r)) w.1.1

pub own_of : (m : Material) (b : Board) → Within m b → T (full m b.men) → OfMaterial m b
own_of m b d t = go d.men
  where
    go : OfMaterial m b ⊎ Fewer m b → OfMaterial m b
    go (inl e) = e
    go (inr f) = absurd (refuted (fewer-not-full m b f) t)

pub fewer-of : (m : Material) (b : Board) → Within m b → full m b.men ≡ false → Fewer m b
fewer-of m b d e = go d.men
  where
    go : OfMaterial m b ⊎ Fewer m b → Fewer m b
    go (inl o) = absurd (refuted e (full-of m b.men o))
    go (inr f) = f
