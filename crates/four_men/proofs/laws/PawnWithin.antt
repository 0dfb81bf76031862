-- A pawn's ending with what its captures and promotions leave is closed: the pawn stays, becomes a piece, or is taken. A
-- legal board without a pawn is legal by the rules of pieces.
use Rattle.std.specs.Prelude.{◌≡◌, Bool, true, false, cond, not, ◌&&◌, ◌⊎◌, List, [], ◌∷◌, map, ℕ, zero, suc, ◌≤◌, ◌<◌, T, eqb}
use Rattle.std.proofs.Common.{ap, subst, ◌∙◌, inl, inr, ⊎_elim, arith, ne_eqb}
use Rattle.std.proofs.Math.Path.{subst⁻¹}
use Rattle.finite.specs.Truth.{by-test, fails, le-or-lt}
use Rattle.finite.specs.Members.{◌∈◌, all, map-out}
use Rattle.theory.specs.Game.{next}
use Rattle.theory.specs.Required.{Closed}
use Rattle.rules.specs.declared.Piece.{Piece}
use Rattle.rules.specs.declared.Move.{Move}
use Rattle.rules.specs.Pawn.{pawn}
use Rattle.rules.specs.Rules.{Board, piece_of, legal, legal_with_pawn, carried, moved, promotes, becoming, played_as, moves}
use Rattle.rules.proofs.laws.MoveLists.{ListedMove}
use Rattle.rules.proofs.laws.Taken.{lone-man}
use Rattle.rules.specs.Chess.{chess, played}
use Rattle.rules.proofs.laws.ChessLaws.{of-moves, next-with-pawn}
use Rattle.numbering.specs.Men.{material_of}
use Rattle.numbering.specs.declared.Material.{Material}
use Rattle.numbering.specs.Material.{OfMaterial}
use Rattle.position.proofs.laws.StandingWith.{pawnless-legal}
use Rattle.endings.specs.Ending.{Lone, Ending}
use Rattle.endings.proofs.laws.EndingDrawn.{ending-closed}
use Rattle.four_men.specs.Reading.{Fewer, Within}
use Rattle.four_men.proofs.laws.Materials.{one-of}

-- ---- without a pawn

pub bare-legal : (b : Board) → T (legal_with_pawn b) → b.men ≡ [] → T (legal b)
unfolding all
bare-legal b t e = pawnless-legal b t (subst⁻¹ (λ (l : List Piece). T (all (λ a. not (pawn a)) l)) e tt)

pub lone-legal : (b : Board) (kind : ℕ) → kind < 4 → T (legal_with_pawn b) → Lone kind b → T (legal b)
unfolding all
lone-legal b kind h t w =
    pawnless-legal b t
    (subst⁻¹ (λ (l : List Piece). T (all (λ a. not (pawn a)) l)) w.1.1
    (rw (ne_eqb kind 4 (λ q. omega arith)) tt))

-- ---- after a move

-- a listed move names a queen, rook, bishop or knight, or nothing
named-below : (b : Board) (v : Move) → ListedMove b v → v.becomes < 5
named-below b v c =
    by-test (promotes b v.from v.to) (λ t. (c.named t).1)
    (λ n. let e = c.plain (fails (promotes b v.from v.to) n) in omega (arith, e))

-- one man of this kind
abbrev Man : ℕ → List Piece → Type 0
Man kind k = (colour : ℕ) × ((s : ℕ) × (k ≡ piece_of kind colour s ∷ []))

-- none, or one that is a pawn or a piece
abbrev AtMost : List Piece → Type 0
AtMost l = (l ≡ []) ⊎ ((kind : ℕ) × (kind < 5) × Man kind l)

module _ (b : Board) (from to : ℕ) (w : Lone 4 b) where
  moved-man : ((moved b from to).men ≡ []) ⊎ Man 4 (moved b from to).men
  moved-man =
      ⊎_elim (λ e. inl e) (λ e. inr (w.0, (carried from to w.1.0, e)))
      (lone-man b (piece_of 4 w.0 w.1.0) from to w.1.1)

  promoted-man : (side kind : ℕ) (l : List Piece) → kind < 4 → (l ≡ []) ⊎ Man 4 l
      → AtMost (map (becoming side to kind) l)
  promoted-man side kind l h (inl e) = inl (ap (map (becoming side to kind)) e)
  promoted-man side kind l h (inr (colour, (s, e))) =
      inr (go (eqb colour side && eqb s to) (ap (map (becoming side to kind)) e))
    where
      go : (x : Bool) → map (becoming side to kind) l ≡ piece_of (cond x kind 4) colour s ∷ []
          → (k : ℕ) × (k < 5) × Man k (map (becoming side to kind) l)
      go true f = (kind, omega arith, (colour, (s, f)))
      go false f = (4, omega arith, (colour, (s, f)))

  played-man : (becomes : ℕ) → becomes < 5 → AtMost (played_as b from to becomes).men
  played-man zero h = ⊎_elim (λ e. inl e) (λ u. inr (4, omega arith, u)) moved-man
  played-man (suc kind) h = promoted-man b.side kind (moved b from to).men (omega arith) moved-man

-- the pawn stays, becomes a piece, or is taken
pub pawn-next : (b q : Board) → Lone 4 b → q ∈ next chess b → (q.men ≡ []) ⊎ ((kind : ℕ) × (kind < 5) × Lone kind q)
pawn-next b q w i =
    let u = map-out (played b) q (moves b) i in
    let v = u.0 in
    subst⁻¹ (λ (c : Board). AtMost c.men) u.2
    (played-man b v.from v.to w v.becomes (named-below b v (of-moves b v u.1).1))

-- ---- closed

pub lone-pawn : (b : Board) → OfMaterial Material.Pawn b → Lone 4 b
lone-pawn b e =
    let w = one-of 4 b.men e in
    let a = w.0 in
    (a.colour, (a.square, w.1 ∙ ap (λ (k : ℕ). piece_of k a.colour a.square ∷ []) w.2))

pub pawn-alone : (b : Board) → Lone 4 b → OfMaterial Material.Pawn b
unfolding material_of
pawn-alone b w = ap material_of w.1.1

-- what is left without the pawn is of one man's ending
pub lower-pawn : (b : Board) → T (legal_with_pawn b) → Fewer Material.Pawn b → (kind : ℕ) × (kind < 4) × Ending kind b
lower-pawn b t (inl e) = (0, omega arith, record { legality = bare-legal b t e; men = inl e })
lower-pawn b t (inr (kind, h, w)) = (kind, h, record { legality = lone-legal b kind h t w; men = inr w })

pub fewer-pawn-next : (b q : Board) → Within Material.Pawn b → Fewer Material.Pawn b → q ∈ next chess b
    → Fewer Material.Pawn q
fewer-pawn-next b q d f i =
    let x = lower-pawn b d.legality f in
    ⊎_elim (λ e. inl e) (λ w. inr (x.0, x.1, w)) (ending-closed x.0 b q x.2 i).men

pub within-pawn-closed : Closed chess (Within Material.Pawn)
within-pawn-closed b q d i = record { legality = next-with-pawn b q d.legality i; men = go d.men }
  where
    of-kind : (kind : ℕ) → kind < 5 → Lone kind q → (4 ≤ kind) ⊎ (kind < 4)
        → OfMaterial Material.Pawn q ⊎ Fewer Material.Pawn q
    of-kind kind h w (inl k) = inl (pawn-alone q (subst (λ (j : ℕ). Lone j q) (omega arith) w))
    of-kind kind h w (inr k) = inr (inr (kind, k, w))

    by : (q.men ≡ []) ⊎ ((kind : ℕ) × (kind < 5) × Lone kind q) → OfMaterial Material.Pawn q ⊎ Fewer Material.Pawn q
    by (inl e) = inr (inl e)
    by (inr (kind, h, w)) = of-kind kind h w (le-or-lt 4 kind)

    go : OfMaterial Material.Pawn b ⊎ Fewer Material.Pawn b → OfMaterial Material.Pawn q ⊎ Fewer Material.Pawn q
    go (inl e) = by (pawn-next b q (lone-pawn b e) i)
    go (inr f) = inr (fewer-pawn-next b q d f i)
