-- Promotion under a change that fits: the same pawns promote, and the change and the move may come in either order.
use Rattle.std.specs.Prelude.{◌≡◌, refl, Bool, true, false, cond, not, ◌&&◌, List, [], ◌∷◌, map, ℕ, zero, suc, ◌<◌, ◌≤◌, T, eqb}
use Rattle.std.proofs.Common.{sym, ap, ap₂, ◌∙◌, ⊎_elim, arith, lt-ltb, le-ltb, le-leb, ne_eqb}
use Rattle.std.proofs.lemmas.Bool.{lt-leb}
use Rattle.finite.specs.Truth.{le-or-lt, and_left, and_right, and_both, implies, implied}
use Rattle.finite.specs.Members.{any, all, any_out, all-out}
use Rattle.symmetry.specs.Symmetry.{Symmetry, mapped}
use Rattle.symmetry.proofs.laws.SymmetryLaws.{eqb-mapped}
use Rattle.rules.specs.declared.Piece.{Piece}
use Rattle.rules.specs.Pawn.{pawn, inner, outer}
use Rattle.rules.specs.Rules.{Board, moved, promotes, becoming, promoted, played_as}
use Rattle.rules.specs.Changed.{swapped, changed_piece, changed, upright, allows, fits}
use Rattle.rules.proofs.laws.Changed.{eqb-swapped, board-eq}
use Rattle.rules.proofs.laws.PawnLaws.{inner-kept}
use Rattle.rules.proofs.laws.ChangedRules.{any-map, fits_moved, moved-changed}

outer-inner : (s : ℕ) → outer s ≡ not (inner s)
outer-inner s = ⊎_elim high (λ h. rw (lt-ltb s 8 h, le-ltb 7 s (omega arith))) (le-or-lt 8 s)
  where
    high : 8 ≤ s → outer s ≡ not (inner s)
    high h =
        ⊎_elim (λ k. rw (le-ltb s 8 h, le-leb 56 s k, lt-ltb 7 s (omega arith), le-ltb s 56 k))
        (λ k. rw (le-ltb s 8 h, lt-leb 56 s k, lt-ltb 7 s (omega arith), lt-ltb s 56 k)) (le-or-lt 56 s)

and-if : (a : Bool) {p q : Bool} → (T a → p ≡ q) → (a && p) ≡ (a && q)
and-if true f = f tt
and-if false f = refl

pub promotes-changed : (m : Symmetry) (x : Bool) (b : Board) → T (fits m x b) → (from to : ℕ)
    → promotes (changed m x b) (mapped m from) (mapped m to) ≡ promotes b from to
unfolding promotes changed
promotes-changed m x b k from to =
    ap (λ (z : Bool). z && outer (mapped m to))
    (any-map m x (λ a. pawn a && eqb a.square (mapped m from)) (λ a. pawn a && eqb a.square from)
    (λ a. ap (λ (z : Bool). pawn a && z) (eqb-mapped m a.square from)) b.men)
    ∙ and-if (any (λ a. pawn a && eqb a.square from) b.men)
    (λ t. outer-inner (mapped m to) ∙ ap not (inner-kept m x to (kept t)) ∙ sym (outer-inner to))
  where
    kept : T (any (λ a. pawn a && eqb a.square from) b.men) → T (upright m x)
    kept t =
        let w = any_out (λ a. pawn a && eqb a.square from) b.men t in
        implied (pawn w.0) (upright m x) (all-out (allows m x) w.1 (unfold fits in k))
        (and_left (pawn w.0) (eqb w.0.square from) w.2)

-- ---- the board after a move

changed-side : (m : Symmetry) (x : Bool) (b : Board) → (changed m x b).side ≡ swapped x b.side
unfolding changed
changed-side m x b = refl

men-promoted : (m : Symmetry) (x : Bool) (side to kind : ℕ) (l : List Piece)
    → map (becoming (swapped x side) (mapped m to) kind) (map (changed_piece m x) l)
    ≡ map (changed_piece m x) (map (becoming side to kind) l)
men-promoted m x side to kind [] = refl
men-promoted m x side to kind (a ∷ l) =
    rw (eqb-swapped x a.colour side, eqb-mapped m a.square to, men-promoted m x side to kind l)

promoted-changed : (m : Symmetry) (x : Bool) (side to kind : ℕ) (c : Board)
    → promoted (swapped x side) (mapped m to) kind (changed m x c) ≡ changed m x (promoted side to kind c)
unfolding changed
promoted-changed m x side to kind c = board-eq refl refl refl (men-promoted m x side to kind c.men)

-- the change and the move with what it names, in either order
pub played-as-changed : (m : Symmetry) (x : Bool) (b : Board) (from to becomes : ℕ) → b.side < 2
    → played_as (changed m x b) (mapped m from) (mapped m to) becomes ≡ changed m x (played_as b from to becomes)
played-as-changed m x b from to zero h = moved-changed m x b from to h
played-as-changed m x b from to (suc kind) h =
    ap₂ (λ (s : ℕ) (c : Board). promoted s (mapped m to) kind c) (changed-side m x b) (moved-changed m x b from to h)
    ∙ promoted-changed m x b.side to kind (moved b from to)

-- ---- what fits a board fits it after a move

allows-becoming : (m : Symmetry) (x : Bool) (side to kind : ℕ) (a : Piece) → kind < 4 → T (allows m x a)
    → T (allows m x (becoming side to kind a))
allows-becoming m x side to kind a h t = go (eqb a.colour side && eqb a.square to)
  where
    go : (p : Bool) → T (implies (eqb (cond p kind a.kind) 4) (upright m x))
    go true = rw (ne_eqb kind 4 (λ e. omega arith)) tt
    go false = t

allowed-becoming : (m : Symmetry) (x : Bool) (side to kind : ℕ) (l : List Piece) → kind < 4
    → T (all (allows m x) l) → T (all (allows m x) (map (becoming side to kind) l))
unfolding all
allowed-becoming m x side to kind [] h t = tt
allowed-becoming m x side to kind (a ∷ l) h t =
    and_both (allows m x (becoming side to kind a)) (all (allows m x) (map (becoming side to kind) l))
    (allows-becoming m x side to kind a h (and_left (allows m x a) (all (allows m x) l) t))
    (allowed-becoming m x side to kind l h (and_right (allows m x a) (all (allows m x) l) t))

fits-promoted : (m : Symmetry) (x : Bool) (side to kind : ℕ) (c : Board) → kind < 4 → T (fits m x c)
    → T (fits m x (promoted side to kind c))
unfolding fits
fits-promoted m x side to kind c h k = allowed-becoming m x side to kind c.men h k

pub fits-played : (m : Symmetry) (x : Bool) (b : Board) (from to becomes : ℕ) → becomes < 5 → T (fits m x b)
    → T (fits m x (played_as b from to becomes))
fits-played m x b from to zero h k = fits_moved m x b from to k
fits-played m x b from to (suc kind) h k =
    fits-promoted m x b.side to kind (moved b from to) (omega arith) (fits_moved m x b from to k)
