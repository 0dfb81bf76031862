-- The pawn (FIDE 3.7), kind 4: attack apart from moves. One pawn is meant, so none is ever taken in passing. Definitions only.
use Rattle.std.specs.Prelude.{Bool, cond, not, ◌&&◌, ◌||◌, [], ◌∷◌, ℕ, ◌/◌, eqb, ltb, leb, get_or}
use Rattle.board.specs.Reach.{line}
use Rattle.rules.specs.declared.Piece.{Piece}

abbrev pub pawn : Piece → Bool
pawn m = eqb m.kind 4

-- forward is up for White and down for Black: the change of rank, plus 2; none for a colour that is neither
abbrev pub forward : ℕ → ℕ
forward colour = get_or (3 ∷ 1 ∷ []) colour 2

-- the rank from which it may make two steps
abbrev pub first_rank : ℕ → ℕ
first_rank colour = get_or (1 ∷ 6 ∷ []) colour 99

abbrev pub strides : ℕ → ℕ → ℕ
strides colour s = cond (eqb (s / 8) (first_rank colour)) 2 1

-- it attacks the two squares aslant in front of it ..
unfoldable pub pawn_hits : (ℕ → Bool) → ℕ → ℕ → ℕ → Bool
pawn_hits occ colour s t = line occ 1 s 1 (forward colour) t || line occ 1 s 3 (forward colour) t

-- .. and goes straight on over empty squares to an empty one, or to an occupied square that it attacks
unfoldable pub pawn_goes : (ℕ → Bool) → ℕ → ℕ → ℕ → Bool
pawn_goes occ colour s t =
    (line occ (strides colour s) s 2 (forward colour) t && not (occ t)) || (pawn_hits occ colour s t && occ t)

-- ranks 2 to 7, where a pawn may stand (02, refusal 18)
abbrev pub inner : ℕ → Bool
inner s = ltb 7 s && ltb s 56

-- ranks 1 and 8, where it promotes
abbrev pub outer : ℕ → Bool
outer s = ltb s 8 || leb 56 s
