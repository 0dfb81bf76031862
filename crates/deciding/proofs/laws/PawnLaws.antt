-- The pawn's men and the pieces', the board of a pawn's place, and its bytes.
use Rattle.std.specs.Prelude.{◌≡◌, Bool, true, false, cond, ℕ, ◌<◌, T, leb, ltb, eqb}
use Rattle.std.proofs.Math.Path.{refl, fun_ext}
use Rattle.std.proofs.Common.{ap, ◌∙◌, arith, leb→le, ltb→lt, eqb-true}
use mathlib.Core.List.{List, [], ◌∷◌}
use Rattle.std.proofs.lemmas.Bool.{lt-leb}
use Rattle.finite.specs.Truth.{and_left, and_right}
use Rattle.table_theory.specs.Tables.{reads}
use Rattle.rules.specs.declared.Piece.{Piece}
use Rattle.rules.specs.Rules.{Board}
use Rattle.rules.specs.Chess.{chess}
use Rattle.numbering.specs.declared.Material.{Material}
use Rattle.numbering.specs.Material.{known, given, one_of}
use Rattle.numbering.proofs.laws.MaterialLaws.{one_known}
use Rattle.position.specs.declared.Men.{Men}
use Rattle.position.specs.declared.Place.{Place}
use Rattle.position.specs.Keyed.{board_of}
use Rattle.position.specs.Posed.{posed, board_in, material_for}
use Rattle.endings.specs.Ending.{byte_of}
use Rattle.four_men.specs.Lending.{part_of}
use Rattle.four_men.specs.Reading.{numbered}
use Rattle.pawn_moves.specs.PawnMoves.{pawn_at, kind_part, pawn_bytes}
use Rattle.pawn_moves.proofs.laws.SeatLaws.{pawn-lt}
use Rattle.successors.specs.Successors.{bytes_in}
use Rattle.deciding.specs.Deciding.{PawnSeated}

-- ---- men

pub pawn-first : (m : Men) → material_for m ≡ Material.Pawn → m.first ≡ 4
pawn-first m e = go (leb 4 m.second) (eqb m.first 4) refl e
  where
    go : (x y : Bool) → eqb m.first 4 ≡ y
        → cond x (cond y Material.Pawn (Material.One m.first))
        (Material.Two m.first m.second (eqb m.colour 1)) ≡ Material.Pawn
        → m.first ≡ 4
    go true true h d = eqb-true m.first 4 h
    go true false h d = let z : ◌≡◌ {A = ℕ} 0 1 = cc in absurd (omega arith)
    go false y h d = let z : ◌≡◌ {A = ℕ} 0 1 = cc in absurd (omega arith)

-- pieces are no pawn
pub known-first : (m : Men) → T (known (material_for m)) → m.first < 4
known-first m t = go (leb 4 m.second) t
  where
    go : (x : Bool) → T (known (cond x (one_of m.first) (Material.Two m.first m.second (eqb m.colour 1))))
        → m.first < 4
    go true h = one_known m.first h
    go false h =
        let i = leb→le m.first m.second (and_left (leb m.first m.second) (ltb m.second 4) h) in
        let j = ltb→lt m.second 4 (and_right (leb m.first m.second) (ltb m.second 4) h) in omega arith

-- an ending whose first man is a pawn is the pawn's, any other one of pieces
pub given-pawn : (m : Men) → T (given (material_for m)) → m.first ≡ 4 → material_for m ≡ Material.Pawn
given-pawn m t e = go (leb 4 m.second) t
  where
    go : (x : Bool) → T (given (cond x (one_of m.first) (Material.Two m.first m.second (eqb m.colour 1))))
        → cond x (one_of m.first) (Material.Two m.first m.second (eqb m.colour 1)) ≡ Material.Pawn
    go true h = rw e
    go false h =
        let i = leb→le m.first m.second (and_left (leb m.first m.second) (ltb m.second 4) h) in
        let j = ltb→lt m.second 4 (and_right (leb m.first m.second) (ltb m.second 4) h) in
        absurd (omega arith)

pub given-known : (m : Men) → T (given (material_for m)) → (m.first ≡ 4 → ⊥) → T (known (material_for m))
given-known m t n = go (material_for m) refl t
  where
    go : (x : Material) → material_for m ≡ x → T (given x) → T (known x)
    go (Material.One kind) e h = h
    go (Material.Two j k r) e h = h
    go Material.Pawn e h = absurd (n (pawn-first m e))

-- ---- boards

pub pawn-board : (m : Men) (q : Place) → PawnSeated m q → board_in m q ≡ pawn_at q
unfolding board_of posed
pawn-board m q s =
    rw (lt-leb 64 q.first (pawn-lt q s.on), s.second, pawn-first m s.ending)

-- ---- bytes

module _ (first second table : List ℕ) where
  by-men : (b : Board) → reads chess (numbered Material.Pawn (record { first = first; second = second })) table b ≡ pawn_bytes first table b
  unfolding reads numbered byte_of pawn_bytes part_of kind_part
  by-men b = go b.men refl
    where
      go : (l : List Piece) → b.men ≡ l
          → reads chess (numbered Material.Pawn (record { first = first; second = second })) table b ≡ pawn_bytes first table b
      go [] e = rw e
      go (a ∷ l) e = rw e

  pub pawn-bytes : (m : Men) → material_for m ≡ Material.Pawn → bytes_in m first second table ≡ pawn_bytes first table
  pawn-bytes m e =
      ap (λ (x : Material). reads chess (numbered x (record { first = first; second = second })) table) e ∙ fun_ext by-men
