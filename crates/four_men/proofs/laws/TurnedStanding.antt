-- A position turned, its men in either slot and the colours exchanged or not, stands for the board so changed and, but
-- for a pawn, meets the same refusal.
use Rattle.rules.specs.declared.Piece.{Piece}
use Rattle.std.specs.Prelude.{◌≡◌, Bool, false, cond, ◌&&◌, ◌||◌, ◌++◌, ℕ, ◌-◌, ◌<◌, leb, eqb, None, Option, Some}
use Rattle.std.proofs.Math.Path.{refl, sym, ap, ap₂, subst⁻¹}
use Rattle.std.proofs.Common.{◌∙◌, arith, leb-false}
use Rattle.std.proofs.Math.Bool.{true, not}
use Rattle.std.proofs.Math.Dec.{T, ltb}
use Rattle.finite.specs.Truth.{refuted}
use Rattle.finite.specs.Members.{all}
use Rattle.symmetry.proofs.laws.SymmetryLaws.{ltb-mapped}
use Rattle.rules.specs.Pawn.{pawn}
use Rattle.rules.specs.Rules.{Board, pieces, apart, touching, in_check}
use Rattle.rules.specs.Changed.{swapped, changed}
use Rattle.rules.specs.Reordered.{crossed, reordered}
use Rattle.rules.proofs.laws.Changed.{ltb-swapped, across, board-eq}
use Rattle.rules.proofs.laws.ChangedRules.{all_map, all-pieces, apart-changed, touching-changed, check-changed, pawnless-fits}
use Rattle.rules.proofs.laws.ReorderedLaws.{all-crossed, apart-crossed, check-reordered}
use Rattle.numbering.specs.declared.Material.{Material}
use Rattle.numbering.specs.Material.{material_in}
use Rattle.numbering.specs.Men.{exchangeable}
use Rattle.numbering.specs.Change.{Change, changed_by}
use Rattle.position.specs.declared.Position.{Position}
use Rattle.position.specs.Keyed.{slot_men, board_of}
use Rattle.position.specs.Refusals.{bad_men_of, bad_side, bad_square, bad_pawn, shared_square, placing_with, standing_with}
use Rattle.position.proofs.laws.SlotLaws.{leb-not}
use Rattle.position.proofs.laws.ChangedRefusals.{change-board, changed-men}
use Rattle.position.proofs.laws.Legality.{pawnless-placed}
use Rattle.four_men.specs.MoveTurned.{first_slot, second_slot, in_slots, turned_position}
use Rattle.four_men.proofs.laws.Standing.{men-known}

-- ---- the board

slots-board : (e : Bool) (p : Position) → board_of (in_slots e p) ≡ reordered e (board_of p)
unfolding board_of in_slots
slots-board e p = board-eq refl refl refl (go e p.first p.second)
  where
    go : (e : Bool) (f s : Option Piece)
        → slot_men (first_slot e f s) ++ slot_men (second_slot e f s) ≡ crossed e (slot_men f ++ slot_men s)
    go false f s = unfold crossed in refl
    go true None None = unfold crossed in refl
    go true None (Some c) = unfold crossed in refl
    go true (Some a) None = unfold crossed in refl
    go true (Some a) (Some c) = unfold crossed in refl

pub turned-board : (s : Change) (p : Position) → board_of (turned_position s p) ≡ changed_by s (board_of p)
unfolding turned_position changed_by
turned-board s p =
    let x = s.colours && exchangeable (board_of p).men in
    change-board s.symmetry x (in_slots s.order p) ∙ ap (changed s.symmetry x) (slots-board s.order p)

-- ---- 1: the men

crossed-men : (e : Bool) (p : Position)
    → bad_men_of (in_slots e p).first (in_slots e p).second ≡ bad_men_of p.first p.second
unfolding in_slots
crossed-men e p = go e p.first p.second
  where
    swap : (a b : Bool) → (a || b) ≡ (b || a)
    swap true true = refl
    swap true false = refl
    swap false true = refl
    swap false false = refl

    go : (e : Bool) (f s : Option Piece) → bad_men_of (first_slot e f s) (second_slot e f s) ≡ bad_men_of f s
    go false f s = refl
    go true None s = refl
    go true (Some a) None = refl
    go true (Some a) (Some c) = swap (leb 4 c.kind) (leb 4 a.kind)

turned-men : (s : Change) (p : Position)
    → bad_men_of (turned_position s p).first (turned_position s p).second ≡ bad_men_of p.first p.second
unfolding turned_position
turned-men s p =
    changed-men s.symmetry (s.colours && exchangeable (board_of p).men) (in_slots s.order p)
    ∙ crossed-men s.order p

-- ---- 2 to 6, by the board

abbrev foreign : Board → Bool
foreign b = leb 2 b.side || not (all (λ m. ltb m.colour 2) b.men)

abbrev off : Board → Bool
off b = not (all (λ m. ltb m.square 64) (pieces b))

abbrev shared : Board → Bool
shared b = not (apart (pieces b))

abbrev checked : Board → Bool
checked b = in_check b (1 - b.side)

abbrev chain : Bool → Bool → Bool → Bool → Bool → ℕ
chain a b c d e = cond a 1 (cond b 2 (cond c 3 (cond d 4 (cond e 5 0))))

abbrev or_six : Bool → ℕ → ℕ
or_six x n = cond (eqb n 0) (cond x 6 0) n

standing_by : (p : Position) → bad_pawn p ≡ false → standing_with p
    ≡ or_six (checked (board_of p)) (chain (bad_men_of p.first p.second) (foreign (board_of p)) (off (board_of p))
    (shared (board_of p)) (touching (board_of p)))
unfolding standing_with placing_with bad_side bad_square shared_square board_of
standing_by p e = rw e

module _ (s : Change) (b : Board) where
  abbrev x : Bool
  x = s.colours && exchangeable b.men

  abbrev r : Board
  r = reordered s.order b

  foreign-turned : foreign (changed_by s b) ≡ foreign b
  unfolding changed_by changed
  foreign-turned =
      ap₂ (λ (u v : Bool). u || not v)
      (leb-not 2 (swapped x b.side) ∙ ap not (ltb-swapped x b.side) ∙ sym (leb-not 2 b.side))
      (all_map s.symmetry x (λ a. ltb a.colour 2) (λ a. ltb a.colour 2) (λ a. ltb-swapped x a.colour)
      r.men ∙ all-crossed (λ a. ltb a.colour 2) s.order b.men)

  off-turned : off (changed_by s b) ≡ off b
  unfolding changed_by all
  off-turned =
      ap not
      (all-pieces s.symmetry x r (λ a. ltb a.square 64) (λ a. ltb a.square 64)
      (λ a. ltb-mapped s.symmetry a.square)
      ∙ ap (λ (z : Bool). ltb b.white 64 && (ltb b.black 64 && z))
      (all-crossed (λ a. ltb a.square 64) s.order b.men))

  shared-turned : shared (changed_by s b) ≡ shared b
  unfolding changed_by
  shared-turned = ap not (apart-changed s.symmetry x r ∙ apart-crossed s.order b)

  touching-turned : touching (changed_by s b) ≡ touching b
  unfolding changed_by
  touching-turned = touching-changed s.symmetry x r ∙ (unfold touching in refl)

  pawnless-turned : T (all (λ a. not (pawn a)) b.men) → T (all (λ a. not (pawn a)) (changed_by s b).men)
  unfolding changed_by changed
  pawnless-turned k =
      subst⁻¹ T
      (all_map s.symmetry x (λ a. not (pawn a)) (λ a. not (pawn a)) (λ a. refl) r.men
      ∙ all-crossed (λ a. not (pawn a)) s.order b.men)
      k

  checked-turned : T (all (λ a. not (pawn a)) b.men) → b.side < 2 → checked (changed_by s b) ≡ checked b
  unfolding changed_by changed
  checked-turned k h =
      ap (in_check (changed s.symmetry x r)) (across x b.side h)
      ∙ check-changed s.symmetry x r (pawnless-fits s.symmetry x r pawnless) (1 - b.side) (omega arith)
      ∙ check-reordered s.order b (1 - b.side)
    where
      pawnless : T (all (λ a. not (pawn a)) r.men)
      pawnless = subst⁻¹ T (all-crossed (λ a. not (pawn a)) s.order b.men) k

-- the side is one of the two, where 1 to 5 do not refuse
side-of : (a u c d e : Bool) (n : ℕ) → eqb (chain a (leb 2 n || u) c d e) 0 ≡ true → n < 2
side-of a u c d e n q = go a (leb 2 n) refl q
  where
    go : (a v : Bool) → leb 2 n ≡ v → eqb (chain a (v || u) c d e) 0 ≡ true → n < 2
    go true v h q = absurd (refuted (sym q) tt)
    go false true h q = absurd (refuted (sym q) tt)
    go false false h q = leb-false 2 n h

-- none of them is a pawn
module _ (s : Change) (p : Position) (k : T (all (λ a. not (pawn a)) (board_of p).men)) where
  abbrev b : Board
  b = board_of p

  abbrev n : ℕ
  n = chain (bad_men_of p.first p.second) (foreign b) (off b) (shared b) (touching b)

  six : or_six (checked (changed_by s b)) n ≡ or_six (checked b) n
  six = go (eqb n 0) refl
    where
      go : (z : Bool) → eqb n 0 ≡ z
          → cond z (cond (checked (changed_by s b)) 6 0) n ≡ cond z (cond (checked b) 6 0) n
      go true q =
          ap (λ (u : Bool). cond u 6 0)
          (checked-turned s b k
          (side-of (bad_men_of p.first p.second) (not (all (λ m. ltb m.colour 2) b.men)) (off b) (shared b)
          (touching b) b.side q))
      go false q = refl

  none-astray : bad_pawn (turned_position s p) ≡ false
  none-astray =
      pawnless-placed (turned_position s p)
      (subst⁻¹ (λ (c : Board). T (all (λ a. not (pawn a)) c.men)) (turned-board s p) (pawnless-turned s b k))

  pawnless-standing : standing_with (turned_position s p) ≡ standing_with p
  pawnless-standing =
      standing_by (turned_position s p) none-astray
      ∙ ap₂ (λ (z : Bool) (c : Board). or_six (checked c) (chain z (foreign c) (off c) (shared c) (touching c)))
      (turned-men s p) (turned-board s p)
      ∙ rw (foreign-turned s b, off-turned s b, shared-turned s b, touching-turned s b) six
      ∙ sym (standing_by p (pawnless-placed p k))

standing-bad : (p : Position) → bad_men_of p.first p.second ≡ true → standing_with p ≡ 1
unfolding standing_with placing_with
standing-bad p e = rw e

-- with a pawn only some changes keep the refusals (02, P12)
pub standing-turned : (s : Change) (p : Position) → (material_in (board_of p).men ≡ Material.Pawn → ⊥)
    → standing_with (turned_position s p) ≡ standing_with p
standing-turned s p n = go (bad_men_of p.first p.second) refl
  where
    go : (x : Bool) → bad_men_of p.first p.second ≡ x → standing_with (turned_position s p) ≡ standing_with p
    go true e = standing-bad (turned_position s p) (turned-men s p ∙ e) ∙ sym (standing-bad p e)
    go false e = pawnless-standing s p (men-known p e n).1
