-- The count of moves by the sizes of three sets of targets: the king's, the first man's and the second's.
use Rattle.std.specs.Prelude.{◌≡◌, refl, Bool, cond, ◌||◌, ℕ, ◌+◌, ◌*◌, ◌≤◌, ◌<◌, eqb, None, Option, Some}
use Rattle.std.proofs.Common.{sym, ap₂, ◌∙◌, arith, eqb→eq, eq-eqb}
use Rattle.std.proofs.Math.Path.{ap}
use Rattle.std.proofs.Math.Bool.{true, false, and-true}
use Rattle.std.specs.Int.Bits.{bit_and, and_zero_r}
use Rattle.std.proofs.Math.ListN.{length}
use Rattle.std.proofs.lemmas.Bool.{eqb-false}
use Rattle.finite.specs.Truth.{and_right, fails, refuted}
use Rattle.finite.specs.Members.{◌∈◌, any, any_out}
use Rattle.finite.specs.Filter.{filter_none}
use Rattle.finite.specs.Tests.{any_append}
use Rattle.board.specs.Sets.{squares, members, set_of}
use Rattle.board.proofs.laws.SetLaws.{set-has, has-none, squares-out, members-set_of, members-none}
use Rattle.rules.specs.declared.Piece.{Piece}
use Rattle.rules.specs.Pawn.{pawn}
use Rattle.rules.specs.Rules.{Board, king, can_move, promotes, moves_onto, moves_from, all_moves}
use Rattle.rules.proofs.laws.CanMove.{can-on}
use Rattle.rules.proofs.laws.MoveLists.{onto-none}
use Rattle.position.specs.declared.Position.{Position}
use Rattle.position.specs.Keyed.{slot_men, board_of, man_in}
use Rattle.position.specs.Refusals.{bad_men_of, bad_side, bad_square, bad_pawn, shared_square, kings_touch, slot_on, slots_share, placing_with}
use Rattle.position.proofs.laws.BothSizes.{six}
use Rattle.position.proofs.laws.SlotLaws.{shared-by-slots}
use Rattle.position_moves.specs.declared.Movers.{Movers}
use Rattle.position_moves.specs.InPosition.{Placed, Held, MoversOf}
use Rattle.position_moves.proofs.laws.OneThere.{placed-board, first-held, second-held, man-piece, one-there, no-king}
use Rattle.position_moves.proofs.laws.InPosition.{nobody-moves}
use Rattle.move_list.specs.Counting.{slot_pawn, outer_ranks, man_count}
use Rattle.move_list.proofs.laws.PawnIn.{pawn_on, set-pawn, set-none}
use Rattle.move_list.proofs.laws.SumLaws.{length-total, three-squares}
use Rattle.move_list.proofs.laws.TargetLaws.{sets-count}

-- ---- the moves from a square

module _ (b : Board) (from : ℕ) where
  none_from : ((t : ℕ) → t < 64 → can_move b from t ≡ false) → length (moves_from b from) ≡ 0
  unfolding moves_from
  none_from h = rw (filter_none (can_move b from) squares (λ t m. h t (squares-out t m)), onto-none b from)

  off-board : 64 ≤ from → (t : ℕ) → t < 64 → can_move b from t ≡ false
  off-board l t h = fails (can_move b from t) (λ c. absurd (omega (arith, (can-on b from t c).0)))

  off-from : 64 ≤ from → length (moves_from b from) ≡ 0
  off-from l = none_from (off-board l)

  none-targets : (targets : ℕ) → targets ≡ set_of (can_move b from) → ((t : ℕ) → t < 64 → can_move b from t ≡ false)
      → length (members targets) ≡ 0
  none-targets targets e h =
      ap (λ (s : ℕ). length (members s)) e ∙ ap length (members-set_of (can_move b from)
      ∙ filter_none (can_move b from) squares (λ t m. h t (squares-out t m)))

  empty-from : 0 ≡ set_of (can_move b from) → length (moves_from b from) ≡ 0
  empty-from e = none_from (λ t h. sym (set-has _ e t h) ∙ has-none t)

  -- by their targets and where they promote
  by-targets : (targets ends : ℕ) → targets ≡ set_of (can_move b from) → ends ≡ set_of (promotes b from)
      → length (moves_from b from) ≡ length (members targets) + 3 * length (members (bit_and targets ends))
  unfolding moves_from
  by-targets targets ends e q =
      ap (λ l. length (moves_onto b from l)) (sym (members-set_of (can_move b from)) ∙ ap members (sym e))
      ∙ sets-count b from targets ends q

  -- where nothing promotes
  by_size : (targets : ℕ) → targets ≡ set_of (can_move b from) → 0 ≡ set_of (promotes b from)
      → length (moves_from b from) ≡ length (members targets)
  by_size targets e q =
      by-targets targets 0 e q
      ∙ rw (and_zero_r targets, members-none) (omega arith)

-- ---- the pieces of the side to move, in turn

module _ (p : Position) (w : Placed (board_of p)) where
  -- the square of a man who is there is his own
  pawn-there : (from : ℕ) → any (pawn_on from) (board_of p).men
      ≡ (any (pawn_on from) (slot_men p.first) || any (pawn_on from) (slot_men p.second))
  unfolding board_of
  pawn-there from = any_append (pawn_on from) (slot_men p.first) (slot_men p.second)

  king-plain : 0 ≡ set_of (promotes (board_of p) (king (board_of p) p.side))
  king-plain =
      let b = board_of p in
      let k = king b p.side in
      set-none p k _ _ refl refl
      (sym (pawn-there k) ∙ fails (any (pawn_on k) b.men)
      (λ h. let v = any_out (pawn_on k) b.men h in
      no-king b w v.0 v.1 p.side
      (sym (eqb→eq v.0.square k (and_right (pawn v.0) (eqb v.0.square k) v.2)))))

  man-pawn : (m : Piece) → m ∈ (board_of p).men → any (pawn_on m.square) (board_of p).men ≡ pawn m
  man-pawn m i =
      one-there (board_of p) w (board_of p).men (λ x j. man-piece (board_of p) j) (pawn_on m.square) m
      (λ x h. eqb→eq x.square m.square (and_right (pawn x) (eqb x.square m.square) h)) i
      ∙ rw (eq-eqb m.square m.square refl) (and-true (pawn m))

  -- what a man adds
  man-counted : (slot : Option Piece) → Held p slot → (targets : ℕ) → targets ≡ set_of (can_move (board_of p) (man_in slot).square)
      → length (moves_from (board_of p) (man_in slot).square) ≡ man_count slot targets
  man-counted None i targets e =
      off-from (board_of p) 64 (omega arith) ∙ sym (none-targets (board_of p) 64 targets e (off-board (board_of p) 64 (omega arith)))
  man-counted (Some m) i targets e = go (pawn m) refl
    where
      there : (x : Bool) → pawn m ≡ x
          → (any (pawn_on m.square) (slot_men p.first) || any (pawn_on m.square) (slot_men p.second)) ≡ x
      there x q = sym (pawn-there m.square) ∙ man-pawn m (i m refl) ∙ q

      go : (x : Bool) → pawn m ≡ x
          → length (moves_from (board_of p) m.square)
          ≡ cond x (length (members targets) + 3 * length (members (bit_and targets outer_ranks))) (length (members targets))
      go true q = by-targets (board_of p) m.square targets outer_ranks e (set-pawn p m.square _ _ refl refl (there true q))
      go false q = by_size (board_of p) m.square targets e (set-none p m.square _ _ refl refl (there false q))

-- ---- as code counts them

module _ (slot : Option Piece) (targets : ℕ) where
  pub count_none : targets ≡ 0 → 0 ≡ man_count slot targets
  count_none z = sym (rw (z, members-none) (go (slot_pawn slot)))
    where
      go : (x : Bool) → ◌≡◌ {A = ℕ} (cond x 0 0) 0
      go true = refl
      go false = refl

  pub count-pawn : slot_pawn slot ≡ true → (n k : ℕ) → n ≡ length (members targets)
      → k ≡ length (members (bit_and targets outer_ranks)) → n + 3 * k ≡ man_count slot targets
  count-pawn h n k en ek = sym (rw h (sym (ap₂ (λ (x y : ℕ). x + 3 * y) en ek)))

  pub count-plain : slot_pawn slot ≡ false → (n : ℕ) → n ≡ length (members targets) → n ≡ man_count slot targets
  count-plain h n e = sym (rw h (sym e))

module _ (p : Position) (z : placing_with p ≡ 0) where
  men-apart : slots_share p.first p.second ≡ false
  unfolding placing_with
  men-apart =
      let t = six (bad_men_of p.first p.second) (bad_side p) (bad_square p) (bad_pawn p) (shared_square p)
      (kings_touch p) z in
      last (eqb p.white_king p.black_king) (slot_on p.white_king p.first || slot_on p.white_king p.second)
      (slot_on p.black_king p.first || slot_on p.black_king p.second) (slots_share p.first p.second)
      (shared-by-slots p ∙ t.4)
    where
      last : (a b c d : Bool) → (a || (b || (c || d))) ≡ false → d ≡ false
      last true b c d e = absurd (refuted e tt)
      last false true c d e = absurd (refuted e tt)
      last false false true d e = absurd (refuted e tt)
      last false false false d e = e

  -- a man who stood on the king's square, or on the other man's, would have no moves
  on-king : (slot : Option Piece) → Held p slot → (man_in slot).square ≡ king (board_of p) p.side
      → length (moves_from (board_of p) (man_in slot).square) ≡ 0
  on-king None i e = off-from (board_of p) 64 (omega arith)
  on-king (Some m) i e = absurd (no-king (board_of p) (placed-board p z) m (i m refl) p.side (sym e))

  on-first : (f s : Option Piece) → slots_share f s ≡ false → (man_in s).square ≡ (man_in f).square
      → length (moves_from (board_of p) (man_in s).square) ≡ 0
  on-first f None q e = off-from (board_of p) 64 (omega arith)
  on-first None (Some n) q e = off-from (board_of p) n.square (omega (arith, e))
  on-first (Some m) (Some n) q e = absurd (eqb-false m.square n.square q (sym e))

  all_three : length (all_moves (board_of p))
      ≡ length (moves_from (board_of p) (king (board_of p) p.side))
      + (length (moves_from (board_of p) (man_in p.first).square) + length (moves_from (board_of p) (man_in p.second).square))
  unfolding all_moves
  all_three =
      length-total (moves_from (board_of p)) squares
      ∙ three-squares (λ s. length (moves_from (board_of p) s)) (king (board_of p) p.side) (man_in p.first).square
      (man_in p.second).square (λ x k a c. empty-from (board_of p) x (nobody-moves p x k a c))
      (λ x l. off-from (board_of p) x l) (on-king p.first (first-held p)) (on-king p.second (second-held p))
      (on-first p.first p.second men-apart)

  -- THE COUNT, BY THREE SETS
  pub counted : (all : Movers) → MoversOf p all
      → length (all_moves (board_of p))
      ≡ length (members all.king) + (man_count p.first all.first + man_count p.second all.second)
  counted all v =
      let w = placed-board p z in
      all_three
      ∙ ap₂ ◌+◌ (by_size (board_of p) (king (board_of p) p.side) all.king v.king (king-plain p w))
      (ap₂ ◌+◌ (man-counted p w p.first (first-held p) all.first v.first)
      (man-counted p w p.second (second-held p) all.second v.second))
