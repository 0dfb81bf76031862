-- The byte of what a move leaves: the pawn's board, bare kings, or the piece that a pawn has become.
use Rattle.std.specs.Prelude.{◌≡◌, Bool, ◌&&◌, ◌⊎◌, length, take, drop}
use Rattle.std.proofs.Math.Path.{refl, sym, ap, subst⁻¹}
use Rattle.std.proofs.Common.{subst, ◌∙◌, inl, inr, ⊎_elim, arith, length-take, get_or-take, get_or-drop}
use Rattle.std.proofs.Math.Bool.{true, false, cond}
use mathlib.Core.List.Memᴰ
use mathlib.Core.List.{List, [], ◌∷◌}
use Prim.Native.Nat.{ℕ, suc, ◌+◌, ◌-◌, ◌*◌, ◌≤◌, ◌<◌}
use Rattle.std.proofs.Math.Dec.{eqb}
use Rattle.std.proofs.Math.ListN.{get_or, get_or-eq_default}
use borrow.Author.Tests.{eq-eqb, ne_eqb, eqb-true}
use Rattle.finite.specs.Truth.{and_both, of-true, fails, refuted}
use Rattle.finite.specs.Members.{◌∈◌, any, any-in}
use Rattle.finite.specs.Filter.{filter}
use Rattle.rules.specs.declared.Piece.{Piece}
use Rattle.rules.specs.declared.Move.{Move}
use Rattle.rules.specs.Rules.{piece_of, stands, carried, moved, promotes, promoted, played_as, all_moves}
use Rattle.rules.specs.Chess.{played}
use Rattle.rules.proofs.laws.CanMove.{Can, can-facts}
use Rattle.rules.proofs.laws.MoveLists.{ListedMove, of-all_moves}
use Rattle.pawn_numbers.specs.PawnNumber.{pawn_number}
use Rattle.pawn_numbers.specs.Places.{pawn_in}
use Rattle.numbering.specs.Number.{number_of}
use Rattle.numbering.specs.Material.{small_size}
use Rattle.position.specs.declared.Place.{Place}
use Rattle.position.specs.Keyed.{board_of, one_man}
use Rattle.movegen.specs.Places.{square_after, place_after}
use Rattle.pawn_moves.specs.PawnMoves.{pawn_at, PawnOn, kind_part, pawn_bytes}
use Rattle.pawn_moves.proofs.laws.SeatLaws.{pawn-lt, white-off, black-off}

-- ---- reading

pub read-beyond : (t : List ℕ) (n : ℕ) → length t ≤ n → 0 ≡ get_or t n 0
read-beyond t n h = sym (get_or-eq_default t 0 h)

-- the part of a kind, read by its place in the run
pub part-beyond : (kind n : ℕ) (run : List ℕ) → small_size ≤ n → 0 ≡ get_or (kind_part kind run) n 0
unfolding kind_part
part-beyond kind n run h =
    read-beyond (take small_size (drop (kind * small_size) run)) n
    (omega (arith, length-take small_size (drop (kind * small_size) run)))

pub part_at : (kind n c : ℕ) (run : List ℕ) → n < small_size → c ≡ get_or run (kind * small_size + n) 0
    → c ≡ get_or (kind_part kind run) n 0
unfolding kind_part
part_at kind n c run h e =
    e ∙ sym (get_or-take small_size (drop (kind * small_size) run) n 0 h ∙ get_or-drop (kind * small_size) run n 0)

-- ---- squares after a move

pub carried-lt : (from to s : ℕ) → to < 64 → s < 64 → carried from to s < 64
carried-lt from to s h k = go (eqb s from)
  where
    go : (x : Bool) → cond x to s < 64
    go true = h
    go false = k

-- ---- what a move leaves

module _ (q : Place) (from to : ℕ) where
  pub moved-taken : eqb q.first to ≡ true → (moved (pawn_at q) from to).men ≡ []
  unfolding moved filter
  moved-taken e = rw e

  pub moved-kept : eqb q.first to ≡ false
      → moved (pawn_at q) from to
      ≡ pawn_in 0 (1 - q.side) (carried from to q.white) (carried from to q.black) (carried from to q.first)
  unfolding moved filter
  moved-kept e = rw e

  -- the place after a move without a promotion
  pub after_kept : q.first < 64 → to < 64 → (place_after q from to).first < 64
      → moved (pawn_at q) from to ≡ pawn_at (place_after q from to)
  unfolding place_after
  after_kept h k l = go (eqb q.first to) refl l
    where
      go : (x : Bool) → eqb q.first to ≡ x → cond x 64 (carried from to q.first) < 64
          → moved (pawn_at q) from to
          ≡ pawn_in 0 (1 - q.side) (carried from to q.white) (carried from to q.black)
          (square_after from to q.first)
      go true e z = absurd (omega arith)
      go false e z = moved-kept e ∙ sym (rw e)

  pub after-taken : q.first < 64 → to < 64 → 64 ≤ (place_after q from to).first → (moved (pawn_at q) from to).men ≡ []
  unfolding place_after
  after-taken h k l = go (eqb q.first to) refl l
    where
      go : (x : Bool) → eqb q.first to ≡ x → 64 ≤ cond x 64 (carried from to q.first)
          → (moved (pawn_at q) from to).men ≡ []
      go true e z = moved-taken e
      go false e z = absurd (omega (arith, carried-lt from to q.first k h))

-- ---- promotions

module _ (q : Place) (o : PawnOn q) (v : Move) (i : v ∈ all_moves (pawn_at q)) where
  l : ListedMove (pawn_at q) v
  l = of-all_moves (pawn_at q) v i

  -- where it names a piece, the pawn moves
  pawn-moves : (v.becomes ≡ 0 → ⊥) → q.first ≡ v.from
  unfolding promotes any
  pawn-moves n = go (eqb q.first v.from) refl
    where
      go : (x : Bool) → eqb q.first v.from ≡ x → q.first ≡ v.from
      go true e = eqb-true q.first v.from e
      go false e = absurd (n (l.plain (rw e)))

  c : Can (pawn_at q) v.from v.to
  c = can-facts (pawn_at q) v.from v.to l.can

  white-moves : (v.becomes ≡ 0 → ⊥) → q.side ≡ 0
  white-moves n = first (Memᴰ.cases_cons c.there)
    where
      at : c.piece.square ≡ q.first
      at = c.at ∙ sym (pawn-moves n)

      third : c.piece ∈ piece_of 4 0 q.first ∷ [] → q.side ≡ 0
      third k =
          ⊎_elim (λ e. sym (sym (ap (λ (a : Piece). a.colour) e) ∙ c.own)) (λ z. absurd (Memᴰ.not-nil z))
          (Memᴰ.cases_cons k)

      second : (c.piece ≡ piece_of 5 1 q.black) ⊎ (c.piece ∈ piece_of 4 0 q.first ∷ []) → q.side ≡ 0
      second (inl e) = absurd (black-off q o (sym (ap (λ (a : Piece). a.square) e) ∙ at))
      second (inr k) = third k

      first : (c.piece ≡ piece_of 5 0 q.white)
          ⊎ (c.piece ∈ piece_of 5 1 q.black ∷ piece_of 4 0 q.first ∷ []) → q.side ≡ 0
      first (inl e) = absurd (white-off q o (sym (ap (λ (a : Piece). a.square) e) ∙ at))
      first (inr k) = second (Memᴰ.cases_cons k)

  leaves-from : (v.becomes ≡ 0 → ⊥) → eqb q.first v.to ≡ false
  unfolding stands
  leaves-from n =
      fails (eqb q.first v.to)
      (λ t. refuted c.free
      (any-in (λ m. eqb m.colour q.side && eqb m.square v.to)
      (Memᴰ.tail (Memᴰ.tail (Memᴰ.head {x = piece_of 4 0 q.first} refl)))
      (and_both (eqb 0 q.side) (eqb q.first v.to) (of-true (eq-eqb 0 q.side (sym (white-moves n)))) t)))

  pub on-to : v.to < 64
  on-to = l.to-on

  -- the board after a promotion
  pub board-promoted : (v.becomes ≡ 0 → ⊥) → (kind : ℕ) → kind ≡ v.becomes - 1
      → played (pawn_at q) v
      ≡ board_of (one_man kind 0 (1 - q.side) (carried v.from v.to q.white) v.to
      (carried v.from v.to q.black))
  unfolding board_of
  board-promoted n kind e =
      ap (played_as (pawn_at q) v.from v.to) up
      ∙ ap (promoted q.side v.to kind) (moved-kept q v.from v.to (leaves-from n))
      ∙ rw (
        pawn-moves n,
        eq-eqb v.from v.from refl,
        eq-eqb v.to v.to refl,
        eq-eqb 0 q.side
            (sym (white-moves n)),
      )
    where
      up : v.becomes ≡ suc kind
      up = omega (arith, n)

  -- to a queen, rook, bishop or knight
  pub promoted-kind : (v.becomes ≡ 0 → ⊥) → v.becomes - 1 < 4
  promoted-kind n = go (promotes (pawn_at q) v.from v.to) refl
    where
      go : (x : Bool) → promotes (pawn_at q) v.from v.to ≡ x → v.becomes - 1 < 4
      go true e = let h = l.named (of-true e) in omega arith
      go false e = absurd (n (l.plain e))

-- ---- the byte of one piece

piece_byte : (run table : List ℕ) (kind side white square black : ℕ) → kind < 4
    → pawn_bytes run table (board_of (one_man kind 0 side white square black))
    ≡ get_or (kind_part kind run) (number_of (board_of (one_man kind 0 side white square black))) 0
unfolding pawn_bytes board_of
piece_byte run table kind side white square black h = rw (ne_eqb kind 4 (λ e. omega arith))

-- ---- as code asks

module _ (run table : List ℕ) (q : Place) (o : PawnOn q) (v : Move) (i : v ∈ all_moves (pawn_at q)) (next : Place)
    (e : next ≡ place_after q v.from v.to) where
  pub byte-promoted : (v.becomes ≡ 0 → ⊥) → (n r : ℕ)
      → ((kind : ℕ) → 0 < 2 → next.side < 2 → next.white < 64 → next.black < 64 → v.to < 64
      → n ≡ number_of (board_of (one_man kind 0 next.side next.white v.to next.black)))
      → r ≡ get_or (kind_part (v.becomes - 1) run) n 0
      → r ≡ pawn_bytes run table (played (pawn_at q) v)
  unfolding place_after
  byte-promoted z n r f h =
      let kind = v.becomes - 1 in
      let on = on-to q o v i in
      let number = f kind (omega arith) (subst⁻¹ (λ (p : Place). p.side < 2) e (omega arith))
      (subst⁻¹ (λ (p : Place). p.white < 64) e (carried-lt v.from v.to q.white on o.white))
      (subst⁻¹ (λ (p : Place). p.black < 64) e (carried-lt v.from v.to q.black on o.black)) on in
      h
      ∙ ap (λ (k : ℕ). get_or (kind_part kind run) k 0)
      (number ∙ ap (λ (p : Place). number_of (board_of (one_man kind 0 p.side p.white v.to p.black))) e)
      ∙ sym (ap (pawn_bytes run table) (board-promoted q o v i z kind refl)
      ∙ piece_byte run table kind (1 - q.side) (carried v.from v.to q.white) v.to
      (carried v.from v.to q.black) (promoted-kind q o v i z))

  pub byte-taken : v.becomes ≡ 0 → 64 ≤ next.first → 1 ≡ pawn_bytes run table (played (pawn_at q) v)
  unfolding pawn_bytes
  byte-taken z h =
      sym (ap (λ (k : ℕ). pawn_bytes run table (played_as (pawn_at q) v.from v.to k)) z
      ∙ rw (after-taken q v.from v.to (pawn-lt q o) (on-to q o v i) (subst (λ (p : Place). 64 ≤ p.first) e h)))

  pub byte-kept : v.becomes ≡ 0 → next.first < 64 → (r : ℕ) → r ≡ get_or table (pawn_number (pawn_at next)) 0
      → r ≡ pawn_bytes run table (played (pawn_at q) v)
  unfolding pawn_bytes
  byte-kept z h r d =
      d ∙ ap (λ (p : Place). get_or table (pawn_number (pawn_at p)) 0) e
      ∙ sym (ap (λ (k : ℕ). pawn_bytes run table (played_as (pawn_at q) v.from v.to k)) z
      ∙ ap (pawn_bytes run table)
      (after_kept q v.from v.to (pawn-lt q o) (on-to q o v i) (subst (λ (p : Place). p.first < 64) e h)))
