-- Where no exchange of file and rank, or of like men, gives a lower number, what stands at a number has that number.
use Rattle.std.specs.Prelude.{◌≡◌, refl, Bool, true, false, cond, not, ℕ, ◌+◌, ◌*◌, ◌/◌, ◌%◌, leb, ltb}
use Rattle.std.proofs.Common.{sym, ap, ◌∙◌, arith, ltb→lt, le-ltb, ltb-false, eq-eqb}
use Rattle.std.proofs.Math.Path.{subst⁻¹}
use Rattle.std.proofs.Math.Bool.{and-false}
use Rattle.std.specs.Int.Bits.{xor_zero_r}
use Rattle.std.proofs.Math.Dec.{T}
use Rattle.finite.specs.Truth.{and_left, and_right, false_of, implies}
use Rattle.symmetry.specs.Symmetry.{mapped}
use Rattle.rules.specs.Rules.{Board}
use Rattle.numbering.specs.Kings.{above, on_diagonal, in_triangle, cornered, separate, king_rule, pair_of}
use Rattle.numbering.specs.Keys.{key_from, key_of, board_at}
use Rattle.numbering.specs.KingMaps.{swapping}
use Rattle.numbering.specs.Number.{number_of, used}
use Rattle.numbering.specs.Material.{men_of}
use Rattle.numbering.proofs.laws.NormalLaws.{stays-diagonal}
use Rattle.numbering.proofs.laws.AtLaws.{key-at, ruled-at}
use Rattle.position.specs.declared.Men.{Men}
use Rattle.position.specs.declared.Place.{Place}
use Rattle.position.specs.Keyed.{board_of}
use Rattle.position.specs.Posed.{posed, board_in, material_for}
use Rattle.index.specs.Least.{flip_of, exchange_of}
use Rattle.index.specs.Seats.{Seated, StandsAt, alike, alone, shares}
use Rattle.index.proofs.laws.SeatLaws.{board-one, board-two}
use Rattle.index.proofs.laws.PlaceLaws.{used-is}
use Rattle.successors.specs.Framing.{frame_for, chosen_digits, number_on}
use Rattle.successors.proofs.laws.FramingLaws.{number-framed}

-- ---- the number of kings by the rule

flip-none : (w : ℕ) → T (in_triangle w) → flip_of w ≡ 0
unfolding flip_of
flip-none w t =
    let f = ltb→lt (w % 8) 4 (and_left (ltb (w % 8) 4) (not (above w)) t) in
    let g = ltb-false (w % 8) (w / 8) (false_of (and_right (ltb (w % 8) 4) (not (above w)) t)) in
    rw (le-ltb 3 (w % 8) (omega (arith, f)), le-ltb 3 (w / 8) (omega (arith, f, g)))

-- the number of the squares as they stand
abbrev plain : Bool → ℕ → ℕ → ℕ → ℕ
plain single kings x y = cond single (kings * 64 + x) ((kings * 64 + x) * 64 + y)

plain-on : (single : Bool) (side w b x y : ℕ) → flip_of w ≡ 0 → exchange_of w b ≡ 0
    → number_on (frame_for side w b) single false x y ≡ plain single (side * 462 + pair_of w b) x y
unfolding number_on frame_for chosen_digits
plain-on single side w b x y f e =
    rw (
      f,
      xor_zero_r w,
      xor_zero_r b,
      xor_zero_r x,
      xor_zero_r y,
      e,
      as_is w,
      as_is b,
      and-false (ltb 0 x),
      and-false (ltb y x),
    )
    (go single)
  where
    as_is : (s : ℕ) → mapped (swapping false) s ≡ s
    as_is s = stays-diagonal false s (λ t. absurd t)

    go : (z : Bool) → cond z ((side * 462 + pair_of w b) * 64 + (x * 64 + 0) / 64) ((side * 462 + pair_of w b) * 4096 + (x * 64 + y))
        ≡ plain z (side * 462 + pair_of w b) x y
    go true = omega arith
    go false = omega arith

-- ---- of a place

key-place : (m : Men) (q : Place) → Seated m q
    → key_of (board_in m q) ≡ plain (leb 4 m.second) (q.side * 462 + pair_of q.white q.black) q.first q.second
unfolding key_of key_from
key-place m q s = go (alone q) refl ∙ ap (λ (x : Bool). plain x (q.side * 462 + pair_of q.white q.black) q.first q.second) s.second
  where
    go : (x : Bool) → alone q ≡ x
        → key_of (board_in m q) ≡ plain (alone q) (q.side * 462 + pair_of q.white q.black) q.first q.second
    go true e = ap key_of (board-one m q s.first e) ∙ sym (rw e)
    go false e = ap key_of (board-two m q s.first e) ∙ sym (rw e)

module _ (m : Men) (n : ℕ) (q : Place) (a : StandsAt m n q) where
  triangle : T (in_triangle q.white)
  unfolding board_of posed king_rule cornered
  triangle =
      let b = board_at (men_of (material_for m)) n in
      subst⁻¹ (λ (c : Board). T (in_triangle c.white)) a.board
      (and_left (in_triangle b.white) (implies (on_diagonal b.white) (not (above b.black)))
      (and_left (cornered b.white b.black) (separate b.white b.black) (ruled-at (men_of (material_for m)) n)))

  plain-number : alike m ≡ false → exchange_of q.white q.black ≡ 0 → number_of (board_in m q) ≡ n
  plain-number u e =
      sym (number-framed m q a.seated)
      ∙ ap (λ (x : Bool). number_on (frame_for q.side q.white q.black) (leb 4 m.second) x q.first q.second) u
      ∙ plain-on (leb 4 m.second) q.side q.white q.black q.first q.second (flip-none q.white triangle) e
      ∙ sym (key-place m q a.seated) ∙ ap key_of a.board ∙ key-at (men_of (material_for m)) n

  -- so it is used where no two share a square
  pub plain-used : alike m ≡ false → exchange_of q.white q.black ≡ 0 → shares q ≡ false
      → used (board_at (men_of (material_for m)) n) ≡ true
  plain-used u e z =
      sym (used-is m n q a z) ∙ eq-eqb (number_of (board_in m q)) n (plain-number u e)
