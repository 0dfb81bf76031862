-- Keys of boards with kings by the rule: their range, and that a key has one board. For any list of men.
use Rattle.std.specs.Prelude.{◌≡◌, refl, List, [], ◌∷◌, map, ℕ, ◌+◌, ◌*◌, ◌<◌, T}
use Rattle.std.proofs.Math.Path.{ap, subst, sym}
use Rattle.std.proofs.Common.{◌∙◌}
use native.Mathlib.Omega.{arith}
use Rattle.rules.specs.declared.Piece.{Piece}
use Rattle.rules.specs.Rules.{Board}
use Rattle.rules.proofs.laws.Changed.{board-eq}
use Rattle.numbering.specs.Kings.{king_rule, pair_of}
use Rattle.numbering.specs.Keys.{key_from, key_of, unplaced, ending_of, spread}
use Rattle.numbering.proofs.laws.PairLaws.{pair_lt, pair_one}
use Rattle.numbering.proofs.laws.MenLaws.{key-from-lt, key-from-own}
use Rattle.numbering.proofs.laws.Numberable.{Numberable, separate-white, separate-black}

spread-unplaced : (l : List Piece) → spread (map unplaced l) ≡ spread l
unfolding spread
spread-unplaced [] = refl
spread-unplaced (a ∷ l) = rw (spread-unplaced l)

module _ {ending : List Piece} (b : Board) (s : Numberable ending b) where
  white-on : b.white < 64
  white-on = separate-white b.white b.black s.kings

  black-on : b.black < 64
  black-on = separate-black b.white b.black s.kings

  pub key-lt : T (king_rule b.white b.black) → key_of b < 924 * spread ending
  unfolding key_of ending_of
  key-lt t =
      let p = pair_lt b.white b.black white-on black-on t in
      let d = s.side in
      let e : spread b.men ≡ spread ending = sym (spread-unplaced b.men) ∙ ap spread s.men in
      subst (λ (n : ℕ). key_from (b.side * 462 + pair_of b.white b.black) b.men < 924 * n) e
      (key-from-lt b.men (b.side * 462 + pair_of b.white b.black) 924 s.squares (omega arith))

  -- two boards with one key are one board
  pub key-own : (c : Board) → Numberable ending c → T (king_rule b.white b.black)
      → T (king_rule c.white c.black) → key_of b ≡ key_of c → b ≡ c
  unfolding key_of ending_of
  key-own c r t u e =
      let cw = separate-white c.white c.black r.kings in
      let ck = separate-black c.white c.black r.kings in
      let k = key-from-own b.men c.men (b.side * 462 + pair_of b.white b.black)
      (c.side * 462 + pair_of c.white c.black) (s.men ∙ sym r.men) s.squares r.squares e in
      let n : b.side * 462 + pair_of b.white b.black ≡ c.side * 462 + pair_of c.white c.black = k.0 in
      let p = pair_lt b.white b.black white-on black-on t in
      let q = pair_lt c.white c.black cw ck u in
      let side : b.side ≡ c.side = omega arith in
      let pair : pair_of b.white b.black ≡ pair_of c.white c.black = omega arith in
      let kings = pair_one b.white b.black c.white c.black white-on black-on cw ck t u pair in
      board-eq side kings.0 kings.1 k.1
