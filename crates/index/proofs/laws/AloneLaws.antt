-- One man is an instance: what is answered for both sizes is what stands for one man.
use Rattle.rules.specs.declared.Piece.{Piece}
use Rattle.std.specs.Prelude.{◌≡◌, ◌⊎◌, Bool, true, false, cond, not, ℕ, ◌≤◌, ◌<◌, leb, ltb, Err, None, Ok, Option, Result, Some}
use Rattle.std.proofs.Math.Path.{refl}
use Rattle.std.proofs.Common.{ap, ◌∙◌, inl, inr, arith, le-leb, leb-false, le-ltb, lt-ltb}
use Rattle.std.proofs.lemmas.Bool.{lt-leb}
use Rattle.finite.specs.Truth.{le-or-lt, refuted}
use Rattle.numbering.specs.declared.Material.{Material}
use Rattle.numbering.specs.Material.{material_in}
use Rattle.numbering.proofs.laws.MaterialLaws.{one_piece}
use Rattle.numbering.specs.Number.{number_of}
use Rattle.position.specs.declared.Position.{Position}
use Rattle.position.specs.Keyed.{board_of, man_kind, keyed}
use Rattle.position.specs.Refusals.{bad_men, bad_men_of, placing_refusal, placing_with}
use Rattle.position.proofs.laws.Legality.{man-pawnless, pawnless-placed, one-men}
use Rattle.position.proofs.laws.PlacedLaws.{placed-facts, placed-kind}
use Rattle.index.specs.Answers.{position_at, unused, placed_at, placed_with}
use Rattle.index.specs.Endings.{number_in}
use Rattle.index.proofs.laws.AnswerLaws.{board-at, unused-exactly}
use Rattle.index.proofs.laws.CompleteLaws.{facts-placed-with}

-- ---- numbering

-- what 1 to 5 do not refuse of one man they do not refuse of one or two
pub placing-with : (p : Position) → placing_refusal p ≡ 0 → placing_with p ≡ 0
placing-with p z =
    let w = placed-facts p z in
    facts-placed-with p (record {
      men = men p.first p.second w.men;
      side = w.side;
      colours = w.colours;
      squares = w.squares;
      pawns = pawnless-placed p (man-pawnless p w.men);
      distinct = w.distinct;
      kings = w.kings;
    })
  where
    men : (f s : Option Piece) → bad_men f s ≡ false → bad_men_of f s ≡ false
    men None s e = e
    men (Some m) None e = let h = leb-false 4 m.kind e in lt-leb 5 m.kind (omega arith)
    men (Some m) (Some n) e = absurd (refuted e tt)

-- the number is one man's
pub number-alone : (p : Position) → placing_refusal p ≡ 0
    → number_in (material_in (board_of p).men) (board_of p) ≡ number_of (board_of p)
number-alone p z =
    let w = placed-facts p z in
    ap (λ (m : Material). number_in m (board_of p))
    (ap material_in (one-men p w.men) ∙ one_piece (man_kind p) (placed-kind p w.men))

-- ---- numbering back

not_known : (kind : ℕ) → not (ltb kind 4) ≡ leb 4 kind
not_known kind = go (le-or-lt 4 kind)
  where
    go : (4 ≤ kind) ⊎ (kind < 4) → not (ltb kind 4) ≡ leb 4 kind
    go (inl h) = rw (le-ltb kind 4 h, le-leb 4 kind h)
    go (inr h) = rw (lt-ltb kind 4 h, lt-leb 4 kind h)

pub placed-alone : (kind n : ℕ) → placed_with (Material.One kind) n ≡ placed_at kind n
unfolding placed_with placed_at
placed-alone kind n = rw (not_known kind, ← board-at kind n, unused-exactly kind n)
    (go (unused (position_at kind n)))
  where
    go : (x : Bool) → cond {A = (Result Position ℕ)} (leb 4 kind) (Err 1)
        (cond (leb 59136 n) (Err 8)
        (cond (not x) (Ok (keyed (board_of (position_at kind n)))) (Err 9)))
        ≡ cond (leb 4 kind) (Err 1)
        (cond (leb 59136 n) (Err 8)
        (cond x (Err 9) (Ok (position_at kind n))))
    go true = refl
    go false = unfold board_of position_at in refl
