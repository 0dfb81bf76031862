-- A king's move that takes no man puts him on one of his squares while all other pieces stand still.
use Rattle.std.specs.Prelude.{◌≡◌, List, Bool, true, false, ◌&&◌, ◌||◌, eqb, get_or}
use Rattle.std.proofs.Math.Path.{refl, subst}
use Rattle.std.proofs.Common.{sym, ap, ◌∙◌, arith, lt-ltb, eq-eqb, ne_eqb}
use Rattle.std.proofs.Math.Bool.{cond, not}
use Prim.Native.Nat.{ℕ, zero, suc, ◌-◌, ◌<◌}
use Rattle.std.proofs.Math.Dec.{T}
use Rattle.finite.specs.Truth.{and_left, and_right, false_of, refuted}
use Rattle.board.specs.Reach.{reaches}
use Rattle.board.proofs.laws.ReachLaws.{king-reaches}
use Rattle.symmetry.proofs.laws.Opposite.{reaches-sym}
use Rattle.rules.specs.Rules.{Board, occupied, king, stands, goes, touching, carried, moved, can_move}
use Rattle.rules.proofs.laws.CanMove.{can-on}
use Rattle.numbering.specs.Kings.{separate}
use Rattle.numbering.specs.Number.{number_of}
use Rattle.position.specs.declared.Men.{Men}
use Rattle.position.specs.declared.Place.{Place}
use Rattle.position.specs.Keyed.{board_of}
use Rattle.position.specs.Over.{attacked_over, goes_over, lifted}
use Rattle.position.specs.Posed.{posed, board_in, Complete}
use Rattle.position.specs.Spread.{Spread}
use Rattle.position.proofs.laws.PosedLaws.{complete-spread}
use Rattle.movegen.proofs.laws.Alone.{king-alone as king-goes}
use Rattle.movegen.proofs.laws.Lifted.{king-moves}
use Rattle.movegen.proofs.laws.Struck.{attacked-split}
use Rattle.index.specs.declared.Still.{Still}
use Rattle.index.specs.Seats.{Seated}
use Rattle.index.specs.Moving.{king_on, Stands}
use Rattle.successors.specs.Successors.{king_at, bytes_in}
use Rattle.successors.specs.Quiet.{of_man, quiet_to, king_to}
use Rattle.successors.proofs.laws.QuietLaws.{byte-king}

module _ (m : Men) (q : Place) (w : Complete m q) where
  apart : Spread m q
  apart = complete-spread w

  -- his square, the others' where they stand
  king-on : (to : ℕ) → king_on (eqb q.side 0) q.white q.black q.first q.second (1 - q.side) to ≡ king_to q (king_at q) to
  king-on to = go (eqb q.side 0)
    where
      on : (white black : ℕ) → Place
      on white black = record { side = 1 - q.side; white = white; black = black; first = q.first; second = q.second }

      go : (e : Bool)
          → on (cond e to q.white) (cond e q.black to)
          ≡ on (carried (cond e q.white q.black) to q.white) (carried (cond e q.white q.black) to q.black)
      go true = sym (rw (eq-eqb q.white q.white refl, ne_eqb q.black q.white (λ z. apart.white-black (sym z))))
      go false = sym (rw (eq-eqb q.black q.black refl, ne_eqb q.white q.black apart.white-black))

  -- no man stands where the king does
  pub king-alone : of_man q (king_at q) ≡ false
  king-alone = go (eqb q.side 0)
    where
      go : (e : Bool)
          → (eqb q.first (cond e q.white q.black) || eqb q.second (cond e q.white q.black)) ≡ false
      go true =
          rw (
            ne_eqb q.first q.white (λ z. apart.white-first (sym z)),
            ne_eqb q.second q.white (λ z. apart.white-second (sym z)),
          )
      go false =
          rw (
            ne_eqb q.first q.black (λ z. apart.black-first (sym z)),
            ne_eqb q.second q.black (λ z. apart.black-second (sym z)),
          )

  -- where he goes the other king does not touch him
  module _ (to : ℕ) (c : T (can_move (board_in m q) (king_at q) to)) where
    abbrev b : Board
    b = board_in m q

    abbrev hit : Bool
    hit = attacked_over (lifted (occupied b) (king_at q)) b (1 - q.side) to

    told : T (goes b (king_at q) to && not (stands b q.side to) && not hit)
    unfolding board_of posed
    told = subst T (king-moves b (king_at q) (λ h. (king-goes m q apart).foes refl h) refl to) c

    steps : T (reaches (λ s. false) 5 (king_at q) to)
    unfolding goes goes_over board_of posed
    steps =
        subst T (king-reaches (occupied b) (λ s. false) (king_at q) to)
        (and_right (eqb q.side q.side) (reaches (occupied b) 5 (king_at q) to)
        (subst T ((king-goes m q apart).goes (occupied b) to) (and_left (goes b (king_at q) to) (not (stands b q.side to)) (and_left (goes b (king_at q) to && not (stands b q.side to)) (not hit) told))))

    untouched : reaches (λ s. false) 5 (cond (eqb q.side 0) q.black q.white) to ≡ false
    untouched =
        king-reaches (λ s. false) (lifted (occupied b) (king_at q)) (cond (eqb q.side 0) q.black q.white) to
        ∙ ap (λ (k : ℕ). reaches (lifted (occupied b) (king_at q)) 5 k to) (sym other-king)
        ∙ first-false (reaches (lifted (occupied b) (king_at q)) 5 (king b (1 - q.side)) to) _
        (sym (attacked-split m q apart.pawnless (lifted (occupied b) (king_at q)) (1 - q.side) (let h = apart.side in omega arith) to)
        ∙ false_of {b = hit} (and_right (goes b (king_at q) to && not (stands b q.side to)) (not hit) told))
      where
        other-king : king b (1 - q.side) ≡ cond (eqb q.side 0) q.black q.white
        other-king = unfold board_of posed in go q.side apart.side
          where
            go : (s : ℕ) → s < 2 → cond (eqb (1 - s) 0) q.white q.black ≡ cond (eqb s 0) q.black q.white
            go zero h = refl
            go (suc zero) h = refl
            go (suc (suc n)) h = absurd (omega arith)

        first-false : (a d : Bool) → (a || d) ≡ false → a ≡ false
        first-false true d e = absurd (refuted e tt)
        first-false false d e = refl

    -- nor did he before
    kings-off : reaches (λ s. false) 5 q.white q.black ≡ false
    unfolding touching board_of posed
    kings-off = apart.kings

    pub moved-separate : T (separate (cond (eqb q.side 0) to q.white) (cond (eqb q.side 0) q.black to))
    unfolding separate
    moved-separate = go (eqb q.side 0) steps untouched
      where
        on : to < 64
        on = (can-on b (king_at q) to c).1

        go : (e : Bool) → T (reaches (λ s. false) 5 (cond e q.white q.black) to) → reaches (λ s. false) 5 (cond e q.black q.white) to ≡ false
            → T (separate (cond e to q.white) (cond e q.black to))
        go true r f =
            rw (
              lt-ltb to 64 on,
              lt-ltb q.black 64 apart.black,
              ne_eqb to q.black (λ z. refuted (ap (reaches (λ s. false) 5 q.white) z ∙ kings-off) r),
              reaches-sym (λ s. false) 5 to q.black ∙ f,
            ) tt
        go false r f =
            rw (
              lt-ltb q.white 64 apart.white,
              lt-ltb to 64 on,
              ne_eqb q.white to (λ z. refuted (reaches-sym (λ s. false) 5 q.black to ∙ ap (λ (k : ℕ). reaches (λ s. false) 5 k q.black) (sym z) ∙ kings-off) r),
              f,
            ) tt

  -- the byte after his move, at the number that he makes there
  pub byte-there : (to : ℕ) → T (quiet_to m q (king_at q) to) → (first second table : List ℕ) (side n r : ℕ) → side ≡ 1 - q.side
      → (Seated m (king_on (eqb q.side 0) q.white q.black q.first q.second side to)
      → T (separate (cond (eqb q.side 0) to q.white) (cond (eqb q.side 0) q.black to))
      → n ≡ number_of (board_in m (king_on (eqb q.side 0) q.white q.black q.first q.second side to)))
      → r ≡ get_or table n 0 → r ≡ bytes_in m first second table (moved (board_in m q) (king_at q) to)
  byte-there to t first second table side n r e f g =
      let place = king_on (eqb q.side 0) q.white q.black q.first q.second in
      byte-king m q (king_at q) to t w first second table king-alone (place side to) r (ap (λ (d : ℕ). place d to) e ∙ king-on to)
      (λ i. g ∙ ap (λ (k : ℕ). get_or table k 0) (f i (moved-separate to (and_left (can_move (board_in m q) (king_at q) to) (not (of_man q to)) t))))

  -- the same by what stands still
  pub byte_step : (to : ℕ) → T (quiet_to m q (king_at q) to) → (first second table : List ℕ) (l : Still) (side n r : ℕ) → side ≡ 1 - q.side
      → Stands m l (king_on (eqb q.side 0) q.white q.black q.first q.second)
      → ((a : Men) (place : ℕ → ℕ → Place) → Stands a l place → Seated a (place side to)
      → T (separate (place side to).white (place side to).black) → n ≡ number_of (board_in a (place side to)))
      → r ≡ get_or table n 0 → r ≡ bytes_in m first second table (moved (board_in m q) (king_at q) to)
  byte_step to t first second table l side n r e h f g = byte-there to t first second table side n r e (f m _ h) g
