-- The kings and the men of an ending on a place: each alone on its square.
use Rattle.std.specs.Prelude.{◌≡◌, Bool, true, false, cond, ◌&&◌, ◌||◌, eqb}
use Rattle.std.proofs.Math.Path.{refl}
use Rattle.std.proofs.Common.{sym, ◌∙◌, arith, eq-eqb, ne_eqb}
use Rattle.std.proofs.Math.Bool.{or-true, or-false, and-false}
use Prim.Native.Nat.{ℕ, zero, suc, ◌-◌, ◌≤◌, ◌<◌}
use Rattle.board.specs.Reach.{reaches}
use Rattle.rules.specs.Rules.{piece_of, king}
use Rattle.position.specs.declared.Men.{Men}
use Rattle.position.specs.declared.Place.{Place}
use Rattle.position.specs.Keyed.{board_of}
use Rattle.position.specs.Over.{goes_from}
use Rattle.position.specs.Pieces.{own_on}
use Rattle.position.specs.Posed.{posed, board_in}
use Rattle.position.proofs.laws.Over.{goes-elsewhere}
use Rattle.position.specs.Spread.{Spread}
use Rattle.movegen.specs.Places.{first_of, second_of}
use Rattle.movegen.proofs.laws.Places.{piece-goes, stands-men, goes-men}
use Rattle.movegen.specs.Reach.{Alone, Man}

-- ---- one of four tests passes

none_of : (a b c d : Bool) → a ≡ false → b ≡ false → c ≡ false → d ≡ false → (a || (b || (c || d))) ≡ false
none_of a b c d e f g h = rw (e, f, g, h)

first-of : (a b c d : Bool) → b ≡ false → c ≡ false → d ≡ false → (a || (b || (c || d))) ≡ a
first-of a b c d e f g = rw (e, f, g) (or-false a)

next_of : (a b c d : Bool) → a ≡ false → c ≡ false → d ≡ false → (a || (b || (c || d))) ≡ b
next_of a b c d e f g = rw (e, f, g) (or-false b)

third_of : (a b c d : Bool) → a ≡ false → b ≡ false → d ≡ false → (a || (b || (c || d))) ≡ c
third_of a b c d e f h = rw (e, f, h) (or-false c)

fourth-of : (a b c d : Bool) → a ≡ false → b ≡ false → c ≡ false → (a || (b || (c || d))) ≡ d
fourth-of a b c d e f g = rw (e, f, g)

-- ---- a piece of a colour on a square, or not

own-here : (colour t kind owner : ℕ) → owner ≡ colour → own_on colour t (piece_of kind owner t) ≡ true
own-here colour t kind owner e = rw (eq-eqb owner colour e, eq-eqb t t refl)

own-elsewhere : (colour t kind owner square : ℕ) → (square ≡ t → ⊥) → own_on colour t (piece_of kind owner square) ≡ false
own-elsewhere colour t kind owner square n = rw (ne_eqb square t n) (and-false (eqb owner colour))

own-other : (colour t kind owner square : ℕ) → (owner ≡ colour → ⊥) → own_on colour t (piece_of kind owner square) ≡ false
own-other colour t kind owner square n = rw (ne_eqb owner colour n)

-- ---- each by itself

-- one piece's part of going
mine : (occ : ℕ → Bool) (side t kind owner square : ℕ) → (kind ≡ 4 → 64 ≤ square)
    → goes_from occ side square t (piece_of kind owner square) ≡ (eqb owner side && reaches occ kind square t)
mine occ side t kind owner square out =
    rw (eq-eqb square square refl, piece-goes occ t (piece_of kind owner square) out) (go (eqb owner side))
  where
    go : (x : Bool) → (x && true && reaches occ kind square t) ≡ (x && reaches occ kind square t)
    go true = refl
    go false = refl

not-foe : (owner side : ℕ) → owner ≡ side → side < 2 → owner ≡ 1 - side → ⊥
not-foe owner side e l f = absurd (omega arith)

module _ (m : Men) (q : Place) (w : Spread m q) where
  pub white-alone : Alone m q 5 0 q.white
  white-alone =
      let s = q.white in
      record {
        goes = λ occ t. goes-men m q occ s t
            ∙ first-of _ _ _ _ (goes-elsewhere occ q.side s t (piece_of 5 1 q.black) (λ e. w.white-black (sym e)))
            (goes-elsewhere occ q.side s t (first_of m q) (λ e. w.white-first (sym e)))
            (goes-elsewhere occ q.side s t (second_of m q) (λ e. w.white-second (sym e)))
            ∙ mine occ q.side t 5 0 s (λ e. absurd (omega arith));
        own = λ e l. stands-men m q q.side s l ∙ rw (own-here q.side s 5 0 e);
        foes = λ e l. stands-men m q (1 - q.side) s l
            ∙ none_of _ _ _ _ (own-other (1 - q.side) s 5 0 s (not-foe 0 q.side e w.side))
            (own-elsewhere (1 - q.side) s 5 1 q.black (λ e. w.white-black (sym e)))
            (own-elsewhere (1 - q.side) s m.first 0 q.first (λ e. w.white-first (sym e)))
            (own-elsewhere (1 - q.side) s m.second m.colour q.second (λ e. w.white-second (sym e)));
      }

  pub black-alone : Alone m q 5 1 q.black
  black-alone =
      let s = q.black in
      record {
        goes = λ occ t. goes-men m q occ s t
            ∙ next_of _ _ _ _ (goes-elsewhere occ q.side s t (piece_of 5 0 q.white) w.white-black)
            (goes-elsewhere occ q.side s t (first_of m q) (λ e. w.black-first (sym e)))
            (goes-elsewhere occ q.side s t (second_of m q) (λ e. w.black-second (sym e)))
            ∙ mine occ q.side t 5 1 s (λ e. absurd (omega arith));
        own = λ e l. stands-men m q q.side s l
            ∙ rw (own-here q.side s 5 1 e) (or-true (own_on q.side s (piece_of 5 0 q.white)));
        foes = λ e l. stands-men m q (1 - q.side) s l
            ∙ none_of _ _ _ _ (own-elsewhere (1 - q.side) s 5 0 q.white w.white-black)
            (own-other (1 - q.side) s 5 1 s (not-foe 1 q.side e w.side))
            (own-elsewhere (1 - q.side) s m.first 0 q.first (λ e. w.black-first (sym e)))
            (own-elsewhere (1 - q.side) s m.second m.colour q.second (λ e. w.black-second (sym e)));
      }

  pub first_alone : Alone m q m.first 0 q.first
  first_alone =
      let s = q.first in
      record {
        goes = λ occ t. goes-men m q occ s t
            ∙ third_of _ _ _ _ (goes-elsewhere occ q.side s t (piece_of 5 0 q.white) w.white-first)
            (goes-elsewhere occ q.side s t (piece_of 5 1 q.black) w.black-first)
            (goes-elsewhere occ q.side s t (second_of m q) (λ e. w.first-second (sym e)))
            ∙ mine occ q.side t m.first 0 s w.pawnless.first;
        own = λ e l. stands-men m q q.side s l
            ∙ rw (own-here q.side s m.first 0 e, or-true (own_on q.side s (piece_of 5 1 q.black)))
            (or-true (own_on q.side s (piece_of 5 0 q.white)));
        foes = λ e l. stands-men m q (1 - q.side) s l
            ∙ none_of _ _ _ _ (own-elsewhere (1 - q.side) s 5 0 q.white w.white-first)
            (own-elsewhere (1 - q.side) s 5 1 q.black w.black-first)
            (own-other (1 - q.side) s m.first 0 s (not-foe 0 q.side e w.side))
            (own-elsewhere (1 - q.side) s m.second m.colour q.second (λ e. w.first-second (sym e)));
      }

  pub second-alone : Alone m q m.second m.colour q.second
  second-alone =
      let s = q.second in
      record {
        goes = λ occ t. goes-men m q occ s t
            ∙ fourth-of _ _ _ _ (goes-elsewhere occ q.side s t (piece_of 5 0 q.white) w.white-second)
            (goes-elsewhere occ q.side s t (piece_of 5 1 q.black) w.black-second)
            (goes-elsewhere occ q.side s t (first_of m q) w.first-second)
            ∙ mine occ q.side t m.second m.colour s w.pawnless.second;
        own = λ e l. stands-men m q q.side s l
            ∙ rw (
              own-here q.side s m.second m.colour e,
              or-true (own_on q.side s (first_of m q)),
              or-true (own_on q.side s (piece_of 5 1 q.black)),
            ) (or-true (own_on q.side s (piece_of 5 0 q.white)));
        foes = λ e l. stands-men m q (1 - q.side) s l
            ∙ none_of _ _ _ _ (own-elsewhere (1 - q.side) s 5 0 q.white w.white-second)
            (own-elsewhere (1 - q.side) s 5 1 q.black w.black-second)
            (own-elsewhere (1 - q.side) s m.first 0 q.first w.first-second)
            (own-other (1 - q.side) s m.second m.colour s (not-foe m.colour q.side e w.side));
      }

  pub first-man : Man m q m.first 0 q.first
  first-man = record { alone = first_alone; white = w.white-first; black = w.black-first }

  pub second-man : Man m q m.second m.colour q.second
  second-man = record { alone = second-alone; white = w.white-second; black = w.black-second }

  -- the king of the side to move
  pub king-alone : Alone m q 5 q.side (king (board_in m q) q.side)
  unfolding board_of posed
  king-alone = go q.side refl w.side
    where
      go : (s : ℕ) → q.side ≡ s → s < 2 → Alone m q 5 s (cond (eqb s 0) q.white q.black)
      go zero e l = white-alone
      go (suc zero) e l = black-alone
      go (suc (suc n)) e l = absurd (omega arith)
