-- The board of a place: its men, what a move leaves of it, from which squares its moves start.
use Rattle.std.specs.Prelude.{◌≡◌, refl, Bool, true, false, cond, ◌&&◌, ◌||◌, ◌⊎◌, [], ◌∷◌, ℕ, ◌-◌, ◌≤◌, ◌<◌, T, leb, eqb, None, Some}
use Rattle.std.proofs.Common.{sym, ap, ap₂, ◌∙◌, inl, inr, ⊎_elim, arith, ltb→lt}
use Rattle.std.proofs.Math.Path.{subst⁻¹}
use Rattle.std.proofs.Math.Bool.{or-false}
use mathlib.Core.List.Memᴰ
use Rattle.std.proofs.Math.Dec.{ltb}
use borrow.Author.Tests.{le-leb, lt-leb, leb-false, ne_eqb}
use Rattle.finite.specs.Truth.{le-or-lt, and_left, and_right, true-not-false}
use Rattle.finite.specs.Members.{◌∈◌, any, all}
use Rattle.finite.specs.Tests.{any_append}
use Rattle.rules.specs.declared.Piece.{Piece}
use Rattle.rules.specs.Rules.{Board, empty, piece_of, pieces, apart, touching, stands, taking, carried, can_move}
use Rattle.rules.proofs.laws.CanMove.{can-facts}
use Rattle.numbering.proofs.laws.ChangeLaws.{coloured}
use Rattle.position.specs.declared.Men.{Men}
use Rattle.position.specs.declared.Place.{Place}
use Rattle.position.specs.Keyed.{slot_men, board_of, one_man}
use Rattle.position.specs.Refusals.{bad_side, bad_square, bad_pawn, shared_square, bad_men_of, placing_with}
use Rattle.position.specs.Posed.{slot_at, posed, board_in, Complete}
use Rattle.position.proofs.laws.PlacedLaws.{either, passes}
use Rattle.position.proofs.laws.BothSizes.{six}
use Rattle.movegen.specs.Places.{square_after, place_after}
use Rattle.successors.specs.Successors.{king_at, Remains}

-- ---- the men of a place

module _ (m : Men) (q : Place) where
  pub both-there : q.first < 64 → q.second < 64
      → (board_in m q).men ≡ piece_of m.first 0 q.first ∷ piece_of m.second m.colour q.second ∷ []
  unfolding board_of posed
  both-there h k = rw (lt-leb 64 q.first h, lt-leb 64 q.second k)

  pub none-there : 64 ≤ q.first → 64 ≤ q.second → (board_in m q).men ≡ []
  unfolding board_of posed
  none-there h k = rw (le-leb 64 q.first h, le-leb 64 q.second k)

  pub first-there : q.first < 64 → 64 ≤ q.second
      → board_in m q ≡ board_of (one_man m.first 0 q.side q.white q.first q.black)
  unfolding board_of posed
  first-there h k = rw (lt-leb 64 q.first h, le-leb 64 q.second k)

  pub second-there : 64 ≤ q.first → q.second < 64
      → board_in m q ≡ board_of (one_man m.second m.colour q.side q.white q.second q.black)
  unfolding board_of posed
  second-there h k = rw (le-leb 64 q.first h, lt-leb 64 q.second k)

-- ---- a complete place, fact by fact

pub record Whole (m : Men) (q : Place) : Type 0 where
  pub side : q.side < 2
  pub squares : T (all (λ a. ltb a.square 64) (pieces (board_in m q)))
  pub distinct : T (apart (pieces (board_in m q)))
  pub kings : touching (board_in m q) ≡ false
  pub first : q.first < 64
  pub alone : 4 ≤ m.second → 64 ≤ q.second

-- 1 does not refuse it: the first man is there, and the second where he has a kind
module _ (m : Men) (q : Place) where
  abbrev bad : Bool
  bad = bad_men_of (slot_at m.first 0 q.first) (slot_at m.second m.colour q.second)

  there : (64 ≤ q.first) ⊎ (q.first < 64) → bad ≡ false → q.first < 64
  there (inl h) e = absurd (true-not-false {b = bad} (rw (le-leb 64 q.first h)) e)
  there (inr h) e = h

  or_yes : (a : Bool) → (a || true) ≡ true
  or_yes true = refl
  or_yes false = refl

  gone : 4 ≤ m.second → (64 ≤ q.first) ⊎ (q.first < 64) → (64 ≤ q.second) ⊎ (q.second < 64) → bad ≡ false
      → 64 ≤ q.second
  gone h x (inl k) e = k
  gone h (inl g) (inr k) e = absurd (true-not-false {b = bad} (rw (le-leb 64 q.first g)) e)
  gone h (inr g) (inr k) e =
      absurd (true-not-false {b = bad}
      (rw (lt-leb 64 q.first g, lt-leb 64 q.second k, le-leb 4 m.second h) (or_yes (leb 4 m.first))) e)

pub whole : (m : Men) (q : Place) → Complete m q → Whole m q
unfolding placing_with bad_side bad_square shared_square
whole m q w =
    let p = posed m q in
    let f = six (bad_men_of p.first p.second) (bad_side p) (bad_square p) (bad_pawn p) (shared_square p)
    (touching (board_of p))
    w.placed in
    record {
      side = unfold posed in
          leb-false 2 q.side (either (leb 2 p.side) (all coloured (board_of p).men) f.1).0;
      squares = passes (all (λ a. ltb a.square 64) (pieces (board_of p))) f.2;
      distinct = passes (apart (pieces (board_of p))) f.4;
      kings = f.5;
      first = unfold posed in there m q (le-or-lt 64 q.first) f.0;
      alone = λ h. unfold posed in gone m q h (le-or-lt 64 q.first) (le-or-lt 64 q.second) f.0;
    }

-- it has a man
pub manned : (m : Men) (q : Place) → q.first < 64 → empty (board_in m q).men ≡ false
unfolding board_of posed
manned m q h = rw (lt-leb 64 q.first h)

-- ---- what a move leaves

module _ (from to : ℕ) (hf : from < 64) (ht : to < 64) where
  off-stays : (s : ℕ) → 64 ≤ s → square_after from to s ≡ s
  off-stays s h = rw (ne_eqb s to (λ e. omega arith), ne_eqb s from (λ e. omega arith))

  carried_on : (s : ℕ) → s < 64 → carried from to s < 64
  carried_on s h = go (eqb s from)
    where
      go : (x : Bool) → cond x to s < 64
      go true = ht
      go false = h

-- ---- where moves start

in-slot : (kind colour s : ℕ) (a : Piece) → a ∈ slot_men (slot_at kind colour s) → a.square ≡ s
in-slot kind colour s a h = go (leb 64 s) h
  where
    go : (x : Bool) → a ∈ slot_men (cond x None (Some (piece_of kind colour s))) → a.square ≡ s
    go true i = elim i [ ]
    go false (Memᴰ.head e) = ap (λ (p : Piece). p.square) e
    go false (Memᴰ.tail i) = elim i [ ]

abbrev pub StartsAt : ℕ → ℕ → ℕ → ℕ → Type 0
StartsAt king first second from = (from ≡ king) ⊎ ((from ≡ first) ⊎ (from ≡ second))

pub starts : (m : Men) (q : Place) (from to : ℕ) → T (can_move (board_in m q) from to)
    → StartsAt (king_at q) q.first q.second from
unfolding board_of posed
starts m q from to t = let c = can-facts (board_in m q) from to t in go c.piece c.there c.own c.at
  where
    go : (a : Piece) → a ∈ pieces (board_in m q) → a.colour ≡ q.side → a.square ≡ from
        → StartsAt (king_at q) q.first q.second from
    go a (Memᴰ.head e) o s =
        let z : 0 ≡ q.side = ap (λ (p : Piece). p.colour) (sym e) ∙ o in
        inl (sym s ∙ ap (λ (p : Piece). p.square) e ∙ sym (rw (← z)))
    go a (Memᴰ.tail (Memᴰ.head e)) o s =
        let z : 1 ≡ q.side = ap (λ (p : Piece). p.colour) (sym e) ∙ o in
        inl (sym s ∙ ap (λ (p : Piece). p.square) e ∙ sym (rw (← z)))
    go a (Memᴰ.tail (Memᴰ.tail i)) o s =
        ⊎_elim (λ x. inr (inl (sym s ∙ in-slot m.first 0 q.first a x)))
        (λ x. inr (inr (sym s ∙ in-slot m.second m.colour q.second a x)))
        (Memᴰ.append_cases (slot_men (slot_at m.first 0 q.first)) i)

-- ---- a complete place and what a move leaves of it have numbers

white-on : (b : Board) → T (all (λ a. ltb a.square 64) (pieces b)) → b.white < 64
unfolding all
white-on b t = ltb→lt b.white 64 (and_left (ltb b.white 64) _ t)

black-on : (b : Board) → T (all (λ a. ltb a.square 64) (pieces b)) → b.black < 64
unfolding all
black-on b t = ltb→lt b.black 64 (and_left (ltb b.black 64) _ (and_right (ltb b.white 64) _ t))

pub remains : (m : Men) (q : Place) → Complete m q → Remains m q
unfolding board_of posed
remains m q c = let w = whole m q c in
    record {
      ending = c.ending;
      colour = c.colour;
      side = w.side;
      white = white-on (board_in m q) w.squares;
      black = black-on (board_in m q) w.squares;
      alone = w.alone;
    }

pub remains-after : (m : Men) (q : Place) (from to : ℕ) → Complete m q → from < 64 → to < 64
    → Remains m (place_after q from to)
unfolding place_after
remains-after m q from to c hf ht = let w = remains m q c in
    record {
      ending = c.ending;
      colour = c.colour;
      side = omega arith;
      white = carried_on from to hf ht q.white w.white;
      black = carried_on from to hf ht q.black w.black;
      alone = λ h. let k = w.alone h in subst⁻¹ (λ (s : ℕ). 64 ≤ s) (off-stays from to hf ht q.second k) k;
    }

-- ---- whether a move takes

slot-stands : (kind colour s foe to : ℕ) → to < 64
    → any (λ a. eqb a.colour foe && eqb a.square to) (slot_men (slot_at kind colour s))
    ≡ (eqb colour foe && eqb s to)
unfolding any
slot-stands kind colour s foe to h = go (le-or-lt 64 s)
  where
    and_no : (x : Bool) → false ≡ (x && false)
    and_no true = refl
    and_no false = refl

    go : (64 ≤ s) ⊎ (s < 64)
        → any (λ a. eqb a.colour foe && eqb a.square to) (slot_men (slot_at kind colour s))
        ≡ (eqb colour foe && eqb s to)
    go (inl k) = rw (le-leb 64 s k, ne_eqb s to (λ e. omega arith)) (and_no (eqb colour foe))
    go (inr k) = rw (lt-leb 64 s k) (or-false (eqb colour foe && eqb s to))

pub place-taking : (m : Men) (q : Place) (to foe : ℕ) → to < 64 → foe ≡ 1 - q.side
    → ((eqb 0 foe && eqb q.white to)
    || ((eqb 1 foe && eqb q.black to)
    || ((eqb 0 foe && eqb q.first to) || (eqb m.colour foe && eqb q.second to))))
    ≡ taking (board_in m q) to
unfolding taking stands any board_of posed
place-taking m q to foe h e =
    rw e (ap (λ (x : Bool). (eqb 0 (1 - q.side) && eqb q.white to) ||
    ((eqb 1 (1 - q.side) && eqb q.black to) || x))
    (sym (any_append (λ a. eqb a.colour (1 - q.side) && eqb a.square to)
    (slot_men (slot_at m.first 0 q.first))
    (slot_men (slot_at m.second m.colour q.second))
    ∙ ap₂ ◌||◌ (slot-stands m.first 0 q.first (1 - q.side) to h)
    (slot-stands m.second m.colour q.second (1 - q.side) to h))))
