-- Where no other man of the mover has a line to the king, the place before a move is legal exactly if the piece did not attack him from there; where one has,
-- only if the piece stood between.
use Rattle.std.specs.Prelude.{◌≡◌, Bool, false, not, ◌&&◌, ◌||◌, ◌⊎◌, ℕ, zero, suc, ◌-◌, ◌<◌, T, leb, eqb}
use Rattle.std.proofs.Math.Path.{refl, sym, ap₂, subst⁻¹}
use Rattle.std.proofs.Common.{ap, subst, ◌∙◌, inl, inr, ⊎_elim, arith, eqb→eq, leb-false, eq-eqb, ne_eqb}
use Rattle.std.proofs.Math.Bool.{true, cond, or-true, or-false, and-true, and-false}
use Rattle.std.proofs.lemmas.Bool.{lt-leb, eqb-false}
use Rattle.finite.specs.Truth.{decided, true_of, false_of, fails, refuted}
use Rattle.board.specs.Reach.{reaches}
use Rattle.board.proofs.laws.ReachLaws.{reaches-squares, king-reaches}
use Rattle.symmetry.proofs.laws.Opposite.{reaches-sym}
use Rattle.rules.specs.Rules.{occupied, touching, attacks, legal, king, carried}
use Rattle.position.specs.declared.Men.{Men}
use Rattle.position.specs.declared.Place.{Place}
use Rattle.position.specs.Keyed.{board_of}
use Rattle.position.specs.Posed.{posed, board_in}
use Rattle.index.proofs.laws.SeatLaws.{known-one, known_two}
use Rattle.movegen.specs.Places.{men_strike, place_after}
use Rattle.rules.proofs.laws.Legal.{legal-facts}
use Rattle.movegen.proofs.laws.Places.{occupied-men}
use Rattle.movegen.proofs.laws.Lines.{line-cut, line-own, reaches-met}
use Rattle.retracting.specs.Retracting.{Missing, LegalLeft, Seat, loser, put_again, place_before, CompleteApart, others_strike}
use Rattle.retracting.proofs.laws.Back.{Free, man-stays, man-goes, free-after, occupied-before}
use Rattle.retracting.proofs.laws.Sources.{free-empty, seat-free, side_before}
use Rattle.retracting.proofs.laws.Checks.{quiet-man, legal-men, legal-kings}

pub or-none : (a b : Bool) → (a || b) ≡ false → (a ≡ false) × (b ≡ false)
or-none true b e = absurd (subst T e tt)
or-none false b e = (refl, e)

-- the side to move's king is not the piece that moved
pub off : (m : Men) (q : Place) (taken : ℕ) → LegalLeft m q taken → (kind owner to side : ℕ) → Seat m q kind owner to → side < 2 → owner ≡ 1 - side
    → cond (eqb side 0) q.white q.black ≡ to → ⊥
off m q taken w kind owner to zero Seat.white h e z = absurd (omega (arith, e))
off m q taken w kind owner to (suc zero) Seat.white h e z = w.white-black (sym z)
off m q taken w kind owner to zero Seat.black h e z = w.white-black z
off m q taken w kind owner to (suc zero) Seat.black h e z = absurd (omega (arith, e))
off m q taken w kind owner to zero Seat.first h e z = w.white-first z
off m q taken w kind owner to (suc zero) Seat.first h e z = w.black-first z
off m q taken w kind owner to zero Seat.second h e z = w.white-second z
off m q taken w kind owner to (suc zero) Seat.second h e z = w.black-second z
off m q taken w kind owner to (suc (suc n)) seat h e z = absurd (omega arith)

pub still-king : (q : Place) (to s side k : ℕ) → k ≡ cond (eqb side 0) q.white q.black → (k ≡ to → ⊥)
    → cond (eqb side 0) (carried to s q.white) (carried to s q.black) ≡ k
still-king q to s side k e n = go (eqb side 0) e
  where
    go : (b : Bool) → k ≡ cond b q.white q.black → cond b (carried to s q.white) (carried to s q.black) ≡ k
    go true e = rw (ne_eqb q.white to (λ z. n (e ∙ z))) (sym e)
    go false e = rw (ne_eqb q.black to (λ z. n (e ∙ z))) (sym e)

-- a piece's square is occupied
seat-there : (m : Men) (q : Place) (kind owner to : ℕ) → to < 64 → Seat m q kind owner to → occupied (board_in m q) to ≡ true
seat-there m q kind owner to h seat = occupied-men m q to h ∙ go kind owner to seat
  where
    go : (i j t : ℕ) → Seat m q i j t
        → (eqb t q.white || (eqb t q.black || (eqb t q.first || eqb t q.second))) ≡ true
    go i j t Seat.white = rw (eq-eqb q.white q.white refl)
    go i j t Seat.black = rw (eq-eqb q.black q.black refl) (or-true (eqb q.black q.white))
    go i j t Seat.first =
        rw (eq-eqb q.first q.first refl, or-true (eqb q.first q.black)) (or-true (eqb q.first q.white))
    go i j t Seat.second =
        rw (
          eq-eqb q.second q.second refl,
          or-true (eqb q.second q.first),
          or-true (eqb q.second q.black),
        ) (or-true (eqb q.second q.white))

-- what stands before the move, but for the piece that moved
module _ (m : Men) (q : Place) (taken : ℕ) (w : LegalLeft m q taken) (kind owner to s : ℕ) (seat : Seat m q kind owner to) (lt : to < 64)
    (ls : s < 64) (f : Free q s) (stood : ℕ → Bool)
    (et : (u : ℕ) → u < 64 → stood u ≡ (occupied (board_in m q) u && not (eqb taken 0 && eqb u to))) where
  abbrev held : ℕ → Bool
  held = occupied (board_in m (place_before q taken s to))

  -- the target before the move: free, or the man taken stood there
  at_target : (i : ℕ) → Missing m q i
      → occupied (board_in m (place_before q i s to)) to ≡ (occupied (board_in m q) to && not (eqb i 0 && eqb to to))
  unfolding put_again place_after
  at_target i (Missing.nobody a b) =
      free-empty m (place_after q to s) to lt (free-after q to s lt (seat-free m q kind owner to s seat f))
      ∙ sym (rw (eq-eqb to to refl) (and-false (occupied (board_in m q) to)))
  at_target i (Missing.first a b c) =
      seat-there m (place_before q 1 s to) m.first 0 to lt Seat.first
      ∙ sym (and-true (occupied (board_in m q) to) ∙ seat-there m q kind owner to lt seat)
  at_target i (Missing.second a b c) =
      seat-there m (place_before q 2 s to) m.second m.colour to lt Seat.second
      ∙ sym (and-true (occupied (board_in m q) to) ∙ seat-there m q kind owner to lt seat)

  pub stood-then : (u : ℕ) → u < 64 → (u ≡ s → ⊥) → held u ≡ stood u
  stood-then u l n = go (decided (eqb u to))
    where
      off-target : (x : Bool) → (x && eqb u to) ≡ false → (occupied (board_in m q) u && not (x && eqb u to)) ≡ occupied (board_in m q) u
      off-target x e = rw e (and-true (occupied (board_in m q) u))

      go : T (eqb u to) ⊎ T (not (eqb u to)) → held u ≡ stood u
      go (inl x) =
          let e = eqb→eq u to x in
          subst⁻¹ (λ (v : ℕ). held v ≡ stood v) e (at_target taken w.missing ∙ sym (et to lt))
      go (inr x) =
          let z : eqb u to ≡ false = false_of x in
          occupied-before m q taken s to u w.missing l (eqb-false u to z) n
          ∙ sym (et u l ∙ off-target (eqb taken 0) (rw z (and-false (eqb taken 0))))

  pub stood-free : stood s ≡ false
  stood-free = et s ls ∙ rw (free-empty m q s ls f)

module _ (m : Men) (q : Place) (taken : ℕ) (w : LegalLeft m q taken) (kind owner to s : ℕ) (seat : Seat m q kind owner to)
    (mover : owner ≡ 1 - q.side) (lost : (taken ≡ 0 → ⊥) → loser m taken ≡ q.side)
    (h : T (reaches (occupied (board_in m q)) kind to s)) (f : Free q s) (k : ℕ)
    (ek : k ≡ cond (eqb q.side 0) q.white q.black) (stood : ℕ → Bool)
    (et : (u : ℕ) → u < 64 → stood u ≡ (occupied (board_in m q) u && not (eqb taken 0 && eqb u to))) where
  abbrev o : Place
  o = place_before q taken s to

  abbrev occ : ℕ → Bool
  occ = occupied (board_in m o)

  lt : to < 64
  lt = (reaches-squares (occupied (board_in m q)) kind to s h).0

  ls : s < 64
  ls = (reaches-squares (occupied (board_in m q)) kind to s h).1

  king-off : k ≡ to → ⊥
  king-off z = off m q taken w kind owner to q.side seat w.side mover (sym ek ∙ z)

  same : (u : ℕ) → u < 64 → (u ≡ s → ⊥) → occ u ≡ stood u
  same = stood-then m q taken w kind owner to s seat lt ls f stood et

  gone : stood s ≡ false
  gone = stood-free m q taken w kind owner to s seat lt ls f stood et

  side-there : o.side ≡ 1 - q.side
  side-there = side_before q taken s to

  -- a man who did not move does not strike the king
  other : (c j a : ℕ) → (a ≡ to → ⊥)
      → ((eqb c (1 - q.side) && not (eqb a to)) && reaches stood j a k) ≡ false
      → (eqb c (1 - q.side) && reaches occ j a k) ≡ false
  other c j a n e =
      quiet-man c (1 - q.side) (not (eqb a to)) (reaches stood j a k) e (ap not (ne_eqb a to n)) (reaches occ j a k)
      (line-cut occ stood s k same gone j a)

  -- one who was taken is not the mover's
  victim : (c j a : ℕ) → c ≡ q.side → (eqb c (1 - q.side) && reaches occ j a k) ≡ false
  victim c j a e = rw (ne_eqb c (1 - q.side) (λ z. omega (arith, z, e, w.side)))

  own : (c j : ℕ) → c ≡ 1 - q.side → (eqb c (1 - q.side) && reaches occ j s k) ≡ reaches stood j k s
  own c j e = rw (eq-eqb c (1 - q.side) e) (line-own occ stood s k same gone j)

  strike-by : (x y : ℕ) → o.first ≡ x → o.second ≡ y
      → men_strike m o occ (1 - q.side) k
      ≡ ((eqb 0 (1 - q.side) && reaches occ m.first x k) || (eqb m.colour (1 - q.side) && reaches occ m.second y k))
  unfolding attacks
  strike-by x y e d =
      ap₂ (λ (i j : ℕ). (eqb 0 (1 - q.side) && reaches occ m.first i k) || (eqb m.colour (1 - q.side) && reaches occ m.second j k))
      e d

  -- he is the one who moved
  first_goes : q.first ≡ to → o.first ≡ s
  unfolding put_again place_after
  first_goes e = go taken w.missing
    where
      go : (i : ℕ) → Missing m q i → (place_before q i s to).first ≡ s
      go i (Missing.nobody a b) = man-goes to s q.first f.first e
      go i (Missing.first a b c) = absurd (omega (arith, a, e, lt))
      go i (Missing.second a b c) = man-goes to s q.first f.first e

  second-goes : q.second ≡ to → o.second ≡ s
  unfolding put_again place_after
  second-goes e = go taken w.missing
    where
      go : (i : ℕ) → Missing m q i → (place_before q i s to).second ≡ s
      go i (Missing.nobody a b) = man-goes to s q.second f.second e
      go i (Missing.first a b c) = man-goes to s q.second f.second e
      go i (Missing.second a b c) = absurd (omega (arith, b, e, lt))

  kings-there : (o.white ≡ carried to s q.white) × (o.black ≡ carried to s q.black)
  unfolding put_again place_after
  kings-there = (refl, refl)

  king-there : king (board_in m o) q.side ≡ k
  unfolding board_of posed
  king-there =
      ap₂ (λ (a b : ℕ). cond (eqb q.side 0) a b) kings-there.0 kings-there.1
      ∙ still-king q to s q.side k ek king-off

  touch : touching (board_in m o) ≡ reaches (λ u. false) 5 (carried to s q.white) (carried to s q.black)
  unfolding touching board_of posed
  touch = ap₂ (reaches (λ u. false) 5) kings-there.0 kings-there.1

  -- a man moved
  men-apart : (q.white ≡ to → ⊥) → (q.black ≡ to → ⊥) → touching (board_in m o) ≡ false
  men-apart a b =
      touch ∙ rw (ne_eqb q.white to a, ne_eqb q.black to b)
      (unfold touching board_of posed in (legal-facts (board_in m q) w.legality).kings)

  white-near : q.white ≡ to → q.black ≡ k → touching (board_in m o) ≡ reaches stood 5 k s
  white-near a b =
      touch ∙ rw (eq-eqb q.white to a, ne_eqb q.black to (λ z. king-off (sym b ∙ z)), b)
      (king-reaches (λ u. false) stood s k ∙ reaches-sym stood 5 s k)

  black-near : q.black ≡ to → q.white ≡ k → touching (board_in m o) ≡ reaches stood 5 k s
  black-near a b =
      touch ∙ rw (eq-eqb q.black to a, ne_eqb q.white to (λ z. king-off (sym b ∙ z)), b)
      (king-reaches (λ u. false) stood k s)

  foe-king : (side : ℕ) → side < 2 → k ≡ cond (eqb side 0) q.white q.black
      → (0 ≡ 1 - side → k ≡ q.black) × (1 ≡ 1 - side → k ≡ q.white)
  foe-king zero h e = ((λ z. absurd (omega arith)), λ z. e)
  foe-king (suc zero) h e = ((λ z. e), λ z. absurd (omega arith))
  foe-king (suc (suc n)) h e = absurd (omega arith)

  -- no man is a king
  first_small : m.first < 4
  first_small = go (leb 4 m.second) refl
    where
      go : (b : Bool) → leb 4 m.second ≡ b → m.first < 4
      go true e = (known-one m w.ending e).0
      go false e = let x = known_two m w.ending e in omega (arith, x.0, x.1)

  second-small : q.second ≡ to → m.second < 4
  second-small e = go w.missing
    where
      go : {i : ℕ} → Missing m q i → m.second < 4
      go (Missing.nobody a b) = leb-false 4 m.second (sym b ∙ lt-leb 64 q.second (omega (arith, e, lt)))
      go (Missing.first a b c) = c
      go (Missing.second a b c) = c

  -- the kings touch before a king's move where he stood next to the other, and before a man's they do not
  pub king-touches : kind ≡ 5 → touching (board_in m o) ≡ reaches stood 5 k s
  king-touches e = go kind owner to seat refl refl refl
    where
      go : (i j t : ℕ) → Seat m q i j t → i ≡ kind → j ≡ owner → t ≡ to → touching (board_in m o) ≡ reaches stood 5 k s
      go i j t Seat.white ei ej et = white-near et (sym ((foe-king q.side w.side ek).0 (ej ∙ mover)))
      go i j t Seat.black ei ej et = black-near et (sym ((foe-king q.side w.side ek).1 (ej ∙ mover)))
      go i j t Seat.first ei ej et = absurd (omega (arith, first_small, ei, e))
      go i j t Seat.second ei ej et = absurd (omega (arith, second-small et, ei, e))

  pub man-touches : (kind ≡ 5 → ⊥) → touching (board_in m o) ≡ false
  man-touches n = go kind owner to seat refl refl
    where
      go : (i j t : ℕ) → Seat m q i j t → i ≡ kind → t ≡ to → touching (board_in m o) ≡ false
      go i j t Seat.white ei et = absurd (n (sym ei))
      go i j t Seat.black ei et = absurd (n (sym ei))
      go i j t Seat.first ei et = men-apart (λ z. w.white-first (z ∙ sym et)) (λ z. w.black-first (z ∙ sym et))
      go i j t Seat.second ei et = men-apart (λ z. w.white-second (z ∙ sym et)) (λ z. w.black-second (z ∙ sym et))

  -- ---- another man strikes, and the piece does not stand between

  strikes-on : (j a : ℕ) → T (reaches stood j a k) → (T (reaches stood j a s) → T (reaches stood j k s) → ⊥) → T (reaches occ j a k)
  strikes-on j a r n = ⊎_elim
      (λ x. x)
      (λ x. ⊎_elim
      (λ y. subst T (reaches-sym occ j k a) y) (λ y. absurd (n x y)) (reaches-met occ stood s a same gone j k (subst T (reaches-sym stood j a k) r)))
      (reaches-met occ stood s k same gone j a r)

  struck : men_strike m o occ (1 - q.side) k ≡ true → CompleteApart m o → legal (board_in m o) ≡ false
  struck e c = fails (legal (board_in m o)) (λ l.
      refuted (legal-men m o q.side w.side side-there k king-there c (legal-facts (board_in m o) l).kings true e) l)

  pub first-strikes : 0 ≡ 1 - q.side → (q.first ≡ to → ⊥) → T (reaches stood m.first q.first k)
      → (T (reaches stood m.first q.first s) → T (reaches stood m.first k s) → ⊥) → CompleteApart m o → legal (board_in m o) ≡ false
  unfolding put_again place_after
  first-strikes e n r d =
      let y : reaches occ m.first q.first k ≡ true = true_of (strikes-on m.first q.first r d) in
      struck (strike-by q.first o.second (there taken w.missing) refl ∙ rw (eq-eqb 0 (1 - q.side) e, y))
    where
      there : (i : ℕ) → Missing m q i → (place_before q i s to).first ≡ q.first
      there i (Missing.nobody a b) = man-stays to s q.first f.first n
      there i (Missing.first a b c) = let x = (reaches-squares stood m.first q.first k r).0 in absurd (omega (arith, a, x))
      there i (Missing.second a b c) = man-stays to s q.first f.first n

  pub second-strikes : m.colour ≡ 1 - q.side → (q.second ≡ to → ⊥) → T (reaches stood m.second q.second k)
      → (T (reaches stood m.second q.second s) → T (reaches stood m.second k s) → ⊥) → CompleteApart m o → legal (board_in m o) ≡ false
  unfolding put_again place_after
  second-strikes e n r d =
      let y : reaches occ m.second q.second k ≡ true = true_of (strikes-on m.second q.second r d) in
      struck (strike-by o.first q.second refl (there taken w.missing)
      ∙ rw (eq-eqb m.colour (1 - q.side) e, y) (or-true (eqb 0 (1 - q.side) && reaches occ m.first o.first k)))
    where
      there : (i : ℕ) → Missing m q i → (place_before q i s to).second ≡ q.second
      there i (Missing.nobody a b) = man-stays to s q.second f.second n
      there i (Missing.first a b c) = man-stays to s q.second f.second n
      there i (Missing.second a b c) = let x = (reaches-squares stood m.second q.second k r).0 in absurd (omega (arith, b, x))

  -- ---- no other man strikes

  module _ (none : others_strike m q stood (1 - q.side) to k ≡ false) where
    quiet : ((eqb 0 (1 - q.side) && not (eqb q.first to)) && reaches stood m.first q.first k ≡ false)
        × ((eqb m.colour (1 - q.side) && not (eqb q.second to)) && reaches stood m.second q.second k ≡ false)
    quiet = or-none _ _ none

    -- the first man, not the one who moved: he stays, or was taken
    abbrev First : ℕ → Type 0
    First x = (o.first ≡ x) × ((eqb 0 (1 - q.side) && reaches occ m.first x k) ≡ false)

    first_else : (q.first ≡ to → ⊥) → (x : ℕ) × First x
    unfolding put_again place_after
    first_else n = go taken w.missing refl
      where
        go : (i : ℕ) → Missing m q i → i ≡ taken → (x : ℕ) × First x
        go i (Missing.nobody a b) e =
            (q.first, (subst (λ (i : ℕ). (place_before q i s to).first ≡ q.first) e (man-stays to s q.first f.first n), other 0 m.first q.first n quiet.0))
        go i (Missing.first a b c) e =
            (to, (subst (λ (i : ℕ). (place_before q i s to).first ≡ to) e refl, victim 0 m.first to (subst (λ (i : ℕ). (i ≡ 0 → ⊥) → loser m i ≡ q.side) (sym e) lost (λ z. omega (arith, z)))))
        go i (Missing.second a b c) e =
            (q.first, (subst (λ (i : ℕ). (place_before q i s to).first ≡ q.first) e (man-stays to s q.first f.first n), other 0 m.first q.first n quiet.0))

    abbrev Second : ℕ → Type 0
    Second y = (o.second ≡ y) × ((eqb m.colour (1 - q.side) && reaches occ m.second y k) ≡ false)

    second-else : (q.second ≡ to → ⊥) → (y : ℕ) × Second y
    unfolding put_again place_after
    second-else n = go taken w.missing refl
      where
        go : (i : ℕ) → Missing m q i → i ≡ taken → (y : ℕ) × Second y
        go i (Missing.nobody a b) e =
            (q.second, (subst (λ (i : ℕ). (place_before q i s to).second ≡ q.second) e (man-stays to s q.second f.second n), other m.colour m.second q.second n quiet.1))
        go i (Missing.first a b c) e =
            (q.second, (subst (λ (i : ℕ). (place_before q i s to).second ≡ q.second) e (man-stays to s q.second f.second n), other m.colour m.second q.second n quiet.1))
        go i (Missing.second a b c) e =
            (to, (subst (λ (i : ℕ). (place_before q i s to).second ≡ to) e refl, victim m.colour m.second to (subst (λ (i : ℕ). (i ≡ 0 → ⊥) → loser m i ≡ q.side) (sym e) lost (λ z. omega (arith, z)))))

    -- the king moved
    by-king : (q.first ≡ to → ⊥) → (q.second ≡ to → ⊥) → touching (board_in m o) ≡ reaches stood 5 k s → CompleteApart m o
        → legal (board_in m o) ≡ not (reaches stood 5 k s)
    by-king a b e c =
        let x = first_else a in
        let y = second-else b in
        legal-kings m o q.side w.side side-there k king-there c
        (strike-by x.0 y.0 x.1.0 y.1.0 ∙ ap₂ ◌||◌ x.1.1 y.1.1) (reaches stood 5 k s) e

    pub legal-before : CompleteApart m o → legal (board_in m o) ≡ not (reaches stood kind k s)
    legal-before c = go kind owner to seat refl refl refl
      where
        go : (i j t : ℕ) → Seat m q i j t → i ≡ kind → j ≡ owner → t ≡ to → legal (board_in m o) ≡ not (reaches stood kind k s)
        go i j t Seat.white ei ej et =
            by-king (λ z. w.white-first (et ∙ sym z)) (λ z. w.white-second (et ∙ sym z))
            (white-near et (sym ((foe-king q.side w.side ek).0 (ej ∙ mover)))) c
            ∙ ap (λ (x : ℕ). not (reaches stood x k s)) ei
        go i j t Seat.black ei ej et =
            by-king (λ z. w.black-first (et ∙ sym z)) (λ z. w.black-second (et ∙ sym z))
            (black-near et (sym ((foe-king q.side w.side ek).1 (ej ∙ mover)))) c
            ∙ ap (λ (x : ℕ). not (reaches stood x k s)) ei
        go i j t Seat.first ei ej et =
            let y = second-else (λ z. w.first-second (et ∙ sym z)) in
            legal-men m o q.side w.side side-there k king-there c
            (men-apart (λ z. w.white-first (z ∙ sym et)) (λ z. w.black-first (z ∙ sym et))) (reaches stood m.first k s)
            (strike-by s y.0 (first_goes et) y.1.0
            ∙ ap₂ ◌||◌ (own 0 m.first (ej ∙ mover)) y.1.1 ∙ or-false (reaches stood m.first k s))
            ∙ ap (λ (x : ℕ). not (reaches stood x k s)) ei
        go i j t Seat.second ei ej et =
            let x = first_else (λ z. w.first-second (z ∙ sym et)) in
            legal-men m o q.side w.side side-there k king-there c
            (men-apart (λ z. w.white-second (z ∙ sym et)) (λ z. w.black-second (z ∙ sym et))) (reaches stood m.second k s)
            (strike-by x.0 s x.1.0 (second-goes et)
            ∙ ap₂ ◌||◌ x.1.1 (own m.colour m.second (ej ∙ mover)))
            ∙ ap (λ (x : ℕ). not (reaches stood x k s)) ei
