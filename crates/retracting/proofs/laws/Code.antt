-- What the code of retractions comes to, by what it has in hand.
use Rattle.std.specs.Prelude.{◌≡◌, refl, Bool, true, false, cond, not, ◌&&◌, ◌||◌, ◌⊎◌, ℕ, ◌-◌, ◌<◌, T, eqb}
use Rattle.std.proofs.Math.Path.{sym, subst⁻¹}
use Rattle.std.proofs.Common.{ap, ap₂, subst, ◌∙◌, inl, inr, arith, eq-eqb, ne_eqb, eqb-true}
use Rattle.std.proofs.Math.Bool.{and-true, and-false}
use Rattle.std.specs.Int.Bits.{bit_and}
use Rattle.std.proofs.lemmas.Bool.{eqb-false}
use Rattle.finite.specs.Truth.{decided, and_left, and_right, and_both, of-true, true_of, false_of, fails, refuted}
use Rattle.board.specs.Reach.{reaches}
use Rattle.board.specs.Sets.{has, set_of}
use Rattle.board.proofs.laws.ReachLaws.{reaches-squares, reaches_same, king-reaches}
use Rattle.board.proofs.laws.SetLaws.{has-none, has-and, set-has}
use Rattle.rules.specs.Rules.{occupied, touching, in_check, legal}
use Rattle.rules.proofs.laws.Legal.{legal-facts}
use Rattle.rules.proofs.laws.CanMove.{can-on}
use Rattle.position.specs.declared.Men.{Men}
use Rattle.position.specs.declared.Place.{Place}
use Rattle.movegen.specs.Places.{place_after}
use Rattle.position.specs.Keyed.{board_of}
use Rattle.position.specs.Posed.{posed, board_in, Complete}
use Rattle.successors.proofs.laws.NumberLaws.{complete-legal}
use Rattle.retracting.specs.Retracting.{Leads, LegalLeft, Seat, loser, put_again, Retracts, place_before, CompleteApart, Steps, still_strikes, others_strike}
use Rattle.retracting.proofs.laws.Placing.{complete-before}
use Rattle.retracting.proofs.laws.Unchecked.{first-strikes, second-strikes, legal-before}
use Rattle.retracting.proofs.laws.Sources.{free_of, free-empty, seat-free, leads-back, put_back, lost-then, was_free, came, its-move}

-- ---- legality

module _ (m : Men) (q : Place) (near : Bool) (e : near ≡ reaches (has 0) 5 q.white q.black) where
  touch : touching (board_in m q) ≡ near
  unfolding touching board_of posed
  touch = king-reaches (λ s. false) (has 0) q.white q.black ∙ sym e

  pub kings-near : near ≡ true → false ≡ legal (board_in m q)
  kings-near t =
      sym (fails (legal (board_in m q))
      (λ l. refuted (sym t ∙ sym touch ∙ (legal-facts (board_in m q) l).kings) tt))

  pub kings-far : near ≡ false → CompleteApart m q → (foe : ℕ) → foe ≡ 1 - q.side → (check : Bool)
      → (Complete m q → check ≡ in_check (board_in m q) foe) → not check ≡ legal (board_in m q)
  kings-far f c foe h check k =
      let d = c (touch ∙ f) in
      ap not (k d ∙ ap (in_check (board_in m q)) h) ∙ sym (complete-legal m q d)

-- what was found of the place made
pub told-legal : (m : Men) (o made : Place) (r : Bool) → made ≡ o → (CompleteApart m made → r ≡ legal (board_in m made))
    → CompleteApart m o → legal (board_in m o) ≡ r
told-legal m o made r e f a =
    sym (f (subst⁻¹ (CompleteApart m) e a) ∙ ap (λ (p : Place). legal (board_in m p)) e)

-- ---- the set

-- it is empty
pub sifts-none : (squares i : ℕ) (b : Bool) → squares ≡ 0 → has 0 i ≡ (has squares i && b)
sifts-none squares i b e = has-none i ∙ sym (ap (λ (s : ℕ). has s i && b) e ∙ ap (λ (x : Bool). x && b) (has-none i))

-- ---- a man who has not moved

pub still-strikes : (occ : ℕ → Bool) (owner to t colour kind square at : ℕ) (hit : Bool)
    → at ≡ cond (eqb colour owner && not (eqb square to)) square 64 → hit ≡ reaches occ kind at t
    → hit ≡ still_strikes occ owner to t colour kind square
still-strikes occ owner to t colour kind square at hit ea eh =
    eh ∙ ap (λ (s : ℕ). reaches occ kind s t) ea ∙ go (eqb colour owner && not (eqb square to))
  where
    go : (b : Bool) → reaches occ kind (cond b square 64) t ≡ (b && reaches occ kind square t)
    go true = refl
    go false = fails (reaches occ kind 64 t) (λ h. let z = (reaches-squares occ kind 64 t h).0 in omega (arith, z))

-- he is on the board
still-on : (colour owner to square at : ℕ) → at ≡ cond (eqb colour owner && not (eqb square to)) square 64 → at < 64
    → (colour ≡ owner) × (square ≡ to → ⊥) × (at ≡ square)
still-on colour owner to square at e h = go (eqb colour owner) refl (eqb square to) refl e
  where
    go : (b : Bool) → eqb colour owner ≡ b → (d : Bool) → eqb square to ≡ d → at ≡ cond (b && not d) square 64
        → (colour ≡ owner) × (square ≡ to → ⊥) × (at ≡ square)
    go true x false y z = (eqb-true colour owner x, eqb-false square to y, z)
    go true x true y z = absurd (omega (arith, h, z))
    go false x d y z = absurd (omega (arith, h, z))

-- neither of them
pub none-strikes : (m : Men) (q : Place) (occ : ℕ → Bool) (owner to t : ℕ) (a b : Bool) → a ≡ still_strikes occ owner to t 0 m.first q.first
    → a ≡ false → b ≡ still_strikes occ owner to t m.colour m.second q.second → b ≡ false → others_strike m q occ owner to t ≡ false
none-strikes m q occ owner to t a b x e y f = ap₂ ◌||◌ (sym x ∙ e) (sym y ∙ f)

module _ (m : Men) (q : Place) (taken kind owner to : ℕ) (g : LegalLeft m q taken) (seat : Seat m q kind owner to) where
  owned : owner < 2
  owned = go seat
    where
      go : {k o s : ℕ} → Seat m q k o s → o < 2
      go Seat.white = omega arith
      go Seat.black = omega arith
      go Seat.first = omega arith
      go Seat.second = g.colour

  none_came : ((o : Place) (s : ℕ) → Leads m o s to q → ⊥) → Retracts m q taken to 0
  none_came f = record { sound = λ s h t. absurd (refuted (has-none s) t); all = λ o s l. absurd (f o s l) }

  -- the side to move has not just moved
  pub no_source : owner ≡ q.side → Retracts m q taken to 0
  no_source e = none_came
      (λ o s l. let z = its-move m q o s to taken g l kind owner seat in omega (arith, z, e, g.side))

  -- a man of its own it does not take
  pub no_capture : (taken ≡ 0 → ⊥) → (loser m taken ≡ q.side → ⊥) → Retracts m q taken to 0
  no_capture n e = none_came (λ o s l. e (lost-then m q o s to taken g l n))

  pub mover : (owner ≡ q.side → ⊥) → owner ≡ 1 - q.side
  mover n = omega (arith, owned, g.side, n)

  -- the squares that it goes to
  pub steps_of : (occ reach squares : ℕ) → occ ≡ set_of (occupied (board_in m q)) → reach ≡ set_of (reaches (has occ) kind to)
      → squares ≡ set_of (λ (u : ℕ). has reach u && not (has occ u)) → Steps m q kind to occ squares
  steps_of occ reach squares eo er es = record {
    occupied-all = eo;
    squares-all = λ s h.
        set-has (λ (u : ℕ). has reach u && not (has occ u)) es s h
        ∙ rw (
          set-has (reaches (has occ) kind to) er s h,
          set-has (occupied (board_in m q)) eo s h,
          reaches_same (has occ) (occupied (board_in m q)) (set-has (occupied (board_in m q)) eo) kind to s,
        );
  }

  module _ (occ squares : ℕ) (st : Steps m q kind to occ squares) where
    module _ (s : ℕ) (h : s < 64) (t : T (has squares s)) where
      both : T (reaches (occupied (board_in m q)) kind to s && not (occupied (board_in m q) s))
      both = subst T (st.squares-all s h) t

      pub reached : T (reaches (occupied (board_in m q)) kind to s)
      reached = and_left (reaches (occupied (board_in m q)) kind to s) (not (occupied (board_in m q) s)) both

      pub unoccupied : occupied (board_in m q) s ≡ false
      unoccupied = false_of (and_right (reaches (occupied (board_in m q)) kind to s) (not (occupied (board_in m q) s)) both)

      pub apart-there : CompleteApart m (place_before q taken s to)
      apart-there k =
          let f = free_of m q s h unoccupied in
          complete-before to s (reaches-squares (occupied (board_in m q)) kind to s reached).0 h
          (seat-free m q kind owner to s seat f) m q taken g f k

    -- whatever it came from is among them
    pub came-among : (o : Place) (s : ℕ) → Leads m o s to q → T (has squares s)
    came-among o s l =
        let h = (can-on (board_in m o) s to l.can).0 in
        subst⁻¹ T (st.squares-all s h)
        (and_both (reaches (occupied (board_in m q)) kind to s) (not (occupied (board_in m q) s))
        (came m q o s to taken g l kind owner seat)
        (subst⁻¹ (λ (b : Bool). T (not b)) (free-empty m q s h (was_free m q o s to taken g l)) tt))

    abbrev pub Sifted : ℕ → Type 0
    Sifted r = (s : ℕ) → s < 64 → has r s ≡ (has squares s && legal (board_in m (place_before q taken s to)))

    module _ (em : owner ≡ 1 - q.side) (lost : (taken ≡ 0 → ⊥) → loser m taken ≡ q.side) where
      module _ (k stood : ℕ) (ek : k ≡ cond (eqb q.side 0) q.white q.black)
          (ed : (u : ℕ) → u < 64 → has stood u ≡ (has occ u && not (eqb taken 0 && eqb u to))) where
        over : (u : ℕ) → u < 64 → has stood u ≡ (occupied (board_in m q) u && not (eqb taken 0 && eqb u to))
        over u l =
            ed u l
            ∙ ap (λ (b : Bool). b && not (eqb taken 0 && eqb u to)) (set-has (occupied (board_in m q)) st.occupied-all u l)

        -- no other man has a line to the king
        pub unstruck : others_strike m q (has stood) owner to k ≡ false → (reach r : ℕ)
            → reach ≡ set_of (reaches (has stood) kind k) → r ≡ set_of (λ (u : ℕ). has squares u && not (has reach u)) → Sifted r
        unstruck none reach r er es s h =
            set-has (λ (u : ℕ). has squares u && not (has reach u)) es s h
            ∙ ap (λ (b : Bool). has squares s && not b) (set-has (reaches (has stood) kind k) er s h)
            ∙ go (has squares s) refl
          where
            go : (b : Bool) → has squares s ≡ b
                → (b && not (reaches (has stood) kind k s)) ≡ (b && legal (board_in m (place_before q taken s to)))
            go false z = refl
            go true z =
                let t = of-true z in
                sym (legal-before m q taken g kind owner to s seat em lost (reached s h t) (free_of m q s h (unoccupied s h t)) k ek
                (has stood) over (ap (λ (x : ℕ). others_strike m q (has stood) x to k) (sym em) ∙ none) (apart-there s h t))

        -- the squares between a man and the king
        abbrev Between : ℕ → ℕ → ℕ → Type 0
        Between j a r = (s : ℕ) → s < 64
            → has r s ≡ ((has squares s && (reaches (has stood) j a s && reaches (has stood) j k s)) && legal (board_in m (place_before q taken s to)))

        sift-between : (j a r : ℕ) → Between j a r
            → ((s : ℕ) → s < 64 → T (has squares s) → (T (reaches (has stood) j a s) → T (reaches (has stood) j k s) → ⊥)
            → legal (board_in m (place_before q taken s to)) ≡ false) → Sifted r
        sift-between j a r e f s h = e s h ∙ go (has squares s) refl (decided (reaches (has stood) j a s && reaches (has stood) j k s))
          where
            go : (b : Bool) → has squares s ≡ b
                → T (reaches (has stood) j a s && reaches (has stood) j k s) ⊎ T (not (reaches (has stood) j a s && reaches (has stood) j k s))
                → ((b && (reaches (has stood) j a s && reaches (has stood) j k s)) && legal (board_in m (place_before q taken s to)))
                ≡ (b && legal (board_in m (place_before q taken s to)))
            go false z d = refl
            go true z (inl x) =
                let both : (reaches (has stood) j a s && reaches (has stood) j k s) ≡ true = true_of x in
                ap (λ (b : Bool). b && legal (board_in m (place_before q taken s to))) both
            go true z (inr x) =
                let none : (reaches (has stood) j a s && reaches (has stood) j k s) ≡ false = false_of x in
                let y = f s h (of-true z) (λ v w. refuted none (and_both (reaches (has stood) j a s) (reaches (has stood) j k s) v w)) in
                ap (λ (b : Bool). (reaches (has stood) j a s && reaches (has stood) j k s) && b) y
                ∙ and-false (reaches (has stood) j a s && reaches (has stood) j k s) ∙ sym y

        -- one of the mover's men has a line to him
        pub struck-first : (at : ℕ) → at ≡ cond (eqb 0 owner && not (eqb q.first to)) q.first 64 → (hit : Bool)
            → hit ≡ reaches (has stood) m.first at k → hit ≡ true → (r : ℕ) → Between m.first at r → Sifted r
        struck-first at ea hit eh e r =
            let line = of-true (sym eh ∙ e) in
            let w = still-on 0 owner to q.first at ea (reaches-squares (has stood) m.first at k line).0 in
            λ f. sift-between m.first at r f (λ s h t n.
            first-strikes m q taken g kind owner to s seat em lost (reached s h t) (free_of m q s h (unoccupied s h t)) k ek (has stood) over
            (w.0 ∙ em) w.1 (subst (λ (a : ℕ). T (reaches (has stood) m.first a k)) w.2 line)
            (λ u v. n (subst⁻¹ (λ (a : ℕ). T (reaches (has stood) m.first a s)) w.2 u) v) (apart-there s h t))

        pub struck-second : (at : ℕ) → at ≡ cond (eqb m.colour owner && not (eqb q.second to)) q.second 64 → (hit : Bool)
            → hit ≡ reaches (has stood) m.second at k → hit ≡ true → (r : ℕ) → Between m.second at r → Sifted r
        struck-second at ea hit eh e r =
            let line = of-true (sym eh ∙ e) in
            let w = still-on m.colour owner to q.second at ea (reaches-squares (has stood) m.second at k line).0 in
            λ f. sift-between m.second at r f (λ s h t n.
            second-strikes m q taken g kind owner to s seat em lost (reached s h t) (free_of m q s h (unoccupied s h t)) k ek (has stood) over
            (w.0 ∙ em) w.1 (subst (λ (a : ℕ). T (reaches (has stood) m.second a k)) w.2 line)
            (λ u v. n (subst⁻¹ (λ (a : ℕ). T (reaches (has stood) m.second a s)) w.2 u) v) (apart-there s h t))

      pub exact : (r : ℕ) → Sifted r → Retracts m q taken to r
      exact r told = record { sound = λ s h t. sound s h t; all = λ o s l. (all o s l, put_back m q o s to taken g l) }
        where
          sound : (s : ℕ) → s < 64 → T (has r s) → Leads m (place_before q taken s to) s to q
          sound s h t =
              let b = subst T (told s h) t in
              let i = and_left (has squares s) (legal (board_in m (place_before q taken s to))) b in
              let l = and_right (has squares s) (legal (board_in m (place_before q taken s to))) b in
              leads-back m q taken g kind owner s to seat em lost (reached s h i) (free_of m q s h (unoccupied s h i))
              (apart-there s h i (legal-facts (board_in m (place_before q taken s to)) l).kings) l

          all : (o : Place) (s : ℕ) → Leads m o s to q → T (has r s)
          all o s l =
              let h = (can-on (board_in m o) s to l.can).0 in
              subst⁻¹ T (told s h)
              (and_both (has squares s) (legal (board_in m (place_before q taken s to))) (came-among o s l)
              (subst (λ (p : Place). T (legal (board_in m p))) (put_back m q o s to taken g l) l.legality))

-- ---- the squares between a man and the king, of these

pub in_both : (squares a b between among : ℕ) (p o : ℕ → Bool) → a ≡ set_of p → b ≡ set_of o → between ≡ bit_and a b → among ≡ bit_and squares between
    → (s : ℕ) → s < 64 → has among s ≡ (has squares s && (p s && o s))
in_both squares a b between among p o ea eb e f s h =
    ap (λ (x : ℕ). has x s) f ∙ has-and squares between s
    ∙ ap (λ (x : Bool). has squares s && x) (ap (λ (x : ℕ). has x s) e ∙ has-and a b s ∙ ap₂ ◌&&◌ (set-has p ea s h) (set-has o eb s h))

-- ---- what stood before the move

pub stood-none : (occ taken to stood : ℕ) → taken ≡ 0 → stood ≡ set_of (λ (u : ℕ). has occ u && not (eqb u to)) → (u : ℕ) → u < 64
    → has stood u ≡ (has occ u && not (eqb taken 0 && eqb u to))
stood-none occ taken to stood e es u h =
    set-has (λ (u : ℕ). has occ u && not (eqb u to)) es u h
    ∙ ap (λ (b : Bool). has occ u && not (b && eqb u to)) (sym (eq-eqb taken 0 e))

pub stood-taken : (occ taken to : ℕ) → (taken ≡ 0 → ⊥) → (u : ℕ) → u < 64
    → has occ u ≡ (has occ u && not (eqb taken 0 && eqb u to))
stood-taken occ taken to e u h =
    sym (ap (λ (b : Bool). has occ u && not (b && eqb u to)) (ne_eqb taken 0 e) ∙ and-true (has occ u))

-- ---- the place before, field by field

pub before-by : (q : Place) (taken s to : ℕ) (o : Place) (x y : ℕ) → o ≡ place_after q to s → x ≡ cond (eqb taken 1) to o.first
    → y ≡ cond (eqb taken 2) to o.second
    → record { side = o.side; white = o.white; black = o.black; first = x; second = y } ≡ place_before q taken s to
unfolding put_again
before-by q taken s to o x y e f g =
    ap₂ (λ (i j : ℕ). record { side = o.side; white = o.white; black = o.black; first = i; second = j }) f g
    ∙ ap (put_again taken to) e

-- ---- whose the man was who was taken, as the code asks

pub own-taken : (taken side l : ℕ) → (not (eqb taken 0) && not (eqb l side)) ≡ true → (taken ≡ 0 → ⊥) × (l ≡ side → ⊥)
own-taken taken side l e =
    let t = of-true e in
    let a : eqb taken 0 ≡ false = false_of (and_left (not (eqb taken 0)) (not (eqb l side)) t) in
    let b : eqb l side ≡ false = false_of (and_right (not (eqb taken 0)) (not (eqb l side)) t) in
    (eqb-false taken 0 a, eqb-false l side b)

pub foe-taken : (taken side l : ℕ) → (not (eqb taken 0) && not (eqb l side)) ≡ false → (taken ≡ 0 → ⊥) → l ≡ side
foe-taken taken side l e n = go (eqb l side) refl (ap (λ (b : Bool). not b && not (eqb l side)) (sym (ne_eqb taken 0 n)) ∙ e)
  where
    go : (b : Bool) → eqb l side ≡ b → not b ≡ false → l ≡ side
    go true z f = eqb-true l side z
    go false z f = absurd (subst T f tt)
