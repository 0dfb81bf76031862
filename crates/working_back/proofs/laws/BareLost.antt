-- A black king without men is lost in k, k even, where all his other targets lead to wins no deeper; a target that does not saves him.
use Rattle.std.specs.Prelude.{◌≡◌, Bool, true, false, not, ◌&&◌, ◌||◌, ◌⊎◌, List, ℕ, ◌+◌, ◌-◌, ◌^◌, ◌<◌, ◌%◌, T, leb, eqb, get_or, length, set}
use Rattle.std.proofs.Math.Path.{refl, subst⁻¹}
use Rattle.std.proofs.Common.{sym, ap, subst, ◌∙◌, inl, inr, ⊎_elim, arith, eqb→eq}
use Rattle.std.proofs.Math.Bool.{cond, and-false}
use Rattle.std.proofs.Math.ListN.{get_or-eq_default}
use borrow.Author.Tests.{eq-eqb, ne_eqb, le-leb, lt-leb}
use Rattle.finite.specs.Truth.{decided, le-or-lt, refuted, of-true, and_both, and_left}
use Rattle.theory.specs.Required.{winning, required_at}
use Rattle.theory.specs.Verdict.{spoils}
use Rattle.theory.proofs.laws.InPlace.{Settling}
use Rattle.theory.specs.Play.{suits}
use Rattle.theory.specs.Judge.{refutes}
use Rattle.table_theory.specs.Tables.{reads}
use Rattle.board.specs.Reach.{reaches}
use Rattle.board.specs.Sets.{has, set_of}
use Rattle.board.proofs.laws.SetLaws.{has-none, has-off, set_of-lt}
use Rattle.rules.specs.Rules.{Board, moved, can_move}
use Rattle.rules.specs.Chess.{chess}
use Rattle.rules.proofs.laws.CanMove.{can-on}
use Rattle.numbering.specs.Kings.{separate}
use Rattle.numbering.specs.Number.{number_of}
use Rattle.position.specs.declared.Men.{Men}
use Rattle.position.specs.declared.Place.{Place}
use Rattle.position.specs.Posed.{board_in, Complete}
use Rattle.position.proofs.laws.PosedLaws.{complete-spread}
use Rattle.index.specs.Seats.{Seated}
use Rattle.movegen.specs.declared.Reach.{Reach}
use Rattle.movegen.specs.Places.{square_after, place_after}
use Rattle.movegen.proofs.laws.Places.{place-moved}
use Rattle.successors.specs.Successors.{bytes_in, king_at, Remains}
use Rattle.successors.proofs.laws.PlaceLaws.{starts, remains-after}
use Rattle.successors.proofs.laws.PlaceVerdicts.{plain}
use Rattle.successors.proofs.laws.ByteLaws.{all_there, own-seated, byte-own, byte-moved}
use Rattle.successors.proofs.laws.KingKeys.{moved-separate}
use Rattle.successors.proofs.laws.ChoiceLaws.{suits_to, suiting_set, zero-fails}
use Rattle.successors.proofs.laws.VerdictLaws.{depth-refuted, depth-told}
use Rattle.retracting.specs.Retracting.{Leads, GoesBack, place_before}
use Rattle.retracting.proofs.laws.Causes.{place-eq}
use Rattle.retracting.proofs.laws.Stepping.{leads_goes}
use Rattle.working_back.specs.Admitted.{over, Admitted}
use Rattle.working_back.specs.Trying.{Midway}
use Rattle.working_back.specs.Back.{Few, Ripe, TriesPlace}
use Rattle.working_back.proofs.laws.Trying.{settling}
use Rattle.working_back.proofs.laws.Places.{tried-lost, tried-kept}
use Rattle.working_back.specs.Bare.{bare_on, Bare, struck_by, byte_on, Knows, QuietLoss}
use Rattle.working_back.proofs.laws.Numbers.{number-as}
use Rattle.working_back.proofs.laws.BareMoves.{place_is, complete, only-king, goals-are}

even-draw : (k : ℕ) → k % 2 ≡ 0 → refutes (2 + k) 1 ≡ true
unfolding refutes spoils winning
even-draw k e = rw (lt-leb (2 + k) 1 (omega arith), back k, eq-eqb (k % 2) 0 e)
  where
    back : (k : ℕ) → 2 + k - 2 ≡ k
    back k = omega arith

module _ (m : Men) (q : Place) (taken to white x y : ℕ) (v : Bare m q taken to white x y) (s : ℕ)
    (l : Leads m (place_before q taken s to) s to q) where
  abbrev o : Place
  o = bare_on 1 white s x y

  abbrev b : Board
  b = board_in m o

  whole : Complete m o
  whole = complete m q taken to white x y v s l

  -- the place after his move, where he takes no man
  after_is : (t : ℕ) → (t ≡ x → ⊥) → (t ≡ y → ⊥) → bare_on 0 white t x y ≡ place_after o s t
  unfolding place_after
  after_is t nx ny =
      let w = complete-spread whole in
      place-eq refl (sym (ap (λ (c : Bool). cond c t white) (ne_eqb white s w.white-black)))
      (sym (ap (λ (c : Bool). cond c t s) (eq-eqb s s refl))) (sym (stays x (λ e. nx (sym e)) (λ e. w.black-first (sym e))))
      (sym (stays y (λ e. ny (sym e)) (λ e. w.black-second (sym e))))
    where
      stays : (u : ℕ) → (u ≡ t → ⊥) → (u ≡ s → ⊥) → square_after s t u ≡ u
      stays u a c = rw (ne_eqb u t a, ne_eqb u s c)

  module _ (t : ℕ) (c : T (can_move b s t)) (nx : t ≡ x → ⊥) (ny : t ≡ y → ⊥) where
    remain : Remains m (bare_on 0 white t x y)
    remain =
        let h = can-on b s t c in
        subst⁻¹ (Remains m) (after_is t nx ny) (remains-after m o s t whole h.0 h.1)

    pub seated-after : Seated m (bare_on 0 white t x y)
    seated-after = own-seated m (bare_on 0 white t x y) remain (all_there m o whole)

    -- its byte
    pub byte-after : (first second u : List ℕ)
        → get_or u (number_of (board_in m (bare_on 0 white t x y))) 0 ≡ bytes_in m first second u (moved b s t)
    byte-after first second u =
        byte-moved m o whole first second u s t _ (bare_on 0 white t x y) c (after_is t nx ny)
        (λ r. byte-own m (bare_on 0 white t x y) r first second u (all_there m o whole) _ _ refl refl)

  module _ (first second u : List ℕ) (k : ℕ) (some : k ≡ 0 → ⊥) where
    abbrev bytes : Board → ℕ
    bytes = bytes_in m first second u

    -- a target that saves him
    pub bare-kept : (t : ℕ) → T (can_move b s t) → (t ≡ x → ⊥) → (t ≡ y → ⊥)
        → refutes (2 + k) (get_or u (number_of (board_in m (bare_on 0 white t x y))) 0) ≡ true → eqb (required_at chess bytes b) (2 + k) ≡ false
    bare-kept t c nx ny e =
        sym (depth-refuted bytes b (plain m o whole) k some
        (s, t, c, of-true (ap (refutes (2 + k)) (sym (byte-after t c nx ny first second u)) ∙ e)))

    -- none, and the one that he went to leads to depth k - 1
    module _ (goals : ℕ) (g : (t : ℕ) → t < 64 → has goals t ≡ (can_move b s t && not (eqb t to)))
        (nx : has goals x ≡ false) (ny : has goals y ≡ false)
        (none : (t : ℕ) → t < 64 → T (has goals t) → refutes (2 + k) (get_or u (number_of (board_in m (bare_on 0 white t x y))) 0) ≡ false)
        (there : T (can_move b s to)) (byte : bytes (moved b s to) ≡ 1 + k) (deep : refutes (2 + k) (1 + k) ≡ false)
        (suit : suits (2 + k) (1 + k) ≡ true) where
      clear_at : (t : ℕ) → T (can_move b s t) → T (eqb t to) ⊎ T (not (eqb t to)) → refutes (2 + k) (bytes (moved b s t)) ≡ false
      clear_at t c (inl z) =
          ap (λ (w : ℕ). refutes (2 + k) (bytes (moved b s w))) (eqb→eq t to z) ∙ ap (refutes (2 + k)) byte ∙ deep
      clear_at t c (inr z) =
          let h = (can-on b s t c).1 in
          let y' : T (has goals t) = subst⁻¹ T (g t h) (and_both (can_move b s t) (not (eqb t to)) c z) in
          ap (refutes (2 + k)) (sym (byte-after t c (λ e. refuted (ap (has goals) e ∙ nx) y') (λ e. refuted (ap (has goals) e ∙ ny) y') first second u))
          ∙ none t h y'

      abbrev sets : Reach
      sets = record {
        king = suiting_set bytes (2 + k) b (king_at o);
        first = suiting_set bytes (2 + k) b x;
        second = suiting_set bytes (2 + k) b y;
      }

      pub bare-lost : eqb (required_at chess bytes b) (2 + k) ≡ true
      bare-lost =
          sym (depth-told bytes b (king_at o) x y (starts m o) (plain m o whole) k some sets
          (record {
            of-king = refl;
            of-first = refl;
            of-second = refl;
            clear = λ w. refuted
                (clear_at w.1 (subst (λ (f : ℕ). T (can_move b f w.1)) (king w) w.2) (decided (eqb w.1 to)))
                (subst (λ (f : ℕ). T (refutes (2 + k) (bytes (moved b f w.1)))) (king w) w.3);
          }))
          ∙ ap not (ap (λ (c : Bool). c && (eqb sets.first 0 && eqb sets.second 0)) some-suits)
        where
          king : (w : (from : ℕ) × (t : ℕ) × T (can_move b from t) × T (refutes (2 + k) (bytes (moved b from t)))) → w.0 ≡ s
          king w = only-king m q taken to white x y v s l w.0 w.1 w.2

          some-suits : eqb sets.king 0 ≡ false
          some-suits =
              ne_eqb sets.king 0
              (λ z. zero-fails (suits_to bytes (2 + k) b s) z to (can-on b s to there).1
              (and_both (can_move b s to) (suits (2 + k) (bytes (moved b s to))) there
              (of-true (ap (suits (2 + k)) byte ∙ suit))))

-- ---- as code has them

-- his number before the move
pub bare-at : (m : Men) (q : Place) (taken to white x y : ℕ) → Bare m q taken to white x y → (s : ℕ) → GoesBack m q taken s to → (n : ℕ)
    → (Seated m (bare_on 1 white s x y) → T (separate white s) → n ≡ number_of (board_in m (bare_on 1 white s x y)))
    → n ≡ number_of (board_in m (place_before q taken s to))
bare-at m q taken to white x y v s b n f =
    number-as m (place_before q taken s to) b.complete (bare_on 1 white s x y) (place_is m q taken to white x y v s b) n f

even-deep : (k : ℕ) → 0 < k → k % 2 ≡ 0 → refutes (2 + k) (1 + k) ≡ false
unfolding refutes spoils winning
even-deep k h e =
    rw (
      lt-leb (2 + k) 1 (omega arith),
      back k,
      eq-eqb (k % 2) 0 e,
      le-leb 3 (1 + k) (omega arith),
      eq-eqb ((1 + k) % 2) 1 (omega arith),
      le-leb (1 + k) (1 + k) (omega arith),
    )
  where
    back : (k : ℕ) → 2 + k - 2 ≡ k
    back k = omega arith

one_less : (k : ℕ) → suits (2 + k) (1 + k) ≡ true
unfolding suits
one_less k = rw (lt-leb (2 + k) 1 (omega arith)) (eq-eqb (1 + (1 + k)) (2 + k) (omega arith))

module _ (m : Men) (q : Place) (taken to white x y : ℕ) (v : Bare m q taken to white x y) (s : ℕ)
    (l : Leads m (place_before q taken s to) s to q) (first second : List ℕ) (k : ℕ) (u : List ℕ) (a : Admitted m first second u)
    (some : 0 < k) (even : k % 2 ≡ 0) (n : ℕ) (z : n ≡ number_of (board_in m (place_before q taken s to))) (h : n < length u)
    (one : get_or u n 0 ≡ 1) (steps shut goals : ℕ) (es : steps ≡ set_of (reaches (has 0) 5 s))
    (eh : (t : ℕ) → t < 64 → has shut t ≡ (struck_by m white x y t || eqb t to))
    (eg : goals ≡ set_of (λ (u : ℕ). has steps u && not (has shut u))) where
  same : place_before q taken s to ≡ bare_on 1 white s x y
  same = place_is m q taken to white x y v s (leads_goes m q taken s to v.legal l)

  pub goals-hold : (t : ℕ) → t < 64 → has goals t ≡ (can_move (board_in m (bare_on 1 white s x y)) s t && not (eqb t to))
  goals-hold = goals-are m q taken to white x y v s l steps shut goals es eh eg

  pub goal-can : (t : ℕ) → t < 64 → T (has goals t) → T (can_move (board_in m (bare_on 1 white s x y)) s t)
  goal-can t i g = and_left (can_move (board_in m (bare_on 1 white s x y)) s t) (not (eqb t to)) (subst T (goals-hold t i) g)

  first_on : x < 64
  first_on = (complete-spread (complete m q taken to white x y v s l)).first

  -- a man that he might take
  pub taking-can : (takes : Bool) (t : ℕ) → takes ≡ has goals x → (takes || has goals y) ≡ true → t ≡ cond takes x y
      → T (can_move (board_in m (place_before q taken s to)) s t)
  taking-can takes t e o z =
      subst⁻¹ (λ (p : Place). T (can_move (board_in m p) s t)) same (subst⁻¹ (λ (i : ℕ). T (can_move (board_in m (bare_on 1 white s x y)) s i)) z (go takes e o))
    where
      second-on : T (has goals y) → y < 64
      second-on g = ⊎_elim (λ i. absurd (refuted (has-off goals y i (subst⁻¹ (λ (i : ℕ). i < 2 ^ 64) eg (set_of-lt _))) g)) (λ i. i) (le-or-lt 64 y)

      go : (b : Bool) → b ≡ has goals x → (b || has goals y) ≡ true → T (can_move (board_in m (bare_on 1 white s x y)) s (cond b x y))
      go true e o = goal-can x first_on (subst T e tt)
      go false e o = let g = of-true o in goal-can y (second-on g) g

  module _ (takes : (has goals x || has goals y) ≡ false) where
    no-first : has goals x ≡ false
    no-first = go (has goals x) takes
      where
        go : (a : Bool) → (a || has goals y) ≡ false → a ≡ false
        go true e = e
        go false e = refl

    no_second : has goals y ≡ false
    no_second = go (has goals x) takes
      where
        go : (a : Bool) → (a || has goals y) ≡ false → has goals y ≡ false
        go true e = absurd (refuted e tt)
        go false e = e

    off : (t c : ℕ) → T (has goals t) → has goals c ≡ false → t ≡ c → ⊥
    off t c g e w = refuted (ap (has goals) w ∙ e) g

    pub goal-seated : (t : ℕ) → t < 64 → T (has goals t) → Seated m (bare_on 0 white t x y) × T (separate white t)
    goal-seated t i g = (
      seated-after m q taken to white x y v s l t (goal-can t i g) (off t x g no-first) (off t y g no_second),
      moved-separate m (bare_on 1 white s x y) (complete m q taken to white x y v s l) t (goal-can t i g),
    )

    pub bare-saved : (t : ℕ) × (t < 64) × T (has goals t)
        × (refutes (2 + k) (get_or u (number_of (board_in m (bare_on 0 white t x y))) 0) ≡ true)
        → TriesPlace m first second k q (place_before q taken s to) u u 0
    bare-saved w =
        tried-kept m (place_before q taken s to) q s to l first second k u a n z h one
        (λ t i r. ap (λ (o : Place). eqb (required_at chess (bytes_in m first second u) (board_in m o)) (2 + k)) same
        ∙ bare-kept m q taken to white x y v s l first second u k (λ e. omega (arith, some, e)) w.0 (goal-can w.0 w.1 w.2)
        (off w.0 x w.2 no-first) (off w.0 y w.2 no_second) w.3)

    pub bare-settled : ((t : ℕ) → t < 64 → T (has goals t) → refutes (2 + k) (get_or u (number_of (board_in m (bare_on 0 white t x y))) 0) ≡ false)
        → TriesPlace m first second k q (place_before q taken s to) u (set u n (2 + k)) 1
    bare-settled none =
        tried-lost m (place_before q taken s to) q s to l first second k u a n z h one
        (λ t w r. ap (λ (o : Place). eqb (required_at chess (bytes_in m first second u) (board_in m o)) (2 + k)) same
        ∙ bare-lost m q taken to white x y v s l first second u k (λ e. omega (arith, some, e)) goals goals-hold no-first no_second none
        there (ap (bytes_in m first second u) arrives ∙ byte t w r) (even-deep k some even) (one_less k))
      where
        there : T (can_move (board_in m (bare_on 1 white s x y)) s to)
        there = subst (λ (o : Place). T (can_move (board_in m o) s to)) same l.can

        arrives : moved (board_in m (bare_on 1 white s x y)) s to ≡ board_in m q
        arrives =
            let c = can-on (board_in m (bare_on 1 white s x y)) s to there in
            sym (place-moved s to c.0 c.1 m (bare_on 1 white s x y))
            ∙ ap (λ (o : Place). board_in m (place_after o s to)) (sym same) ∙ ap (board_in m) l.arrives

        byte : (t : List ℕ) → Midway chess (over m first second) k t u → Ripe m first second k t q
            → bytes_in m first second u (board_in m q) ≡ 1 + k
        byte t w r = go (settling chess (over m first second) k t u w (board_in m q))
          where
            go : Settling k (reads chess (over m first second) t (board_in m q)) (reads chess (over m first second) u (board_in m q))
                → reads chess (over m first second) u (board_in m q) ≡ 1 + k
            go (inl e) = e ∙ r.byte
            go (inr e) = absurd (omega (arith, some, e.0, r.byte))

    -- no square saves him, or one does
    pub bare-quiet : (w : List ℕ) (did : ℕ) → QuietLoss m k white x y goals n u w did → TriesPlace m first second k q (place_before q taken s to) u w did
    bare-quiet w did (QuietLoss.saved f e) =
        subst⁻¹ (λ (t : List ℕ). TriesPlace m first second k q (place_before q taken s to) u t 0) e (bare-saved (f.one refl))
    bare-quiet w did (QuietLoss.lost f e) =
        subst⁻¹ (λ (t : List ℕ). TriesPlace m first second k q (place_before q taken s to) u t 1) e (bare-settled (f.none refl))

-- what he takes leaves a byte that saves him
pub tried-taking : (m : Men) (o q : Place) (s to t : ℕ) (l : Leads m o s to q) (first second : List ℕ) (k : ℕ) (u : List ℕ) (a : Admitted m first second u)
    (n : ℕ) → n ≡ number_of (board_in m o) → n < length u → get_or u n 0 ≡ 1 → 0 < k → T (can_move (board_in m o) s t) → (made : Place) (c : ℕ) → made ≡ o
    → (Complete m made → T (can_move (board_in m made) s t) → c ≡ bytes_in m first second u (moved (board_in m made) s t)) → refutes (2 + k) c ≡ true
    → TriesPlace m first second k q o u u 0
tried-taking m o q s to t l first second k u a n z h one some can made c e f r =
    tried-kept m o q s to l first second k u a n z h one
    (λ i w x. sym (depth-refuted (bytes_in m first second u) (board_in m o) (plain m o l.complete) k (λ y. omega (arith, some, y))
    (s, t, can, of-true (ap (refutes (2 + k)) (sym byte) ∙ r))))
  where
    byte : c ≡ bytes_in m first second u (moved (board_in m o) s t)
    byte =
        f (subst⁻¹ (Complete m) e l.complete) (subst⁻¹ (λ (p : Place). T (can_move (board_in m p) s t)) e can)
        ∙ ap (λ (p : Place). bytes_in m first second u (moved (board_in m p) s t)) e

-- ---- what is known of his squares

pub knows-none : (m : Men) (k white x y : ℕ) (t : List ℕ) → Knows m k white x y t 0 0
knows-none m k white x y t = record { saves = λ s h g. absurd (refuted (has-none s) g); clears = λ s h g. absurd (refuted (has-none s) g) }

even-loss : (k : ℕ) → k % 2 ≡ 0 → refutes (2 + k) (2 + k) ≡ true
unfolding refutes spoils winning
even-loss k e =
    rw (lt-leb (2 + k) 1 (omega arith), back k, eq-eqb (k % 2) 0 e, ne_eqb ((2 + k) % 2) 1 (λ z. omega (arith, e, z)))
    (ap (λ (b : Bool). not (b && leb (2 + k) (1 + k))) (and-false (leb 3 (2 + k))))
  where
    back : (k : ℕ) → 2 + k - 2 ≡ k
    back k = omega arith

-- it is true of the table as settled: 1 and a loss in k save him alike
pub knows-kept : (m : Men) (k white x y : ℕ) → k % 2 ≡ 0 → (u v : List ℕ) (most did saving harmless : ℕ) → Few k most u v did
    → Knows m k white x y u saving harmless → Knows m k white x y v saving harmless
knows-kept m k white x y even u v most did saving harmless f w = record {
  saves = λ s h g. same s ∙ w.saves s h g;
  clears = λ s h g. same s ∙ w.clears s h g;
}
  where
    go : (n : ℕ) → (get_or v n 0 ≡ get_or u n 0) ⊎ ((get_or u n 0 ≡ 1) × (get_or v n 0 ≡ 2 + k))
        → refutes (2 + k) (get_or v n 0) ≡ refutes (2 + k) (get_or u n 0)
    go n (inl e) = ap (refutes (2 + k)) e
    go n (inr e) = ap (refutes (2 + k)) e.1 ∙ even-loss k even ∙ sym (ap (refutes (2 + k)) e.0 ∙ even-draw k even)

    same : (s : ℕ) → refutes (2 + k) (byte_on m v white x y s) ≡ refutes (2 + k) (byte_on m u white x y s)
    same s = go (number_of (board_in m (bare_on 0 white s x y))) (f.byte (number_of (board_in m (bare_on 0 white s x y))))

-- a number that holds 1 is the table's
pub held-inside : (u : List ℕ) (n c : ℕ) → c ≡ get_or u n 0 → c ≡ 1 → n < length u
held-inside u n c e h = ⊎_elim
    (λ z. let y : get_or u n 0 ≡ 0 = get_or-eq_default u 0 z in absurd (omega (arith, e, h, y))) (λ z. z) (le-or-lt (length u) n)
