-- From what the three pieces' moves tell to the verdict on a byte, and whether a depth is required.
use Rattle.std.specs.Prelude.{◌≡◌, Bool, ◌&&◌, not, ◌⊎◌, ℕ, ◌+◌, ◌≤◌, ◌<◌, Option, Some, None}
use Rattle.std.proofs.Math.Path.{refl, sym, subst}
use Rattle.std.proofs.Common.{ap, ◌∙◌, inl, inr, arith, eqb→eq}
use Rattle.std.proofs.Math.Bool.{true, false, cond}
use Rattle.std.proofs.Math.Logic.{⊎_elim}
use mathlib.Core.List.Memᴰ
use mathlib.Core.List.{List, [], ◌∷◌, map}
use Rattle.std.proofs.Math.Option.{some}
use Rattle.std.proofs.Math.Dec.{T, eqb}
use borrow.Author.Tests.{eq-eqb, ne_eqb, eqb-true, eqb-false}
use Rattle.finite.specs.Truth.{and_left, and_right, true_of, of-true, fails, eqb-sym, same_test, and_both, true-not-false}
use Rattle.finite.specs.Members.{◌∈◌, any-in, any_out, map-in, map-out, first, none_in}
use Rattle.theory.specs.Required.{Rule, best, required, required_at}
use Rattle.theory.specs.Play.{suits}
use Rattle.theory.specs.Judge.{refutes}
use Rattle.theory.proofs.laws.RuleLaws.{required-rule, required-pos}
use Rattle.theory.proofs.laws.Step.{required-moves}
use Rattle.theory.proofs.laws.Judge as judging
use Rattle.board.specs.Sets.{set_of, lowest_square}
use Rattle.rules.specs.declared.Move.{Move}
use Rattle.rules.specs.Rules.{Board, empty, in_check, moved, can_move, move_on, moves, mated}
use Rattle.rules.proofs.laws.CanMove.{can-on}
use Rattle.rules.specs.Chess.{chess, played}
use Rattle.rules.proofs.laws.ChessLaws.{of-moves}
use Rattle.endings.specs.Answers.{advice_of}
use Rattle.movegen.specs.declared.Reach.{Reach}
use Rattle.successors.specs.declared.Verdict.{Verdict}
use Rattle.successors.specs.Successors.{sifted_from, joined, judged_from, suited_from, verdict_of, no_targets, end_verdict, over_of}
use Rattle.successors.proofs.laws.Plain.{Plain, listed, leaves}
use Rattle.successors.proofs.laws.PlaceLaws.{StartsAt}
use Rattle.successors.proofs.laws.SiftLaws.{told-refuted, told-suited}
use Rattle.successors.proofs.laws.ChoiceLaws.{zero-fails, fails-zero, suiting_set, suits_to, shown}

-- ---- three together

joined-refuted : (u v w : Option ℕ) → joined u v w ≡ None
    → (u ≡ None) ⊎ ((v ≡ None) ⊎ (w ≡ None))
joined-refuted None v w e = inl refl
joined-refuted (Some a) None w e = inr (inl refl)
joined-refuted (Some a) (Some b) None e = inr (inr refl)
joined-refuted (Some a) (Some b) (Some c) e =
    let z : ◌≡◌ {A = ℕ} 0 1 = cc in absurd (omega arith)

joined-found : (u v w : Option ℕ) (sets : Reach) → joined u v w ≡ Some sets
    → (u ≡ Some sets.king) × (v ≡ Some sets.first) × (w ≡ Some sets.second)
joined-found None v w sets e = let z : ◌≡◌ {A = ℕ} 0 1 = cc in absurd (omega arith)
joined-found (Some a) None w sets e = let z : ◌≡◌ {A = ℕ} 0 1 = cc in absurd (omega arith)
joined-found (Some a) (Some b) None sets e =
    let z : ◌≡◌ {A = ℕ} 0 1 = cc in absurd (omega arith)
joined-found (Some a) (Some b) (Some c) sets e =
    let r : ◌≡◌ {A = Reach} (record { king = a; first = b; second = c }) sets = cc in (
      ap (λ (x : Reach). Some x.king) r,
      ap (λ (x : Reach). Some x.first) r,
      ap (λ (x : Reach). Some x.second) r,
    )

-- ---- the byte required

two-mate : (mate : Bool) (bs : List ℕ) → eqb (required mate bs) 2 ≡ mate
two-mate true bs = unfold required in refl
two-mate false bs =
    fails (eqb (required false bs) 2) (λ e. go (eqb→eq (required false bs) 2 e) (required-rule false bs))
  where
    go : required false bs ≡ 2 → Rule bs (required false bs) false → ⊥
    go e (Rule.wins c m l f q) = omega arith
    go e (Rule.loses c m f q) = omega (arith, (f c m).0.0)
    go e (Rule.draws c m d f q) = omega arith
    go e (Rule.stalemate z q) = omega arith

module _ (byte : Board → ℕ) (b : Board) where
  abbrev after : Move → ℕ
  after m = byte (played b m)

  -- with no move: 2 in check, else 1
  pub required-over : moves b ≡ [] → required_at chess byte b ≡ cond (in_check b b.side) 2 1
  unfolding mated
  required-over e = required-moves chess byte b ∙ rw e (go (in_check b b.side))
    where
      go : (check : Bool) → required (check && true) [] ≡ cond check 2 1
      go true = unfold required in refl
      go false = unfold required best in refl

  -- with a move there is no mate
  pub required-more : (m : Move) → m ∈ moves b → required_at chess byte b ≡ required false (map after (moves b))
  required-more m i = required-moves chess byte b
      ∙ ap (λ (x : Bool). required x (map after (moves b))) (fails (mated b) (λ t. none_in (chess.mate-ends b t) i))

  -- ---- what is told of all legal moves

  abbrev Refuting : ℕ → Type 0
  Refuting c = (from : ℕ) × (to : ℕ) × T (can_move b from to) × T (refutes c (byte (moved b from to)))

  abbrev Suiting : ℕ → Type 0
  Suiting c = (from : ℕ) × (to : ℕ) × T (can_move b from to) × T (suits c (byte (moved b from to)))

  abbrev Clear : ℕ → ℕ → Type 0
  Clear c s = (t : ℕ) → T (can_move b s t) → T (refutes c (byte (moved b s t))) → ⊥

  abbrev Or : ℕ → ℕ → Type 0
  Or c from = (suiting_set byte c b from ≡ 0) ⊎ Suiting c

  module _ (m : Plain b) (c : ℕ) (h : 1 ≤ c) where
    -- what a listed move leaves, by its squares
    by-squares : (f : ℕ → Bool) (k : ℕ) (v : Move) → v ∈ moves b → k ≡ after v → T (f k)
        → T (f (byte (moved b v.from v.to)))
    by-squares f k v i e t = subst (λ (n : ℕ). T (f n)) (e ∙ ap byte (leaves b m v i)) t

    refuted-other : Refuting c → required_at chess byte b ≡ c → ⊥
    refuted-other r q =
        let i = listed b m r.0 r.1 r.2 in
        judging.refuted c (map after (moves b)) h (any-in (refutes c) (map-in after i) r.3)
        (sym (required-more (move_on b r.0 r.1) i) ∙ q)

    met-required : (Refuting c → ⊥) → Suiting c → required_at chess byte b ≡ c
    met-required clear s =
        let i = listed b m s.0 s.1 s.2 in
        required-more (move_on b s.0 s.1) i
        ∙ judging.judged c (map after (moves b)) h
        (λ t. let o = any_out (refutes c) (map after (moves b)) t in
        let p = map-out after o.0 (moves b) o.1 in
        clear (
          p.0.from,
          p.0.to,
          (of-moves b p.0 p.1).1.can,
          by-squares (refutes c) o.0 p.0 p.1 p.2 o.2,
        ))
        (any-in (suits c) (map-in after i) s.3)

    unmet-over : (Suiting c → ⊥) → required_at chess byte b ≡ c → moves b ≡ []
    unmet-over none-suits q = go (moves b) refl
      where
        go : (l : List Move) → moves b ≡ l → moves b ≡ []
        go [] e = e
        go (x ∷ l) e =
            let i : x ∈ moves b = subst (λ (k : List Move). x ∈ k) (sym e) (Memᴰ.head refl) in
            let t = judging.suited c (map after (moves b)) (λ z. none_in z (map-in after i))
            (sym (required-more x i) ∙ q) in
            let o = any_out (suits c) (map after (moves b)) t in
            let p = map-out after o.0 (moves b) o.1 in
            absurd (none-suits (
              p.0.from,
              p.0.to,
              (of-moves b p.0 p.1).1.can,
              by-squares (suits c) o.0 p.0 p.1 p.2 o.2,
            ))

  -- ---- the verdict

  module _ (c : ℕ) where
    pub wrong : (required_at chess byte b ≡ c → ⊥) → Verdict.Wrong ≡ verdict_of byte c b
    unfolding verdict_of
    wrong n = sym (rw (ne_eqb c (required_at chess byte b) (λ e. n (sym e))))

    pub right : required_at chess byte b ≡ c → (a : Option Move) → a ≡ advice_of (suited_from byte c b)
        → Verdict.Right a ≡ verdict_of byte c b
    unfolding verdict_of
    right e a q = sym (rw (eq-eqb c (required_at chess byte b) (sym e), ← q))

    pub verdict-zero : c ≡ 0 → Verdict.Wrong ≡ verdict_of byte c b
    verdict-zero z = wrong (λ e. let h = required-pos (mated b) (map after (moves b)) in
        let q = required-moves chess byte b in omega arith)

    module _ (m : Plain b) (n : c ≡ 0 → ⊥) where
      pub verdict-refuted : Refuting c → Verdict.Wrong ≡ verdict_of byte c b
      verdict-refuted r = wrong (refuted-other m c (omega arith) r)

      pub verdict-met : (Refuting c → ⊥) → Suiting c → (v : Move) → suited_from byte c b ≡ some v
          → Verdict.Right (Some v) ≡ verdict_of byte c b
      verdict-met clear s v e = right (met-required m c (omega arith) clear s) (Some v) (sym (ap advice_of e))

      -- none suits: by the end of the game
      pub verdict-unmet : (reach : Reach) → no_targets reach ≡ empty (moves b) → (Suiting c → ⊥)
          → over_of c reach b ≡ verdict_of byte c b
      unfolding over_of end_verdict
      verdict-unmet reach e none-suits = rw e (go (moves b) refl)
        where
          over : moves b ≡ [] → (x : Bool) → eqb c (cond (in_check b b.side) 2 1) ≡ x
              → cond x (Verdict.Right None) Verdict.Wrong ≡ verdict_of byte c b
          over z true q =
              right (required-over z ∙ sym (eqb-true c (cond (in_check b b.side) 2 1) q)) None
              (unfold suited_from first in sym (rw z))
          over z false q =
              wrong (λ r. eqb-false c (cond (in_check b b.side) 2 1) q (sym r ∙ required-over z))

          go : (l : List Move) → moves b ≡ l
              → cond (empty l)
              (cond (eqb c (cond (in_check b b.side) 2 1))
              (Verdict.Right None) Verdict.Wrong) Verdict.Wrong
              ≡ verdict_of byte c b
          go [] z = over z (eqb c (cond (in_check b b.side) 2 1)) refl
          go (x ∷ l) z =
              wrong (λ r. let y = sym z ∙ unmet-over m c (omega arith) none-suits r in
              let w : ◌≡◌ {A = ℕ} 0 1 = cc in omega arith)

    -- what a verdict tells
    told : (same : Bool) (v : Verdict) (a : Option Move) → v ≡ cond same (Verdict.Right a) Verdict.Wrong
        → (v ≡ Verdict.Wrong → same ≡ false) × ((x : Option Move) → v ≡ Verdict.Right x → (same ≡ true) × (x ≡ a))
    told true v a e = (λ w. let z : ◌≡◌ {A = ℕ} 0 1 = cc in absurd (omega arith), λ x w. (refl, (cc)))
    told false v a e = (λ w. refl, λ x w. let z : ◌≡◌ {A = ℕ} 0 1 = cc in absurd (omega arith))

    pub told-wrong : (v : Verdict) → v ≡ verdict_of byte c b → v ≡ Verdict.Wrong
        → eqb c (required_at chess byte b) ≡ false
    unfolding verdict_of
    told-wrong v e w = (told (eqb c (required_at chess byte b)) v (advice_of (suited_from byte c b)) e).0 w

    pub told-right : (v : Verdict) (a : Option Move) → v ≡ verdict_of byte c b → v ≡ Verdict.Right a
        → (eqb c (required_at chess byte b) ≡ true) × (a ≡ advice_of (suited_from byte c b))
    unfolding verdict_of
    told-right v a e w = (told (eqb c (required_at chess byte b)) v (advice_of (suited_from byte c b)) e).1 a w

  -- ---- whether depth k is required

  pub depth-mate : (k : ℕ) → k ≡ 0 → mated b ≡ eqb (required_at chess byte b) (2 + k)
  depth-mate k e = rw e (sym (two-mate (mated b) _))

  pub depth-byte : (k : ℕ) (x : Bool) → x ≡ eqb (2 + k) (required_at chess byte b)
      → x ≡ eqb (required_at chess byte b) (2 + k)
  depth-byte k x e = e ∙ eqb-sym (2 + k) (required_at chess byte b)

  module _ (m : Plain b) (k : ℕ) (n : k ≡ 0 → ⊥) where
    pub depth-refuted : Refuting (2 + k) → false ≡ eqb (required_at chess byte b) (2 + k)
    depth-refuted r = sym (ne_eqb (required_at chess byte b) (2 + k) (refuted-other m (2 + k) (omega arith) r))

    depth-met : (Refuting (2 + k) → ⊥) → Suiting (2 + k) → true ≡ eqb (required_at chess byte b) (2 + k)
    depth-met clear s = sym (eq-eqb (required_at chess byte b) (2 + k) (met-required m (2 + k) (omega arith) clear s))

    depth-unmet : (Suiting (2 + k) → ⊥) → false ≡ eqb (required_at chess byte b) (2 + k)
    depth-unmet none-suits =
        sym (ne_eqb (required_at chess byte b) (2 + k)
        (λ q. small (in_check b b.side)
        (sym (required-over (unmet-over m (2 + k) (omega arith) none-suits q)) ∙ q)))
      where
        small : (check : Bool) → cond check 2 1 ≡ 2 + k → ⊥
        small true z = n (omega arith)
        small false z = omega arith

  -- ---- of three pieces from whose squares all moves start

  module _ (x y z : ℕ) (starts : (from to : ℕ) → T (can_move b from to) → StartsAt x y z from) where
    pub found-refuting : (c : ℕ) → judged_from byte c b x y z ≡ None → Refuting c
    unfolding judged_from
    found-refuting c e =
        ⊎_elim (λ q. let r = told-refuted byte c b x q in (x, r.0, r.1, r.2))
        (⊎_elim (λ q. let r = told-refuted byte c b y q in (y, r.0, r.1, r.2))
        (λ q. let r = told-refuted byte c b z q in (z, r.0, r.1, r.2)))
        (joined-refuted (sifted_from byte c b x) (sifted_from byte c b y) (sifted_from byte c b z) e)

    pub record Sets (c : ℕ) (sets : Reach) : Type 0 where
      pub of-king : sets.king ≡ suiting_set byte c b x
      pub of-first : sets.first ≡ suiting_set byte c b y
      pub of-second : sets.second ≡ suiting_set byte c b z
      pub clear : Refuting c → ⊥

    pub found-sets : (c : ℕ) (sets : Reach) → judged_from byte c b x y z ≡ Some sets → Sets c sets
    unfolding judged_from
    found-sets c sets e =
        let j = joined-found (sifted_from byte c b x) (sifted_from byte c b y) (sifted_from byte c b z) sets e in
        let p = told-suited byte c b x sets.king j.0 in
        let q = told-suited byte c b y sets.first j.1 in
        let r = told-suited byte c b z sets.second j.2 in
        record {
          of-king = p.0;
          of-first = q.0;
          of-second = r.0;
          clear = λ w. at w.0 w.1 w.2 w.3 (starts w.0 w.1 w.2) p.1 q.1 r.1;
        }
      where
        at : (from to : ℕ) → T (can_move b from to) → T (refutes c (byte (moved b from to))) → StartsAt x y z from
            → Clear c x → Clear c y → Clear c z → ⊥
        at from to u v (inl e) f g h = subst (Clear c) (sym e) f to u v
        at from to u v (inr (inl e)) f g h = subst (Clear c) (sym e) g to u v
        at from to u v (inr (inr e)) f g h = subst (Clear c) (sym e) h to u v

    suiting-or : Plain b → (c from : ℕ) → Or c from
    suiting-or m c from =
        ⊎_elim (λ o. inl o.0) (λ o. inr (from, lowest_square (suiting_set byte c b from), o.1.can, o.1.suiting))
        (shown byte c b m from)

    -- three sets are empty exactly where nothing passes
    module _ (p : ℕ → ℕ → Bool) (can : (from to : ℕ) → T (p from to) → T (can_move b from to)) (sets : Reach)
        (ex : sets.king ≡ set_of (p x)) (ey : sets.first ≡ set_of (p y)) (ez : sets.second ≡ set_of (p z)) where
      none_pass : no_targets sets ≡ true → (from to : ℕ) → T (p from to) → ⊥
      none_pass e from to t =
          let c = can from to t in
          let o = (can-on b from to c).1 in
          let f = of-true e in
          let k = eqb→eq sets.king 0 (and_left (eqb sets.king 0) _ f) in
          let r = and_right (eqb sets.king 0) (eqb sets.first 0 && eqb sets.second 0) f in
          let i = eqb→eq sets.first 0 (and_left (eqb sets.first 0) _ r) in
          let j = eqb→eq sets.second 0 (and_right (eqb sets.first 0) (eqb sets.second 0) r) in
          at (starts from to c) o (sym ex ∙ k) (sym ey ∙ i) (sym ez ∙ j)
        where
          at : StartsAt x y z from → to < 64 → set_of (p x) ≡ 0 → set_of (p y) ≡ 0 → set_of (p z) ≡ 0 → ⊥
          at (inl e) o k i j = zero-fails (p x) k to o (subst (λ (s : ℕ). T (p s to)) e t)
          at (inr (inl e)) o k i j = zero-fails (p y) i to o (subst (λ (s : ℕ). T (p s to)) e t)
          at (inr (inr e)) o k i j = zero-fails (p z) j to o (subst (λ (s : ℕ). T (p s to)) e t)

      all-empty : ((from to : ℕ) → T (p from to) → ⊥) → no_targets sets ≡ true
      all-empty f =
          rw (
            eq-eqb sets.king 0 (ex ∙ fails-zero (p x) (λ u h. f x u)),
            eq-eqb sets.first 0 (ey ∙ fails-zero (p y) (λ u h. f y u)),
            eq-eqb sets.second 0 (ez ∙ fails-zero (p z) (λ u h. f z u)),
          )

    -- no piece has a target: no move is left
    pub stuck : (m : Plain b) (reach : Reach) → reach.king ≡ set_of (can_move b x)
        → reach.first ≡ set_of (can_move b y) → reach.second ≡ set_of (can_move b z)
        → no_targets reach ≡ empty (moves b)
    stuck m reach ex ey ez =
        same_test (no_targets reach) (empty (moves b))
        (λ t. go (moves b) refl (none_pass (can_move b) (λ f g u. u) reach ex ey ez (true_of t)))
        (λ t. of-true (all-empty (can_move b) (λ f g u. u) reach ex ey ez
        (λ f g u. gone (moves b) (move_on b f g) t (listed b m f g u))))
      where
        go : (l : List Move) → moves b ≡ l → ((from to : ℕ) → T (can_move b from to) → ⊥) → T (empty l)
        go [] e f = tt
        go (v ∷ l) e f =
            let i : v ∈ moves b = subst (λ (k : List Move). v ∈ k) (sym e) (Memᴰ.head refl) in
            absurd (f v.from v.to (of-moves b v i).1.can)

        gone : (l : List Move) (v : Move) → T (empty l) → v ∈ l → ⊥
        gone [] v t i = none_in refl i
        gone (w ∷ l) v t i = t

    pub depth-told : (m : Plain b) (k : ℕ) (n : k ≡ 0 → ⊥) (sets : Reach) → Sets (2 + k) sets
        → not (no_targets sets) ≡ eqb (required_at chess byte b) (2 + k)
    depth-told m k n sets w = go (no_targets sets) refl
      where
        go : (e : Bool) → no_targets sets ≡ e → not e ≡ eqb (required_at chess byte b) (2 + k)
        go true e =
            depth-unmet m k n
            (λ s. none_pass (suits_to byte (2 + k) b)
            (λ f g t. and_left (can_move b f g) (suits (2 + k) (byte (moved b f g))) t) sets w.of-king w.of-first
            w.of-second e s.0 s.1
            (and_both (can_move b s.0 s.1) (suits (2 + k) (byte (moved b s.0 s.1))) s.2 s.3))
        go false e = at (suiting-or m (2 + k) x) (suiting-or m (2 + k) y) (suiting-or m (2 + k) z)
          where
            at : Or (2 + k) x → Or (2 + k) y → Or (2 + k) z → true ≡ eqb (required_at chess byte b) (2 + k)
            at (inr s) v r = depth-met m k n w.clear s
            at (inl i) (inr s) r = depth-met m k n w.clear s
            at (inl i) (inl j) (inr s) = depth-met m k n w.clear s
            at (inl i) (inl j) (inl l) =
                absurd (true-not-false {b = no_targets sets}
                (rw (
                  eq-eqb sets.king 0 (w.of-king ∙ i),
                  eq-eqb sets.first 0 (w.of-first ∙ j),
                  eq-eqb sets.second 0 (w.of-second ∙ l),
                )) e)
