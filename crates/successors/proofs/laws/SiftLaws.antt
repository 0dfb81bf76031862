-- The loop that compares a byte with one piece's successors, and what it tells.
use Rattle.std.specs.Prelude.{◌≡◌, ◌⊎◌, Bool, not, ◌&&◌, ◌||◌, List, [], ℕ, ◌^◌, ◌<◌, eqb, Option, Some, None}
use Rattle.std.proofs.Math.Path.{refl, sym, ap, ap₂, subst}
use Rattle.std.proofs.Common.{◌∙◌, inl, inr, ⊎_elim, arith, eqb-true}
use Rattle.std.proofs.Math.Bool.{true, false, cond}
use Rattle.std.specs.Int.Bits.{bit_or}
use Rattle.std.proofs.lemmas.Nat.{or_lt}
use Rattle.std.proofs.Math.Dec.{T}
use Rattle.finite.specs.Truth.{of-true, fails, refuted, and_left, or_left, or_right, or_cases, same_test}
use Rattle.finite.specs.Members.{any, any-in, any_out, none_in}
use Rattle.theory.specs.Play.{suits}
use Rattle.theory.specs.Judge.{refutes}
use Rattle.board.specs.Sets.{has, members, set_of}
use Rattle.board.proofs.laws.SetLaws.{has-none, has-or, has-set_of, set_of-lt, set_is, set-has, members-in, members-out}
use Rattle.board.proofs.laws.LowestLaws.{Lowest}
use Rattle.rules.specs.Rules.{Board, moved, can_move}
use Rattle.rules.proofs.laws.CanMove.{can-on}
use Rattle.successors.specs.Successors.{sifted_by, sifted_from, alongside}

cond-refuted : (x : Bool) (s : ℕ) → cond x None (Some s) ≡ None → x ≡ true
cond-refuted true s e = refl
cond-refuted false s e = let z : ◌≡◌ {A = ℕ} 0 1 = cc in absurd (omega arith)

cond-suited : (x : Bool) (s t : ℕ) → cond x None (Some s) ≡ Some t
    → (x ≡ false) × (t ≡ s)
cond-suited true s t e = let z : ◌≡◌ {A = ℕ} 0 1 = cc in absurd (omega arith)
cond-suited false s t e = (refl, (cc))

module _ (byte : Board → ℕ) (c : ℕ) (b : Board) (from : ℕ) (goes : ℕ → Bool) where
  abbrev after : ℕ → ℕ
  after t = byte (moved b from t)

  abbrev spoilt : List ℕ → Bool
  spoilt = any (λ t. refutes c (after t))

  -- the state of the loop: what is left of the targets, and what was found among the others
  pub record Sifting (found rest : ℕ) : Type 0 where
    pub legal-rest : (u : ℕ) → u < 64 → T (has rest u) → T (goes u)
    pub same-spoilt : spoilt (members (set_of goes)) ≡ spoilt (members rest)
    pub same-suited : (u : ℕ) → u < 64
        → (has found u || (has rest u && suits c (after u))) ≡ (goes u && suits c (after u))

  pub sift-start : (targets : ℕ) → targets ≡ set_of goes → Sifting 0 targets
  sift-start targets e = record {
    legal-rest = λ u h t. subst T (set-has goes e u h) t;
    same-spoilt = ap (λ (s : ℕ). spoilt (members s)) (sym e);
    same-suited = λ u h. rw (has-none u, set-has goes e u h);
  }

  -- the lowest target is looked at: `k` is the byte there
  module _ (found rest to others k : ℕ) (low : Lowest rest to others) (w : Sifting found rest) (e : k ≡ after to) where
    one_more : spoilt (members rest) ≡ (refutes c k || spoilt (members others))
    unfolding any
    one_more = rw (low.first, e)

    pub sift-refuted : refutes c k ≡ true → None ≡ sifted_by byte c b from goes
    unfolding sifted_by
    sift-refuted r = sym (rw (w.same-spoilt, one_more, r))

    pub sift-turn : (next : ℕ) → refutes c k ≡ false
        → next ≡ cond (suits c k) (set_of (λ (u : ℕ). has found u || eqb u to)) found → Sifting next others
    sift-turn next r n = record {
      legal-rest = λ u h t. w.legal-rest u h (subst T (sym (low.others u h)) (or_right (eqb u to) (has others u) t));
      same-spoilt = w.same-spoilt ∙ one_more ∙ ap (λ (x : Bool). x || spoilt (members others)) r;
      same-suited = λ u h. ap (λ (x : Bool). x || (has others u && suits c (after u))) (now u h)
          ∙ sorted (has found u) (has others u) (eqb u to) (suits c (after u)) (suits c k) (alike u)
          ∙ ap (λ (x : Bool). has found u || (x && suits c (after u))) (sym (low.others u h)) ∙ w.same-suited u h;
    }
      where
        now : (u : ℕ) → u < 64 → has next u ≡ cond (suits c k) (has found u || eqb u to) (has found u)
        now u h = ap (λ (s : ℕ). has s u) n ∙ go (suits c k)
          where
            go : (x : Bool)
                → has (cond x (set_of (λ (u : ℕ). has found u || eqb u to)) found) u
                ≡ cond x (has found u || eqb u to) (has found u)
            go true = has-set_of (λ (u : ℕ). has found u || eqb u to) u h
            go false = refl

        alike : (u : ℕ) → eqb u to ≡ true → suits c (after u) ≡ suits c k
        alike u q = ap (λ (v : ℕ). suits c (after v)) (eqb-true u to q) ∙ ap (suits c) (sym e)

        sorted : (f o q s x : Bool) → (q ≡ true → s ≡ x)
            → (cond x (f || q) f || (o && s)) ≡ (f || ((q || o) && s))
        sorted true o true s true h = refl
        sorted true o true s false h = refl
        sorted true o false s true h = refl
        sorted true o false s false h = refl
        sorted false o true s true h = sym (h refl)
        sorted false true true s false h = refl
        sorted false false true s false h = sym (h refl)
        sorted false o false s true h = refl
        sorted false o false s false h = refl

  pub sift-end : (found rest : ℕ) → found < 2 ^ 64 → members rest ≡ [] → Sifting found rest
      → Some found ≡ sifted_by byte c b from goes
  unfolding sifted_by
  sift-end found rest h z w =
      ap Some (set_is (λ t. goes t && suits c (after t)) found h
      (λ u k. sym (none_left (has found u) (suits c (after u)) (has rest u) (left_out u k))
      ∙ w.same-suited u k))
      ∙ sym (rw (w.same-spoilt ∙ clear))
    where
      clear : spoilt (members rest) ≡ false
      clear = unfold any in rw z

      left_out : (u : ℕ) → u < 64 → has rest u ≡ false
      left_out u k = fails (has rest u) (λ t. none_in z (members-in rest u k t))

      none_left : (f s r : Bool) → r ≡ false → (f || (r && s)) ≡ f
      none_left true s r q = refl
      none_left false s r q = rw q

  -- ---- the targets in two parts

  module _ (part : ℕ → Bool) where
    abbrev within : ℕ → Bool
    within t = goes t && part t

    abbrev beyond : ℕ → Bool
    beyond t = goes t && not (part t)

    parts : (a d : Bool) → T a → T (a && d) ⊎ T (a && not d)
    parts true true t = inl tt
    parts true false t = inr tt
    parts false d t = absurd t

    spoilt-parts : spoilt (members (set_of goes)) ≡ (spoilt (members (set_of within)) || spoilt (members (set_of beyond)))
    spoilt-parts =
        same_test (spoilt (members (set_of goes))) (spoilt (members (set_of within)) || spoilt (members (set_of beyond)))
        forth (λ t. ⊎_elim (back within (λ u. and_left (goes u) (part u))) (back beyond (λ u. and_left (goes u) (not (part u))))
        (or_cases (spoilt (members (set_of within))) (spoilt (members (set_of beyond))) t))
      where
        there : (f : ℕ → Bool) (u : ℕ) → u < 64 → T (f u) → T (refutes c (after u)) → T (spoilt (members (set_of f)))
        there f u h t r =
            any-in (λ (v : ℕ). refutes c (after v)) (members-in (set_of f) u h (subst T (sym (has-set_of f u h)) t)) r

        from-set : (f : ℕ → Bool) → T (spoilt (members (set_of f)))
            → (u : ℕ) × (u < 64) × T (f u) × T (refutes c (after u))
        from-set f t =
            let o = any_out (λ (v : ℕ). refutes c (after v)) (members (set_of f)) t in
            let i = members-out (set_of f) o.0 o.1 in
            (o.0, i.0, subst T (has-set_of f o.0 i.0) i.1, o.2)

        forth : T (spoilt (members (set_of goes)))
            → T (spoilt (members (set_of within)) || spoilt (members (set_of beyond)))
        forth t =
            let o = from-set goes t in
            ⊎_elim
            (λ d. or_left (spoilt (members (set_of within))) (spoilt (members (set_of beyond)))
            (there within o.0 o.1 d o.3))
            (λ d. or_right (spoilt (members (set_of within))) (spoilt (members (set_of beyond)))
            (there beyond o.0 o.1 d o.3))
            (parts (goes o.0) (part o.0) o.2)

        back : (f : ℕ → Bool) → ((u : ℕ) → T (f u) → T (goes u)) → T (spoilt (members (set_of f)))
            → T (spoilt (members (set_of goes)))
        back f k t = let o = from-set f t in there goes o.0 o.1 (k o.0 o.2) o.3

    suited-parts : bit_or (set_of (λ t. within t && suits c (after t))) (set_of (λ t. beyond t && suits c (after t)))
        ≡ set_of (λ t. goes t && suits c (after t))
    suited-parts =
        set_is (λ t. goes t && suits c (after t)) _
        (or_lt 64 (set_of (λ t. within t && suits c (after t))) (set_of (λ t. beyond t && suits c (after t))) (set_of-lt _)
        (set_of-lt _))
        (λ u h. has-or (set_of (λ t. within t && suits c (after t))) (set_of (λ t. beyond t && suits c (after t))) u
        ∙ ap₂ ◌||◌ (has-set_of (λ t. within t && suits c (after t)) u h) (has-set_of (λ t. beyond t && suits c (after t)) u h)
        ∙ split (goes u) (part u) (suits c (after u)))
      where
        split : (a d e : Bool) → (((a && d) && e) || ((a && not d) && e)) ≡ (a && e)
        split true true true = refl
        split true true false = refl
        split true false e = refl
        split false d e = refl

    module _ (x : Option ℕ) (ex : x ≡ sifted_by byte c b from within) where
      pub parts-refuted : x ≡ None → None ≡ sifted_by byte c b from goes
      unfolding sifted_by
      parts-refuted h = sym (rw (spoilt-parts, cond-refuted (spoilt (members (set_of within))) _ (sym ex ∙ h)))

      pub parts-suited : (a : ℕ) → x ≡ Some a → (y : Option ℕ) → y ≡ sifted_by byte c b from beyond
          → alongside a y ≡ sifted_by byte c b from goes
      unfolding sifted_by
      parts-suited a h y ey =
          let k = cond-suited (spoilt (members (set_of within))) _ a (sym ex ∙ h) in
          ap₂ alongside k.1 ey
          ∙ go (spoilt (members (set_of beyond)))
          ∙ ap₂ (λ (z : Bool) (n : ℕ). cond z None (Some n))
          (sym (spoilt-parts ∙ ap (λ (z : Bool). z || spoilt (members (set_of beyond))) k.0)) suited-parts
        where
          go : (z : Bool)
              → alongside (set_of (λ t. within t && suits c (after t)))
              (cond z None (Some (set_of (λ t. beyond t && suits c (after t)))))
              ≡ cond z None (Some (bit_or (set_of (λ t. within t && suits c (after t)))
              (set_of (λ t. beyond t && suits c (after t)))))
          go true = refl
          go false = refl

      -- the other moves: one refutes the byte, or none does
      module _ (a : ℕ) (h : x ≡ Some a) (y : Option ℕ) (ey : y ≡ sifted_by byte c b from beyond) where
        pub rest-refuted : y ≡ None → None ≡ sifted_by byte c b from goes
        rest-refuted n = ap (alongside a) (sym n) ∙ parts-suited a h y ey

        pub both-suited : (k : ℕ) → y ≡ Some k → Some (bit_or a k) ≡ sifted_by byte c b from goes
        both-suited k n = ap (alongside a) (sym n) ∙ parts-suited a h y ey

-- ---- what it tells of all legal targets

module _ (byte : Board → ℕ) (c : ℕ) (b : Board) (from : ℕ) where
  abbrev left : ℕ → ℕ
  left t = byte (moved b from t)

  abbrev refuting : List ℕ → Bool
  refuting = any (λ t. refutes c (left t))

  pub told-refuted : sifted_from byte c b from ≡ None
      → (t : ℕ) × T (can_move b from t) × T (refutes c (left t))
  unfolding sifted_by
  told-refuted e =
      let o = any_out (λ t. refutes c (left t)) (members (set_of (can_move b from)))
      (of-true {b = refuting (members (set_of (can_move b from)))}
      (cond-refuted (refuting (members (set_of (can_move b from))))
      (set_of (λ t. can_move b from t && suits c (left t))) e)) in
      let i = members-out (set_of (can_move b from)) o.0 o.1 in
      (o.0, subst T (has-set_of (can_move b from) o.0 i.0) i.1, o.2)

  pub told-suited : (s : ℕ) → sifted_from byte c b from ≡ Some s
      → (s ≡ set_of (λ t. can_move b from t && suits c (left t)))
      × ((t : ℕ) → T (can_move b from t) → T (refutes c (left t)) → ⊥)
  unfolding sifted_by
  told-suited s e =
      let d = cond-suited (refuting (members (set_of (can_move b from))))
      (set_of (λ t. can_move b from t && suits c (left t))) s e in (
        d.1,
        λ t m r. let h = (can-on b from t m).1 in
            refuted d.0
            (any-in (λ (u : ℕ). refutes c (left u))
            (members-in (set_of (can_move b from)) t h (subst T (sym (has-set_of (can_move b from) t h)) m)) r),
      )
