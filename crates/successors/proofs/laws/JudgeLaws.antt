-- A byte compared with the moves of three pieces, a piece at a time.
use Rattle.std.specs.Prelude.{◌≡◌, Bool, false, ◌&&◌, ℕ, ◌^◌, ◌<◌, eqb, Option, Some, None}
use Rattle.std.proofs.Math.Path.{refl, sym, ap, ap₂, subst}
use Rattle.std.proofs.Common.{◌∙◌, arith}
use Rattle.std.proofs.Math.Bool.{true, not, and-true, and-false}
use Rattle.std.proofs.Math.Dec.{T}
use Rattle.finite.specs.Truth.{true_of, of-true, fails, refuted}
use Rattle.finite.specs.Members.{any, any-in, any_out}
use Rattle.theory.specs.Play.{suits}
use Rattle.theory.specs.Judge.{refutes}
use Rattle.board.specs.Sets.{has, members, lowest_square, set_of}
use Rattle.board.proofs.laws.SetLaws.{has-none, has-set_of, set_of-same, set_is, set-has, members-in, members-out, members-none}
use Rattle.board.proofs.laws.LowestLaws.{lowest-of}
use Rattle.rules.specs.Rules.{Board, moved}
use Rattle.successors.specs.Successors.{sifted_by, sifted_from, joined, judged_from}
use Rattle.successors.proofs.laws.SiftLaws.{sift-start, sift-end}

module _ (byte : Board → ℕ) (c : ℕ) (b : Board) where
  -- a piece without such a move
  pub no-moves : (from : ℕ) (goes : ℕ → Bool) (targets : ℕ) → targets ≡ set_of goes → targets ≡ 0
      → Some 0 ≡ sifted_by byte c b from goes
  no-moves from goes targets e z =
      sift-end byte c b from goes 0 targets (omega arith) (ap members z ∙ members-none) (sift-start byte c b from goes targets e)

  -- moves that all lead to one byte
  module _ (from : ℕ) (goes : ℕ → Bool) (targets : ℕ) (e : targets ≡ set_of goes) (k : ℕ)
      (same : (t : ℕ) → T (goes t) → k ≡ byte (moved b from t)) where
    abbrev spoilt : Bool
    spoilt = any (λ t. refutes c (byte (moved b from t))) (members (set_of goes))

    pub same-refuted : targets < 2 ^ 64 → (targets ≡ 0 → ⊥) → refutes c k ≡ true → None ≡ sifted_by byte c b from goes
    unfolding sifted_by
    same-refuted h n r =
        let to = lowest_square targets in
        let low = lowest-of targets to (set_of (λ (u : ℕ). has targets u && not (eqb u to))) h n refl refl in
        let g : T (goes to) = subst T (set-has goes e to low.square) low.here in
        let z : spoilt ≡ true = true_of (any-in (λ (t : ℕ). refutes c (byte (moved b from t)))
        (members-in (set_of goes) to low.square (subst T (sym (has-set_of goes to low.square)) g))
        (subst (λ (i : ℕ). T (refutes c i)) (same to g) (of-true r))) in
        sym (rw z)

    unspoilt : refutes c k ≡ false → spoilt ≡ false
    unspoilt r =
        fails spoilt
        (λ t. let o = any_out (λ (u : ℕ). refutes c (byte (moved b from u))) (members (set_of goes)) t in
        let i = members-out (set_of goes) o.0 o.1 in
        let g = subst T (has-set_of goes o.0 i.0) i.1 in
        refuted r (subst (λ (n : ℕ). T (refutes c n)) (sym (same o.0 g)) o.2))

    alike : (u : ℕ) → (goes u && suits c (byte (moved b from u))) ≡ (goes u && suits c k)
    alike u = go (goes u) (λ t. ap (suits c) (sym (same u t)))
      where
        go : (a : Bool) {x y : Bool} → (T a → x ≡ y) → (a && x) ≡ (a && y)
        go true f = f tt
        go false f = refl

    pub same-suited : refutes c k ≡ false → suits c k ≡ true → Some targets ≡ sifted_by byte c b from goes
    unfolding sifted_by
    same-suited r s =
        ap Some (e ∙ set_of-same goes _ (λ u h. sym (alike u ∙ rw s (and-true (goes u))))) ∙ sym (rw (unspoilt r))

    pub same-unmet : refutes c k ≡ false → suits c k ≡ false → Some 0 ≡ sifted_by byte c b from goes
    unfolding sifted_by
    same-unmet r s =
        ap Some (set_is _ 0 (omega arith) (λ u h. has-none u ∙ sym (alike u ∙ rw s (and-false (goes u)))))
        ∙ sym (rw (unspoilt r))

  module _ (x y z : ℕ) (u : Option ℕ) (eu : u ≡ sifted_from byte c b x) where
    pub king-refuted : u ≡ None → None ≡ judged_from byte c b x y z
    unfolding judged_from
    king-refuted h = sym (ap (λ (s : Option ℕ). joined s (sifted_from byte c b y) (sifted_from byte c b z)) (sym eu ∙ h))

    module _ (k : ℕ) (hu : u ≡ Some k) (v : Option ℕ) (ev : v ≡ sifted_from byte c b y) where
      pub first-refuted : v ≡ None → None ≡ judged_from byte c b x y z
      unfolding judged_from
      first-refuted h = sym (ap₂ (λ (s t : Option ℕ). joined s t (sifted_from byte c b z)) (sym eu ∙ hu) (sym ev ∙ h))

      module _ (f : ℕ) (hv : v ≡ Some f) (w : Option ℕ) (ew : w ≡ sifted_from byte c b z) where
        so_far : judged_from byte c b x y z ≡ joined (Some k) (Some f) w
        unfolding judged_from
        so_far = ap₂ (λ (s t : Option ℕ). joined s t (sifted_from byte c b z)) (sym eu ∙ hu) (sym ev ∙ hv)
            ∙ ap (joined (Some k) (Some f)) (sym ew)

        pub second-refuted : w ≡ None → None ≡ judged_from byte c b x y z
        second-refuted h = sym (so_far ∙ ap (joined (Some k) (Some f)) h)

        pub all-suited : (s : ℕ) → w ≡ Some s
            → Some (record { king = k; first = f; second = s }) ≡ judged_from byte c b x y z
        all-suited s h = sym (so_far ∙ ap (joined (Some k) (Some f)) h)
