-- The class of a thing under finitely many maps, numbered by the least key that an allowed image has. Laws for any such maps:
-- the number is the same throughout a class, and where keys of allowed things are their own, things with one number are of one class.
use Rattle.std.specs.Prelude.{◌≡◌, ◌⊎◌, Bool, leb}
use Rattle.std.proofs.Math.Path.{refl, ap}
use Rattle.std.proofs.Common.{subst, sym, ◌∙◌, le_antisymm}
use mathlib.Core.List.Memᴰ
use mathlib.Core.List.{List, [], ◌∷◌}
use Rattle.std.proofs.Math.Logic.{inl, inr, ⊎_elim}
use Rattle.std.proofs.Math.Bool.{true, false, cond}
use Prim.Native.Nat.{ℕ, ◌<◌, ◌≤◌, min}
use native.Mathlib.Omega.{arith}
use Rattle.std.proofs.Math.Dec.{T, leb→le, nleb→lt, not_T}
use Rattle.finite.specs.Truth.{by-test, cond-true, cond-false}
use Rattle.finite.specs.Members.{◌∈◌}

module _ {X S : Type 0} (act : S → X → X) (ok : X → Bool) (key : X → ℕ) (top : ℕ) where
  -- the least key of an allowed image, or top
  unfoldable pub least : List S → X → ℕ
  least [] x = top
  least (s ∷ ss) x = cond (ok (act s x)) (min (key (act s x)) (least ss x)) (least ss x)

  abbrev pub Attained : List S → X → Type 0
  Attained ss x = (least ss x ≡ top) ⊎ ((s : S) × T (ok (act s x)) × (least ss x ≡ key (act s x)))

  pub least-top : (ss : List S) (x : X) → least ss x ≤ top
  unfolding least
  least-top [] x = omega arith
  least-top (s ∷ ss) x = smaller (ok (act s x)) (key (act s x)) (least ss x) (least-top ss x)
    where
      smaller : (b : Bool) (k r : ℕ) → r ≤ top → cond b (min k r) r ≤ top
      smaller true k r h = omega arith
      smaller false k r h = h

  pub least-le : (x : X) {s : S} {ss : List S} → s ∈ ss → T (ok (act s x)) → least ss x ≤ key (act s x)
  unfolding least
  least-le x {s} (Memᴰ.head {x = u} {xs = ss} e) t =
      rw (cond-true (ok (act u x)) (min (key (act u x)) (least ss x)) (least ss x)
      (subst (λ (v : S). T (ok (act v x))) e t))
      (let k : key (act s x) ≡ key (act u x) = ap (λ (v : S). key (act v x)) e in omega arith)
  least-le x {s} (Memᴰ.tail {x = u} {xs = ss} m) t =
      rest (ok (act u x)) (key (act u x)) (least ss x) (key (act s x)) (least-le x m t)
    where
      rest : (b : Bool) (k r n : ℕ) → r ≤ n → cond b (min k r) r ≤ n
      rest true k r n h = omega arith
      rest false k r n h = h

  pub least-at : (ss : List S) (x : X) → Attained ss x
  unfolding least
  least-at [] x = inl refl
  least-at (u ∷ ss) x =
      by-test (ok (act u x))
      (λ t. by-test (leb (key (act u x)) (least ss x))
      (λ h. let l = leb→le (key (act u x)) (least ss x) h in
      inr (
        u,
        t,
        cond-true (ok (act u x)) (min (key (act u x)) (least ss x)) (least ss x) t
            ∙ (let e : min (key (act u x)) (least ss x) ≡ key (act u x) = omega arith in e),
      ))
      (λ h. let l = nleb→lt (key (act u x)) (least ss x) (not_T (leb (key (act u x)) (least ss x)) h) in
      same u (cond-true (ok (act u x)) (min (key (act u x)) (least ss x)) (least ss x) t
      ∙ (let e : min (key (act u x)) (least ss x) ≡ least ss x = omega arith in e)) (least-at ss x)))
      (λ f. same u (cond-false (ok (act u x)) (min (key (act u x)) (least ss x)) (least ss x) f) (least-at ss x))
    where
      same : (v : S) → least (v ∷ ss) x ≡ least ss x → Attained ss x → Attained (v ∷ ss) x
      same v e a = ⊎_elim (λ z. inl (e ∙ z)) (λ z. inr (z.0, z.1, e ∙ z.2)) a

  -- maps that compose and have inverses, on the things that they are meant for
  module _ (all : List S) (every : (s : S) → s ∈ all) (then : S → S → S) (back : S → S) (On : X → Type 0)
      (on : (s : S) (x : X) → On x → On (act s x))
      (composed : (s t : S) (x : X) → On x → act t (act s x) ≡ act (then s t) x)
      (undone : (s : S) (x : X) → On x → act (back s) (act s x) ≡ x) where
    -- one image's number is at most the other's
    moved : (s : S) (x : X) → On x → least all (act s x) ≤ least all x
    moved s x o =
        ⊎_elim (λ z. subst (λ (m : ℕ). least all (act s x) ≤ m) (sym z) (least-top all (act s x)))
        (λ z. let u : S = then (back s) z.0 in
        let e : act u (act s x) ≡ act z.0 x = sym (composed (back s) z.0 (act s x) (on s x o))
        ∙ ap (act z.0) (undone s x o) in
        subst (λ (m : ℕ). least all (act s x) ≤ m) (ap key e ∙ sym z.2)
        (least-le (act s x) (every u) (subst (λ (y : X). T (ok y)) (sym e) z.1)))
        (least-at all x)

    -- one number throughout a class
    pub class-kept : (s : S) (x : X) → On x → least all (act s x) ≡ least all x
    class-kept s x o =
        le_antisymm (moved s x o)
        (subst (λ (y : X). least all y ≤ least all (act s x)) (undone s x o) (moved (back s) (act s x) (on s x o)))

    -- one class for each number
    pub class-one : ((x y : X) → On x → On y → T (ok x) → T (ok y) → key x ≡ key y → x ≡ y) → (x y : X) → On x → On y
        → least all x < top → least all x ≡ least all y → (s : S) × (act s x ≡ y)
    class-one own x y o p h e =
        ⊎_elim (λ z. absurd (omega arith))
        (λ z. ⊎_elim (λ w. absurd (omega arith))
        (λ w. let q : act z.0 x ≡ act w.0 y
        = own (act z.0 x) (act w.0 y) (on z.0 x o) (on w.0 y p) z.1 w.1 (sym z.2 ∙ e ∙ w.2) in (
          then z.0 (back w.0),
          sym (composed z.0 (back w.0) x o) ∙ ap (act (back w.0)) q
              ∙ undone w.0 y p,
        ))
        (least-at all y))
        (least-at all x)
