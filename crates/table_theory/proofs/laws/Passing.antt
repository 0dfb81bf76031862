-- Passes over a numbered table: after k of them each number holds what the theory's k passes settle, and pass k settles exactly the
-- numbers of depth k, also where it writes in place.
use Rattle.std.specs.Prelude.{◌≡◌, refl, not, ◌⊎◌, ◌↔◌, List, ℕ, suc, ◌+◌, ◌<◌, ◌≤◌, length}
use Rattle.std.proofs.Common.{sym, ap, subst, ◌∙◌, zero-add, arith, eqb→eq}
use Rattle.std.proofs.Math.Path.{ap₂}
use Rattle.std.proofs.Math.Bool.{Bool, true, false, cond, ◌&&◌}
use Rattle.std.proofs.Math.Logic.{inl, inr}
use Rattle.std.proofs.Math.Dec.{T, eqb, eqb_refl}
use Rattle.std.proofs.Math.ListN.{get_or}
use Rattle.finite.specs.Truth.{decided, and_left, and_right, and_both, true_of, false_of, same_test, le-or-lt}
use Rattle.finite.specs.Members.{◌∈◌}
use Rattle.finite.specs.Mapped.{map_from, length-map_from, get_d-map_from, Upto}
use Rattle.theory.specs.Game.{Game, next}
use Rattle.theory.specs.Value.{DepthIs}
use Rattle.theory.proofs.laws.Depth.{one-depth}
use Rattle.theory.proofs.laws.TrueBytes.{byte-is}
use Rattle.theory.specs.Required.{required_at}
use Rattle.theory.proofs.laws.Alike.{flip, alike-depth}
use Rattle.theory.proofs.laws.Step.{RightBelow, step}
use Rattle.theory.proofs.laws.Passes.{settled, Settled, settled_is, settled-right, pass-from}
use Rattle.theory.proofs.laws.InPlace.{Settling, in_place}
use Rattle.table_theory.specs.Tables.{Numbering, Lawful, OuterTrue, reads, settles, start_byte, pass_byte, passed}
use Rattle.table_theory.proofs.laws.Acceptance.{reads-inside, reads-outside}

module _ (G : Game) (N : Numbering G) where
  -- k passes are done
  pub record DepthsBelow (k : ℕ) (t : List ℕ) : Type 0 where
    pub long : length t ≡ N.size
    pub byte : (n : ℕ) → n < N.size → get_or t n 0 ≡ cond (N.live n) (settled G k (N.at n)) 0

  mapped_at : (f : ℕ → ℕ → ℕ) (t : List ℕ) → length t ≡ N.size → (n : ℕ) → n < N.size
      → get_or (map_from f 0 t) n 0 ≡ f n (get_or t n 0)
  mapped_at f t e n h =
      get_d-map_from f 0 t n (subst (λ (s : ℕ). n < s) (sym e) h) ∙ ap (λ (m : ℕ). f m (get_or t n 0)) (zero-add n)

  pub start-holds : (t : List ℕ) → length t ≡ N.size → DepthsBelow 0 (map_from (start_byte G N) 0 t)
  unfolding settled
  start-holds t e =
      record { long = length-map_from (start_byte G N) 0 t ∙ e; byte = λ n h. mapped_at (start_byte G N) t e n h }

  module _ (L : Lawful G N) (truth : OuterTrue G N L) (k : ℕ) (t : List ℕ) (w : DepthsBelow k t) where
    byte-live : (n : ℕ) → n < N.size → T (N.live n) → get_or t n 0 ≡ settled G k (N.at n)
    byte-live n h l = w.byte n h ∙ rw (true_of {b = N.live n} l)

    -- the bytes are right about the depths below k, at every position
    pub reads-right : (q : G.Pos) → L.D q → RightBelow G (reads G N t) k q
    reads-right q d n h = go (decided (N.inside q))
      where
        go : T (N.inside q) ⊎ T (not (N.inside q)) → (reads G N t q ≡ 2 + n) ↔ DepthIs G n q
        go (inr o) = rw (reads-outside G N t q (false_of o)) (byte-is G q (N.outer q) n (truth q d (false_of o)))
        go (inl i) =
            let m : ℕ = N.number q in
            let l = L.number-live q d i in
            let s = L.same_at q d i in
            let e : reads G N t q ≡ settled G k (N.at m) = reads-inside G N t q i ∙ byte-live m l.0 l.1 in
            let r = settled-right G k (N.at m) n h in (
              λ f. alike-depth G G (λ x y. L.Same y x) (flip L.alike) n (N.at m) q s (r.0 (sym e ∙ f)),
              λ f. e
                  ∙ r.1 (alike-depth G G L.Same L.alike n q (N.at m) s f),
            )

    right-next : (n : ℕ) → n < N.size → T (N.live n) → (q : G.Pos) → q ∈ next G (N.at n)
        → RightBelow G (reads G N t) k q
    right-next n h l q i = reads-right q (L.closed (N.at n) q (L.live_at n h l).0 i)

    -- pass k settles exactly the numbers of depth k
    pub settles-depth : (n : ℕ) → n < N.size → T (settles G N k t n) ↔ (T (N.live n) × DepthIs G k (N.at n))
    unfolding settles
    settles-depth n h = (there, back)
      where
        rest : Bool
        rest = N.live n && eqb (required_at G (reads G N t) (N.at n)) (2 + k)

        there : T (eqb (get_or t n 0) 1 && rest) → T (N.live n) × DepthIs G k (N.at n)
        there s =
            let r = and_right (eqb (get_or t n 0) 1) rest s in
            let l = and_left (N.live n) _ r in (
              l,
              (step G (reads G N t) (N.at n) k (right-next n h l)).0
                  (eqb→eq (required_at G (reads G N t) (N.at n)) (2 + k) (and_right (N.live n) _ r)),
            )

        one : DepthIs G k (N.at n) → Settled G k (N.at n) (settled G k (N.at n)) → settled G k (N.at n) ≡ 1
        one d (Settled.yet none e) = e
        one d (Settled.done m l c e) = absurd (omega (arith, one-depth G m k (N.at n) c d))

        back : T (N.live n) × DepthIs G k (N.at n) → T (eqb (get_or t n 0) 1 && rest)
        back x =
            let e : get_or t n 0 ≡ 1 = byte-live n h x.0 ∙ one x.1 (settled_is G k (N.at n)) in
            let r = (step G (reads G N t) (N.at n) k (right-next n h x.0)).1 x.1 in
            and_both (eqb (get_or t n 0) 1) rest (subst (λ (b : ℕ). T (eqb b 1)) (sym e) tt)
            (and_both (N.live n) _ x.0 (subst (λ (b : ℕ). T (eqb b (2 + k))) (sym r) (eqb_refl (2 + k))))

    -- after pass k, k + 1 passes are done
    pub pass-holds : DepthsBelow (suc k) (passed G N k t)
    unfolding passed settles
    pass-holds =
        record {
          long = length-map_from (pass_byte G N k t) 0 t
              ∙ w.long;
          byte = λ n h. mapped_at (pass_byte G N k t) t w.long n h ∙ go n h (decided (N.live n));
        }
      where
        live-case : (n : ℕ) → n < N.size → T (N.live n)
            → cond (settles G N k t n) (2 + k) (get_or t n 0) ≡ settled G (suc k) (N.at n)
        live-case n h l =
            rw (true_of {b = N.live n} l, byte-live n h l)
            (sym (pass-from G (reads G N t) k (N.at n) (right-next n h l)))

        dead-case : (n : ℕ) → n < N.size → N.live n ≡ false → cond (settles G N k t n) (2 + k) (get_or t n 0) ≡ 0
        dead-case n h e = let z : get_or t n 0 ≡ 0 = w.byte n h ∙ rw e in rw z

        go : (n : ℕ) → n < N.size → T (N.live n) ⊎ T (not (N.live n))
            → cond (settles G N k t n) (2 + k) (get_or t n 0) ≡ cond (N.live n) (settled G (suc k) (N.at n)) 0
        go n h (inl l) = live-case n h l ∙ sym (rw (true_of {b = N.live n} l))
        go n h (inr o) = dead-case n h (false_of o) ∙ sym (rw (false_of {b = N.live n} o))

  -- ---- writing in place: u is t with pass k done below i, on any bytes

  module _ (k : ℕ) (t u : List ℕ) (i : ℕ) (w : Upto (pass_byte G N k t) t u i) where
    settling : (q : G.Pos) → Settling k (reads G N t q) (reads G N u q)
    unfolding settles
    settling q = go (decided (N.inside q))
      where
        changed : (m : ℕ) → (s : Bool) → settles G N k t m ≡ s → get_or u m 0 ≡ cond s (2 + k) (get_or t m 0)
            → Settling k (get_or t m 0) (get_or u m 0)
        changed m true e f = inr (eqb→eq (get_or t m 0) 1 (and_left (eqb (get_or t m 0) 1) _ (subst T (sym e) tt)), f)
        changed m false e f = inl f

        at-number : (m : ℕ) → (i ≤ m) ⊎ (m < i) → Settling k (get_or t m 0) (get_or u m 0)
        at-number m (inl h) = inl (w.left m h)
        at-number m (inr h) = changed m (settles G N k t m) refl (w.done m h)

        go : T (N.inside q) ⊎ T (not (N.inside q)) → Settling k (reads G N t q) (reads G N u q)
        go (inl x) =
            rw (reads-inside G N t q x, reads-inside G N u q x) (at-number (N.number q) (le-or-lt i (N.number q)))
        go (inr o) = inl (reads-outside G N u q (false_of o) ∙ sym (reads-outside G N t q (false_of o)))

    -- the verdict at i does not see what the pass has written
    pub settles-in-place : settles G N k u i ≡ settles G N k t i
    unfolding settles
    settles-in-place =
        ap₂ ◌&&◌ (ap (λ (b : ℕ). eqb b 1) (w.left i (omega arith))) (ap (λ (r : Bool). N.live i && r) same)
      where
        r : (required_at G (reads G N t) (N.at i) ≡ 2 + k) ↔ (required_at G (reads G N u) (N.at i) ≡ 2 + k)
        r = in_place k (reads G N t) (reads G N u) (next G (N.at i)) (λ q m. settling q) (G.mated (N.at i))

        eq_test : (a b : ℕ) → a ≡ b → T (eqb a b)
        eq_test a b e = subst (λ (n : ℕ). T (eqb a n)) e (eqb_refl a)

        same : eqb (required_at G (reads G N u) (N.at i)) (2 + k) ≡ eqb (required_at G (reads G N t) (N.at i)) (2 + k)
        same = same_test (eqb (required_at G (reads G N u) (N.at i)) (2 + k))
            (eqb (required_at G (reads G N t) (N.at i)) (2 + k))
            (λ s. eq_test _ _ (r.1 (eqb→eq (required_at G (reads G N u) (N.at i)) (2 + k) s)))
            (λ s. eq_test _ _ (r.0 (eqb→eq (required_at G (reads G N t) (N.at i)) (2 + k) s)))
