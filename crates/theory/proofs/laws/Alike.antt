-- Positions that go alike have the same value and depth: for the board's maps and for the exchange of colours.
use Rattle.std.specs.Prelude.{◌≡◌, refl, ◌⊎◌, Bool, map, ℕ, zero, suc, T}
use Rattle.std.proofs.Common.{sym, ap, ◌∙◌, inl, inr}
use mathlib.Core.List.Memᴰ
use Rattle.finite.specs.Truth.{same_test}
use Rattle.finite.specs.Members.{◌∈◌, map-in, map-out}
use Rattle.theory.specs.Game.{Game, next}
use Rattle.theory.specs.Value.{won, lost, WonIn, LostIn, DepthIs, TrueByte}
use Rattle.theory.proofs.laws.Within.{AllWon, won-zero, won-in, won-out, lost-zero, lost-mate, lost-in, lost-out}
use Rattle.theory.specs.Required.{required, required_at, Consistent}
use Rattle.theory.proofs.laws.RuleLaws.{SameMembers, required-same}
use Rattle.theory.specs.Alike.{Alike, Automorphism}

pub flip : {G H : Game} {R : G.Pos → H.Pos → Type 0} → Alike G H R → Alike H G (λ r p. R p r)
flip a = record {
  forth = λ r p x s m. a.back p r x s m;
  back = λ r p x q m. a.forth p r x q m;
  mate = λ r p x. sym (a.mate p r x);
}

module _ (G H : Game) (R : G.Pos → H.Pos → Type 0) (a : Alike G H R) where
  mates : (p : G.Pos) (r : H.Pos) → R p r → T (G.mated p) → T (H.mated r)
  mates p r x t = rw (a.mate p r x) at t

  won-next : (k : ℕ) → ((p : G.Pos) (r : H.Pos) → R p r → T (lost G k p) → T (lost H k r))
      → (p : G.Pos) (r : H.Pos) → R p r → T (won G (suc k) p) → T (won H (suc k) r)
  won-next k f p r x t =
      let w = won-out G k p t in
      let s = a.forth p r x w.0 w.1 in
      won-in H k r s.0 s.1 (f w.0 s.0 s.2 w.2)

  lost-next : (k : ℕ) → ((p : G.Pos) (r : H.Pos) → R p r → T (won G k p) → T (won H k r)) → (p : G.Pos) (r : H.Pos)
      → R p r → T (lost G (suc k) p) → T (lost H (suc k) r)
  lost-next k f p r x t = go (lost-out G k p t)
    where
      go : T (G.mated p) ⊎ AllWon G k p → T (lost H (suc k) r)
      go (inl m) = lost-mate H (suc k) r (mates p r x m)
      go (inr l) =
          let s = a.forth p r x l.to l.legal in
          lost-in H k r
          (record {
            to = s.0;
            legal = s.1;
            each = λ u m. let q = a.back p r x u m in
                f q.0 u q.2 (l.each q.0 q.1);
          })

  carried : (k : ℕ)
      → ((p : G.Pos) (r : H.Pos) → R p r → T (won G k p) → T (won H k r))
      × ((p : G.Pos) (r : H.Pos) → R p r → T (lost G k p) → T (lost H k r))
  carried zero = (λ p r x t. absurd (won-zero G p t), λ p r x t. lost-mate H 0 r (mates p r x ((lost-zero G p).0 t)))
  carried (suc k) = (won-next k (carried k).1, lost-next k (carried k).0)

module _ (G H : Game) (R : G.Pos → H.Pos → Type 0) (a : Alike G H R) where
  -- paired positions are won and lost within the same plies ..
  pub alike-won : (k : ℕ) (p : G.Pos) (r : H.Pos) → R p r → won G k p ≡ won H k r
  alike-won k p r x =
      same_test (won G k p) (won H k r) ((carried G H R a k).0 p r x) ((carried H G (λ s q. R q s) (flip a) k).0 r p x)

  pub alike-lost : (k : ℕ) (p : G.Pos) (r : H.Pos) → R p r → lost G k p ≡ lost H k r
  alike-lost k p r x =
      same_test (lost G k p) (lost H k r) ((carried G H R a k).1 p r x) ((carried H G (λ s q. R q s) (flip a) k).1 r p x)

  alike-won-in : (n : ℕ) (p : G.Pos) (r : H.Pos) → R p r → WonIn G n p → WonIn H n r
  alike-won-in n p r x w =
      record { within = rw (alike-won n p r x) at w.within; least = λ m t. w.least m (rw (alike-won m p r x) t) }

  alike-lost-in : (n : ℕ) (p : G.Pos) (r : H.Pos) → R p r → LostIn G n p → LostIn H n r
  alike-lost-in n p r x w =
      record { within = rw (alike-lost n p r x) at w.within; least = λ m t. w.least m (rw (alike-lost m p r x) t) }

  -- .. so they have the same depth ..
  pub alike-depth : (n : ℕ) (p : G.Pos) (r : H.Pos) → R p r → DepthIs G n p → DepthIs H n r
  alike-depth n p r x (DepthIs.win w) = DepthIs.win (alike-won-in n p r x w)
  alike-depth n p r x (DepthIs.loss l) = DepthIs.loss (alike-lost-in n p r x l)

  -- .. and the same true byte
  pub alike-byte : (p : G.Pos) (r : H.Pos) (b : ℕ) → R p r → TrueByte G p b → TrueByte H r b
  alike-byte p r b x (TrueByte.win n w e) = TrueByte.win n (alike-won-in n p r x w) e
  alike-byte p r b x (TrueByte.loss n l e) = TrueByte.loss n (alike-lost-in n p r x l) e
  alike-byte p r b x (TrueByte.draw d e) =
      TrueByte.draw
      (record {
        not-won = λ m t. d.not-won m (rw (alike-won m p r x) t);
        not-lost = λ m t. d.not-lost m (rw (alike-lost m p r x) t);
      }) e

-- Readings that agree on paired positions require the same byte there: a checker need look at one position of each class.
pub alike-required : (G H : Game) (R : G.Pos → H.Pos → Type 0) → Alike G H R → (f : G.Pos → ℕ) (h : H.Pos → ℕ)
    → ((p : G.Pos) (r : H.Pos) → R p r → f p ≡ h r) → (p : G.Pos) (r : H.Pos) → R p r
    → required_at G f p ≡ required_at H h r
alike-required G H R a f h same p r x = ap (λ (b : Bool). required b (map f (next G p))) (a.mate p r x)
    ∙ required-same (H.mated r) (map f (next G p)) (map h (next H r)) members
  where
    there : (c : ℕ) → c ∈ map f (next G p) → c ∈ map h (next H r)
    there c m = let q = map-out f c (next G p) m in let s = a.forth p r x q.0 q.1 in
        Memᴰ.cast (q.2 ∙ same q.0 s.0 s.2) (map-in h s.1)

    back : (c : ℕ) → c ∈ map h (next H r) → c ∈ map f (next G p)
    back c m = let s = map-out h c (next H r) m in let q = a.back p r x s.0 s.1 in
        Memᴰ.cast (s.2 ∙ sym (same q.0 s.0 q.2)) (map-in f q.1)

    members : SameMembers (map f (next G p)) (map h (next H r))
    members c = (there c, back c)

-- So where each position of D is paired with one whose byte is as required, the whole reading is consistent.
pub by-class : (G : Game) (R : G.Pos → G.Pos → Type 0) → Alike G G R → (D : G.Pos → Type 0) (reads : G.Pos → ℕ)
    → ((p r : G.Pos) → R p r → reads p ≡ reads r)
    → ((p : G.Pos) → D p → (r : G.Pos) × R p r × (reads r ≡ required_at G reads r)) → Consistent G D reads
by-class G R a D reads same found p d =
    let r = found p d in same p r.0 r.1 ∙ r.2 ∙ sym (alike-required G G R a reads reads same p r.0 r.1)

-- It pairs a position with its image.
pub automorphism-alike : (G : Game) (D : G.Pos → Type 0) (f g : G.Pos → G.Pos) → Automorphism G D f g
    → Alike G G (λ p r. D p × (r ≡ f p))
automorphism-alike G D f g s = record {
  forth = λ p r x q m. (f q, rw x.1 (s.moves-f p q x.0 m), (s.onward p q x.0 m, refl));
  back = λ p r x t m.
      let n : t ∈ next G (f p) = rw x.1 at m in
      let h : g t ∈ next G (g (f p)) = s.moves-g (f p) t (s.there p x.0) n in
      let h' : g t ∈ next G p = rw (s.undo p x.0) at h in
      (g t, h', (s.onward p (g t) x.0 h', sym (s.redo t (s.onward (f p) t (s.there p x.0) n))));
  mate = λ p r x. sym (s.mate p x.0) ∙ ap G.mated (sym x.1);
}
