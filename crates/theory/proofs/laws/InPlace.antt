-- A pass may write in place: turning some bytes 1 into 2 + k, on any bytes at all, changes no verdict "depth k is required".
use Rattle.std.specs.Prelude.{◌≡◌, ◌⊎◌, ◌↔◌, Bool, List, map, ℕ, ◌+◌, ◌≤◌}
use Rattle.std.proofs.Common.{sym, ◌∙◌, inl, inr, arith}
use mathlib.Core.List.Memᴰ
use Rattle.finite.specs.Members.{◌∈◌, map-in, map-out}
use Rattle.theory.specs.Required.{Win, Rule, required}
use Rattle.theory.proofs.laws.RuleLaws.{required-rule, rule-one}

-- a byte as it stands during pass k: as it was, or just settled
abbrev pub Settling : ℕ → ℕ → ℕ → Type 0
Settling k was is = (is ≡ was) ⊎ ((was ≡ 1) × (is ≡ 2 + k))

module _ {A : Type 0} (k : ℕ) (was is : A → ℕ) (l : List A) (same : (x : A) → x ∈ l → Settling k (was x) (is x)) where
  -- a byte that requires depth k of its predecessor is no byte just settled
  from-was : (b : ℕ) → b ∈ map was l → ¬ (b ≡ 1) → b ∈ map is l
  from-was b m n = let o = map-out was b l m in go o.0 o.1 o.2 (same o.0 o.1)
    where
      go : (x : A) → x ∈ l → b ≡ was x → Settling k (was x) (is x) → b ∈ map is l
      go x i e (inl s) = Memᴰ.cast (e ∙ sym s) (map-in is i)
      go x i e (inr s) = absurd (n (e ∙ s.0))

  from_is : (b : ℕ) → b ∈ map is l → ¬ (b ≡ 2 + k) → b ∈ map was l
  from_is b m n = let o = map-out is b l m in go o.0 o.1 o.2 (same o.0 o.1)
    where
      go : (x : A) → x ∈ l → b ≡ is x → Settling k (was x) (is x) → b ∈ map was l
      go x i e (inl s) = Memᴰ.cast (e ∙ s) (map-in was i)
      go x i e (inr s) = absurd (n (e ∙ s.1))

  forth : {mate : Bool} → Rule (map was l) (2 + k) mate → Rule (map is l) (2 + k) mate
  forth (Rule.checkmate e) = Rule.checkmate e
  forth (Rule.wins b m h f e) =
      Rule.wins b (from-was b m (λ z. omega arith)) h (λ c n j. f c (from_is c n (λ z. omega arith)) j) e
  forth (Rule.loses b m f e) = Rule.loses b (from-was b m (λ z. omega (arith, (f b m).0.0))) (λ c n. here c n) e
    where
      here : (c : ℕ) → c ∈ map is l → Win c × (c ≤ b)
      here c n = let o = map-out is c l n in go o.0 o.1 o.2 (same o.0 o.1)
        where
          go : (x : A) → x ∈ l → c ≡ is x → Settling k (was x) (is x) → Win c × (c ≤ b)
          go x i d (inl s) =
              let w = f (was x) (map-in was i) in (omega (arith, w.0, d ∙ s), omega (arith, w.1, d ∙ s))
          go x i d (inr s) = absurd (omega (arith, (f (was x) (map-in was i)).0.0, s.0))
  forth (Rule.draws b m d f e) = absurd (omega arith)
  forth (Rule.stalemate z e) = absurd (omega arith)

  back : {mate : Bool} → Rule (map is l) (2 + k) mate → Rule (map was l) (2 + k) mate
  back (Rule.checkmate e) = Rule.checkmate e
  back (Rule.wins b m h f e) =
      Rule.wins b (from_is b m (λ z. omega arith)) h (λ c n j. f c (from-was c n (λ z. omega arith)) j) e
  back (Rule.loses b m f e) = Rule.loses b (from_is b m (λ z. omega arith)) (λ c n. here c n) e
    where
      here : (c : ℕ) → c ∈ map was l → Win c × (c ≤ b)
      here c n = let o = map-out was c l n in go o.0 o.1 o.2 (same o.0 o.1)
        where
          go : (x : A) → x ∈ l → c ≡ was x → Settling k (was x) (is x) → Win c × (c ≤ b)
          go x i d (inl s) = let w = f (is x) (map-in is i) in (omega (arith, w.0, d, s), omega (arith, w.1, d, s))
          go x i d (inr s) = absurd (omega (arith, (f (is x) (map-in is i)).1, s.1))
  back (Rule.draws b m d f e) = absurd (omega arith)
  back (Rule.stalemate z e) = absurd (omega arith)

  pub in_place : (mate : Bool) → (required mate (map was l) ≡ 2 + k) ↔ (required mate (map is l) ≡ 2 + k)
  in_place mate = (
    λ e. rule-one (required-rule mate (map is l)) (forth (rw e at (required-rule mate (map was l)))),
    λ e. rule-one (required-rule mate (map was l)) (back (rw e at (required-rule mate (map is l)))),
  )
