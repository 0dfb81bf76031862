-- What a pass settles keeps the table's length, and other bytes.
use Rattle.std.specs.Prelude.{◌≡◌, refl, ◌⊎◌, List, ℕ, ◌+◌, ◌<◌, ◌≤◌, T, length, get_or, set, eqb, not}
use Rattle.std.proofs.Common.{sym, ◌∙◌, inl, inr, arith, length-set, get_or-set_same, get_or-set_other, T_not, eqb→eq, ap, subst}
use Rattle.std.proofs.Math.Dec.{eqb_refl}
use Rattle.finite.specs.Truth.{decided}
use Rattle.theory.specs.Game.{Game}
use Rattle.table_theory.specs.Tables.{Numbering}
use Rattle.working_back.specs.Trying.{Alive}
use Rattle.working_back.specs.Back.{Few}

pub few-none : (k most : ℕ) (u : List ℕ) → Few k most u u 0
few-none k most u = record { long = refl; few = omega arith; byte = λ n. inl refl }

pub few-then : (k a b : ℕ) (u v x : List ℕ) (i j : ℕ) → Few k a u v i → Few k b v x j → Few k (a + b) u x (i + j)
few-then k a b u v x i j f g = record {
  long = g.long ∙ f.long;
  few = omega (arith, f.few, g.few);
  byte = λ n. go n (f.byte n) (g.byte n);
}
  where
    go : (n : ℕ) → (get_or v n 0 ≡ get_or u n 0) ⊎ ((get_or u n 0 ≡ 1) × (get_or v n 0 ≡ 2 + k))
        → (get_or x n 0 ≡ get_or v n 0) ⊎ ((get_or v n 0 ≡ 1) × (get_or x n 0 ≡ 2 + k))
        → (get_or x n 0 ≡ get_or u n 0) ⊎ ((get_or u n 0 ≡ 1) × (get_or x n 0 ≡ 2 + k))
    go n (inl e) (inl z) = inl (z ∙ e)
    go n (inl e) (inr z) = inr (sym e ∙ z.0, z.1)
    go n (inr e) (inl z) = inr (e.0, z ∙ e.1)
    go n (inr e) (inr z) = absurd (omega (arith, e.1, z.0))

pub few-most : (k a b : ℕ) (u v : List ℕ) (i : ℕ) → a ≤ b → Few k a u v i → Few k b u v i
few-most k a b u v i h f = record { long = f.long; few = omega (arith, h, f.few); byte = f.byte }

-- one number
pub few-one : (k : ℕ) (u : List ℕ) (n : ℕ) → n < length u → get_or u n 0 ≡ 1 → Few k 1 u (set u n (2 + k)) 1
few-one k u n h e = record { long = length-set u n (2 + k); few = omega arith; byte = λ i. go i (decided (eqb i n)) }
  where
    go : (i : ℕ) → T (eqb i n) ⊎ T (not (eqb i n))
        → (get_or (set u n (2 + k)) i 0 ≡ get_or u i 0) ⊎ ((get_or u i 0 ≡ 1) × (get_or (set u n (2 + k)) i 0 ≡ 2 + k))
    go i (inl x) =
        let q = eqb→eq i n x in
        inr (ap (λ (j : ℕ). get_or u j 0) q ∙ e, ap (λ (j : ℕ). get_or (set u n (2 + k)) j 0) q ∙ get_or-set_same u n (2 + k) 0 h)
    go i (inr x) =
        inl (get_or-set_other u n i (2 + k) 0 (λ z. T_not (eqb i n) x (subst (λ (j : ℕ). T (eqb i j)) z (eqb_refl i))))

-- no byte but 0 stands at a number that is not live
pub alive-kept : (G : Game) (N : Numbering G) (k most : ℕ) (u v : List ℕ) (did : ℕ) → Few k most u v did → Alive G N u → Alive G N v
alive-kept G N k most u v did f a n z = go (f.byte n)
  where
    go : (get_or v n 0 ≡ get_or u n 0) ⊎ ((get_or u n 0 ≡ 1) × (get_or v n 0 ≡ 2 + k)) → T (N.live n)
    go (inl e) = a n (λ y. z (e ∙ y))
    go (inr e) = a n (λ y. absurd (omega (arith, e.0, y)))
