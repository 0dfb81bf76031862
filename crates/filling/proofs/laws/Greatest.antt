-- The greatest byte of a table tells which depths it holds.
use Rattle.std.specs.Prelude.{◌≡◌, refl, Bool, true, false, cond, ◌⊎◌, List, [], ◌∷◌, ℕ, zero, suc, ◌+◌, ◌<◌, ◌≤◌, max, T, ltb, length, get_or, take, drop}
use Rattle.std.proofs.Math.Path.{sym, ap, ap₂}
use Rattle.std.proofs.Common.{subst, ◌∙◌, inl, inr, arith, leb→le, le→leb, take-append-drop, drop_of_length-le, drop-drop, le-leb, le-ltb, lt-ltb}
use Rattle.std.proofs.Math.Bool.{◌||◌}
use Rattle.std.proofs.Math.Dec.{leb}
use Rattle.std.proofs.lemmas.Bool.{lt-leb}
use Rattle.finite.specs.Truth.{true_of, fails, or_left, or_right, le-or-lt}
use Rattle.finite.specs.Members.{any}
use Rattle.finite.specs.Tests.{any_append}
use Rattle.position.specs.declared.Men.{Men}
use Rattle.position.specs.Posed.{material_for}
use Rattle.numbering.specs.declared.Material.{Material}
use Rattle.numbering.specs.Material.{known}
use Rattle.index.proofs.laws.PlaceLaws.{piece-by}
use Rattle.four_men.specs.Lending.{lent, part_of, borrowed}
use Rattle.four_men.specs.Reading.{holds_depth}
use Rattle.filling.specs.Deepest.{Deepest}
use Rattle.filling.specs.Greatest.{GreatestBelow, Greatest}

module _ (t : List ℕ) where
  pub greatest-none : GreatestBelow t 0 0
  greatest-none = record { most = λ i h. omega arith; held = λ h. absurd (omega arith) }

  greatest-same : (n byte : ℕ) → GreatestBelow t n byte → get_or t n 0 ≤ byte → GreatestBelow t (n + 1) byte
  greatest-same n byte g h = record {
    most = λ i l. go i l (le-or-lt n i);
    held = λ p. let w = g.held p in (w.0, omega (arith, w.1), w.2);
  }
    where
      go : (i : ℕ) → i < n + 1 → (n ≤ i) ⊎ (i < n) → get_or t i 0 ≤ byte
      go i l (inl x) = let z : n ≡ i = omega arith in subst (λ (j : ℕ). get_or t j 0 ≤ byte) z h
      go i l (inr x) = g.most i x

  greatest-more : (n byte : ℕ) → GreatestBelow t n byte → byte < get_or t n 0
      → GreatestBelow t (n + 1) (get_or t n 0)
  greatest-more n byte g h = record {
    most = λ i l. go i l (le-or-lt n i);
    held = λ p. (n, omega arith, refl);
  }
    where
      go : (i : ℕ) → i < n + 1 → (n ≤ i) ⊎ (i < n) → get_or t i 0 ≤ get_or t n 0
      go i l (inl x) = let z : n ≡ i = omega arith in subst (λ (j : ℕ). get_or t j 0 ≤ get_or t n 0) z (omega arith)
      go i l (inr x) = let y = g.most i x in omega arith

  pub greatest-next : (n byte r : ℕ) → GreatestBelow t n byte → r ≡ cond (ltb byte (get_or t n 0)) (get_or t n 0) byte
      → GreatestBelow t (n + 1) r
  greatest-next n byte r g e = go (le-or-lt (get_or t n 0) byte)
    where
      go : (get_or t n 0 ≤ byte) ⊎ (byte < get_or t n 0) → GreatestBelow t (n + 1) r
      go (inl h) =
          let z : r ≡ byte = e ∙ ap (λ (x : Bool). cond x (get_or t n 0) byte) (le-ltb byte (get_or t n 0) h) in
          subst (GreatestBelow t (n + 1)) (sym z) (greatest-same n byte g h)
      go (inr h) =
          let z : r ≡ get_or t n 0 = e ∙ ap (λ (x : Bool). cond x (get_or t n 0) byte) (lt-ltb byte (get_or t n 0) h) in
          subst (GreatestBelow t (n + 1)) (sym z) (greatest-more n byte g h)

  pub greatest-all : (n byte : ℕ) → n ≤ length t → length t ≤ n → GreatestBelow t n byte → Greatest t byte
  greatest-all n byte a b g = let z : n ≡ length t = omega arith in
      subst (λ (j : ℕ). GreatestBelow t j byte) z g

-- a byte passes a test exactly if one of the table's does
passes : (f : ℕ → Bool) (t : List ℕ) (i : ℕ) → i < length t → T (f (get_or t i 0)) → T (any f t)
unfolding any
passes f [] i h p = absurd (omega arith)
passes f (b ∷ t) zero h p = or_left (f b) (any f t) p
passes f (b ∷ t) (suc i) h p = or_right (f b) (any f t) (passes f t i (omega arith) p)

passing : (f : ℕ → Bool) (t : List ℕ) → T (any f t) → (i : ℕ) × (i < length t) × T (f (get_or t i 0))
unfolding any
passing f [] p = absurd p
passing f (b ∷ t) p = go (f b) refl p (passing f t)
  where
    go : (x : Bool) → f b ≡ x → T (x || any f t)
        → (T (any f t) → (i : ℕ) × (i < length t) × T (f (get_or t i 0)))
        → (i : ℕ) × (i < length (b ∷ t)) × T (f (get_or (b ∷ t) i 0))
    go true e p rest = (0, omega arith, subst T (sym e) tt)
    go false e p rest = let w = rest p in (suc w.0, omega (arith, w.1), w.2)

pub greatest-holds : (t : List ℕ) (byte k : ℕ) → Greatest t byte → any (λ b. leb (2 + k) b) t ≡ leb (2 + k) byte
greatest-holds t byte k g = go (le-or-lt (2 + k) byte)
  where
    test : ℕ → Bool
    test b = leb (2 + k) b

    go : (2 + k ≤ byte) ⊎ (byte < 2 + k) → any test t ≡ leb (2 + k) byte
    go (inl h) =
        let w = g.held (omega arith) in
        true_of (passes test t w.0 w.1 (subst (λ (b : ℕ). T (leb (2 + k) b)) (sym w.2) (le→leb (2 + k) byte h)))
        ∙ sym (le-leb (2 + k) byte h)
    go (inr h) =
        fails (any test t)
        (λ p. let w = passing test t p in
        omega (arith, g.most w.0 w.1, leb→le (2 + k) (get_or t w.0 0) w.2, h))
        ∙ sym (lt-leb (2 + k) byte h)

-- ---- a run of four tables

module _ (f : ℕ → Bool) (run : List ℕ) (n : length run ≡ 236544) where
  split : (l : List ℕ) → any f l ≡ (any f (take 59136 l) || any f (drop 59136 l))
  split l = ap (any f) (sym (take-append-drop 59136 l)) ∙ any_append f (take 59136 l) (drop 59136 l)

  again : (a : ℕ) → any f (drop a run) ≡ (any f (take 59136 (drop a run)) || any f (drop (a + 59136) run))
  again a =
      split (drop a run)
      ∙ ap (λ (l : List ℕ). any f (take 59136 (drop a run)) || any f l) (drop-drop 59136 a run)

  ended : any f (drop 236544 run) ≡ false
  unfolding any
  ended = ap (any f) (drop_of_length-le run {i = 236544} (omega (arith, n)))

  pub four-parts : any (λ t. any f t) (part_of 0 run ∷ part_of 1 run ∷ part_of 2 run ∷ part_of 3 run ∷ []) ≡ any f run
  unfolding any part_of
  four-parts =
      sym (again 0
      ∙ ap (λ (x : Bool). any f (take 59136 run) || x) (again 59136
      ∙ ap (λ (x : Bool). any f (take 59136 (drop 59136 run)) || x) (again 118272
      ∙ ap (λ (x : Bool). any f (take 59136 (drop 118272 run)) || x) (again 177408
      ∙ ap (λ (x : Bool). any f (take 59136 (drop 177408 run)) || x) ended))))

-- ---- of the lent tables

module _ (m : Men) (first second : List ℕ) where
  pub deepest-none : T (known (material_for m)) → 4 ≤ m.second → Deepest m first second 0
  unfolding holds_depth any
  deepest-none w h = record {
    small = omega arith;
    holds = λ k. rw (piece-by m w (le-leb 4 m.second h)) (sym (lt-leb (2 + k) 0 (omega arith)));
  }

  -- a pawn's four: what they hold, the run holds
  pub deepest-pawn : material_for m ≡ Material.Pawn → length first ≡ 236544 → (r : ℕ) → Greatest first r → r < 256
      → Deepest m first second r
  unfolding holds_depth any part_of
  deepest-pawn e n r g b = record {
    small = b;
    holds = λ k. ap (λ (x : Material). holds_depth (borrowed x (lent first second)) k) e
        ∙ four-parts (λ b. leb (2 + k) b) first n ∙ greatest-holds first r k g;
  }

  either : (a c k : ℕ) → a ≤ c → (leb (2 + k) a || leb (2 + k) c) ≡ leb (2 + k) c
  either a c k h = go (le-or-lt (2 + k) a)
    where
      go : (2 + k ≤ a) ⊎ (a < 2 + k) → (leb (2 + k) a || leb (2 + k) c) ≡ leb (2 + k) c
      go (inl x) = rw (le-leb (2 + k) a x, le-leb (2 + k) c (omega arith))
      go (inr x) = rw (lt-leb (2 + k) a x)

  or-other : (x y : Bool) → (x || y) ≡ (y || x)
  or-other true true = refl
  or-other true false = refl
  or-other false true = refl
  or-other false false = refl

  or-none : (x : Bool) → (x || false) ≡ x
  or-none true = refl
  or-none false = refl

  module _ (low : m.second < 4) (a c : ℕ) (f : Greatest first a) (g : Greatest second c) where
    both : (k : ℕ) → holds_depth (first ∷ second ∷ []) k ≡ (leb (2 + k) a || leb (2 + k) c)
    unfolding holds_depth any
    both k = ap₂ ◌||◌ (greatest-holds first a k f) (or-none _ ∙ greatest-holds second c k g)

    deepest-second : a < c → c < 256 → Deepest m first second c
    deepest-second h b =
        record { small = b; holds = λ k. rw (lt-leb 4 m.second low) (both k ∙ either a c k (omega arith)) }

    deepest-first : c ≤ a → a < 256 → Deepest m first second a
    deepest-first h b = record {
      small = b;
      holds = λ k. rw (lt-leb 4 m.second low) (both k ∙ or-other (leb (2 + k) a) (leb (2 + k) c) ∙ either c a k h);
    }

    pub deepest-both : (r : ℕ) → r ≡ max a c → r < 256 → Deepest m first second r
    deepest-both r e b = go (le-or-lt c a)
      where
        go : (c ≤ a) ⊎ (a < c) → Deepest m first second r
        go (inl h) =
            let z : r ≡ a = omega (arith, e) in
            subst (Deepest m first second) (sym z) (deepest-first h (subst (λ (x : ℕ). x < 256) z b))
        go (inr h) =
            let z : r ≡ c = omega (arith, e) in
            subst (Deepest m first second) (sym z) (deepest-second h (subst (λ (x : ℕ). x < 256) z b))
