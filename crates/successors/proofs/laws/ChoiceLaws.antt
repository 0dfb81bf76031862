-- The first suiting move in list order, by the lowest from-square of three pieces and its lowest suiting target.
use Rattle.std.proofs.Math.Path.{◌≡◌, refl, sym, ap, subst}
use Rattle.std.proofs.Common.{◌∙◌}
use Rattle.std.specs.Prelude.{Bool, ◌&&◌, ◌⊎◌, T, get_or}
use Rattle.std.proofs.Math.Bool.{true, false, cond}
use Rattle.std.proofs.Math.Logic.{inl, inr, ⊎_elim}
use mathlib.Core.List.Memᴰ
use mathlib.Core.List.{List, [], ◌∷◌, ◌++◌, flat_map}
use Rattle.std.proofs.Math.Option.{Option, none, some}
use Prim.Native.Nat.{ℕ, zero, suc, ◌+◌, ◌≤◌, ◌<◌}
use native.Mathlib.Omega.{arith}
use Rattle.std.proofs.Math.Dec.{eqb, ltb}
use borrow.Author.Tests.{eq-eqb, ne_eqb, eqb-true, eqb-false, ltb-true, ltb-false, lt-ltb, le-ltb}
use Rattle.finite.specs.Truth.{and_left, and_right, and_both, fails, le-or-lt, refuted}
use Rattle.finite.specs.Members.{◌∈◌, first, none_in}
use Rattle.finite.specs.Filter.{filter, keep}
use Rattle.finite.specs.Numbers.{numbers}
use Rattle.theory.specs.Play.{suits}
use Rattle.board.specs.Sets.{has, squares, members, lowest_square, set_of}
use Rattle.board.proofs.laws.SetLaws.{has-none, has-set_of, set_is, members-in, members-out, members-set_of, members-none}
use Rattle.rules.specs.declared.Move.{Move}
use Rattle.rules.specs.Rules.{Board, moved, can_move, move_on, moves_onto, moves_from, all_moves, moves}
use Rattle.rules.specs.Chess.{played}
use Rattle.rules.proofs.laws.MoveLists.{onto-none, onto-more}
use Rattle.rules.proofs.laws.CanMove.{can-on}
use Rattle.movegen.specs.declared.Reach.{Reach}
use Rattle.successors.specs.declared.Seen.{Seen}
use Rattle.successors.specs.Successors.{seen_from, earlier, seen_in, suited_from}
use Rattle.successors.proofs.laws.Plain.{Plain}
use Rattle.successors.proofs.laws.PlaceLaws.{StartsAt}

-- ---- sets of a test

pub zero-fails : (p : ℕ → Bool) → set_of p ≡ 0 → (u : ℕ) → u < 64 → T (p u) → ⊥
zero-fails p e u h t = refuted (sym (has-set_of p u h) ∙ ap (λ (s : ℕ). has s u) e ∙ has-none u) t

pub fails-zero : (p : ℕ → Bool) → ((u : ℕ) → u < 64 → T (p u) → ⊥) → set_of p ≡ 0
fails-zero p f = sym (set_is p 0 (omega arith) (λ u h. has-none u ∙ sym (fails (p u) (f u h))))

-- a set that is not 0 has a lowest square, which passes
pub lowest-passes : (p : ℕ → Bool) → (set_of p ≡ 0 → ⊥)
    → (lowest_square (set_of p) < 64) × T (p (lowest_square (set_of p)))
    × ((l : List ℕ) × (members (set_of p) ≡ lowest_square (set_of p) ∷ l))
lowest-passes p n = go (members (set_of p)) refl
  where
    go : (l : List ℕ) → members (set_of p) ≡ l
        → (lowest_square (set_of p) < 64) × T (p (lowest_square (set_of p)))
        × ((l : List ℕ) × (members (set_of p) ≡ lowest_square (set_of p) ∷ l))
    go [] e =
        absurd (n (fails-zero p
        (λ u h t. none_in e (members-in (set_of p) u h (subst T (sym (has-set_of p u h)) t)))))
    go (t ∷ l) e =
        let q : lowest_square (set_of p) ≡ t = ap (λ (k : List ℕ). get_or k 0 64) e in
        let i = members-out (set_of p) t (subst (λ (k : List ℕ). t ∈ k) (sym e) (Memᴰ.head refl)) in (
          subst (λ (s : ℕ). s < 64) (sym q) i.0,
          subst (λ (s : ℕ). T (p s)) (sym q) (subst T (has-set_of p t i.0) i.1),
          (l, e ∙ ap (λ (s : ℕ). s ∷ l) (sym q)),
        )

-- ---- the first of a list that passes

module _ {A : Type 0} (p : A → Bool) where
  first-none-append : (xs ys : List A) → first p xs ≡ none → first p (xs ++ ys) ≡ first p ys
  unfolding first
  first-none-append [] ys e = refl
  first-none-append (x ∷ xs) ys e = go (p x) e (first-none-append xs ys)
    where
      go : (t : Bool) → cond t (some x) (first p xs) ≡ none → (first p xs ≡ none → first p (xs ++ ys) ≡ first p ys)
          → cond t (some x) (first p (xs ++ ys)) ≡ first p ys
      go true e f = let z : ◌≡◌ {A = ℕ} 0 1 = cc in absurd (omega arith)
      go false e f = f e

  first-some-append : (xs ys : List A) (y : A) → first p xs ≡ some y → first p (xs ++ ys) ≡ some y
  unfolding first
  first-some-append [] ys y e = let z : ◌≡◌ {A = ℕ} 0 1 = cc in absurd (omega arith)
  first-some-append (x ∷ xs) ys y e = go (p x) e (first-some-append xs ys y)
    where
      go : (t : Bool) → cond t (some x) (first p xs) ≡ some y → (first p xs ≡ some y → first p (xs ++ ys) ≡ some y)
          → cond t (some x) (first p (xs ++ ys)) ≡ some y
      go true e f = e
      go false e f = f e

  -- none before it gives one
  first-at : (g : ℕ → List A) (n k at : ℕ) (y : A) → k ≤ at → at < k + n
      → ((x : ℕ) → x < at → first p (g x) ≡ none) → first p (g at) ≡ some y
      → first p (flat_map g (numbers n k)) ≡ some y
  unfolding flat_map numbers
  first-at g zero k at y h l f e = absurd (omega arith)
  first-at g (suc n) k at y h l f e =
      go (le-or-lt at k) (λ (i : k < at). first-at g n (suc k) at y (omega arith) (omega arith) f e)
    where
      go : (at ≤ k) ⊎ (k < at) → (k < at → first p (flat_map g (numbers n (suc k))) ≡ some y)
          → first p (g k ++ flat_map g (numbers n (suc k))) ≡ some y
      go (inl i) more =
          let q : at ≡ k = omega arith in
          first-some-append (g k) (flat_map g (numbers n (suc k))) y (subst (λ (x : ℕ). first p (g x) ≡ some y) q e)
      go (inr i) more = first-none-append (g k) (flat_map g (numbers n (suc k))) (f k i) ∙ more i

filter-both : (r s : ℕ → Bool) (l : List ℕ) → filter s (filter r l) ≡ filter (λ t. r t && s t) l
unfolding filter
filter-both r s [] = refl
filter-both r s (x ∷ l) = go (r x) (filter-both r s l)
  where
    go : (a : Bool) → filter s (filter r l) ≡ filter (λ t. r t && s t) l
        → filter s (keep a x (filter r l)) ≡ keep (a && s x) x (filter (λ t. r t && s t) l)
    go true e = ap (keep (s x) x) e
    go false e = e

-- ---- the first suiting move of one piece

module _ (byte : Board → ℕ) (c : ℕ) (b : Board) where
  abbrev passes : Move → Bool
  passes m = suits c (byte (played b m))

  abbrev pub suits_to : ℕ → ℕ → Bool
  suits_to from t = can_move b from t && suits c (byte (moved b from t))

  abbrev pub suiting_set : ℕ → ℕ
  suiting_set from = set_of (suits_to from)

  first_to : ℕ → List ℕ → Option Move
  first_to from [] = none
  first_to from (t ∷ ts) = some (move_on b from t)

  onto-first : Plain b → (from : ℕ) (ts : List ℕ)
      → first passes (moves_onto b from ts) ≡ first_to from (filter (λ t. suits c (byte (moved b from t))) ts)
  unfolding first filter first_to
  onto-first p from [] = ap (first passes) (onto-none b from)
  onto-first p from (t ∷ ts) =
      ap (first passes) (onto-more b p.pawnless from t ts)
      ∙ go (suits c (byte (moved b from t))) (onto-first p from ts)
    where
      go : (x : Bool)
          → first passes (moves_onto b from ts) ≡ first_to from (filter (λ t. suits c (byte (moved b from t))) ts)
          → cond x (some (move_on b from t)) (first passes (moves_onto b from ts))
          ≡ first_to from (keep x t (filter (λ t. suits c (byte (moved b from t))) ts))
      go true e = refl
      go false e = e

  from_first : Plain b → (from : ℕ) → first passes (moves_from b from) ≡ first_to from (members (suiting_set from))
  unfolding moves_from
  from_first p from = onto-first p from (filter (can_move b from) squares)
      ∙ ap (first_to from) (filter-both (can_move b from) (λ t. suits c (byte (moved b from t))) squares
      ∙ sym (members-set_of (suits_to from)))

  -- it has none, or this one
  pub record Shown (from to : ℕ) : Type 0 where
    pub on : (from < 64) × (to < 64)
    pub can : T (can_move b from to)
    pub suiting : T (suits c (byte (moved b from to)))
    pub is-first : first passes (moves_from b from) ≡ some (move_on b from to)

  pub shown : Plain b → (from : ℕ)
      → ((suiting_set from ≡ 0) × (first passes (moves_from b from) ≡ none))
      ⊎ ((suiting_set from ≡ 0 → ⊥) × Shown from (lowest_square (suiting_set from)))
  unfolding first_to
  shown p from = go (eqb (suiting_set from) 0) refl
    where
      go : (x : Bool) → eqb (suiting_set from) 0 ≡ x
          → ((suiting_set from ≡ 0) × (first passes (moves_from b from) ≡ none))
          ⊎ ((suiting_set from ≡ 0 → ⊥) × Shown from (lowest_square (suiting_set from)))
      go true e =
          let z = eqb-true (suiting_set from) 0 e in
          inl (z, from_first p from ∙ ap (first_to from) (ap members z ∙ members-none))
      go false e =
          let n = eqb-false (suiting_set from) 0 e in
          let w = lowest-passes (suits_to from) n in
          let t = lowest_square (suiting_set from) in
          let m = and_left (can_move b from t) (suits c (byte (moved b from t))) w.1 in
          inr (
            n,
            record {
              on = can-on b from t m;
              can = m;
              suiting = and_right (can_move b from t) (suits c (byte (moved b from t))) w.1;
              is-first = from_first p from ∙ ap (first_to from) w.2.1;
            },
          )

  -- ---- of three

  module _ (x y z : ℕ) (sets : Reach) (ex : sets.king ≡ suiting_set x) (ey : sets.first ≡ suiting_set y)
      (ez : sets.second ≡ suiting_set z) where
    -- a piece's own: 64 where it has none
    own-from : Plain b → (from set : ℕ) → set ≡ suiting_set from → (seen_from from set).from < 64
        → ((seen_from from set).from ≡ from) × Shown from (seen_from from set).to
    unfolding seen_from
    own-from p from set e h = go (shown p from)
      where
        go : ((suiting_set from ≡ 0) × (first passes (moves_from b from) ≡ none))
            ⊎ ((suiting_set from ≡ 0 → ⊥) × Shown from (lowest_square (suiting_set from)))
            → ((seen_from from set).from ≡ from) × Shown from (seen_from from set).to
        go (inl w) =
            absurd (let q : (seen_from from set).from ≡ 64 = rw (eq-eqb set 0 (e ∙ w.0)) in omega arith)
        go (inr w) = let n = ne_eqb set 0 (λ d. w.0 (sym e ∙ d)) in (
          rw n,
          subst (λ (t : ℕ). Shown from t) (sym (rw n (ap lowest_square e))) w.1,
        )

    -- and one that suits is not before it
    not-later : (from set to : ℕ) → set ≡ suiting_set from → T (suits_to from to) → (seen_from from set).from ≡ from
    unfolding seen_from
    not-later from set to e t =
        rw (ne_eqb set 0
        (λ d. zero-fails (suits_to from) (sym e ∙ d) to
        (can-on b from to (and_left (can_move b from to) (suits c (byte (moved b from to))) t)).1 t))

    least : (a d : Seen) → ((earlier a d ≡ a) ⊎ (earlier a d ≡ d)) × ((earlier a d).from ≤ a.from)
        × ((earlier a d).from ≤ d.from)
    unfolding earlier
    least a d = go (ltb d.from a.from) refl
      where
        go : (t : Bool) → ltb d.from a.from ≡ t
            → ((cond t d a ≡ a) ⊎ (cond t d a ≡ d)) × ((cond t d a).from ≤ a.from) × ((cond t d a).from ≤ d.from)
        go true e = let h = ltb-true d.from a.from e in (inr refl, omega arith, omega arith)
        go false e = let h = ltb-false d.from a.from e in (inl refl, omega arith, omega arith)

    abbrev a : Seen
    a = seen_from x sets.king

    abbrev d : Seen
    d = seen_from y sets.first

    abbrev g : Seen
    g = seen_from z sets.second

    pub record Least (t : Seen) : Type 0 where
      pub one : (t ≡ a) ⊎ ((t ≡ d) ⊎ (t ≡ g))
      pub least-king : t.from ≤ a.from
      pub least_first : t.from ≤ d.from
      pub least-second : t.from ≤ g.from

    pub least-seen : Least (seen_in x y z sets)
    unfolding seen_in
    least-seen =
        let u = least a d in
        let v = least (earlier a d) g in
        record {
          one = ⊎_elim (λ e. ⊎_elim (λ f. inl (e ∙ f)) (λ f. inr (inl (e ∙ f))) u.0) (λ e. inr (inr e)) v.0;
          least-king = omega (arith, v.1, u.1);
          least_first = omega (arith, v.1, u.2);
          least-second = v.2;
        }

    -- it is a suiting move ..
    pub seen-shown : Plain b → (t : Seen) → Least t → t.from < 64 → Shown t.from t.to
    seen-shown p t w h = go w.one
      where
        from-own : (from set : ℕ) → set ≡ suiting_set from → t ≡ seen_from from set → Shown t.from t.to
        from-own from set e q =
            let o = own-from p from set e (subst (λ (r : Seen). r.from < 64) q h) in
            subst (λ (r : Seen). Shown r.from r.to) (sym q)
            (subst (λ (f : ℕ). Shown f (seen_from from set).to) (sym o.0) o.1)

        go : (t ≡ a) ⊎ ((t ≡ d) ⊎ (t ≡ g)) → Shown t.from t.to
        go (inl q) = from-own x sets.king ex q
        go (inr (inl q)) = from-own y sets.first ey q
        go (inr (inr q)) = from-own z sets.second ez q

    -- .. and no suiting move starts before it
    pub seen-least : (t : Seen) → Least t → (from to : ℕ) → StartsAt x y z from → T (suits_to from to) → t.from ≤ from
    seen-least t w from to (inl e) u =
        let q = not-later x sets.king to ex (subst (λ (f : ℕ). T (suits_to f to)) e u) in omega (arith, w.least-king)
    seen-least t w from to (inr (inl e)) u =
        let q = not-later y sets.first to ey (subst (λ (f : ℕ). T (suits_to f to)) e u) in
        omega (arith, w.least_first)
    seen-least t w from to (inr (inr e)) u =
        let q = not-later z sets.second to ez (subst (λ (f : ℕ). T (suits_to f to)) e u) in
        omega (arith, w.least-second)

    module _ (starts : (from to : ℕ) → T (can_move b from to) → StartsAt x y z from) where
      pub seen_first : Plain b → (t : Seen) → Least t → t.from < 64
          → suited_from byte c b ≡ some (move_on b t.from t.to)
      unfolding suited_from moves all_moves squares
      seen_first p t w h =
          rw p.manned
          (first-at passes (moves_from b) 64 0 t.from (move_on b t.from t.to) (omega arith) (omega arith) before
          (seen-shown p t w h).is-first)
        where
          before : (f : ℕ) → f < t.from → first passes (moves_from b f) ≡ none
          before f l =
              ⊎_elim (λ o. o.1)
              (λ o. let r = o.1 in
              let i = seen-least t w f (lowest_square (suiting_set f)) (starts f (lowest_square (suiting_set f)) r.can)
              (and_both (can_move b f (lowest_square (suiting_set f)))
              (suits c (byte (moved b f (lowest_square (suiting_set f))))) r.can r.suiting) in
              absurd (omega arith)) (shown p f)

      -- with none seen no legal move suits
      pub none_seen : (t : Seen) → Least t → 64 ≤ t.from → (from to : ℕ) → T (can_move b from to)
          → T (suits c (byte (moved b from to))) → ⊥
      none_seen t w h from to u v =
          let i = seen-least t w from to (starts from to u)
          (and_both (can_move b from to) (suits c (byte (moved b from to))) u v) in
          omega (arith, (can-on b from to u).0)

-- ---- as code chooses

pub seen_none : (from set : ℕ) → set ≡ 0 → ◌≡◌ {A = Seen} (record { from = 64; to = 64 }) (seen_from from set)
unfolding seen_from
seen_none from set e = sym (rw (eq-eqb set 0 e))

pub seen-lowest : (from set to : ℕ) → (set ≡ 0 → ⊥) → to ≡ lowest_square set
    → ◌≡◌ {A = Seen} (record { from = from; to = to }) (seen_from from set)
unfolding seen_from
seen-lowest from set to n e = ap (λ (t : ℕ). record { from = from; to = t }) e ∙ sym (rw (ne_eqb set 0 n))

pub earlier-second : (a d : Seen) → d.from < a.from → d ≡ earlier a d
unfolding earlier
earlier-second a d h = sym (rw (lt-ltb d.from a.from h))

pub earlier-first : (a d : Seen) → a.from ≤ d.from → a ≡ earlier a d
unfolding earlier
earlier-first a d h = sym (rw (le-ltb d.from a.from h))

pub seen-is : (x y z king : ℕ) (sets : Reach) (a d g e s : Seen) → king ≡ x → a ≡ seen_from king sets.king
    → d ≡ seen_from y sets.first → g ≡ seen_from z sets.second → e ≡ earlier a d → s ≡ earlier e g
    → s ≡ seen_in x y z sets
unfolding seen_in
seen-is x y z king sets a d g e s k p q r u v = v ∙ rw (u, p, q, r, k)
