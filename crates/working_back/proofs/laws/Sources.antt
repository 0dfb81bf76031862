-- A piece put back on each square that it may have come from.
use Rattle.std.specs.Prelude.{◌≡◌, refl, Bool, true, false, not, ◌&&◌, ◌⊎◌, List, [], ◌∷◌, ℕ, zero, suc, ◌+◌, ◌-◌, ◌<◌, ◌≤◌, ◌^◌, T, eqb, length, set}
use Rattle.std.proofs.Common.{sym, ap, subst, ◌∙◌, inl, inr, ⊎_elim, arith, eqb→eq}
use Rattle.std.proofs.Math.Path.{subst⁻¹}
use Rattle.finite.specs.Members.{none_in}
use Rattle.finite.specs.Truth.{decided, and_left, and_both, or_cases}
use Rattle.finite.specs.Filter.{filter, keep, filter-fewer}
use Rattle.finite.specs.Numbers.{numbers}
use Rattle.board.specs.Sets.{has, members, squares, lowest_square, set_of}
use Rattle.board.proofs.laws.SetLaws.{members-in, set-has, squares-out}
use Rattle.board.proofs.laws.LowestLaws.{Lowest, lowest-of}
use Rattle.rules.specs.Chess.{chess}
use Rattle.rules.proofs.laws.CanMove.{can-on}
use Rattle.numbering.specs.Number.{number_of}
use Rattle.position.specs.declared.Men.{Men}
use Rattle.position.specs.declared.Place.{Place}
use Rattle.position.specs.Posed.{board_in}
use Rattle.index.specs.Seats.{Seated}
use Rattle.index.proofs.laws.CompleteLaws.{complete-seated}
use Rattle.retracting.specs.Retracting.{place_before, Leads, GoesBack}
use Rattle.working_back.specs.Admitted.{over, Admitted}
use Rattle.working_back.specs.Trying.{Midway, Went, Tried}
use Rattle.working_back.specs.Back.{Few, Ripe, TriesPlace, TriesTo}
use Rattle.working_back.proofs.laws.Admitted.{sized}
use Rattle.working_back.proofs.laws.Few.{few-none, few-then, few-most}
use Rattle.working_back.proofs.laws.Trying.{went-none, went_then, tried-kept}

filter-few : (p : ℕ → Bool) (l : List ℕ) → length (filter p l) ≤ length l
unfolding filter
filter-few p [] = omega arith
filter-few p (x ∷ l) = go (p x) (filter-few p l)
  where
    go : (b : Bool) → length (filter p l) ≤ length l → length (keep b x (filter p l)) ≤ suc (length l)
    go true h = omega arith
    go false h = omega arith

numbers-long : (n k : ℕ) → length (numbers n k) ≡ n
unfolding numbers
numbers-long zero k = refl
numbers-long (suc n) k = ap suc (numbers-long n (suc k))

members-few : (set : ℕ) → length (members set) ≤ 64
unfolding members squares
members-few set = subst (λ (n : ℕ). length (members set) ≤ n) (numbers-long 64 0) (filter-few (has set) (numbers 64 0))

-- some are left out
pub fewer-left : (set some rest : ℕ) → rest ≡ set_of (λ (u : ℕ). has set u && not (has some u)) → length (members rest) ≤ length (members set)
unfolding members
fewer-left set some rest e =
    filter-fewer (has rest) (has set) squares
    (λ u i t. and_left (has set u) (not (has some u)) (subst T (set-has (λ (u : ℕ). has set u && not (has some u)) e u (squares-out u i)) t))

-- the lowest square of a set
pub lowest-in : (set s : ℕ) → set < 2 ^ 64 → (set ≡ 0 → ⊥) → s ≡ lowest_square set → (s < 64) × T (has set s)
lowest-in set s h n e =
    let w = lowest-of set s (set_of (λ (u : ℕ). has set u && not (eqb u s))) h n e refl in (w.square, w.here)

module _ (m : Men) (first second : List ℕ) (k : ℕ) (q : Place) (taken to : ℕ) where
  -- tried are the squares of the set that are not in the rest
  abbrev pub Taken : ℕ → List ℕ → List ℕ → ℕ → ℕ → Type 0
  Taken set u v rest did = Few k (64 - length (members rest)) u v did
      × ((t : List ℕ) → Midway chess (over m first second) k t u → Ripe m first second k t q
      → Went chess (over m first second) k t u v did
      × ((s : ℕ) → s < 64 → T (has set s)
      → T (has rest s) ⊎ Tried chess (over m first second) k t v (number_of (board_in m (place_before q taken s to)))))

  module _ (u : List ℕ) (a : Admitted m first second u) (set : ℕ) where
    pub taken_start : Taken set u u set 0
    taken_start = (
      few-none k _ u,
      λ t w r. (
        went-none chess (over m first second) k t (sym w.long ∙ sized m first second u a) u w,
        λ s h x. inl x,
      ),
    )

    pub taken-turn : (v x : List ℕ) (rest rest' s did more : ℕ) → Taken set u v rest did → Lowest rest s rest'
        → TriesPlace m first second k q (place_before q taken s to) v x more → Taken set u x rest' (did + more)
    taken-turn v x rest rest' s did more f low r = (
      few-most k (64 - length (members rest) + 1) (64 - length (members rest')) u x (did + more)
          (omega (arith, low.fewer, members-few rest)) (few-then k (64 - length (members rest)) 1 u v x did more f.0 r.0),
      λ t w ripe.
          let p = f.1 t w ripe in
          let y = r.1 t p.0.midway ripe in
          let long = sym w.long ∙ sized m first second u a in (
            went_then chess (over m first second) k t long u v x did more p.0 y.0,
            λ i h z. ⊎_elim
                (λ g. ⊎_elim
                (λ b. inr (subst (λ (j : ℕ). Tried chess (over m first second) k t x (number_of (board_in m (place_before q taken j to)))) (sym (eqb→eq i s b))
                y.1))
                (λ b. inl b) (or_cases (eqb i s) (has rest' i) (subst T (low.others i h) g)))
                (λ g. inr (tried-kept chess (over m first second) k t long v x more (number_of (board_in m (place_before q taken i to))) y.0 g))
                (p.1 i h z),
          ),
    )

    -- from some of the rest nothing is settled
    pub taken-spared : (v : List ℕ) (rest spared left did : ℕ) → Taken set u v rest did → left ≡ set_of (λ (i : ℕ). has rest i && not (has spared i))
        → ((s : ℕ) → s < 64 → T (has rest s) → T (has spared s) → TriesPlace m first second k q (place_before q taken s to) v v 0)
        → Taken set u v left did
    taken-spared v rest spared left did f e w = (
      few-most k (64 - length (members rest)) (64 - length (members left)) u v did (omega (arith, fewer-left rest spared left e)) f.0,
      λ t y ripe.
          let p = f.1 t y ripe in (
            p.0,
            λ i h z. ⊎_elim
                (λ g. ⊎_elim
                (λ b. inr ((w i h g b).1 t p.0.midway ripe).1)
                (λ b. inl (subst⁻¹ T (set-has (λ (i : ℕ). has rest i && not (has spared i)) e i h) (and_both (has rest i) (not (has spared i)) g b)))
                (decided (has spared i)))
                (λ g. inr g) (p.1 i h z),
          ),
    )

    pub taken-end : (v : List ℕ) (rest did : ℕ) → members rest ≡ [] → Taken set u v rest did
        → ((o : Place) (from : ℕ) → Leads m o from to q → T (has set from) × (o ≡ place_before q taken from to))
        → TriesTo m first second k q to u v did
    taken-end v rest did e f all = (
      few-most k (64 - length (members rest)) 64 u v did (omega arith) f.0,
      λ t w ripe.
          let p = f.1 t w ripe in (
            p.0,
            λ o from l.
                let x = all o from l in
                subst⁻¹ (λ (c : Place). Tried chess (over m first second) k t v (number_of (board_in m c))) x.1
                (let h = (can-on (board_in m o) from to l.can).0 in
                ⊎_elim (λ g. absurd (none_in e (members-in rest from h g))) (λ g. g) (p.1 from h x.0)),
          ),
    )

  -- its number
  pub number-of-source : (s n : ℕ) → GoesBack m q taken s to → (o : Place) → o ≡ place_before q taken s to
      → (Seated m o → n ≡ number_of (board_in m o)) → n ≡ number_of (board_in m (place_before q taken s to))
  number-of-source s n l o e f =
      f (subst⁻¹ (Seated m) e (complete-seated m (place_before q taken s to) l.complete))
      ∙ ap (λ (p : Place). number_of (board_in m p)) e
