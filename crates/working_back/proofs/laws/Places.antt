-- A position that has a move to one of depth k - 1: what trying its number comes to.
use Rattle.std.specs.Prelude.{◌≡◌, true, false, Bool, not, ◌⊎◌, List, ℕ, ◌+◌, ◌%◌, ◌<◌, ◌≤◌, T, eqb, length, get_or, set}
use Rattle.std.proofs.Common.{sym, ap, subst, ◌∙◌, inr, ⊎_elim, arith, eqb→eq}
use Rattle.std.proofs.Math.Path.{subst⁻¹}
use Rattle.std.proofs.Math.Logic.{inl}
use mathlib.Core.List.Memᴰ
use Rattle.std.proofs.Math.ListN.{get_or-eq_default}
use Rattle.std.proofs.lemmas.Bool.{eqb-false}
use Rattle.finite.specs.Truth.{decided, le-or-lt, of-true, false_of, refuted}
use Rattle.finite.specs.Members.{◌∈◌, map-in}
use Rattle.theory.specs.Game.{next}
use Rattle.theory.specs.Required.{required_at}
use Rattle.table_theory.specs.Tables.{Numbering, settles, reads}
use Rattle.rules.specs.declared.Piece.{Piece}
use Rattle.rules.specs.Rules.{Board, empty, legal}
use Rattle.rules.specs.Chess.{chess, played}
use Rattle.rules.proofs.laws.ChessLaws.{in-moves}
use Rattle.rules.proofs.laws.Legal.{legal-pawnless}
use Rattle.rules.proofs.laws.CanMove.{can-on}
use Rattle.rules.proofs.laws.MoveLists.{none-promotes}
use Rattle.numbering.specs.declared.Material.{Material}
use Rattle.numbering.specs.Number.{number_of}
use Rattle.numbering.specs.Material.{known, OfMaterial}
use Rattle.position.specs.declared.Men.{Men}
use Rattle.position.specs.declared.Place.{Place}
use Rattle.position.specs.Posed.{board_in, material_for, Complete}
use Rattle.index.specs.Endings.{number_in}
use Rattle.index.proofs.laws.EndingsLaws.{of-legal, pieces-number}
use Rattle.movegen.proofs.laws.Places.{place-moved}
use Rattle.four_men.specs.Lending.{lent}
use Rattle.four_men.specs.Reading.{full, numbered}
use Rattle.four_men.proofs.laws.Materials.{one-of, two-of}
use Rattle.four_men.proofs.laws.Numbered.{lawful_with}
use Rattle.retracting.specs.Retracting.{Leads}
use Rattle.working_back.specs.Admitted.{over, Admitted}
use Rattle.working_back.specs.Trying.{Midway}
use Rattle.working_back.specs.Back.{Ripe, TriesPlace}
use Rattle.working_back.proofs.laws.Admitted.{sized}
use Rattle.working_back.proofs.laws.Numbers.{number-legal}
use Rattle.working_back.proofs.laws.Few.{few-none, few-one}
use Rattle.working_back.proofs.laws.Trying.{settles-midway, went-none, went-one, now-there}
use Rattle.working_back.proofs.laws.Won.{settles-at, won-from}

full-own : (m : Material) → T (known m) → (b : Board) → OfMaterial m b → T (full m b.men)
full-own Material.Pawn w b o = absurd w
full-own (Material.One kind) w b o = subst⁻¹ (λ (l : List Piece). T (full (Material.One kind) l)) (one-of kind b.men o).1 tt
full-own (Material.Two j k r) w b o = subst⁻¹ (λ (l : List Piece). T (full (Material.Two j k r) l)) (two-of j k r b.men o).2 tt

manned : (m : Material) → T (known m) → (b : Board) → OfMaterial m b → empty b.men ≡ false
manned Material.Pawn w b o = absurd w
manned (Material.One kind) w b o = ap (λ (l : List Piece). empty l) (one-of kind b.men o).1
manned (Material.Two j k r) w b o = ap (λ (l : List Piece). empty l) (two-of j k r b.men o).2

module _ (m : Men) (o q : Place) (from to : ℕ) (l : Leads m o from to q) where
  next-in : board_in m q ∈ next chess (board_in m o)
  next-in =
      let on = can-on (board_in m o) from to l.can in
      Memᴰ.cast
      (ap (λ (p : Place). board_in m p) (sym l.arrives) ∙ place-moved from to on.0 on.1 m o)
      (map-in (played (board_in m o))
      (in-moves (board_in m o) from to (manned (material_for m) l.complete.ending (board_in m o) l.complete.men) l.can
      (none-promotes (board_in m o) from to (legal-pawnless (board_in m o) l.legality))))

  abbrev M : Material
  M = material_for m

  abbrev b : Board
  b = board_in m o

  module _ (first second : List ℕ) (k : ℕ) where
    abbrev N : Numbering chess
    N = over m first second

    settles-in : (t : List ℕ) → get_or t (number_in M b) 0 ≡ 1
        → settles chess N k t (number_in M b) ≡ eqb (required_at chess (reads chess N t) b) (2 + k)
    unfolding lawful_with numbered
    settles-in t e =
        settles-at chess N (lawful_with M l.complete.ending (lent first second)) k t b
        (record { legality = of-legal M l.complete.ending b l.legality; men = inl l.complete.men })
        (full-own M l.complete.ending b l.complete.men) e

    -- its number is settled exactly where the depth is required of it
    place-settles : (t : List ℕ) → get_or t (number_of b) 0 ≡ 1
        → settles chess N k t (number_of b) ≡ eqb (required_at chess (reads chess N t) b) (2 + k)
    place-settles t =
        subst (λ (f : Board → ℕ). get_or t (f b) 0 ≡ 1
        → settles chess N k t (f b) ≡ eqb (required_at chess (reads chess N t) b) (2 + k))
        (pieces-number M l.complete.ending) (settles-in t)

    won-in : (t : List ℕ) → k % 2 ≡ 1 → Ripe m first second k t q → get_or t (number_in M b) 0 ≡ 1
        → T (settles chess N k t (number_in M b))
    unfolding lawful_with numbered
    won-in t odd r e =
        won-from chess N k t odd r.ready (lawful_with M l.complete.ending (lent first second)) b (board_in m q)
        (record { legality = of-legal M l.complete.ending b l.legality; men = inl l.complete.men })
        (full-own M l.complete.ending b l.complete.men) next-in r.byte e

    -- k odd: if it holds 1, it is settled
    place-won : (t : List ℕ) → k % 2 ≡ 1 → Ripe m first second k t q → get_or t (number_of b) 0 ≡ 1
        → T (settles chess N k t (number_of b))
    place-won t odd r =
        subst (λ (f : Board → ℕ). get_or t (f b) 0 ≡ 1 → T (settles chess N k t (f b)))
        (pieces-number M l.complete.ending) (won-in t odd r)

-- ---- what trying a number comes to

module _ (m : Men) (o q : Place) (first second : List ℕ) (k : ℕ) (u : List ℕ) (a : Admitted m first second u) where
  abbrev at : ℕ
  at = number_of (board_in m o)

  abbrev W : Numbering chess
  W = over m first second

  long-t : (t : List ℕ) → Midway chess W k t u → length t ≡ W.size
  long-t t w = sym w.long ∙ sized m first second u a

  -- it does not hold 1
  place_other : (get_or u at 0 ≡ 1 → ⊥) → TriesPlace m first second k q o u u 0
  place_other e = (few-none k 1 u, λ t w r. (went-none chess W k t (long-t t w) u w, λ s z. e z))

  module _ (h : at < length u) (e : get_or u at 0 ≡ 1) where
    settled : ((t : List ℕ) → Midway chess W k t u → Ripe m first second k t q → T (settles chess W k t at))
        → TriesPlace m first second k q o u (set u at (2 + k)) 1
    settled f = (
      few-one k u at h e,
      λ t w r. (
        went-one chess W k t (long-t t w) u w at h (f t w r) e,
        λ s z. omega (arith, z, now-there chess W k t (long-t t w) u w at h),
      ),
    )

    was : (t : List ℕ) → Midway chess W k t u
        → (get_or u at 0 ≡ get_or t at 0) ⊎ (T (settles chess W k t at) × (get_or u at 0 ≡ 2 + k)) → get_or t at 0 ≡ 1
    was t w (inl x) = sym x ∙ e
    was t w (inr x) = absurd (omega (arith, e, x.1))

    -- k odd: what holds 1 is legal
    place-odd : Complete m o → (from to : ℕ) → (T (legal (board_in m o)) → Leads m o from to q) → k % 2 ≡ 1
        → TriesPlace m first second k q o u (set u at (2 + k)) 1
    unfolding numbered
    place-odd c from to f odd =
        settled (λ t w r.
        let y = was t w (w.byte at) in
        let l = f (number-legal m o c (r.ready.alive at (λ z. omega (arith, y, z)))) in
        place-won m o q from to l first second k t odd r y)

    module _ (from to : ℕ) (l : Leads m o from to q) where
      place-lost : ((t : List ℕ) → Midway chess W k t u → Ripe m first second k t q
          → eqb (required_at chess (reads chess W u) (board_in m o)) (2 + k) ≡ true)
          → TriesPlace m first second k q o u (set u at (2 + k)) 1
      place-lost f =
          settled (λ t w r. subst T (settles-midway chess W k t u w at e)
          (subst⁻¹ T (place-settles m o q from to l first second k u e) (of-true (f t w r))))

      place_kept : ((t : List ℕ) → Midway chess W k t u → Ripe m first second k t q
          → eqb (required_at chess (reads chess W u) (board_in m o)) (2 + k) ≡ false)
          → TriesPlace m first second k q o u u 0
      place_kept f = (
        few-none k 1 u,
        λ t w r. (
          went-none chess W k t (long-t t w) u w,
          λ s z. refuted (sym (settles-midway chess W k t u w at e) ∙ place-settles m o q from to l first second k u e ∙ f t w r) s,
        ),
      )

-- as code has the number
module _ (m : Men) (o q : Place) (first second : List ℕ) (k : ℕ) (u : List ℕ) (a : Admitted m first second u) (n : ℕ)
    (z : n ≡ number_of (board_in m o)) where
  pub tried_other : (get_or u n 0 ≡ 1 → ⊥) → TriesPlace m first second k q o u u 0
  tried_other d = place_other m o q first second k u a (subst (λ (i : ℕ). get_or u i 0 ≡ 1 → ⊥) z d)

  pub tried-out : length u ≤ n → TriesPlace m first second k q o u u 0
  tried-out h = tried_other (λ y. let x : get_or u n 0 ≡ 0 = get_or-eq_default u 0 h in omega (arith, x, y))

  -- told where the table has it and it holds 1
  pub tried-unless : (n < length u → get_or u n 0 ≡ 1 → TriesPlace m first second k q o u u 0) → TriesPlace m first second k q o u u 0
  tried-unless f = ⊎_elim tried-out (λ h. go h (decided (eqb (get_or u n 0) 1))) (le-or-lt (length u) n)
    where
      go : n < length u → T (eqb (get_or u n 0) 1) ⊎ T (not (eqb (get_or u n 0) 1)) → TriesPlace m first second k q o u u 0
      go h (inl x) = f h (eqb→eq (get_or u n 0) 1 x)
      go h (inr x) = tried_other (eqb-false (get_or u n 0) 1 (false_of x))

  module _ (h : n < length u) (e : get_or u n 0 ≡ 1) where
    here : number_of (board_in m o) < length u
    here = subst (λ (i : ℕ). i < length u) z h

    one : get_or u (number_of (board_in m o)) 0 ≡ 1
    one = subst (λ (i : ℕ). get_or u i 0 ≡ 1) z e

    written : {did : ℕ} → TriesPlace m first second k q o u (set u (number_of (board_in m o)) (2 + k)) did
        → TriesPlace m first second k q o u (set u n (2 + k)) did
    written {did} x = subst⁻¹ (λ (i : ℕ). TriesPlace m first second k q o u (set u i (2 + k)) did) z x

    pub tried-odd : Complete m o → (from to : ℕ) → (T (legal (board_in m o)) → Leads m o from to q) → k % 2 ≡ 1
        → TriesPlace m first second k q o u (set u n (2 + k)) 1
    tried-odd c from to f odd = written (place-odd m o q first second k u a here one c from to f odd)

module _ (m : Men) (o q : Place) (from to : ℕ) (l : Leads m o from to q) (first second : List ℕ) (k : ℕ) (u : List ℕ)
    (a : Admitted m first second u) (n : ℕ) (z : n ≡ number_of (board_in m o)) (h : n < length u) (e : get_or u n 0 ≡ 1) where
  pub tried-lost : ((t : List ℕ) → Midway chess (over m first second) k t u → Ripe m first second k t q
      → eqb (required_at chess (reads chess (over m first second) u) (board_in m o)) (2 + k) ≡ true)
      → TriesPlace m first second k q o u (set u n (2 + k)) 1
  tried-lost f =
      written m o q first second k u a n z h e
      (place-lost m o q first second k u a (here m o q first second k u a n z h e) (one m o q first second k u a n z h e) from to l f)

  pub tried-kept : ((t : List ℕ) → Midway chess (over m first second) k t u → Ripe m first second k t q
      → eqb (required_at chess (reads chess (over m first second) u) (board_in m o)) (2 + k) ≡ false)
      → TriesPlace m first second k q o u u 0
  tried-kept f =
      place_kept m o q first second k u a (here m o q first second k u a n z h e) (one m o q first second k u a n z h e) from to l f

  -- what the look forward tells
  pub told-required : (made : Place) (r : Bool) → made ≡ o
      → (Complete m made → r ≡ eqb (required_at chess (reads chess (over m first second) u) (board_in m made)) (2 + k))
      → eqb (required_at chess (reads chess (over m first second) u) (board_in m o)) (2 + k) ≡ r
  told-required made r y f =
      sym (f (subst⁻¹ (Complete m) y l.complete)
      ∙ ap (λ (p : Place). eqb (required_at chess (reads chess (over m first second) u) (board_in m p)) (2 + k)) y)
