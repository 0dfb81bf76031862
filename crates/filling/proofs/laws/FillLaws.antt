-- Laws by which the code of the whole fill is proved: what the steps come to, and what is promised of it.
use Rattle.std.specs.Prelude.{◌≡◌, refl, Bool, true, false, cond, ◌⊎◌, length, take, drop, get_or, Err, Option, Result}
use Rattle.std.proofs.Math.Path.{sym, ap, ap₂, subst⁻¹, fun_ext}
use Rattle.std.proofs.Common.{subst, ◌∙◌, inl, inr, arith, length-take, get_or-take, get_or-drop}
use mathlib.Core.List.Memᴰ
use mathlib.Core.List.{List}
use Prim.Native.Nat.{ℕ, ◌+◌, ◌*◌, ◌-◌, ◌<◌, ◌≤◌}
use Rattle.std.proofs.Math.ListN.{get_or-eq_default}
use Rattle.finite.specs.Truth.{of-true, le-or-lt, refuted}
use Rattle.finite.specs.Members.{none_in}
use Rattle.finite.specs.Mapped.{map_from, length-map_from}
use Rattle.table_theory.specs.Tables.{Outcome, undecided, ended, start_byte}
use Rattle.table_theory.specs.Lending.{passes_until, filled_until}
use Rattle.rules.specs.Chess.{chess}
use Rattle.endings.specs.Answers.{result_of, Fill}
use Rattle.endings.specs.FilledTrue.{FillPromise}
use Rattle.endings.proofs.laws.FilledTrue.{fill-promised}
use Rattle.numbering.specs.declared.Material.{Material}
use Rattle.numbering.specs.Material.{known, given}
use Rattle.position.specs.declared.Men.{Men}
use Rattle.position.specs.Posed.{material_for}
use Rattle.four_men.specs.Lending.{Lent, lent, part_of, borrowed}
use Rattle.four_men.specs.Reading.{numbered, holds_depth}
use Rattle.four_men.specs.Answers.{lengths_fit, lent_accepted, fill_with}
use Rattle.four_men.specs.Truth.{FillTrueOf, LentBytes}
use Rattle.four_men.specs.Steps.{nothing}
use Rattle.four_men.proofs.laws.Filling.{filled-1, filled-7, filled-17, fill-with-is, filled-true-with}
use Rattle.four_men.proofs.laws.Alone.{fill-alone}
use Rattle.working_back.specs.Admitted.{over}
use Rattle.working_back.specs.Trying.{Ready}
use Rattle.working_back.proofs.laws.Won.{ready-start}
use Rattle.filling.specs.Deepest.{Deepest}
use Rattle.filling.specs.Stepping.{deeper_than}
use Rattle.filling.specs.FillPromise.{Fills, FillPromiseWith, fill_back_with, FillBackPromise}
use Rattle.filling.proofs.laws.Code.{start-any}

-- ---- what the steps come to

module _ (m : Men) (first second t u : List ℕ)
    (s : u ≡ map_from (start_byte chess (numbered (material_for m) nothing)) 0 t) where
  pub start-long : length u ≡ length t
  start-long = ap length s ∙ length-map_from (start_byte chess (numbered (material_for m) nothing)) 0 t

  pub started-ready : Ready chess (over m first second) 0 u
  started-ready =
      subst⁻¹ (Ready chess (over m first second) 0) (s ∙ start-any (material_for m) (lent first second) t)
      (ready-start chess (over m first second) t)

  pub filled-so : (deepest k last : ℕ) (v : List ℕ) (f : Result (Option ℕ) ℕ) (w : List ℕ) → Deepest m first second deepest
      → passes_until chess (over m first second) (deeper_than deepest) (254 - k) k (ended last) v
      ≡ passes_until chess (over m first second) (deeper_than deepest) 254 0 undecided u
      → (f ≡ result_of
      (passes_until chess (over m first second) (deeper_than deepest) (254 - k) k (ended last) v).result)
      × (w ≡ (passes_until chess (over m first second) (deeper_than deepest) (254 - k) k (ended last) v).bytes)
      → Fills
      (filled_until chess (over m first second) (holds_depth (borrowed (material_for m) (lent first second))) t) f w
  unfolding filled_until
  filled-so deepest k last v f w d e g =
      let deeper : holds_depth (borrowed (material_for m) (lent first second)) ≡ deeper_than deepest =
      fun_ext d.holds in
      let z : passes_until chess (over m first second) (deeper_than deepest) (254 - k) k (ended last) v
      ≡ passes_until chess (over m first second) (holds_depth (borrowed (material_for m) (lent first second))) 254 0
      undecided (map_from (start_byte chess (over m first second)) 0 t) =
      e ∙ ap₂ (λ (x : ℕ → Bool) (y : List ℕ). passes_until chess (over m first second) x 254 0 undecided y)
      (sym deeper) (s ∙ start-any (material_for m) (lent first second) t) in
      record {
        answered = g.0 ∙ ap (λ (o : Outcome). result_of o.result) z;
        left = g.1 ∙ ap (λ (o : Outcome). o.bytes) z;
      }

-- ---- what is promised

-- a part of bytes is of bytes
part-byte : (kind : ℕ) (run : List ℕ) → ((n : ℕ) → get_or run n 0 < 256) → (t : List ℕ) → t ≡ part_of kind run → (n : ℕ)
    → get_or t n 0 < 256
unfolding part_of
part-byte kind run f t e n = subst⁻¹ (λ (u : List ℕ). get_or u n 0 < 256) e (go (le-or-lt 59136 n))
  where
    go : (59136 ≤ n) ⊎ (n < 59136) → get_or (take 59136 (drop (kind * 59136) run)) n 0 < 256
    go (inl h) =
        let z = length-take 59136 (drop (kind * 59136) run) in
        let g : length (take 59136 (drop (kind * 59136) run)) ≤ n = omega (arith, z) in
        rw (get_or-eq_default (take 59136 (drop (kind * 59136) run)) 0 g) (omega arith)
    go (inr h) = rw (get_or-take, get_or-drop) (f (kind * 59136 + n))

-- the lent tables are bytes
pub lent-bytes : (m : Material) (first second : List ℕ) → ((n : ℕ) → get_or first n 0 < 256)
    → ((n : ℕ) → get_or second n 0 < 256) → LentBytes m (lent first second)
lent-bytes (Material.One kind) first second f s t i n = absurd (none_in refl i)
lent-bytes (Material.Two j k r) first second f s t (Memᴰ.head e) n =
    subst (λ (u : List ℕ). get_or u n 0 < 256) (sym e) (f n)
lent-bytes (Material.Two j k r) first second f s t (Memᴰ.tail (Memᴰ.head e)) n =
    subst (λ (u : List ℕ). get_or u n 0 < 256) (sym e) (s n)
lent-bytes (Material.Two j k r) first second f s t (Memᴰ.tail (Memᴰ.tail i)) n = elim i [ ]
lent-bytes Material.Pawn first second f s t (Memᴰ.head e) n = part-byte 0 first f t e n
lent-bytes Material.Pawn first second f s t (Memᴰ.tail (Memᴰ.head e)) n = part-byte 1 first f t e n
lent-bytes Material.Pawn first second f s t (Memᴰ.tail (Memᴰ.tail (Memᴰ.head e))) n =
    part-byte 2 first f t e n
lent-bytes Material.Pawn first second f s t (Memᴰ.tail (Memᴰ.tail (Memᴰ.tail (Memᴰ.head e)))) n =
    part-byte 3 first f t e n
lent-bytes Material.Pawn first second f s t (Memᴰ.tail (Memᴰ.tail (Memᴰ.tail (Memᴰ.tail i)))) n = elim i [ ]

module _ (m : Material) (l : Lent) (t : List ℕ) (small : LentBytes m l) where
  promised : (a : Result (Option ℕ) ℕ) (u : List ℕ) → a ≡ (fill_with m l t).answer → u ≡ (fill_with m l t).bytes
      → FillPromiseWith m l t a u
  promised a u e f = record {
    answered = e;
    left = f;
    refused-1 = λ w. both (filled-1 m l t w);
    refused-7 = λ w n. both (filled-7 m l t w n);
    refused-17 = λ w n x. both (filled-17 m l t w n x);
    else-true = λ w n x. subst (FillTrueOf m)
        (ap₂ (λ (x : Result (Option ℕ) ℕ) (y : List ℕ). record { answer = x; bytes = y }) (sym e) (sym f))
        (filled-true-with m l t w n x small);
  }
    where
      both : {k : Result (Option ℕ) ℕ} → fill_with m l t ≡ record { answer = k; bytes = t } → (a ≡ k) × (u ≡ t)
      both z = (e ∙ ap (λ (o : Fill). o.answer) z, f ∙ ap (λ (o : Fill). o.bytes) z)

  is : (a : Result (Option ℕ) ℕ) (u : List ℕ) → fill_with m l t ≡ record { answer = a; bytes = u } → FillPromiseWith m l t a u
  is a u z = promised a u (sym (ap (λ (o : Fill). o.answer) z)) (sym (ap (λ (o : Fill). o.bytes) z))

  pub promised-1 : given m ≡ false → FillPromiseWith m l t (Err 1) t
  promised-1 w = is (Err 1) t (filled-1 m l t w)

  pub promised-7 : given m ≡ true → lengths_fit m l t ≡ false → FillPromiseWith m l t (Err 7) t
  promised-7 w n = is (Err 7) t (filled-7 m l t (of-true w) n)

  pub promised-17 : given m ≡ true → lengths_fit m l t ≡ true → lent_accepted m l ≡ false
      → FillPromiseWith m l t (Err 17) t
  promised-17 w n x = is (Err 17) t (filled-17 m l t (of-true w) (of-true n) x)

pub promised-filled : (m : Material) (men : Men) (first second t : List ℕ) (a : Result (Option ℕ) ℕ) (u : List ℕ)
    → LentBytes m (lent first second) → given m ≡ true → lengths_fit m (lent first second) t ≡ true
    → lent_accepted m (lent first second) ≡ true → material_for men ≡ m
    → Fills (filled_until chess (over men first second)
    (holds_depth (borrowed (material_for men) (lent first second))) t) a u
    → FillPromiseWith m (lent first second) t a u
promised-filled m men first second t a u small w n x e f =
    let z = fill-with-is m (lent first second) t (of-true w) (of-true n) (of-true x) in
    let g : Fills (filled_until chess (numbered m (lent first second)) (holds_depth (borrowed m (lent first second))) t)
    a u = subst (λ (y : Material). Fills
    (filled_until chess (numbered y (lent first second)) (holds_depth (borrowed y (lent first second))) t) a u) e f in
    promised m (lent first second) t small a u
    (g.answered ∙ sym (ap (λ (o : Fill). o.answer) z))
    (g.left ∙ sym (ap (λ (o : Fill). o.bytes) z))

-- ---- one man

pub promised-one : (kind : ℕ) (first second t : List ℕ) (a : Result (Option ℕ) ℕ) (u : List ℕ)
    → FillPromiseWith (Material.One kind) (lent first second) t a u → FillPromise kind t a u
promised-one kind first second t a u p =
    let z = fill-alone kind (lent first second) t in
    fill-promised kind t a u (p.answered ∙ ap (λ (o : Fill). o.answer) z) (p.left ∙ ap (λ (o : Fill). o.bytes) z)

-- ---- working back: of pieces

module _ (m : Material) (l : Lent) (t : List ℕ) where
  pub back-refused : known m ≡ false → FillBackPromise m l t (Err 1) t
  unfolding fill_back_with
  back-refused e = record {
    answered = sym (rw e);
    left = sym (rw e);
    refused-1 = λ z. (refl, refl);
    pieces = λ w. absurd (refuted e w);
  }

  pub back-pieces : known m ≡ true → (a : Result (Option ℕ) ℕ) (u : List ℕ) → FillPromiseWith m l t a u → FillBackPromise m l t a u
  unfolding fill_back_with
  back-pieces e a u p = record {
    answered = rw e p.answered;
    left = rw e p.left;
    refused-1 = λ z. absurd (refuted z (of-true e));
    pieces = λ w. p;
  }

-- one man is a piece, or refused
pub back_one : (kind : ℕ) (first second t : List ℕ) (a : Result (Option ℕ) ℕ) (u : List ℕ)
    → FillBackPromise (Material.One kind) (lent first second) t a u → FillPromise kind t a u
unfolding fill_back_with
back_one kind first second t a u p =
    let z = fill-alone kind (lent first second) t in
    let same = same-one (known (Material.One kind)) refl in
    fill-promised kind t a u (p.answered ∙ ap (λ (o : Fill). o.answer) (same ∙ z))
    (p.left ∙ ap (λ (o : Fill). o.bytes) (same ∙ z))
  where
    same-one : (x : Bool) → known (Material.One kind) ≡ x
        → cond x (fill_with (Material.One kind) (lent first second) t) (record { answer = Err 1; bytes = t })
        ≡ fill_with (Material.One kind) (lent first second) t
    same-one true e = refl
    same-one false e = sym (filled-1 (Material.One kind) (lent first second) t e)
