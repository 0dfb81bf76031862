-- The reply's slip is the true one and the table stays right, where the held table was right; and laws for the code.
use Rattle.std.specs.Prelude.{◌≡◌, Bool, cond, not, List, ℕ, ◌<◌, length, Result, Err, None, Ok, Option, Some}
use Rattle.std.proofs.Math.Path.{refl, ap}
use Rattle.std.proofs.Common.{sym, ap₂, subst, ◌∙◌, arith}
use Rattle.std.proofs.Math.Bool.{true, false}
use Rattle.std.proofs.Math.Dec.{eqb}
use borrow.Author.Tests.{eq-eqb, ne_eqb, eqb-true, eqb-false}
use Rattle.answers.specs.declared.Answer.{Answer}
use Rattle.position.specs.declared.Position.{Position}
use Rattle.rules.specs.declared.Piece.{Piece}
use Rattle.position.specs.Keyed.{man_in, man_kind}
use Rattle.position.specs.Refusals.{standing_refusal}
use Rattle.position.proofs.laws.Legality.{standing-facts}
use Rattle.position.proofs.laws.PlacedLaws.{placed-kind}
use Rattle.index.specs.Answers.{placed_at}
use Rattle.endings.specs.Ending.{table_size}
use Rattle.endings.specs.Truth.{TrueTable}
use Rattle.endings.specs.Answers.{fill_of, look_up_of}
use Rattle.endings.proofs.laws.Checking.{accepts-true-only}
use Rattle.endings.proofs.laws.LookingUp.{look-up-true}
use Rattle.endings.specs.FilledTrue.{FillTrue}
use Rattle.endings.proofs.laws.FilledTrue.{filled-true, fill-small, fill-keeps-length, true-shallow}
use Rattle.lines.specs.declared.Request.{Request}
use Rattle.lines.specs.Grammar.{request_of}
use Rattle.slips.specs.declared.Slip.{Slip}
use Rattle.slips.specs.Slip.{slip_of, placed_slip, padded}
use Rattle.slips.proofs.laws.Padding.{line_of}
use Rattle.adjudication.specs.declared.Reply.{Reply}
use Rattle.adjudication.specs.Reply.{LineOutcome, Gives, filled_reply, look_up_reply, request_reply, reply_of}
use Rattle.adjudication.specs.TrueSlip.{TrueSlip, Held, LinePromise}

-- an outcome is right: its slip is the true one, and its table is held
abbrev Right : List ℕ → LineOutcome → Type 0
Right line o = TrueSlip line o.slip × Held o.held o.table

module _ (line : List ℕ) (p : Position) (e : request_of line ≡ Ok (Request.LookUp p)) where
  kind-known : standing_refusal p ≡ 0 → man_kind p < 4
  kind-known z = placed-kind p (standing-facts p z).0

  -- look-up in a true table
  looked-up : (t : List ℕ) → standing_refusal p ≡ 0 → man_kind p < 4 → Held (man_kind p) t
      → TrueSlip line (slip_of (look_up_of t p))
  looked-up t z h w =
      let ok = (accepts-true-only (man_kind p) t).1 (h, w.long, w.right h) in
      TrueSlip.answered p (look_up_of t p) e z (true-shallow (man_kind p) t (w.right h) (w.small h))
      (look-up-true (man_kind p) t ok p refl z) refl

  -- after a fill
  filled-right : (t : List ℕ) → standing_refusal p ≡ 0 → man_kind p < 4 → length t ≡ table_size
      → Right line (filled_reply p (fill_of (man_kind p) t).answer (fill_of (man_kind p) t).bytes)
  filled-right t z h long = go (filled-true (man_kind p) t h long)
    where
      held : TrueTable (man_kind p) (fill_of (man_kind p) t).bytes → Held (man_kind p) (fill_of (man_kind p) t).bytes
      held w = record {
        long = fill-keeps-length (man_kind p) t h long;
        right = λ k. w;
        small = λ k n. fill-small (man_kind p) t h long n;
      }

      go : FillTrue (man_kind p) (fill_of (man_kind p) t)
          → Right line (filled_reply p (fill_of (man_kind p) t).answer (fill_of (man_kind p) t).bytes)
      go (FillTrue.greatest n a w d m l) = rw a (looked-up (fill_of (man_kind p) t).bytes z h (held w), held w)
      go (FillTrue.none-decided a w d) = rw a (looked-up (fill_of (man_kind p) t).bytes z h (held w), held w)
      go (FillTrue.too-deep a w n k d) =
          rw a (
            TrueSlip.too-deep p n e z k d refl,
            record {
              long = fill-keeps-length (man_kind p) t h long;
              right = λ k. absurd (omega arith);
              small = λ k. absurd (omega arith);
            },
          )

  look-up-right : (held : ℕ) (t : List ℕ) → Held held t → Right line (look_up_reply p held t)
  unfolding look_up_reply
  look-up-right held t w = go (eqb (standing_refusal p) 0) refl (eqb (man_kind p) held) refl
    where
      go : (a : Bool) → eqb (standing_refusal p) 0 ≡ a → (b : Bool) → eqb (man_kind p) held ≡ b
          → Right line
          (cond {A = LineOutcome} (not a)
          (record { slip = slip_of (Err (standing_refusal p)); held = held; table = t })
          (cond b (record { slip = slip_of (look_up_of t p); held = held; table = t })
          (filled_reply p (fill_of (man_kind p) t).answer (fill_of (man_kind p) t).bytes)))
      go false s b m = (TrueSlip.not-standing p e (eqb-false (standing_refusal p) 0 s) refl, w)
      go true s true m = let q : man_kind p ≡ held = eqb-true (man_kind p) held m in (
        looked-up t (eqb-true (standing_refusal p) 0 s) (kind-known (eqb-true (standing_refusal p) 0 s))
            (subst (λ (h : ℕ). Held h t) (sym q) w),
        w,
      )
      go true s false m =
          filled-right t (eqb-true (standing_refusal p) 0 s) (kind-known (eqb-true (standing_refusal p) 0 s)) w.long

-- Every line's reply is right, where the held table is.
pub reply-right : (line : List ℕ) (held : ℕ) (t : List ℕ) → Held held t
    → TrueSlip line (reply_of line held t).slip × Held (reply_of line held t).held (reply_of line held t).table
unfolding reply_of
reply-right line held t w = go (request_of line) refl
  where
    go : (r : Result Request ℕ) → request_of line ≡ r → Right line (request_reply r held t)
    go (Ok (Request.LookUp p)) e = look-up-right line p e held t w
    go (Ok (Request.Back kind n)) e = (TrueSlip.placed kind n e refl, w)
    go (Err n) e = (TrueSlip.refused n e refl, w)

-- ---- for the code

-- what the code gives back is promised
answered-by : (line : List ℕ) (held : ℕ) (t : List ℕ) (r : Reply) (u : List ℕ) → Gives r (reply_of line held t)
    → u ≡ (reply_of line held t).table → LinePromise line held t r u
unfolding Gives
answered-by line held t r u g e = record {
  reply = g;
  table = e;
  true-slip = λ w. subst (λ (s : List ℕ). TrueSlip line s) (sym (rw g (line_of (reply_of line held t).slip)))
      (reply-right line held t w).0;
  still-held = λ w. rw (g, e) (reply-right line held t w).1;
}

-- a reply made of a slip and a man gives an outcome
gives : (slip : Slip) (held : ℕ) (o q : LineOutcome) → q ≡ o → slip ≡ padded o.slip → held ≡ o.held
    → Gives (record { slip = slip; held = held }) q
unfolding Gives
gives slip held o q e s h = rw e (ap₂ (λ (a : Slip) (b : ℕ). record { slip = a; held = b }) s h)

-- after a fill, by its answer
module _ (p : Position) (kind : ℕ) (known : kind ≡ man_kind p) (f : Result (Option ℕ) ℕ) (t : List ℕ) (slip : Slip) where
  pub after-greatest : (n : ℕ) (a : Result Answer ℕ) → f ≡ Ok (Some n) → a ≡ look_up_of t p → slip ≡ padded (slip_of a)
      → Gives (record { slip = slip; held = kind }) (filled_reply p f t)
  after-greatest n a e l s =
      gives slip kind (record { slip = slip_of (look_up_of t p); held = man_kind p; table = t }) (filled_reply p f t)
      (ap (λ (x : Result (Option ℕ) ℕ). filled_reply p x t) e) (s ∙ rw l) known

  pub after_none : (a : Result Answer ℕ) → f ≡ Ok None → a ≡ look_up_of t p → slip ≡ padded (slip_of a)
      → Gives (record { slip = slip; held = kind }) (filled_reply p f t)
  after_none a e l s =
      gives slip kind (record { slip = slip_of (look_up_of t p); held = man_kind p; table = t }) (filled_reply p f t)
      (ap (λ (x : Result (Option ℕ) ℕ). filled_reply p x t) e) (s ∙ rw l) known

  pub after-filled : (v : Option ℕ) (a : Result Answer ℕ) → f ≡ Ok v → a ≡ look_up_of t p → slip ≡ padded (slip_of a)
      → Gives (record { slip = slip; held = kind }) (filled_reply p f t)
  after-filled (Some n) a e l s = after-greatest n a e l s
  after-filled None a e l s = after_none a e l s

pub after-refused : (p : Position) (f : Result (Option ℕ) ℕ) (t : List ℕ) (slip : Slip) (n : ℕ) → f ≡ Err n
    → slip ≡ padded (slip_of (Err n)) → Gives (record { slip = slip; held = 4 }) (filled_reply p f t)
after-refused p f t slip n e s =
    gives slip 4 (record { slip = slip_of (Err n); held = 4; table = t }) (filled_reply p f t)
    (ap (λ (x : Result (Option ℕ) ℕ). filled_reply p x t) e) s refl

-- a position line, by the tests that lead to its reply; where the man's table is held, look-up itself asks the refusals
module _ (p : Position) (held : ℕ) (t : List ℕ) (kind : Piece) (known : kind ≡ man_in p.first) where
  kind-is : kind.kind ≡ man_kind p
  kind-is = ap (λ (m : Piece). m.kind) known

  look-held : man_kind p ≡ held → look_up_reply p held t ≡ record { slip = slip_of (look_up_of t p); held = held; table = t }
  unfolding look_up_reply look_up_of
  look-held m = go (eqb (standing_refusal p) 0) refl
    where
      go : (a : Bool) → eqb (standing_refusal p) 0 ≡ a
          → look_up_reply p held t ≡ record { slip = slip_of (look_up_of t p); held = held; table = t }
      go true s = rw (s, eq-eqb (man_kind p) held m)
      go false s = rw s

  pub held-position : (slip : Slip) (a : Result Answer ℕ) → kind.kind ≡ held → a ≡ look_up_of t p → slip ≡ padded (slip_of a)
      → Gives (record { slip = slip; held = held }) (look_up_reply p held t) × (t ≡ (look_up_reply p held t).table)
  held-position slip a m l s = let q = look-held (sym kind-is ∙ m) in
      (gives slip held _ (look_up_reply p held t) q (s ∙ rw l) refl, sym (ap (λ (o : LineOutcome). o.table) q))

  module _ (n : ℕ) (e : n ≡ standing_refusal p) where
    look-refused : (n ≡ 0 → ⊥)
        → look_up_reply p held t ≡ record { slip = slip_of (Err n); held = held; table = t }
    unfolding look_up_reply
    look-refused h = rw (← e, ne_eqb n 0 h)

    pub refused-position : (slip : Slip) → (n ≡ 0 → ⊥) → slip ≡ padded (slip_of (Err n))
        → Gives (record { slip = slip; held = held }) (look_up_reply p held t) × (t ≡ (look_up_reply p held t).table)
    refused-position slip h s = (
      gives slip held _ (look_up_reply p held t) (look-refused h) s refl,
      sym (ap (λ (o : LineOutcome). o.table) (look-refused h)),
    )

    look-filled : n ≡ 0 → (man_kind p ≡ held → ⊥)
        → look_up_reply p held t ≡ filled_reply p (fill_of (man_kind p) t).answer (fill_of (man_kind p) t).bytes
    unfolding look_up_reply
    look-filled z m = rw (← e, eq-eqb n 0 z, ne_eqb (man_kind p) held m)

    pub filled-position : (r : Reply) (f : Result (Option ℕ) ℕ) (u : List ℕ) → n ≡ 0 → (kind.kind ≡ held → ⊥)
        → f ≡ (fill_of kind.kind t).answer → u ≡ (fill_of kind.kind t).bytes → Gives r (filled_reply p f u)
        → Gives r (look_up_reply p held t) × (u ≡ (look_up_reply p held t).table)
    filled-position r f u z m a' b' g =
        let q = look-filled z (λ h. m (kind-is ∙ h)) in
        let a : f ≡ (fill_of (man_kind p) t).answer = a' ∙ ap (λ (k : ℕ). (fill_of k t).answer) kind-is in
        let b : u ≡ (fill_of (man_kind p) t).bytes = b' ∙ ap (λ (k : ℕ). (fill_of k t).bytes) kind-is in (
          rw (q, ← a, ← b) g,
          b
              ∙ sym (ap (λ (o : LineOutcome). o.table) q
              ∙ filled-table (fill_of (man_kind p) t).answer (fill_of (man_kind p) t).bytes),
        )
      where
        filled-table : (f : Result (Option ℕ) ℕ) (v : List ℕ) → (filled_reply p f v).table ≡ v
        filled-table (Ok (Some k)) v = refl
        filled-table (Ok None) v = refl
        filled-table (Err k) v = refl

-- a line, by its request
module _ (line : List ℕ) (held : ℕ) (t : List ℕ) (q : Result Request ℕ) (e : q ≡ request_of line) where
  reply-is : (k : Result Request ℕ) → q ≡ k → reply_of line held t ≡ request_reply k held t
  unfolding reply_of
  reply-is k d = ap (λ (x : Result Request ℕ). request_reply x held t) (sym e ∙ d)

  pub position-line : (p : Position) (r : Reply) (u : List ℕ) → q ≡ Ok (Request.LookUp p)
      → Gives r (look_up_reply p held t) × (u ≡ (look_up_reply p held t).table) → LinePromise line held t r u
  position-line p r u d g =
      answered-by line held t r u (rw (reply-is (Ok (Request.LookUp p)) d) g.0)
      (g.1 ∙ sym (ap (λ (o : LineOutcome). o.table) (reply-is (Ok (Request.LookUp p)) d)))

  pub number-line : (kind n : ℕ) (slip : Slip) (a : Result Position ℕ) → q ≡ Ok (Request.Back kind n) → a ≡ placed_at kind n
      → slip ≡ padded (placed_slip a) → LinePromise line held t (record { slip = slip; held = held }) t
  number-line kind n slip a d l s =
      answered-by line held t _ t
      (gives slip held _ (reply_of line held t) (reply-is (Ok (Request.Back kind n)) d) (s ∙ rw l) refl)
      (sym (ap (λ (o : LineOutcome). o.table) (reply-is (Ok (Request.Back kind n)) d)))

  pub refused-line : (n : ℕ) (slip : Slip) → q ≡ Err n → slip ≡ padded (slip_of (Err n))
      → LinePromise line held t (record { slip = slip; held = held }) t
  refused-line n slip d s =
      answered-by line held t _ t (gives slip held _ (reply_of line held t) (reply-is (Err n) d) s refl)
      (sym (ap (λ (o : LineOutcome). o.table) (reply-is (Err n) d)))
