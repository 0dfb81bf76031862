-- The fill in steps (02, P8). On any bytes: what a step writes, what it says where it settles none, how many it
-- settles. From a start: n steps leave the true byte wherever the depth is less than n and the starting byte elsewhere,
-- no 10 given; a run that has ended leaves what the single fill leaves, and stays so; it gives 10 exactly where the
-- single fill does.
use Rattle.std.specs.Prelude.{◌≡◌, Bool, cond, not, ◌⊎◌, ◌↔◌, leb, eqb, length, Err, Option, Result}
use Rattle.std.proofs.Math.Path.{refl, sym, ap, subst}
use Rattle.std.proofs.Common.{◌∙◌, inl, inr, zero-add}
use Rattle.std.proofs.Math.Bool.{true, false}
use mathlib.Core.List.{List}
use Prim.Native.Nat.{ℕ, zero, suc, ◌+◌, ◌<◌, ◌≤◌, min}
use native.Mathlib.Omega.{arith}
use Rattle.std.proofs.Math.Dec.{T}
use Rattle.std.proofs.Math.ListN.{get_or}
use borrow.Author.Tests.{lt-leb, eq-eqb}
use Rattle.finite.specs.Truth.{le-or-lt}
use Rattle.finite.specs.Mapped.{get_d-map_from, length-map_from}
use Rattle.theory.specs.Value.{DepthIs}
use Rattle.theory.proofs.laws.Depth.{draw-is}
use Rattle.theory.proofs.laws.Alike.{flip, alike-depth}
use Rattle.theory.proofs.laws.Passes.{Settled}
use Rattle.table_theory.specs.declared.Progress.{Progress}
use Rattle.table_theory.specs.Tables.{Result as FillEnd, too_deep, Outcome, ended, settles, some_settles, start_byte, pass_byte, passed}
use Rattle.table_theory.specs.Lending.{filled_until}
use Rattle.table_theory.proofs.laws.LendingLaws.{filled-same}
use Rattle.table_theory.specs.Steps as over
use Rattle.table_theory.specs.Steps.{going_on, Said, settled, ends, settled_by, started, step_at, step_from, steps}
use Rattle.table_theory.proofs.laws.StepLaws.{settled-most, step-done, step-more, step-deep, from-length}
use Rattle.table_theory.proofs.laws.StepsTrue as runs
use Rattle.rules.specs.declared.Piece.{Piece}
use Rattle.rules.specs.Rules.{Board, empty}
use Rattle.rules.specs.Chess.{chess}
use Rattle.position.specs.declared.Position.{Position}
use Rattle.position.specs.Keyed.{board_of, man_kind}
use Rattle.position.specs.Refusals.{standing_refusal}
use Rattle.numbering.specs.Number.{number_of}
use Rattle.endings.specs.Ending.{Ending, table_size, lone_board_at, legal_number, ending}
use Rattle.endings.proofs.laws.EndingLaws.{Turned, turned-alike, lawful, outer-true, outer-drawn}
use Rattle.endings.proofs.laws.Checking.{keyed-lone, keyed-ending}
use Rattle.endings.specs.Answers.{result_of, Fill, fill_of}
use Rattle.filling.proofs.laws.Laws.{passed_none}
use Rattle.filling.specs.Steps.{Stepped, Taken, said_of, taken_of, refused, admitted, none_deeper, start_of, step_alone, step_of, steps_of, settled_of}
use Rattle.filling.proofs.laws.StepLaws.{size_is, start_is, step_is, step-going, alone-done, alone-more}

-- ---- on any bytes

module _ (kind : ℕ) (t : List ℕ) (p : Progress) (known : kind < 4) (long : length t ≡ table_size) (on : p.stage ≡ 0)
  where
    abbrev k : ℕ
    k = min p.next 254

    -- A STEP THAT SETTLES NONE SAYS DONE, with greatest depth k - 1, or none decided at k = 0, and the table stays:
    -- whatever the progress holds as last.
    pub step-none : some_settles chess (ending kind) k t ≡ false
        → ((step_of kind t p).step.said ≡ Stepped.Says (result_of (ended k))) × ((step_of kind t p).bytes ≡ t)
    step-none e = let z = step-going kind t known long p on
        ∙ alone-done kind k t e in (ap (λ (s : Taken). s.step.said) z, ap (λ (s : Taken). s.bytes) z)

    step-passed : k < 254 → (step_of kind t p).bytes ≡ passed chess (ending kind) k t
    step-passed h =
        ap (λ (s : Taken). s.bytes) (step-going kind t known long p on) ∙ go (some_settles chess (ending kind) k t) refl
      where
        go : (b : Bool) → some_settles chess (ending kind) k t ≡ b
            → (step_alone kind k t).bytes ≡ passed chess (ending kind) k t
        go true z = ap (λ (s : Taken). s.bytes) (alone-more kind k t h z)
        go false z = ap (λ (s : Taken). s.bytes) (alone-done kind k t z)
            ∙ sym (passed_none chess (ending kind) k t (long ∙ sym (size_is kind)) z)

    -- THE STEP WRITES 2 + k AT EXACTLY THE LEGAL NUMBERS THAT HOLD 1 AND OF WHICH THE BYTES BEFORE IT REQUIRE DEPTH k.
    pub step-writes : k < 254 → (i : ℕ) → i < table_size
        → get_or (step_of kind t p).bytes i 0 ≡ cond (settles chess (ending kind) k t i) (2 + k) (get_or t i 0)
    unfolding passed
    step-writes h i l =
        ap (λ (u : List ℕ). get_or u i 0) (step-passed h)
        ∙ get_d-map_from (pass_byte chess (ending kind) k t) 0 t i (subst (λ (s : ℕ). i < s) (sym long) l)
        ∙ ap (λ (j : ℕ). pass_byte chess (ending kind) k t j (get_or t i 0)) (zero-add i)

-- ---- how many numbers a call settles: no more than there are

module _ (kind : ℕ) (t : List ℕ) (p : Progress) where
  at_most : (k last : ℕ) → settled_of (said_of (step_at chess (ending kind) none_deeper k last t).said) ≤ table_size
  at_most k last = go (some_settles chess (ending kind) k t) refl (le-or-lt 254 k)
    where
      go : (b : Bool) → some_settles chess (ending kind) k t ≡ b → (254 ≤ k) ⊎ (k < 254)
          → settled_of (said_of (step_at chess (ending kind) none_deeper k last t).said) ≤ table_size
      go false e x = rw (step-done chess (ending kind) none_deeper k last t e refl) (omega arith)
      go true e (inl x) = rw (step-deep chess (ending kind) none_deeper k last t x e) (omega arith)
      go true e (inr x) =
          rw (step-more chess (ending kind) none_deeper k last t x e)
          (subst (λ (n : ℕ). settled_by chess (ending kind) k t ≤ n) (size_is kind)
          (settled-most chess (ending kind) k t))

  from-most : settled_of (said_of (step_from chess (ending kind) none_deeper p t).said) ≤ table_size
  unfolding step_from
  from-most = go (eqb p.stage 0) (eqb p.stage 1)
    where
      go : (a b : Bool)
          → settled_of
          (said_of (cond {A = over.Stepped} a (step_at chess (ending kind) none_deeper (min p.next 254) p.last t)
          (cond b (record { said = ends (ended p.last); progress = p; bytes = t })
          (record { said = ends too_deep; progress = p; bytes = t }))).said) ≤ table_size
      go true b = at_most (min p.next 254) p.last
      go false true = omega arith
      go false false = omega arith

  admitted-most : (s : Taken) → settled_of s.step.said ≤ table_size
      → settled_of (admitted kind t p s).step.said ≤ table_size
  unfolding admitted
  admitted-most s h = go (leb 4 kind) (not (eqb (length t) table_size))
    where
      go : (a b : Bool) → settled_of (cond a (refused 1 t p) (cond b (refused 7 t p) s)).step.said ≤ table_size
      go true b = omega arith
      go false true = omega arith
      go false false = h

  pub step-most : settled_of (step_of kind t p).step.said ≤ table_size
  unfolding step_of
  step-most = admitted-most (taken_of (step_from chess (ending kind) none_deeper p t)) from-most

pub start-most : (kind : ℕ) (t : List ℕ) → settled_of (start_of kind t).step.said ≤ table_size
unfolding start_of started
start-most kind t = admitted-most kind t (going_on 0 0) (taken_of (started chess (ending kind) t)) (omega arith)

-- ---- from a start

module _ (kind : ℕ) (t : List ℕ) (known : kind < 4) (long : length t ≡ table_size) where
  abbrev run : ℕ → Taken
  run n = steps_of kind n (start_of kind t)

  abbrev ran : ℕ → over.Stepped
  ran n = steps chess (ending kind) none_deeper n (started chess (ending kind) t)

  steps-is : (n : ℕ) (s : over.Stepped) → length s.bytes ≡ table_size
      → steps_of kind n (taken_of s) ≡ taken_of (steps chess (ending kind) none_deeper n s)
  unfolding steps_of steps
  steps-is zero s l = refl
  steps-is (suc n) s l =
      ap (steps_of kind n) (step_is kind s.bytes known l s.progress)
      ∙ steps-is n (step_from chess (ending kind) none_deeper s.progress s.bytes)
      (from-length chess (ending kind) none_deeper s.progress s.bytes ∙ l)

  steps-length : (n : ℕ) (s : over.Stepped)
      → length (steps chess (ending kind) none_deeper n s).bytes ≡ length s.bytes
  unfolding steps
  steps-length zero s = refl
  steps-length (suc n) s = steps-length n (step_from chess (ending kind) none_deeper s.progress s.bytes)
      ∙ from-length chess (ending kind) none_deeper s.progress s.bytes

  start-long : length (started chess (ending kind) t).bytes ≡ table_size
  unfolding started
  start-long = length-map_from (start_byte chess (ending kind)) 0 t ∙ long

  run_is : (n : ℕ) → run n ≡ taken_of (ran n)
  run_is n = ap (steps_of kind n) (start_is kind t known long) ∙ steps-is n (started chess (ending kind) t) start-long

  sized : length t ≡ (ending kind).size
  sized = long ∙ sym (size_is kind)

  -- bare kings have no depth
  none_lent : (b : Board) → Ending kind b → not (empty b.men) ≡ false → (n : ℕ) → DepthIs chess n b
      → T (none_deeper n)
  none_lent b d e n x = absurd ((draw-is chess b).0 (outer-drawn kind b d e) n x)

  fill_is : (o : Outcome) → filled_until chess (ending kind) none_deeper t ≡ o
      → fill_of kind t ≡ record { answer = result_of o.result; bytes = o.bytes }
  unfolding fill_of
  fill_is o e = rw (lt-leb 4 kind known, eq-eqb (length t) table_size long, ← filled-same chess (ending kind) t, e)

  abbrev outcome : Outcome
  outcome = filled_until chess (ending kind) none_deeper t

  -- what was said, from what the code's answer shows
  ends_of : (a : Said) (f : Result (Option ℕ) ℕ) → said_of a ≡ Stepped.Says f → (r : FillEnd) × (a ≡ ends r) × (f ≡ result_of r)
  ends_of (settled m) f e = let z : ◌≡◌ {A = ℕ} 0 1 = cc in absurd (omega arith)
  ends_of (ends r) f e = let z : f ≡ result_of r = cc in (r, refl, z)

  settled-of : (a : Said) (m : ℕ) → said_of a ≡ Stepped.Settled m → a ≡ settled m
  settled-of (settled n) m e = let z : n ≡ m = cc in ap settled z
  settled-of (ends r) m e = let z : ◌≡◌ {A = ℕ} 0 1 = cc in absurd (omega arith)

  said : (n : ℕ) (a : Stepped) → (run n).step.said ≡ a → said_of (ran n).said ≡ a
  said n a e = sym (ap (λ (s : Taken). s.step.said) (run_is n)) ∙ e

  -- A RUN THAT SAYS DONE LEAVES WHAT THE SINGLE FILL LEAVES, answer and every byte; so does one that gives 10.
  pub steps-fill : (n : ℕ) (f : Result (Option ℕ) ℕ) → (run n).step.said ≡ Stepped.Says f
      → (f ≡ (fill_of kind t).answer) × ((run n).bytes ≡ (fill_of kind t).bytes)
  unfolding ending lawful
  steps-fill n f e =
      let x = ends_of (ran n).said f (said n (Stepped.Says f) e) in
      let w = runs.steps-fill chess (ending kind) (lawful kind) none_deeper (outer-true kind) none_lent refl t sized n
      x.0 x.1 in (
        x.2 ∙ ap result_of w.0
            ∙ sym (ap (λ (o : Fill). o.answer) (fill_is outcome refl)),
        ap (λ (s : Taken). s.bytes) (run_is n) ∙ w.1
            ∙ sym (ap (λ (o : Fill). o.bytes) (fill_is outcome refl)),
      )

  -- 255 steps have ended.
  pub steps-end : (n m : ℕ) → 254 < n → (run n).step.said ≡ Stepped.Settled m → ⊥
  unfolding ending lawful
  steps-end n m h e =
      runs.steps-end chess (ending kind) (lawful kind) none_deeper (outer-true kind) none_lent refl t sized n m h
      (settled-of (ran n).said m (said n (Stepped.Settled m) e))

  -- THE SINGLE FILL GIVES 10 EXACTLY WHERE A RUN DOES.
  pub steps-ten : ((fill_of kind t).answer ≡ Err 10) ↔ ((n : ℕ)
      × ((run n).step.said ≡ Stepped.Says (Err 10)))
  steps-ten = (λ e. (255, go e (run 255).step.said refl), λ x. sym (steps-fill x.0 (Err 10) x.1).0)
    where
      go : (fill_of kind t).answer ≡ Err 10 → (a : Stepped) → (run 255).step.said ≡ a
          → (run 255).step.said ≡ Stepped.Says (Err 10)
      go e (Stepped.Settled m) f = absurd (steps-end 255 m (omega arith) f)
      go e (Stepped.Says g) f = f ∙ ap Stepped.Says ((steps-fill 255 g f).0 ∙ e)

  -- STEPS PAST THE END CHANGE NOTHING: neither the answer, nor the progress, nor a byte.
  pub steps-past : (n : ℕ) (f : Result (Option ℕ) ℕ) → (run n).step.said ≡ Stepped.Says f → (m : ℕ) → steps_of kind m (run n) ≡ run n
  unfolding ending lawful
  steps-past n f e m =
      let x = ends_of (ran n).said f (said n (Stepped.Says f) e) in
      ap (steps_of kind m) (run_is n) ∙ steps-is m (ran n) (steps-length n (started chess (ending kind) t) ∙ start-long)
      ∙ ap taken_of
      (runs.steps-past chess (ending kind) (lawful kind) none_deeper (outer-true kind) none_lent refl t sized n
      x.0 x.1 m) ∙ sym (run_is n)

  module _ (n : ℕ) (no-ten : (run n).step.said ≡ Stepped.Says (Err 10) → ⊥) where
    never : (ran n).said ≡ ends too_deep → ⊥
    never e = no-ten (ap (λ (s : Taken). s.step.said) (run_is n) ∙ ap said_of e)

    byte-is : (i : ℕ) → get_or (run n).bytes i 0 ≡ get_or (ran n).bytes i 0
    byte-is i = ap (λ (s : Taken). get_or s.bytes i 0) (run_is n)

    -- AFTER n STEPS A LEGAL NUMBER HOLDS ITS TRUE BYTE WHERE THE DEPTH IS LESS THAN n, and 1 elsewhere.
    pub steps-true : (i : ℕ) → i < table_size → T (legal_number kind i)
        → Settled chess n (lone_board_at kind i) (get_or (run n).bytes i 0)
    unfolding ending lawful
    steps-true i h v =
        subst (λ (b : ℕ). Settled chess n (lone_board_at kind i) b) (sym (byte-is i))
        (runs.steps-true chess (ending kind) (lawful kind) none_deeper (outer-true kind) none_lent refl t sized n never
        i h v)

    -- Every other number holds 0.
    pub steps-zero : (i : ℕ) → i < table_size → legal_number kind i ≡ false → get_or (run n).bytes i 0 ≡ 0
    unfolding ending lawful
    steps-zero i h v = byte-is i
        ∙ runs.steps-zero chess (ending kind) (lawful kind) none_deeper (outer-true kind) none_lent refl t sized n never
        i h v

    -- The same of every legal position of the ending, whichever map, with colours exchanged or not, makes it its
    -- number's own board.
    pub steps-keyed : (p : Position) → man_kind p ≡ kind → standing_refusal p ≡ 0
        → Settled chess n (board_of p) (get_or (run n).bytes (number_of (board_of p)) 0)
    unfolding ending lawful board_of
    steps-keyed p e z =
        let d = keyed-ending kind p e z in
        let i : T (not (empty (board_of p).men)) =
        subst (λ (l : List Piece). T (not (empty l))) (sym (keyed-lone kind p e z).1.1) tt in
        let v = (lawful kind).number-live (board_of p) d i in
        go (get_or (run n).bytes (number_of (board_of p)) 0) ((lawful kind).same_at (board_of p) d i)
        (steps-true (number_of (board_of p)) v.0 v.1)
      where
        go : (b : ℕ) → Turned kind (board_of p) (lone_board_at kind (number_of (board_of p)))
            → Settled chess n (lone_board_at kind (number_of (board_of p))) b → Settled chess n (board_of p) b
        go b s (Settled.yet none y) =
            Settled.yet
            (λ m h x. none m h
            (alike-depth chess chess (Turned kind) (turned-alike kind) m (board_of p)
            (lone_board_at kind (number_of (board_of p))) s x)) y
        go b s (Settled.done m h x z) =
            Settled.done m h
            (alike-depth chess chess (λ c q. Turned kind q c) (flip (turned-alike kind)) m
            (lone_board_at kind (number_of (board_of p))) (board_of p) s x) z
