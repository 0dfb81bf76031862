-- `working_back::look` meets its contract. The loop's invariant: the squares that are no longer in the rest do not save him.
use mathlib.Core.Path.{refl, sym, ap, subst⁻¹, ◌∙◌}
use mathlib.Core.Bool.{Bool, true, false}
use Prim.Native.Nat.{ℕ, ◌+◌}
use lib.Dec.{T, eqb}
use lib.ListN.{get_or}
use Rattle.finite.specs.Truth.{or_right, true-not-false}
use Rattle.theory.specs.Judge.{refutes}
use Rattle.board.specs.Sets.{has}
use Rattle.board.proofs.laws.LowestLaws.{lowest-first}
use Rattle.position.specs.declared.Men.{Men}
use Rattle.working_back.specs.Bare.{byte_on}
use Rattle.working_back.proofs.laws.Saved.{unpassed-start, unpassed-turn, unpassed-end, rest_in, known_more, common}
use Rattle.working_back.proofs.known.look.Goals as goal

pub returns-then-goals-saving-ne0 : goal.returns-then-goals-saving-ne0
returns-then-goals-saving-ne0 c =
    let x = c.args in
    let p = c.requires in
    let f = c.ranges in (
      record {
        one = λ e. common (λ (s : ℕ). refutes (2 + x.k) (byte_on x.m x.table.now x.white x.x x.y s)) x.goals x.saving f.goals.fits f.saving.fits c.if-goals-saving-ne0.true p.1.saves;
        none = λ e. absurd (true-not-false refl e);
      },
      p.1,
    )

pub loop-t-init : goal.loop-t-init
loop-t-init c =
    let x = c.args in
    let f : Men → ℕ → Bool = λ m s. refutes (2 + x.k) (byte_on m x.table.now x.white x.x x.y s) in
    rw (c.into_iter-t-iterator.ensures.into_iter_gives, c.squares_of-t-items.ensures) (
      rest_in (f x.m) x.goals x.harmless _ c.minus.ensures,
      λ m p. (unpassed-start (f m) x.goals x.harmless _ c.minus.ensures p.1.clears, p.1.clears),
    )

pub still_number-requires : goal.still_number-requires
still_number-requires c =
    let p = c.requires in
    ((lowest-first _ _ _ c.in-Some.ensures.steps).square, p.2.base-fits, p.2.unit-fits)

pub returns-then-refutes : goal.returns-then-refutes
returns-then-refutes c =
    let x = c.args in
    let p = c.requires in
    let l = c.loop-t in
    let t = c.in-Some.t in
    let z = lowest-first _ _ _ c.in-Some.ensures.steps in
    let g = l.invariant.0 t z.square z.here in
    let e = c.byte_of-c.ensures ∙ ap (λ (n : ℕ). get_or x.table.now n 0) (c.still_number.ensures x.m _ p.2 (p.0 t z.square g).0 (p.0 t z.square g).1) in
    let r = sym (c.refutes.ensures ∙ ap (refutes (2 + x.k)) e) ∙ c.if-refutes.true in (
      record { one = λ y. (t, z.square, g, r); none = λ y. absurd (true-not-false refl y) },
      record {
        saves = known_more (λ (s : ℕ). refutes (2 + x.k) (byte_on x.m x.table.now x.white x.x x.y s)) x.goals true x.saving _ t c.with.ensures p.1.saves r;
        clears = (l.invariant.1 x.m p).1;
      },
    )

pub loop-t-preserved : goal.loop-t-preserved
loop-t-preserved c =
    let x = c.args in
    let l = c.loop-t in
    let t = c.in-Some.t in
    let left = c.next.new.self.left in
    let w = lowest-first _ _ _ c.in-Some.ensures.steps in
    let g = l.invariant.0 t w.square w.here in
    let f : Men → ℕ → Bool = λ m s. refutes (2 + x.k) (byte_on m x.table.now x.white x.x x.y s) in (
      (λ j h u. l.invariant.0 j h (subst⁻¹ T (w.others j h) (or_right (eqb j t) (has left j) u))),
      λ m p.
          let e = c.byte_of-c.ensures ∙ ap (λ (n : ℕ). get_or x.table.now n 0) (c.still_number.ensures m _ p.2 (p.0 t w.square g).0 (p.0 t w.square g).1) in
          let r = sym (c.refutes.ensures ∙ ap (refutes (2 + x.k)) e) ∙ c.if-refutes.false in
          let v = l.invariant.1 m p in (
            unpassed-turn (f m) x.goals l.t-iterator.left left t v.0 w r,
            known_more (f m) x.goals false l.clear _ t c.with-clear.ensures v.1 r,
          ),
    )

pub returns : goal.returns
returns c =
    let x = c.args in
    let p = c.requires in
    let l = c.loop-t in (
      record {
        one = λ y. absurd (true-not-false y refl);
        none = λ y. unpassed-end (λ (s : ℕ). refutes (2 + x.k) (byte_on x.m x.table.now x.white x.x x.y s)) x.goals l.t-iterator.left c.in-None.ensures.steps.0 (l.invariant.1 x.m p).0;
      },
      record { saves = p.1.saves; clears = (l.invariant.1 x.m p).1 },
    )
