-- One step, by what its pass settles; a step keeps the table's length, and repeats what was said. With nothing lent the greatest depth is k - 1,
-- whatever the progress holds.
use Rattle.std.specs.Prelude.{◌≡◌, Bool, cond, ◌&&◌, List, ℕ, zero, suc, ◌<◌, ◌≤◌, min, eqb}
use Rattle.std.proofs.Math.Path.{refl, sym}
use Rattle.std.proofs.Common.{ap, arith}
use Rattle.std.proofs.Math.Bool.{true, false, not}
use Rattle.std.proofs.Math.Dec.{leb}
use Rattle.std.proofs.Math.ListN.{length}
use borrow.Author.Tests.{le-leb, lt-leb, ne_eqb}
use Rattle.finite.specs.Below.{all_below}
use Rattle.finite.specs.Ranked.{rank, rank_most}
use Rattle.finite.specs.Mapped.{map_from, length-map_from}
use Rattle.theory.specs.Game.{Game}
use Rattle.table_theory.specs.declared.Progress.{Progress}
use Rattle.table_theory.specs.Tables.{Numbering, too_deep, ended, settles, some_settles, pass_byte, passed}
use Rattle.table_theory.specs.Lending.{done_at}
use Rattle.table_theory.specs.Steps.{going_on, said_done, gave_ten, settled, ends, Stepped, settled_by, last_before, step_at, step_from}

-- ---- how many numbers a pass settles

module _ (G : Game) (N : Numbering G) (k : ℕ) (t : List ℕ) where
  pub settled-most : settled_by G N k t ≤ N.size
  unfolding settled_by
  settled-most = rank_most (settles G N k t) N.size

  -- some, exactly where it settles some
  pub settled-some : some_settles G N k t ≡ not (eqb (settled_by G N k t) 0)
  unfolding some_settles settled_by all_below rank
  settled-some = go N.size
    where
      turn : (b a : Bool) (r : ℕ) → not a ≡ not (eqb r 0) → not (not b && a) ≡ not (eqb (cond b (suc r) r) 0)
      turn true a r e = sym (ap not (ne_eqb (suc r) 0 (λ z. omega arith)))
      turn false a r e = e

      go : (n : ℕ) → not (all_below (λ m. not (settles G N k t m)) n) ≡ not (eqb (rank (settles G N k t) n) 0)
      go zero = refl
      go (suc n) =
          turn (settles G N k t n) (all_below (λ m. not (settles G N k t m)) n) (rank (settles G N k t) n) (go n)

-- ---- one step

module _ (G : Game) (N : Numbering G) (deeper : ℕ → Bool) (k last : ℕ) (t : List ℕ) where
  abbrev before : ℕ
  before = last_before G N deeper k last

  pub step-done : some_settles G N k t ≡ false → deeper k ≡ false
      → step_at G N deeper k last t ≡ record { said = ends (ended before); progress = said_done k before; bytes = t }
  unfolding step_at
  step-done e d = rw (e, d)

  pub step-more : k < 254 → some_settles G N k t ≡ true
      → step_at G N deeper k last t
      ≡ record { said = settled (settled_by G N k t); progress = going_on (suc k) (suc k); bytes = passed G N k t }
  unfolding step_at
  step-more h e = rw (e, lt-leb 254 k h)

  pub step_skip : some_settles G N k t ≡ false → deeper k ≡ true
      → step_at G N deeper k last t
      ≡ record { said = settled (settled_by G N k t); progress = going_on (suc k) before; bytes = passed G N k t }
  unfolding step_at
  step_skip e d = rw (e, d)

  pub step-deep : 254 ≤ k → some_settles G N k t ≡ true
      → step_at G N deeper k last t
      ≡ record { said = ends too_deep; progress = gave_ten k before; bytes = map_from (λ n b. 0) 0 t }
  unfolding step_at
  step-deep h e = rw (e, le-leb 254 k h)

  pub step-length : length (step_at G N deeper k last t).bytes ≡ length t
  unfolding step_at passed
  step-length = go (done_at G N deeper k t) (some_settles G N k t && leb 254 k)
    where
      go : (a b : Bool)
          → length (cond {A = Stepped} a
          (record { said = ends (ended before); progress = said_done k before; bytes = t })
          (cond b (record { said = ends too_deep; progress = gave_ten k before; bytes = map_from (λ n b. 0) 0 t })
          (record {
            said = settled (settled_by G N k t);
            progress = going_on (suc k) (cond (some_settles G N k t) (suc k) before);
            bytes = passed G N k t;
          }))).bytes
          ≡ length t
      go true b = refl
      go false true = length-map_from (λ n b. 0) 0 t
      go false false = length-map_from (pass_byte G N k t) 0 t

module _ (G : Game) (N : Numbering G) (deeper : ℕ → Bool) (p : Progress) (t : List ℕ) where
  pub from-going : p.stage ≡ 0 → step_from G N deeper p t ≡ step_at G N deeper (min p.next 254) p.last t
  unfolding step_from
  from-going e = rw e

  pub from-done : p.stage ≡ 1
      → step_from G N deeper p t ≡ record { said = ends (ended p.last); progress = p; bytes = t }
  unfolding step_from
  from-done e = rw e

  pub from-ten : (p.stage ≡ 0 → ⊥) → (p.stage ≡ 1 → ⊥)
      → step_from G N deeper p t ≡ record { said = ends too_deep; progress = p; bytes = t }
  unfolding step_from
  from-ten a b = rw (ne_eqb p.stage 0 a, ne_eqb p.stage 1 b)

  pub from-length : length (step_from G N deeper p t).bytes ≡ length t
  unfolding step_from
  from-length = go (eqb p.stage 0) (eqb p.stage 1)
    where
      go : (a b : Bool)
          → length
          (cond {A = Stepped} a (step_at G N deeper (min p.next 254) p.last t)
          (cond b (record { said = ends (ended p.last); progress = p; bytes = t })
          (record { said = ends too_deep; progress = p; bytes = t }))).bytes ≡ length t
      go true b = step-length G N deeper (min p.next 254) p.last t
      go false true = refl
      go false false = refl

-- ---- nothing lent

-- "with greatest depth k - 1, or none decided at k = 0", on any progress with that k
pub last-alone : (G : Game) (N : Numbering G) (k last : ℕ) → last_before G N (λ n. false) k last ≡ k
last-alone G N zero last = refl
last-alone G N (suc k) last = refl
