-- The rule of the 640-entry list, over the whole of it: each entry is the pair of its two squares or says that there is none; the pairs rise, are
-- below 462, and each stands once.
use Rattle.std.specs.Prelude.{◌≡◌, refl, Bool, not, ℕ, ◌+◌, ◌*◌, ◌<◌, T, eqb, get_or}
use Rattle.std.proofs.Common.{ap, subst, sym, ◌∙◌, arith, eqb→eq, ne_eqb}
use Rattle.finite.specs.Truth.{implies, implied, of-true}
use Rattle.finite.specs.Members.{any}
use Rattle.finite.specs.Numbers.{numbers}
use Rattle.finite.specs.Below.{all_below, below}
use Rattle.finite.specs.Ranked.{rank, select, pass, passed, rank_rises, rank-one, selected}
use Rattle.board.specs.Square.{stays, shift}
use Rattle.board.specs.Reach.{line, reaches}
use Rattle.numbering.specs.Kings.{cornered, separate, king_rule, king_pair, pair_of}
use Rattle.pairs.specs.Tables.{whites, firsts, slot_of, pairs}
use Rattle.pairs.proofs.laws.TableLaws.{entry-pair}

-- ---- equal to the definition

slot-back : ℕ → Bool
slot-back j = eqb (slot_of (get_or whites j 0)) j

all_back : T (all_below slot-back 10)
unfolding all_below slot-back slot_of
all_back = tt

pub entry-is : (slot black : ℕ) → slot < 10 → black < 64
    → get_or pairs (slot * 64 + black) 0 ≡ pair_of (get_or whites slot 0) black
unfolding slot-back
entry-is slot black h k =
    let w = get_or whites slot 0 in
    let e = eqb→eq (slot_of w) slot (below slot-back 10 all_back slot h) in
    subst (λ (i : ℕ). get_or pairs (i * 64 + black) 0 ≡ pair_of w black) e (entry-pair w black k (omega arith))

-- the first pair of each of the ten squares
first-right : ℕ → Bool
first-right j = eqb (rank king_pair (get_or whites j 0 * 64)) (get_or firsts j 0)

all_firsts : T (all_below first-right 10)
unfolding all_below first-right rank king_pair king_rule cornered separate reaches any numbers line shift stays
all_firsts = tt

pub first-pair : (j : ℕ) → j < 10 → rank king_pair (get_or whites j 0 * 64) ≡ get_or firsts j 0
unfolding first-right
first-pair j h = eqb→eq (rank king_pair (get_or whites j 0 * 64)) (get_or firsts j 0) (below first-right 10 all_firsts j h)

-- ---- rising, in range, each once

-- the entry is a pair
unfoldable pub present : ℕ → Bool
present i = not (eqb (get_or pairs i 0) 65535)

counts : ℕ → ℕ → Bool
counts i c = implies (present i) (eqb (get_or pairs i 0) c)

all-count : T (pass present counts 640 0 0)
unfolding pass counts present pairs
all-count = tt

present-count : rank present 640 ≡ 462
unfolding rank present pairs
present-count = refl

-- an entry is the count of those before it
entry-rank : (i : ℕ) → i < 640 → T (present i) → get_or pairs i 0 ≡ rank present i
unfolding counts
entry-rank i h t =
    eqb→eq (get_or pairs i 0) (rank present i)
    (implied (present i) (eqb (get_or pairs i 0) (rank present i)) (passed present counts 640 all-count i h) t)

pub entries-rise : (i j : ℕ) → i < j → j < 640 → T (present i) → T (present j) → get_or pairs i 0 < get_or pairs j 0
entries-rise i j h k s t = rw (entry-rank i (omega arith) s, entry-rank j k t) (rank_rises present i j s h)

pub entry-range : (i : ℕ) → i < 640 → T (present i) → get_or pairs i 0 < 462
entry-range i h t = rw (entry-rank i h t, ← present-count) (rank_rises present i 640 t h)

pub record Once (pair : ℕ) : Type 0 where
  pub at : ℕ
  pub under : at < 640
  pub holds : get_or pairs at 0 ≡ pair
  pub only : (j : ℕ) → j < 640 → get_or pairs j 0 ≡ pair → j ≡ at

pub entry-once : (pair : ℕ) → pair < 462 → Once pair
unfolding present
entry-once pair h =
    let s = selected present 640 pair (rw present-count h) in
    let i = select present 640 pair in
    let e = entry-rank i s.under s.passes ∙ s.ranked in
    record {
      at = i;
      under = s.under;
      holds = e;
      only = λ j k f.
          let t = of-true (ap not (ne_eqb (get_or pairs j 0) 65535 (λ z. absurd (omega arith)))) in
          rank-one present j i t s.passes (sym (entry-rank j k t) ∙ f ∙ sym s.ranked);
    }
