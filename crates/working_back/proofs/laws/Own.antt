-- The numbers of this table that hold depth k - 1, one after the other.
use Rattle.std.specs.Prelude.{◌≡◌, ◌⊎◌, List, ℕ, ◌+◌, ◌*◌, ◌<◌, ◌≤◌, T, length, Some}
use Rattle.std.proofs.Common.{sym, subst, ◌∙◌, inl, inr, ⊎_elim, arith}
use Rattle.std.proofs.Math.Path.{ap, subst⁻¹}
use Rattle.std.proofs.Math.ListN.{get_or}
use Rattle.finite.specs.Truth.{and_right, of-true, le-or-lt, and_left, true_of}
use Rattle.table_theory.specs.Tables.{Numbering, settles, reads}
use Rattle.table_theory.proofs.laws.Acceptance.{reads-inside}
use Rattle.rules.specs.Rules.{Board, legal}
use Rattle.rules.specs.Chess.{chess}
use Rattle.numbering.specs.Keys.{board_at}
use Rattle.numbering.specs.Number.{number_of, used}
use Rattle.numbering.specs.Material.{men_of, known}
use Rattle.position.specs.declared.Men.{Men}
use Rattle.position.specs.declared.Place.{Place}
use Rattle.position.specs.Posed.{board_in, material_for}
use Rattle.index.specs.Seats.{StandsAt}
use Rattle.index.proofs.laws.CompleteLaws.{used-complete}
use Rattle.index.proofs.laws.EndingsLaws.{pieces-number}
use Rattle.four_men.specs.Reading.{numbered, legal_number_of}
use Rattle.four_men.proofs.laws.Numbered.{live-is, live_at}
use Rattle.successors.specs.Successors.{StandingAt}
use Rattle.retracting.specs.Retracting.{LegalLeft}
use Rattle.retracting.proofs.laws.Sources.{all_left}
use Rattle.working_back.specs.Admitted.{over, Admitted}
use Rattle.working_back.specs.Trying.{Midway, Went, Ready, Alive}
use Rattle.working_back.specs.Back.{Ripe, TriesInto, TriedAt, TriesAt, SweepsOwn}
use Rattle.working_back.proofs.laws.Admitted.{sized, in_size}
use Rattle.working_back.proofs.laws.Few.{few-none, few-then, few-most}
use Rattle.working_back.proofs.laws.Trying.{went-none, went_then, tried-kept, byte-stands}

-- a number in tables of one length
pub within : (r a b c : ℕ) → r ≤ a → a ≡ b → b ≡ c → r ≤ c
within r a b c h e f = omega arith

pub not_last : (j a b : ℕ) → j < b → a ≡ b → j + 1 ≤ a
not_last j a b h e = omega arith

-- what stands at a live number
pub standing-live : (m : Men) (j : ℕ) (q : Place) → T (known (material_for m)) → StandsAt m j q → T (legal_number_of (material_for m) j)
    → StandingAt m j (Some q)
standing-live m j q w s t = (
  true_of t,
  used-complete m j q s
      (and_left (used (board_at (men_of (material_for m)) j)) (legal (board_at (men_of (material_for m)) j)) (subst T (live-is (material_for m) w j) t)),
  s.board,
)

pub alive-number : (m : Men) (first second t : List ℕ) → Admitted m first second t → (j b : ℕ) → Alive chess (over m first second) t → get_or t j 0 ≡ 1 + b
    → T (legal_number_of (material_for m) j)
unfolding numbered
alive-number m first second t w j b a e = a j (λ z. omega (arith, e, z))

-- ---- a turn of the pass: one number of depth k - 1

module _ (m : Men) (first second : List ℕ) (k : ℕ) (u : List ℕ) (a : Admitted m first second u) where
  abbrev N : Numbering chess
  N = over m first second

  long-own : (t : List ℕ) → Midway chess N k t u → length t ≡ N.size
  long-own t w = sym w.long ∙ sized m first second u a

  pub own-start : SweepsOwn m first second k 0 u u 0
  own-start = (
    few-none k 0 u,
    λ t w r. (went-none chess N k t (long-own t w) u w, λ i h. absurd (omega arith)),
  )

  pub own_turn : (v x : List ℕ) (j did more : ℕ) → SweepsOwn m first second k j u v did → TriesAt m first second k j v x more
      → SweepsOwn m first second k (j + 1) u x (did + more)
  own_turn v x j did more f g = (
    few-most k (192 * j + 192) (192 * (j + 1)) u x (did + more) (omega arith) (few-then k (192 * j) 192 u v x did more f.0 g.0),
    λ t w r.
        let p = f.1 t w r in
        let y = g.1 t p.0.midway r in (
          went_then chess N k t (long-own t w) u v x did more p.0 y.0,
          λ i h e. turn t (long-own t w) i h e y.0 p.1 y.1 (le-or-lt j i),
        ),
  )
    where
      turn : (t : List ℕ) → length t ≡ N.size → (i : ℕ) → i < j + 1 → get_or t i 0 ≡ 1 + k → Went chess N k t v x more
          → ((i : ℕ) → i < j → get_or t i 0 ≡ 1 + k → TriedAt m first second k t v i)
          → (get_or t j 0 ≡ 1 + k → TriedAt m first second k t x j) → (j ≤ i) ⊎ (i < j) → TriedAt m first second k t x i
      turn t long i h e w p y (inl z) =
          let q : i ≡ j = omega (arith, h, z) in
          subst⁻¹ (λ (n : ℕ). TriedAt m first second k t x n) q (y (subst (λ (n : ℕ). get_or t n 0 ≡ 1 + k) q e))
      turn t long i h e w p y (inr z) = λ live.
          let q = p i z e live in (
            q.0,
            q.1,
            q.2,
            λ o from to l. tried-kept chess N k t long v x more (number_of (board_in m o)) w (q.3 o from to l),
          )

  pub own-end : (v : List ℕ) (j did size : ℕ) → j ≡ size → SweepsOwn m first second k j u v did
      → SweepsOwn m first second k size u v did
  own-end v j did size e f = subst (λ (i : ℕ). SweepsOwn m first second k i u v did) e f

  -- no number from j on, below i, holds that depth
  pub own-skip : 0 < k → (v : List ℕ) (j i did : ℕ) → j ≤ i → ((n : ℕ) → j ≤ n → n < i → get_or v n 0 ≡ 1 + k → ⊥)
      → SweepsOwn m first second k j u v did → SweepsOwn m first second k i u v did
  own-skip some v j i did h none f = (
    few-most k (192 * j) (192 * i) u v did (omega (arith, h)) f.0,
    λ t w r. let p = f.1 t w r in (
      p.0,
      λ n g e. ⊎_elim (λ x. absurd (none n x g (byte-stands chess N k t some v p.0.midway n e))) (λ x. p.1 n x e)
          (le-or-lt j n),
    ),
  )

module _ (m : Men) (first second : List ℕ) (k j : ℕ) where
  pub place-legal : (q : Place) → StandingAt m j (Some q) → LegalLeft m q 0
  place-legal q w =
      all_left m q w.1
      (subst⁻¹ (λ (b : Board). T (legal b)) w.2
      (and_right (used (board_at (men_of (material_for m)) j)) (legal (board_at (men_of (material_for m)) j))
      (subst T (live-is (material_for m) w.1.ending j) (of-true w.0))))

  module _ (u : List ℕ) (a : Admitted m first second u) where
    -- its byte in the table before the pass
    byte-was : (t : List ℕ) → Midway chess (over m first second) k t u → get_or u j 0 ≡ 1 + k → get_or t j 0 ≡ 1 + k
    byte-was t w e = go (w.byte j)
      where
        go : (get_or u j 0 ≡ get_or t j 0) ⊎ (T (settles chess (over m first second) k t j) × (get_or u j 0 ≡ 2 + k))
            → get_or t j 0 ≡ 1 + k
        go (inl x) = sym x ∙ e
        go (inr x) = absurd (omega (arith, e, x.1))

    ripe-at : (q : Place) → StandingAt m j (Some q) → j < length u → (t : List ℕ) → get_or t j 0 ≡ 1 + k
        → Ready chess (over m first second) k t → Ripe m first second k t q
    unfolding numbered
    ripe-at q w h t e r =
        let M = material_for m in
        let x = live_at M w.1.ending j (in_size m first second u a j h) (of-true w.0) in
        record {
          ready = r;
          byte = ap (reads chess (over m first second) t) w.2
              ∙ reads-inside chess (over m first second) t (board_at (men_of M) j) x.1
              ∙ ap (λ (f : Board → ℕ). get_or t (f (board_at (men_of M) j)) 0) (pieces-number M w.1.ending)
              ∙ ap (λ (i : ℕ). get_or t i 0) x.2 ∙ e;
        }

    pub at-legal : (q : Place) (v : List ℕ) (did : ℕ) → j < length u → get_or u j 0 ≡ 1 + k → StandingAt m j (Some q)
        → TriesInto m first second k q u v did → TriesAt m first second k j u v did
    at-legal q v did h e w f = (
      f.0,
      λ t x r. let p = f.1 t x (ripe-at q w h t (byte-was t x e) r) in (p.0, λ e live. (q, w.1, w.2, p.1)),
    )
