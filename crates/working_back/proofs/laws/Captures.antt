-- Captures taken back: the numbers of the lent tables that hold depth k - 1.
use Rattle.std.specs.Prelude.{◌≡◌, refl, Bool, true, cond, ◌⊎◌, List, ℕ, ◌+◌, ◌*◌, ◌<◌, ◌≤◌, T, eqb, length, Option, Some}
use Rattle.std.proofs.Common.{sym, subst, ◌∙◌, inl, inr, ⊎_elim, arith, lt-ltb, eq-eqb, ne_eqb}
use Rattle.std.proofs.Math.Path.{ap, ap₂, subst⁻¹}
use Rattle.std.proofs.Math.Bool.{false}
use Rattle.std.proofs.Math.ListN.{get_or, get_or-eq_default}
use Rattle.std.proofs.lemmas.Bool.{lt-leb}
use Rattle.finite.specs.Truth.{and_right, of-true, refuted, le-or-lt}
use Rattle.table_theory.specs.Tables.{Numbering}
use Rattle.table_theory.proofs.laws.Acceptance.{reads-outside}
use Rattle.rules.specs.Rules.{Board, legal}
use Rattle.rules.specs.Chess.{chess}
use Rattle.numbering.specs.declared.Material.{Material}
use Rattle.numbering.specs.Keys.{board_at}
use Rattle.numbering.specs.Number.{number_of, used}
use Rattle.numbering.specs.Material.{known, men_of, size_of}
use Rattle.numbering.proofs.laws.MaterialLaws.{one_piece}
use Rattle.position.specs.declared.Men.{Men}
use Rattle.position.specs.declared.Place.{Place}
use Rattle.position.specs.Posed.{board_in, material_for}
use Rattle.index.proofs.laws.PlaceLaws.{material-by}
use Rattle.four_men.specs.Lending.{lent}
use Rattle.four_men.specs.Reading.{full, legal_number_of, numbered}
use Rattle.four_men.proofs.laws.Numbered.{live-is, live_at}
use Rattle.successors.specs.Successors.{StandingAt}
use Rattle.retracting.specs.Retracting.{LegalLeft, lone_of, left_place}
use Rattle.retracting.proofs.laws.Leaving.{left-lone, left-number, left-legal}
use Rattle.working_back.specs.Admitted.{over, Admitted}
use Rattle.working_back.specs.Trying.{Midway, Went, Ready}
use Rattle.working_back.specs.Back.{NoneFrom, Ripe, TriesInto, Which, lent_of, TriedLone, TriesLone, Sweeps, SweepsAll}
use Rattle.working_back.proofs.laws.Admitted.{sized, lent-long}
use Rattle.working_back.proofs.laws.Few.{few-none, few-then, few-most}
use Rattle.working_back.proofs.laws.Trying.{went-none, went_then, tried-kept}
use Rattle.working_back.proofs.laws.Lone.{two-known, kinds-small, lone-read}

-- the lent tables are as long as a table of one man
pub lent-of-long : (m : Men) (first second u : List ℕ) → Admitted m first second u → m.second < 4 → (taken : ℕ)
    → length (lent_of m first second taken) ≡ 59136
lent-of-long m first second u a two taken = go (eqb (lone_of m taken).first m.first) (lent-long m first second u a two)
  where
    go : (x : Bool) → (length first ≡ 59136) × (length second ≡ 59136) → length (cond x first second) ≡ 59136
    go true e = e.0
    go false e = e.1

pub into-at : (m : Men) (first second : List ℕ) (k : ℕ) (p q : Place) (u v : List ℕ) (did : ℕ) → p ≡ q
    → TriesInto m first second k p u v did → TriesInto m first second k q u v did
into-at m first second k p q u v did e f = subst (λ (x : Place). TriesInto m first second k x u v did) e f

pub sweeps-at : (m : Men) (first second : List ℕ) (k taken i j : ℕ) (u v : List ℕ) (did : ℕ) → i ≡ j
    → Sweeps m first second k taken i u v did → Sweeps m first second k taken j u v did
sweeps-at m first second k taken i j u v did e f = subst (λ (x : ℕ). Sweeps m first second k taken x u v did) e f

pub lent-small : (m : Men) (first second u : List ℕ) → Admitted m first second u → m.second < 4 → (taken : ℕ) (small : List ℕ)
    → small ≡ lent_of m first second taken → length small ≡ 59136
lent-small m first second u a two taken small e = ap length e ∙ lent-of-long m first second u a two taken

-- which table it is
pub lent-second : (m : Men) (first second : List ℕ) → first ≡ lent_of m first second 2
lent-second m first second = sym (ap (λ (x : Bool). cond x first second) (eq-eqb m.first m.first refl))

pub lent-like : (m : Men) (first second : List ℕ) → m.second ≡ m.first → first ≡ lent_of m first second 1
lent-like m first second e = sym (ap (λ (x : Bool). cond x first second) (eq-eqb m.second m.first e))

pub lent-unlike : (m : Men) (first second : List ℕ) → (m.second ≡ m.first → ⊥) → second ≡ lent_of m first second 1
lent-unlike m first second n = sym (ap (λ (x : Bool). cond x first second) (ne_eqb m.second m.first n))

module _ (m : Men) (first second : List ℕ) (k : ℕ) (u : List ℕ) (a : Admitted m first second u) where
  abbrev G : Numbering chess
  G = over m first second

  long_of : (t : List ℕ) → Midway chess G k t u → length t ≡ G.size
  long_of t w = sym w.long ∙ sized m first second u a

  module _ (two : m.second < 4) (taken : ℕ) (which : Which taken) (j : ℕ) where
    pieces : T (known (material_for m))
    pieces = two-known m a.ending two

    -- the man left alone is a piece
    abbrev kind : ℕ
    kind = (lone_of m taken).first

    kind-known : T (known (Material.One kind))
    kind-known = subst⁻¹ T (lt-ltb kind 4 (kinds-small m first second u a two taken)) tt

    lone_is : material_for (lone_of m taken) ≡ Material.One kind
    lone_is = one_piece kind (kinds-small m first second u a two taken)

    module _ (t : Place) (w : StandingAt (lone_of m taken) j (Some t)) where
      legal-lone : T (legal (board_in (lone_of m taken) t))
      legal-lone =
          let M = material_for (lone_of m taken) in
          subst⁻¹ (λ (b : Board). T (legal b)) w.2
          (and_right (used (board_at (men_of M) j)) (legal (board_at (men_of M) j))
          (subst T (live-is M w.1.ending j) (of-true w.0)))

      pub lone-left : LegalLeft m (left_place m taken t) taken
      lone-left = left-legal m pieces a.colour two taken which t w.1 legal-lone

      ripe-lone : j < 59136 → get_or (lent_of m first second taken) j 0 ≡ 1 + k → (x : List ℕ) → Ready chess G k x
          → Ripe m first second k x (left_place m taken t)
      unfolding numbered
      ripe-lone h e x r =
          let o = left-lone m pieces a.colour two taken which t w.1 legal-lone in
          let M = material-by m false (lt-leb 4 m.second two) in
          let q = board_in m (left_place m taken t) in
          let f : full (material_for m) q.men ≡ false =
          ap₂ full M o.2 in
          record {
            ready = r;
            byte = reads-outside chess G x q f
                ∙ lone-read m (lent first second) (material_for m) kind o.0 o.1 q M o.2
                ∙ ap (λ (i : ℕ). get_or (lent_of m first second taken) i 0)
                (left-number m pieces a.colour two taken which t w.1 legal-lone ∙ ap number_of w.2
                ∙ (live_at (material_for (lone_of m taken)) w.1.ending j
                (subst⁻¹ (λ (x : Material). j < size_of x) lone_is h) (of-true w.0)).2)
                ∙ e;
          }

      pub lone-tried : j < 59136 → get_or (lent_of m first second taken) j 0 ≡ 1 + k → (v : List ℕ) (did : ℕ)
          → TriesInto m first second k (left_place m taken t) u v did → TriesLone m first second k taken j u v did
      lone-tried h e v did f = (
        f.0,
        λ x y r. let p = f.1 x y (ripe-lone h e x r) in
            (p.0, λ e live. (t, w.1, w.2 ∙ ap (λ (x : Material). board_at (men_of x) j) lone_is, p.1)),
      )

    pub lone-nothing : legal_number_of (material_for (lone_of m taken)) j ≡ false → TriesLone m first second k taken j u u 0
    lone-nothing z = (
      few-none k _ u,
      λ x y r. (
        went-none chess G k x (long_of x y) u y,
        λ e live. absurd (refuted (ap (λ (x : Material). legal_number_of x j) (sym lone_is) ∙ z) live),
      ),
    )

    -- what the code finds there
    module _ (small : List ℕ) (es : small ≡ lent_of m first second taken) (h : j < length small) where
      pub lone-in : j < 59136
      lone-in = let z = lent-of-long m first second u a two taken in omega (arith, h, ap length es ∙ z)

      pub lone-standing : (men : Men) (s : Option Place) → men ≡ lone_of m taken
          → (T (known (material_for men)) → men.colour < 2 → j < size_of (material_for men) → StandingAt men j s)
          → StandingAt (lone_of m taken) j s
      lone-standing men s e f =
          subst (λ (x : Men). T (known (material_for x)) → x.colour < 2 → j < size_of (material_for x) → StandingAt x j s) e f
          (subst⁻¹ (λ (x : Material). T (known x)) lone_is kind-known) (omega arith)
          (subst⁻¹ (λ (x : Material). j < size_of x) lone_is lone-in)

  -- ---- a whole lent table

  kept-lone : (t v x : List ℕ) (more taken i : ℕ) → length t ≡ G.size → Went chess G k t v x more
      → TriedLone m first second k t v taken i → TriedLone m first second k t x taken i
  kept-lone t v x more taken i long w f live =
      let y = f live in (
        y.0,
        y.1,
        y.2,
        λ o from to z. tried-kept chess G k t long v x more (number_of (board_in m o)) w (y.3 o from to z),
      )

  module _ (taken : ℕ) where
    pub sweep-start : Sweeps m first second k taken 0 u u 0
    sweep-start = (
      few-none k _ u,
      λ t w r. (went-none chess G k t (long_of t w) u w, λ i h. absurd (omega arith)),
    )

    -- numbers passed over do not hold depth k - 1
    pub sweep-skip : (v small : List ℕ) (j i did : ℕ) → small ≡ lent_of m first second taken → j ≤ i → NoneFrom small (1 + k) j i
        → Sweeps m first second k taken j u v did → Sweeps m first second k taken i u v did
    sweep-skip v small j i did e h none f = (
      few-most k (192 * j) (192 * i) u v did (omega (arith, h)) f.0,
      λ t w r.
          let p = f.1 t w r in (
            p.0,
            λ n g z. ⊎_elim (λ x. absurd (none n x g (ap (λ (l : List ℕ). get_or l n 0) e ∙ z))) (λ x. p.1 n x z) (le-or-lt j n),
          ),
    )

    pub sweep-turn : (v x : List ℕ) (j did more : ℕ) → Sweeps m first second k taken j u v did
        → TriesLone m first second k taken j v x more → Sweeps m first second k taken (j + 1) u x (did + more)
    sweep-turn v x j did more f g = (
      few-most k (192 * j + 192) (192 * (j + 1)) u x (did + more) (omega arith) (few-then k (192 * j) 192 u v x did more f.0 g.0),
      λ t w r.
          let p = f.1 t w r in
          let y = g.1 t p.0.midway r in (
            went_then chess G k t (long_of t w) u v x did more p.0 y.0,
            λ i h e. turn t (long_of t w) i h e y.0 p.1 y.1 (le-or-lt j i),
          ),
    )
      where
        turn : (t : List ℕ) → length t ≡ G.size → (i : ℕ) → i < j + 1 → get_or (lent_of m first second taken) i 0 ≡ 1 + k
            → Went chess G k t v x more
            → ((i : ℕ) → i < j → get_or (lent_of m first second taken) i 0 ≡ 1 + k → TriedLone m first second k t v taken i)
            → (get_or (lent_of m first second taken) j 0 ≡ 1 + k → TriedLone m first second k t x taken j)
            → (j ≤ i) ⊎ (i < j) → TriedLone m first second k t x taken i
        turn t long i h e w p y (inl z) =
            let q : i ≡ j = omega (arith, h, z) in
            subst⁻¹ (λ (n : ℕ). TriedLone m first second k t x taken n) q
            (y (subst (λ (n : ℕ). get_or (lent_of m first second taken) n 0 ≡ 1 + k) q e))
        turn t long i h e w p y (inr z) = kept-lone t v x more taken i long w (p i z e)

  -- ---- both

  pub none-swept : 4 ≤ m.second → SweepsAll m first second k u u 0
  none-swept h = (
    few-none k _ u,
    λ t w r. (went-none chess G k t (long_of t w) u w, λ g. absurd (omega (arith, g, h))),
  )

  pub all-swept : m.second < 4 → (v x : List ℕ) (did more : ℕ) → Sweeps m first second k 2 59136 u v did
      → Sweeps m first second k 1 59136 v x more → SweepsAll m first second k u x (did + more)
  all-swept two v x did more f g = (
    few-then k 11354112 11354112 u v x did more f.0 g.0,
    λ t w r.
        let p = f.1 t w r in
        let y = g.1 t p.0.midway r in (
          went_then chess G k t (long_of t w) u v x did more p.0 y.0,
          λ h taken which i e. by t (long_of t w) y.0 p.1 y.1 taken which i e,
        ),
  )
    where
      in_table : (taken i : ℕ) → get_or (lent_of m first second taken) i 0 ≡ 1 + k → i < 59136
      in_table taken i e = ⊎_elim
          (λ g. let z : get_or (lent_of m first second taken) i 0 ≡ 0 =
          get_or-eq_default (lent_of m first second taken) 0
          (subst⁻¹ (λ (n : ℕ). n ≤ i) (lent-of-long m first second u a two taken) g) in absurd (omega (arith, z, e)))
          (λ g. g) (le-or-lt 59136 i)

      by : (t : List ℕ) → length t ≡ G.size → Went chess G k t v x more
          → ((i : ℕ) → i < 59136 → get_or (lent_of m first second 2) i 0 ≡ 1 + k → TriedLone m first second k t v 2 i)
          → ((i : ℕ) → i < 59136 → get_or (lent_of m first second 1) i 0 ≡ 1 + k → TriedLone m first second k t x 1 i)
          → (taken : ℕ) → Which taken → (i : ℕ) → get_or (lent_of m first second taken) i 0 ≡ 1 + k → TriedLone m first second k t x taken i
      by t long w p y taken (inl z) i e =
          subst⁻¹ (λ (n : ℕ). TriedLone m first second k t x n i) z
          (y i (in_table taken i e) (subst (λ (n : ℕ). get_or (lent_of m first second n) i 0 ≡ 1 + k) z e))
      by t long w p y taken (inr z) i e =
          subst⁻¹ (λ (n : ℕ). TriedLone m first second k t x n i) z
          (kept-lone t v x more 2 i long w
          (p i (in_table taken i e) (subst (λ (n : ℕ). get_or (lent_of m first second n) i 0 ≡ 1 + k) z e)))
