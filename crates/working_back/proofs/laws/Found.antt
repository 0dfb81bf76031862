-- A pass that works back finds every number that it is to settle: it has a move to a position of depth k - 1, in this table or in a lent one.
use Rattle.std.specs.Prelude.{◌≡◌, false, not, ◌⊎◌, ℕ, ◌+◌, ◌<◌, ◌≤◌, eqb, length, get_or}
use Rattle.std.proofs.Math.Path.{refl, ap, subst⁻¹}
use Rattle.std.proofs.Common.{sym, subst, ◌∙◌, inr, arith, le-leb, lt-ltb}
use Rattle.std.proofs.Math.Bool.{cond}
use Rattle.std.proofs.Math.Logic.{inl}
use mathlib.Core.List.{List, [], ◌∷◌}
use Rattle.std.proofs.Math.Dec.{T}
use Rattle.std.proofs.lemmas.Bool.{lt-leb}
use Rattle.finite.specs.Truth.{decided, and_left, and_right, false_of, le-or-lt}
use Rattle.finite.specs.Members.{◌∈◌}
use Rattle.theory.specs.Game.{next}
use Rattle.table_theory.specs.Tables.{settles, passed, reads}
use Rattle.table_theory.specs.Steps.{settled_by}
use Rattle.table_theory.proofs.laws.Acceptance.{reads-inside, reads-outside}
use Rattle.rules.specs.declared.Piece.{Piece}
use Rattle.rules.specs.Rules.{Board, piece_of, empty, legal}
use Rattle.rules.specs.Chess.{chess}
use Rattle.numbering.specs.declared.Material.{Material}
use Rattle.numbering.specs.Keys.{board_at}
use Rattle.numbering.specs.Number.{number_of}
use Rattle.numbering.specs.Material.{known, men_of, size_of}
use Rattle.position.specs.declared.Men.{Men}
use Rattle.position.specs.declared.Place.{Place}
use Rattle.position.specs.Posed.{board_in, material_for, Complete}
use Rattle.index.specs.Endings.{board_for}
use Rattle.index.proofs.laws.EndingsLaws.{legal-of, pieces-number, pieces-board}
use Rattle.index.proofs.laws.PlaceLaws.{material-by, piece-by}
use Rattle.numbering.specs.Men.{material_of}
use Rattle.endings.specs.Ending.{byte_of}
use Rattle.four_men.specs.Lending.{Lent, lent}
use Rattle.four_men.specs.Reading.{Within, full, lent_to, part_for, lent_byte, legal_number_of, numbered}
use Rattle.four_men.proofs.laws.Captures.{within-closed}
use Rattle.four_men.proofs.laws.Numbered.{number-live, live_at}
use Rattle.retracting.specs.Retracting.{Leads, lone_of, left_place}
use Rattle.retracting.proofs.laws.Causes.{taken_back}
use Rattle.retracting.proofs.laws.Captured.{captured}
use Rattle.working_back.specs.Admitted.{over, Admitted}
use Rattle.working_back.specs.Trying.{Went, Tried}
use Rattle.working_back.specs.Back.{Backwards, TriedAt, Which, lent_of, SweptAll, SweepsAll, SweepsOwn}
use Rattle.working_back.proofs.laws.Admitted.{sized, size-over}
use Rattle.working_back.proofs.laws.Trying.{midway_start, cause, went_then, tried-kept, went-end}
use Rattle.working_back.proofs.laws.Lone.{kinds-small, lone-read}

-- ---- what is to be settled has a move to a position of depth k - 1: at a number of this table, or in a lent one

module _ (m : Men) (w : T (known (material_for m))) (first second t : List ℕ) (a : Admitted m first second t) (k : ℕ)
    (some : 0 < k) where
  abbrev M : Material
  M = material_for m

  abbrev l : Lent
  l = lent first second

  -- a number to which a move leads, of a position of this number
  abbrev Own : ℕ → Type 0
  Own n = (j : ℕ) × (j < size_of M) × T (legal_number_of M j) × (get_or t j 0 ≡ 1 + k)
      × ((q : Place) → Complete m q → board_in m q ≡ board_at (men_of M) j
      → (p : Place) × (from : ℕ) × (to : ℕ) × Leads m p from to q × (number_of (board_in m p) ≡ n))

  abbrev Lower : ℕ → Type 0
  Lower n = (m.second < 4) × (taken : ℕ) × Which taken × (j : ℕ) × T (legal_number_of (Material.One (lone_of m taken).first) j)
      × (get_or (lent_of m first second taken) j 0 ≡ 1 + k)
      × ((q : Place) → Complete (lone_of m taken) q → board_in (lone_of m taken) q ≡ board_at (men_of (Material.One (lone_of m taken).first)) j
      → (p : Place) × (from : ℕ) × (to : ℕ) × Leads m p from to (left_place m taken q) × (number_of (board_in m p) ≡ n))

  bare-read : (M : Material) (c : Board) → c.men ≡ [] → lent_byte M l c ≡ 1
  unfolding byte_of
  bare-read (Material.One kind) c f = refl
  bare-read (Material.Two i j r) c f = ap (λ (x : List Piece). cond (empty x) 1 (get_or (lent_to i l x) (number_of c) 0)) f
  bare-read Material.Pawn c f = ap (λ (x : List Piece). cond (empty x) 1 (get_or (part_for l x) (number_of c) 0)) f

  single : (c : Board) → 4 ≤ m.second → lent_byte M l c ≡ 1
  single c h = ap (λ (x : Material). lent_byte x l c) (piece-by m w (le-leb 4 m.second h))

  lone-live : (kind colour s : ℕ) (c : Board) → kind < 4 → T (legal c) → c.men ≡ piece_of kind colour s ∷ []
      → T (legal_number_of (Material.One kind) (number_of c))
  unfolding material_of
  lone-live kind colour s c h g e =
      (number-live (Material.One kind) (subst⁻¹ T (lt-ltb kind 4 h) tt) c (record { legality = g; men = inl (ap material_of e) })
      (subst⁻¹ (λ (y : List Piece). T (full (Material.One kind) y)) e tt)).1

  at-is : (n : ℕ) → board_for M n ≡ board_at (men_of M) n
  at-is n = ap (λ (at : ℕ → Board). at n) (pieces-board M w)

  caused : (n : ℕ) → n < size_of M → T (settles chess (numbered M l) k t n) → Own n ⊎ Lower n
  unfolding settles numbered
  caused n h s =
      go (subst (λ (b : Board). (c : Board) × (c ∈ next chess b) × (reads chess (numbered M l) t c ≡ 1 + k)) (at-is n)
      (cause chess (numbered M l) k t n some s))
    where
      live : T (legal_number_of M n)
      live = and_left (legal_number_of M n) _ (and_right (eqb (get_or t n 0) 1) _ s)

      there : Within M (board_at (men_of M) n)
      there = (live_at M w n h live).0

      lower : (c : Board) → c ∈ next chess (board_at (men_of M) n) → full M c.men ≡ false → lent_byte M l c ≡ 1 + k
          → (4 ≤ m.second) ⊎ (m.second < 4) → Lower n
      lower c i o e (inl g) = absurd (omega (arith, some, sym (single c g) ∙ e))
      lower c i o e (inr g) =
          let x = captured m w a.colour g n h live c i o
          (λ z. absurd (omega (arith, some, sym (bare-read M c z) ∙ e))) in (
            g,
            x.taken,
            x.which,
            number_of c,
            lone-live (lone_of m x.taken).first x.colour x.square c (kinds-small m first second t a g x.taken)
                (legal-of M w c (within-closed M w (board_at (men_of M) n) c there i).legality) x.alone,
            sym (lone-read m l M (lone_of m x.taken).first x.colour x.square c
                (material-by m false (lt-leb 4 m.second g)) x.alone) ∙ e,
            x.back,
          )

      go : ((c : Board) × (c ∈ next chess (board_at (men_of M) n)) × (reads chess (numbered M l) t c ≡ 1 + k)) → Own n ⊎ Lower n
      go x = by (decided (full M x.0.men))
        where
          d : Within M x.0
          d = within-closed M w (board_at (men_of M) n) x.0 there x.1

          by : T (full M x.0.men) ⊎ T (not (full M x.0.men)) → Own n ⊎ Lower n
          by (inl u) =
              let v = number-live M w x.0 d u in inl (
                number_of x.0,
                v.0,
                v.1,
                ap (λ (f : Board → ℕ). get_or t (f x.0) 0) (sym (pieces-number M w))
                    ∙ sym (reads-inside chess (numbered M l) t x.0 u) ∙ x.2,
                λ q z e. taken_back m w n h live x.0 x.1 u q z e,
              )
          by (inr o) =
              inr (lower x.0 x.1 (false_of o) (sym (reads-outside chess (numbered M l) t x.0 (false_of o)) ∙ x.2)
              (le-or-lt 4 m.second))

  pub back_done : (u : List ℕ) (did : ℕ) → Went chess (over m first second) k t t u did → SweptAll m first second k t u
      → ((j : ℕ) → j < length t → get_or t j 0 ≡ 1 + k → TriedAt m first second k t u j)
      → (did ≡ settled_by chess (over m first second) k t) × (u ≡ passed chess (over m first second) k t)
  back_done u did done lone all =
      went-end chess (over m first second) k t (sized m first second t a) u did done (λ n h s e. go n h s e)
    where
      by : (n : ℕ) → Own n ⊎ Lower n → Tried chess (over m first second) k t u n
      by n (inl x) s e =
          let z = sized m first second t a ∙ size-over m first second in
          let y = all x.0 (omega (arith, x.1, z)) x.3 x.2 in
          let p = x.4 y.0 y.1 y.2 in
          subst (λ (i : ℕ). Tried chess (over m first second) k t u i) p.4 (y.3 p.0 p.1 p.2 p.3) s e
      by n (inr x) s e =
          let y = lone x.0 x.1 x.2 x.3 x.5 x.4 in
          let p = x.6 y.0 y.1 y.2 in
          subst (λ (i : ℕ). Tried chess (over m first second) k t u i) p.4 (y.3 p.0 p.1 p.2 p.3) s e

      go : (n : ℕ) → n < (over m first second).size → Tried chess (over m first second) k t u n
      go n h s e = by n (caused n (subst (λ (z : ℕ). n < z) (size-over m first second) h) s) s e

-- captures first, then this table's numbers
pub back-both : (m : Men) (first second t : List ℕ) (a : Admitted m first second t) (k : ℕ) → 0 < k
    → Backwards m first second k t → (v x : List ℕ) (did more : ℕ) → SweepsAll m first second k t v did
    → SweepsOwn m first second k (length v) v x more
    → (did + more ≡ settled_by chess (over m first second) k t) × (x ≡ passed chess (over m first second) k t)
back-both m first second t a k some r v x did more f g =
    let G = over m first second in
    let long = sized m first second t a in
    let p = f.1 t (midway_start chess G k t) r.1 in
    let y = g.1 t p.0.midway r.1 in
    back_done m r.0 first second t a k some x (did + more) (went_then chess G k t long t v x did more p.0 y.0)
    (λ h taken which i e live.
    let q = p.1 h taken which i e live in (
      q.0,
      q.1,
      q.2,
      λ o from to l. tried-kept chess G k t long v x more (number_of (board_in m o)) y.0 (q.3 o from to l),
    ))
    (λ j h e. y.1 j (subst⁻¹ (λ (n : ℕ). j < n) f.0.long h) e)
