-- The ending's boards, numbered over lent tables: what `table_theory` asks of a numbering, for one man and for two at
-- once.
use Rattle.std.specs.Prelude.{◌≡◌, Bool, ◌&&◌, ℕ, ◌<◌, T, ltb, get_or}
use Rattle.std.proofs.Math.Path.{refl, ap, subst⁻¹}
use Rattle.std.proofs.Common.{sym, ap₂, subst, ◌∙◌, inl}
use Rattle.std.proofs.Math.Bool.{true, false, cond}
use mathlib.Core.List.{List, [], ◌∷◌, map}
use Rattle.finite.specs.Truth.{and_left, and_right, and_both, refuted}
use Rattle.finite.specs.Members.{all}
use Rattle.table_theory.specs.Tables.{Lawful}
use Rattle.symmetry.specs.Symmetry.{Symmetry}
use Rattle.rules.specs.declared.Piece.{Piece}
use Rattle.rules.specs.Rules.{Board, empty, known, legal}
use Rattle.rules.specs.Changed.{changed, changed_piece}
use Rattle.rules.specs.Reordered.{crossed, reordered}
use Rattle.rules.proofs.laws.Legal.{legal-facts}
use Rattle.rules.proofs.laws.ChangedRules.{legal-changed}
use Rattle.rules.proofs.laws.ReorderedLaws.{legal-reordered}
use Rattle.rules.specs.Chess.{chess}
use Rattle.numbering.specs.Keys.{men_at, board_at}
use Rattle.numbering.specs.Men.{exchangeable, material_of}
use Rattle.numbering.specs.Change.{Change, changed_by}
use Rattle.numbering.specs.Number.{number_of, used}
use Rattle.numbering.proofs.laws.ChangeLaws.{HasNumber, coloured}
use Rattle.numbering.proofs.laws.ClassLaws.{number_lt, number-along}
use Rattle.numbering.proofs.laws.AtLaws.{used-number, image-at, number-used}
use Rattle.endings.specs.Ending.{byte_of}
use Rattle.endings.proofs.laws.IndexLaws as index
use Rattle.numbering.specs.Material as materials
use Rattle.numbering.specs.declared.Material.{Material}
use Rattle.numbering.specs.Material.{men_of, OfMaterial, size_of}
use Rattle.index.specs.Endings.{number_in, board_for}
use Rattle.index.proofs.laws.EndingsLaws.{legal-of, of-legal, pieces-number, pieces-board}
use Rattle.four_men.specs.Lending.{Lent}
use Rattle.four_men.specs.Reading.{Within, full, lent_to, lent_byte, legal_number_of, numbered}
use Rattle.four_men.specs.Same.{Same, Manned}
use Rattle.four_men.proofs.laws.Materials.{size_is, own-material, full-of}
use Rattle.four_men.proofs.laws.Same.{same_alike, changed-same, same-changed}
use Rattle.four_men.proofs.laws.Captures.{within-closed, within-few, fewer-next, fewer-not-full, own_of, fewer-of}

-- ---- legal boards have numbers

all-coloured : (l : List Piece) → T (all known l) → T (all coloured l)
unfolding all
all-coloured [] t = tt
all-coloured (a ∷ l) t =
    and_both (coloured a) (all coloured l)
    (and_right (ltb a.kind 4) (coloured a) (and_left (known a) (all known l) t))
    (all-coloured l (and_right (known a) (all known l) t))

pub legal-number : {material : List Piece} (b : Board) → T (legal b) → material_of b.men ≡ material
    → HasNumber material b
unfolding all
legal-number b t e =
    let l = legal-facts b t in
    let men = all (λ m. ltb m.square 64) b.men in
    record {
      men = e;
      side = l.side;
      colours = all-coloured b.men l.men;
      squares =
          and_right (ltb b.black 64) men (and_right (ltb b.white 64) (ltb b.black 64 && men) l.squares);
      kings = index.legal-kings b t;
    }

pub legal-by : (s : Change) (b : Board) → legal (changed_by s b) ≡ legal b
unfolding changed_by
legal-by s b =
    legal-changed s.symmetry (s.colours && exchangeable b.men) (reordered s.order b)
    ∙ legal-reordered s.order b

-- ---- boards that go alike are read alike

pub full-same : (m : Material) → T (materials.known m) → (b c : Board) → Same b c → full m b.men ≡ full m c.men
unfolding changed
full-same m w b c x =
    sym (ap (λ (d : Board). full m d.men) x.3 ∙ go m w x.0.order b.men)
  where
    go : (m : Material) → T (materials.known m) → (e : Bool) (l : List Piece)
        → full m (map (changed_piece x.0.symmetry x.0.colours) (crossed e l)) ≡ full m l
    go Material.Pawn w e l = absurd w
    go (Material.One kind) w false [] = unfold crossed in refl
    go (Material.One kind) w false (a ∷ l) = unfold crossed in refl
    go (Material.One kind) w true [] = unfold crossed in refl
    go (Material.One kind) w true (a ∷ []) = unfold crossed in refl
    go (Material.One kind) w true (a ∷ d ∷ []) = unfold crossed in refl
    go (Material.One kind) w true (a ∷ d ∷ f ∷ l) = unfold crossed in refl
    go (Material.Two j k r) w false [] = unfold crossed in refl
    go (Material.Two j k r) w false (a ∷ []) = unfold crossed in refl
    go (Material.Two j k r) w false (a ∷ d ∷ l) = unfold crossed in refl
    go (Material.Two j k r) w true [] = unfold crossed in refl
    go (Material.Two j k r) w true (a ∷ []) = unfold crossed in refl
    go (Material.Two j k r) w true (a ∷ d ∷ []) = unfold crossed in refl
    go (Material.Two j k r) w true (a ∷ d ∷ f ∷ l) = unfold crossed in refl

-- the men of a changed board
changed-men : (s : Symmetry) (f : Bool) (b : Board) (k : List Piece) → b.men ≡ k
    → (changed s f b).men ≡ map (changed_piece s f) k
unfolding changed
changed-men s f b k h = ap (map (changed_piece s f)) h

crossed-none : (f : Bool) → crossed f [] ≡ []
unfolding crossed
crossed-none true = refl
crossed-none false = refl

crossed-one : (f : Bool) (a : Piece) → crossed f (a ∷ []) ≡ a ∷ []
unfolding crossed
crossed-one true a = refl
crossed-one false a = refl

bare-byte : (t : List ℕ) (d : Board) → d.men ≡ [] → byte_of t d ≡ 1
unfolding byte_of
bare-byte t d h = ap (λ (k : List Piece). cond (empty k) 1 (get_or t (number_of d) 0)) h

man-byte : (t : List ℕ) (d : Board) (a : Piece) → d.men ≡ a ∷ [] → byte_of t d ≡ get_or t (number_of d) 0
unfolding byte_of
man-byte t d a h = ap (λ (k : List Piece). cond (empty k) 1 (get_or t (number_of d) 0)) h

-- bare kings and a man alone: his kind stays and so does his number
byte-same : (first : ℕ) (l : Lent) (b c : Board) → Same b c → full (Material.Two 0 0 false) b.men ≡ false
    → byte_of (lent_to first l b.men) b ≡ byte_of (lent_to first l c.men) c
byte-same first l b c x e = go b.men refl e
  where
    men-there : (k : List Piece) → crossed x.0.order b.men ≡ k
        → c.men ≡ map (changed_piece x.0.symmetry x.0.colours) k
    men-there k h = ap (λ (d : Board). d.men) x.3
        ∙ changed-men x.0.symmetry x.0.colours _ k h

    go : (k : List Piece) → b.men ≡ k → full (Material.Two 0 0 false) k ≡ false
        → byte_of (lent_to first l b.men) b ≡ byte_of (lent_to first l c.men) c
    go [] h f =
        bare-byte (lent_to first l b.men) b h
        ∙ sym (bare-byte (lent_to first l c.men) c (men-there [] (ap (crossed x.0.order) h ∙ crossed-none x.0.order)))
    go (a ∷ []) h f =
        let q = ap (crossed x.0.order) h ∙ crossed-one x.0.order a in
        let g = men-there (a ∷ []) q in
        let n : number_of c ≡ number_of b =
        ap number_of (x.3
        ∙ ap (λ (k : List Piece). changed x.0.symmetry x.0.colours
        (record { side = b.side; white = b.white; black = b.black; men = k })) (q ∙ sym h))
        ∙ index.number-image a.kind x.0.symmetry x.0.colours b x.1.legality (a.colour, (a.square, h))
        in
        man-byte (lent_to first l b.men) b a h
        ∙ ap₂ (λ (t : List ℕ) (i : ℕ). get_or t i 0)
        (ap (lent_to first l) h ∙ sym (ap (lent_to first l) g)) (sym n)
        ∙ sym (man-byte (lent_to first l c.men) c (changed_piece x.0.symmetry x.0.colours a) g)
    go (a ∷ d ∷ k) h f = absurd (refuted f tt)

pub outer_same : (m : Material) → T (materials.known m) → (l : Lent) (b c : Board) → Same b c → full m b.men ≡ false
    → lent_byte m l b ≡ lent_byte m l c
outer_same Material.Pawn w l b c x e = absurd w
outer_same (Material.One kind) w l b c x e = refl
outer_same (Material.Two j k r) w l b c x e = byte-same j l b c x (plain b.men e)
  where
    plain : (men : List Piece) → full (Material.Two j k r) men ≡ false → full (Material.Two 0 0 false) men ≡ false
    plain [] e = refl
    plain (a ∷ []) e = refl
    plain (a ∷ d ∷ men) e = e

-- ---- the numbering

module _ (m : Material) (w : T (materials.known m)) where
  pub numbers : (b : Board) → Within m b → T (full m b.men) → HasNumber (men_of m) b
  numbers b d t = legal-number b (legal-of m w b d.legality) (own_of m b d t)

  pub manned : (b : Board) → T (full m b.men) → Manned b.men
  manned b t = go m b.men t
    where
      go : (m : Material) (l : List Piece) → T (full m l) → Manned l
      go (Material.One kind) [] t = absurd t
      go (Material.One kind) (a ∷ l) t = tt
      go (Material.Two j k r) [] t = absurd t
      go (Material.Two j k r) (a ∷ l) t = tt
      go Material.Pawn [] t = absurd t
      go Material.Pawn (a ∷ l) t = tt

  -- a number of pieces is live by king rule and key
  pub live-is : (n : ℕ) → legal_number_of m n ≡ (used (board_at (men_of m) n) && legal (board_at (men_of m) n))
  live-is n = go m w
    where
      go : (m : Material) → T (materials.known m)
          → legal_number_of m n ≡ (used (board_at (men_of m) n) && legal (board_at (men_of m) n))
      go (Material.One kind) t = unfold legal_number_of in refl
      go (Material.Two j k r) t = unfold legal_number_of in refl
      go Material.Pawn t = absurd t

  pub number-live : (b : Board) → Within m b → T (full m b.men)
      → (number_of b < size_of m) × T (legal_number_of m (number_of b))
  number-live b d t =
      let g = legal-of m w b d.legality in
      let s = numbers b d t in
      let i = image-at (own-material m w) b s in (
        subst (λ (n : ℕ). number_of b < n) (size_is m w) (number_lt b s),
        subst⁻¹ T (live-is (number_of b))
            (and_both (used (board_at (men_of m) (number_of b))) (legal (board_at (men_of m) (number_of b)))
            (number-used (own-material m w) b s (legal-facts b g).apart)
            (rw (i.1, legal-by i.0 b) g)),
      )

  -- the board at a number has the ending's men
  pub material-at : (n : ℕ) → OfMaterial m (board_at (men_of m) n)
  material-at n = go m w
    where
      go : (m : Material) → T (materials.known m) → OfMaterial m (board_at (men_of m) n)
      go (Material.One kind) t = unfold board_at men_at material_of in refl
      go (Material.Two j k r) t = unfold board_at men_at material_of in own-material (Material.Two j k r) t
      go Material.Pawn t = absurd t

  pub live_at : (n : ℕ) → n < size_of m → T (legal_number_of m n)
      → Within m (board_at (men_of m) n) × T (full m (board_at (men_of m) n).men) × (number_of (board_at (men_of m) n) ≡ n)
  live_at n h t =
      let s = subst T (live-is n) t in
      let u = used (board_at (men_of m) n) in
      let g = legal (board_at (men_of m) n) in
      let e = material-at n in (
        record { legality = of-legal m w (board_at (men_of m) n) (and_right u g s); men = inl e },
        full-of m (board_at (men_of m) n).men e,
        used-number (own-material m w) n (and_left u g s),
      )

  pub same_number : (b c : Board) → Same b c → T (full m b.men) → number_of b ≡ number_of c
  same_number b c x t =
      sym (ap number_of (same-changed b c (manned b t) x)
      ∙ number-along x.0 b (legal-number b x.1.legality refl))

  pub same_at : (b : Board) → Within m b → T (full m b.men) → Same b (board_at (men_of m) (number_of b))
  same_at b d t =
      let i = image-at (own-material m w) b (numbers b d t) in
      subst⁻¹ (Same b) i.1 (changed-same i.0 b (within-few m w b d))

  -- ---- in the words of every ending

  pub number-live-in : (b : Board) → Within m b → T (full m b.men)
      → (number_in m b < size_of m) × T (legal_number_of m (number_in m b))
  number-live-in b d t =
      subst⁻¹ (λ (f : Board → ℕ). (f b < size_of m) × T (legal_number_of m (f b))) (pieces-number m w) (number-live b d t)

  pub live-at-in : (n : ℕ) → n < size_of m → T (legal_number_of m n)
      → Within m (board_for m n) × T (full m (board_for m n).men) × (number_in m (board_for m n) ≡ n)
  live-at-in n h t =
      subst⁻¹ (λ (f : Board → ℕ). Within m (board_for m n) × T (full m (board_for m n).men) × (f (board_for m n) ≡ n))
      (pieces-number m w)
      (subst⁻¹ (λ (at : ℕ → Board). Within m (at n) × T (full m (at n).men) × (number_of (at n) ≡ n))
      (pieces-board m w) (live_at n h t))

  pub same-number-in : (b c : Board) → Same b c → T (full m b.men) → number_in m b ≡ number_in m c
  same-number-in b c x t =
      subst⁻¹ (λ (f : Board → ℕ). f b ≡ f c) (pieces-number m w) (same_number b c x t)

  pub same-at-in : (b : Board) → Within m b → T (full m b.men) → Same b (board_for m (number_in m b))
  same-at-in b d t =
      subst⁻¹ (λ (f : Board → ℕ). Same b (board_for m (f b))) (pieces-number m w)
      (subst⁻¹ (λ (at : ℕ → Board). Same b (at (number_of b))) (pieces-board m w) (same_at b d t))

  unfoldable pub lawful_with : (l : Lent) → Lawful chess (numbered m l)
  unfolding numbered
  lawful_with l = record {
    D = Within m;
    closed = within-closed m w;
    number-live = number-live-in;
    live_at = live-at-in;
    outer-next = λ b q d e h. fewer-not-full m q (fewer-next m w b q d (fewer-of m b d e) h);
    Same = Same;
    alike = same_alike;
    same-inside = full-same m w;
    same_number = same-number-in;
    same-outer = outer_same m w l;
    same_at = same-at-in;
  }
