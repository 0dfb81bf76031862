-- Men under the exchange of file and rank: which lists it leaves as they are, like men in either order, and that there
-- it is never preferred.
use Rattle.std.specs.Prelude.{◌≡◌, refl, Bool, true, false, ◌&&◌, ◌||◌, ◌⊎◌, List, [], ◌∷◌, map, ℕ, ◌+◌, ◌*◌, ◌/◌, ◌%◌, ◌<◌, ◌≤◌, T, ltb, eqb}
use Rattle.std.proofs.Math.Path.{ap}
use Rattle.std.proofs.Common.{ap₂, subst, sym, ◌∙◌, inl, inr, arith, eqb→eq, lt→ltb, le-ltb, eq-eqb}
use Rattle.std.specs.Bool.{xor}
use Rattle.finite.specs.Truth.{and_left, and_right, and_both, of-true, cond-true, or_left, or_right, or_cases, eqb-sym}
use Rattle.finite.specs.Members.{all}
use Rattle.symmetry.specs.Symmetry.{mapped, inverse, exchange}
use Rattle.symmetry.proofs.laws.SymmetryLaws.{mapped-inverse}
use Rattle.rules.specs.declared.Piece.{Piece}
use Rattle.rules.specs.Rules.{piece_of}
use Rattle.rules.specs.Changed.{swapped, changed_piece}
use Rattle.rules.specs.Reordered.{crossed}
use Rattle.rules.proofs.laws.ReorderedLaws.{crossed-map, crossed-back}
use Rattle.numbering.specs.Kings.{on_diagonal}
use Rattle.numbering.specs.Keys.{key_from}
use Rattle.numbering.specs.Men.{like, falling, ordered, prefers}
use Rattle.numbering.specs.Fits.{facing}
use Rattle.numbering.proofs.laws.MenLaws.{on_board, head-on, tail-on}
use Rattle.numbering.proofs.laws.NormalLaws.{stays-diagonal}
use Rattle.numbering.proofs.laws.ChangeLaws.{crossed-again, xor-and}
use Rattle.numbering.proofs.laws.OrderLaws.{like-map, ordered-least, twice}

-- ---- the exchange leaves what is on the diagonal, and nothing else

abbrev pub diagonal : Piece → Bool
diagonal a = on_diagonal a.square

abbrev pub exchanged : List Piece → List Piece
exchanged l = map (changed_piece exchange false) l

pub kept : (s : ℕ) → T (on_diagonal s) → mapped exchange s ≡ s
kept s d = stays-diagonal true s (λ t. d)

pub kept-only : (s : ℕ) → s < 64 → mapped exchange s ≡ s → T (on_diagonal s)
unfolding mapped
kept-only s h e =
    let q : s % 8 * 8 + s / 8 ≡ s = sym (cond-true (ltb s 64) (s % 8 * 8 + s / 8) s (lt→ltb s 64 h)) ∙ e in
    of-true (eq-eqb (s % 8) (s / 8) (omega arith))

men-kept : (l : List Piece) → T (all diagonal l) → exchanged l ≡ l
unfolding all swapped
men-kept [] t = refl
men-kept (a ∷ l) t =
    rw (
      kept a.square (and_left (diagonal a) (all diagonal l) t),
      men-kept l
          (and_right (diagonal a) (all diagonal l) t),
    )

men-kept-only : (l : List Piece) → T (all on_board l) → exchanged l ≡ l → T (all diagonal l)
unfolding all
men-kept-only [] t e = tt
men-kept-only (a ∷ l) t e =
    let first : changed_piece exchange false a ≡ a = cc in
    let rest : exchanged l ≡ l = cc in
    and_both (diagonal a) (all diagonal l) (kept-only a.square (head-on a l t)
    (ap (λ (p : Piece). p.square) first)) (men-kept-only l (tail-on a l t) rest)

-- ---- or like men in the other order

abbrev pub Mirrored : List Piece → Type 0
Mirrored l = (e : Bool) × (exchanged l ≡ crossed (e && like l) l)

piece_eq : {k k' c c' s s' : ℕ} → k ≡ k' → c ≡ c' → s ≡ s' → piece_of k c s ≡ piece_of k' c' s'
piece_eq p q r = cc

facing-men : (l : List Piece) → T (facing l) → (like l ≡ true) × (exchanged l ≡ crossed true l)
unfolding facing like crossed swapped
facing-men [] t = absurd t
facing-men (a ∷ []) t = absurd t
facing-men (a ∷ c ∷ []) t =
    let kinds = eqb a.kind c.kind in
    let colours = eqb a.colour c.colour in
    let there = eqb (mapped exchange a.square) c.square in
    let w = and_left (kinds && colours) there t in
    let k = eqb→eq a.kind c.kind (and_left kinds colours w) in
    let d = eqb→eq a.colour c.colour (and_right kinds colours w) in
    let s = eqb→eq (mapped exchange a.square) c.square (and_right (kinds && colours) there t) in
    let u : mapped exchange c.square ≡ a.square = ap (mapped exchange) (sym s) ∙ back a.square in
    (is_true (kinds && colours) w, pair (piece_eq k d s) (piece_eq (sym k) (sym d) u))
  where
    back : (s : ℕ) → mapped exchange (mapped exchange s) ≡ s
    back s = unfold inverse in mapped-inverse exchange s

    is_true : (x : Bool) → T x → x ≡ true
    is_true true t = refl
    is_true false t = absurd t

    pair : {x x' y y' : Piece} → x ≡ x' → y ≡ y' → ◌≡◌ {A = List Piece} (x ∷ y ∷ []) (x' ∷ y' ∷ [])
    pair p q = ap₂ (λ (u v : Piece). u ∷ v ∷ []) p q
facing-men (a ∷ c ∷ d ∷ l) t = absurd t

pub mirrored-men : (l : List Piece) → T (all diagonal l || facing l) → Mirrored l
mirrored-men l t = go (or_cases (all diagonal l) (facing l) t)
  where
    go : T (all diagonal l) ⊎ T (facing l) → Mirrored l
    go (inl d) = (false, men-kept l d ∙ (unfold crossed in refl))
    go (inr f) =
        let w = facing-men l f in
        (true, w.1 ∙ ap (λ (x : Bool). crossed x l) (sym w.0))

men-facing : (l : List Piece) → T (all on_board l) → like l ≡ true → exchanged l ≡ crossed true l → T (facing l)
unfolding facing like crossed
men-facing [] t k e = absurd (let z : ◌≡◌ {A = ℕ} 0 1 = cc in omega arith)
men-facing (a ∷ []) t k e = absurd (let z : ◌≡◌ {A = ℕ} 0 1 = cc in omega arith)
men-facing (a ∷ c ∷ []) t k e =
    let first : changed_piece exchange false a ≡ c = cc in
    and_both (eqb a.kind c.kind && eqb a.colour c.colour) (eqb (mapped exchange a.square) c.square)
    (of-true k)
    (of-true (eq-eqb (mapped exchange a.square) c.square (ap (λ (p : Piece). p.square) first)))
men-facing (a ∷ c ∷ d ∷ l) t k e = absurd (let z : ◌≡◌ {A = ℕ} 0 1 = cc in omega arith)

pub mirrored-only : (l : List Piece) → T (all on_board l) → Mirrored l → T (all diagonal l || facing l)
mirrored-only l t (e, q) = go e (like l) refl q
  where
    plain : exchanged l ≡ crossed false l → T (all diagonal l || facing l)
    plain q = or_left (all diagonal l) (facing l) (men-kept-only l t (q ∙ (unfold crossed in refl)))

    go : (e k : Bool) → like l ≡ k → exchanged l ≡ crossed (e && k) l → T (all diagonal l || facing l)
    go true true h q = or_right (all diagonal l) (facing l) (men-facing l t h q)
    go true false h q = plain q
    go false k h q = plain q

-- ---- there the exchange is not preferred

like-crossed : (e : Bool) (l : List Piece) → like (crossed e l) ≡ like l
unfolding like crossed
like-crossed false l = refl
like-crossed true [] = refl
like-crossed true (a ∷ []) = refl
like-crossed true (a ∷ c ∷ []) = rw (eqb-sym c.kind a.kind, eqb-sym c.colour a.colour)
like-crossed true (a ∷ c ∷ d ∷ l) = refl

-- like men change places twice
crossed-both : (e f : Bool) (l : List Piece)
    → crossed (f && like l) (crossed (e && like l) l) ≡ crossed (xor e f && like l) l
crossed-both e f l =
    crossed-again (e && like l) (f && like l) l ∙ ap (λ (x : Bool). crossed x l) (xor-and e f (like l))

pub mirrored-settled : (l : List Piece) → Mirrored l → prefers l ≡ false
unfolding prefers ordered
mirrored-settled l (e, q) =
    let f = falling (exchanged l) in
    let r : crossed (f && like (exchanged l)) (exchanged l) ≡ crossed (xor e f && like l) l =
    ap (λ (x : Bool). crossed (f && x) (exchanged l)) (like-map exchange l) ∙ ap (crossed (f && like l)) q
    ∙ crossed-both e f l in
    le-ltb (key_from 0 (crossed (f && like (exchanged l)) (exchanged l)))
    (key_from 0 (crossed (falling l && like l) l))
    (subst (λ (k : List Piece). key_from 0 (crossed (falling l && like l) l) ≤ key_from 0 k) (sym r)
    (ordered-least (xor e f) l))

-- a list is so where it is exchanged and put in order
pub mirrored-back : (l : List Piece) → Mirrored (ordered (exchanged l)) → Mirrored l
unfolding ordered
mirrored-back l (e, q) =
    let g = falling (exchanged l) in
    let h = g && like (exchanged l) in
    let k : h ≡ (g && like l) = ap (λ (x : Bool). g && x) (like-map exchange l) in
    let there : exchanged (crossed h (exchanged l)) ≡ crossed h l =
    sym (crossed-map (changed_piece exchange false) h (exchanged l)) ∙ ap (crossed h) (twice l) in
    let same : like (crossed h (exchanged l)) ≡ like l = like-crossed h (exchanged l) ∙ like-map exchange l in
    let r : crossed h l ≡ crossed (e && like l) (crossed h (exchanged l)) =
    sym there ∙ q ∙ ap (λ (x : Bool). crossed (e && x) (crossed h (exchanged l))) same in
    let own = crossed h (exchanged l) in (
      xor (xor g e) g,
      sym (crossed-back h (exchanged l))
          ∙ ap (crossed h) (sym (crossed-back (e && like l) own) ∙ ap (crossed (e && like l)) (sym r))
          ∙ ap (λ (x : Bool). crossed x (crossed (e && like l) (crossed x l))) k
          ∙ ap (crossed (g && like l)) (crossed-both g e l) ∙ crossed-both (xor g e) g l,
    )
