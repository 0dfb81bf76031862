-- A move is taken back on every board that goes alike: if a move leads from the board at a number to one of this class, then a place of that number
-- leads to the place at the class's number.
use Rattle.std.specs.Prelude.{◌≡◌, Bool, not, ◌&&◌, ℕ, ◌<◌, ◌≤◌, eqb, length}
use Rattle.std.proofs.Math.Path.{refl, sym, ap, subst, subst⁻¹}
use Rattle.std.proofs.Common.{ap₂, ◌∙◌, arith, leb-true, ne_eqb}
use Rattle.std.proofs.Math.Bool.{true, false}
use mathlib.Core.List.{List, [], ◌∷◌, map}
use Rattle.std.proofs.Math.Dec.{T, leb, ltb, ltb→lt}
use Rattle.std.proofs.lemmas.Bool.{lt-leb, eqb-false}
use Rattle.finite.specs.Truth.{and_left, and_right}
use Rattle.finite.specs.Members.{◌∈◌, all, map-out}
use Rattle.finite.specs.Filter.{filter, keep}
use Rattle.theory.specs.Game.{next}
use Rattle.rules.specs.declared.Piece.{Piece}
use Rattle.rules.specs.Rules.{Board, piece_of, legal, carried, carried_piece, left, moved, moves, can_move}
use Rattle.rules.specs.Changed.{changed, changed_piece}
use Rattle.rules.specs.Reordered.{crossed, reordered}
use Rattle.rules.specs.Chess.{chess, played}
use Rattle.rules.proofs.laws.ChessLaws.{of-moves, plain-played, automorphism}
use Rattle.rules.proofs.laws.Legal.{legal-facts}
use Rattle.rules.proofs.laws.CanMove.{can-on}
use Rattle.rules.proofs.laws.ChangedRules.{legal-changed}
use Rattle.rules.proofs.laws.ReorderedLaws.{reordering, legal-reordered}
use Rattle.rules.specs.Reordered.{LegalFew}
use Rattle.numbering.specs.declared.Material.{Material}
use Rattle.numbering.specs.Keys.{board_at}
use Rattle.numbering.specs.Men.{exchangeable}
use Rattle.numbering.specs.Number.{number_of}
use Rattle.numbering.specs.Material.{known, men_of, OfMaterial, size_of}
use Rattle.position.specs.declared.Men.{Men}
use Rattle.position.specs.declared.Place.{Place}
use Rattle.position.specs.Keyed.{board_of}
use Rattle.position.specs.Posed.{posed, board_in, material_for, Complete}
use Rattle.index.specs.Seats.{Seated}
use Rattle.index.proofs.laws.SeatLaws.{board-one, board-two}
use Rattle.index.proofs.laws.PlaceLaws.{material-by, piece-by}
use Rattle.index.proofs.laws.CompleteLaws.{complete-seated, seated-complete}
use Rattle.position.proofs.laws.PlacedLaws.{kings-separate}
use Rattle.movegen.specs.Places.{square_after, place_after}
use Rattle.four_men.specs.Same.{free, changed_as, Same}
use Rattle.four_men.specs.Reading.{Within, full, legal_number_of}
use Rattle.four_men.proofs.laws.Materials.{one-of, two-of}
use Rattle.four_men.proofs.laws.Captures.{within-few, within-closed, own_of}
use Rattle.four_men.proofs.laws.Numbered.{live_at, same_number, same_at}
use Rattle.numbering.specs.Change.{Change}
use Rattle.retracting.specs.Retracting.{Leads}

-- ---- the men before a move that takes none, by the men after it

head_of : Piece → List Piece → Piece
head_of d [] = d
head_of d (a ∷ l) = a

tail_of : List Piece → List Piece
tail_of [] = []
tail_of (a ∷ l) = l

-- a man was carried there
record Came (f t j d s : ℕ) (a : Piece) : Type 0 where
  off : a.square ≡ t → ⊥
  kind : a.kind ≡ j
  colour : a.colour ≡ d
  square : carried f t a.square ≡ s

came-as : (f t kind colour s : ℕ) (a : Piece) → (a.square ≡ t → ⊥) → carried_piece f t a ≡ piece_of kind colour s
    → Came f t kind colour s a
came-as f t kind colour s a n e = record {
  off = n;
  kind = ap (λ (p : Piece). p.kind) e;
  colour = ap (λ (p : Piece). p.colour) e;
  square = ap (λ (p : Piece). p.square) e;
}

one-came : (f t kind s : ℕ) (a : Piece) → map (carried_piece f t) (left t (a ∷ [])) ≡ piece_of kind 0 s ∷ []
    → Came f t kind 0 s a
unfolding filter
one-came f t kind s a e = go (eqb a.square t) refl e
  where
    go : (x : Bool) → eqb a.square t ≡ x → map (carried_piece f t) (keep (not x) a []) ≡ piece_of kind 0 s ∷ []
        → Came f t kind 0 s a
    go true h e = let z : ◌≡◌ {A = ℕ} 0 1 = ap length e in absurd (omega arith)
    go false h e = came-as f t kind 0 s a (eqb-false a.square t h) (unfold head_of in ap (head_of a) e)

two-came : (f t kind s kind' colour s' : ℕ) (a c : Piece)
    → map (carried_piece f t) (left t (a ∷ c ∷ [])) ≡ piece_of kind 0 s ∷ piece_of kind' colour s' ∷ []
    → Came f t kind 0 s a × Came f t kind' colour s' c
unfolding filter
two-came f t kind s kind' colour s' a c e = go (eqb a.square t) refl (eqb c.square t) refl e
  where
    go : (x : Bool) → eqb a.square t ≡ x → (y : Bool) → eqb c.square t ≡ y
        → map (carried_piece f t) (keep (not x) a (keep (not y) c [])) ≡ piece_of kind 0 s ∷ piece_of kind' colour s' ∷ []
        → Came f t kind 0 s a × Came f t kind' colour s' c
    go true h true k e = let z : ◌≡◌ {A = ℕ} 0 2 = ap length e in absurd (omega arith)
    go true h false k e = let z : ◌≡◌ {A = ℕ} 1 2 = ap length e in absurd (omega arith)
    go false h true k e = let z : ◌≡◌ {A = ℕ} 1 2 = ap length e in absurd (omega arith)
    go false h false k e = (
      came-as f t kind 0 s a (eqb-false a.square t h) (unfold head_of in ap (head_of a) e),
      came-as f t kind' colour s' c (eqb-false c.square t k)
          (unfold head_of tail_of in ap (λ (l : List Piece). head_of c (tail_of l)) e),
    )

-- ---- the place before it

pub place-eq : {s s' w w' b b' x x' y y' : ℕ} → s ≡ s' → w ≡ w' → b ≡ b' → x ≡ x' → y ≡ y'
    → ◌≡◌ {A = Place} (record { side = s; white = w; black = b; first = x; second = y })
    (record { side = s'; white = w'; black = b'; first = x'; second = y' })
place-eq e f g h k = rw (e, f, g, h, k)

abbrev Before : Men → Place → Board → ℕ → ℕ → Type 0
Before m q o f t = (p : Place) × Seated m p × (board_in m p ≡ o) × (place_after p f t ≡ q)

man-came : (f t kind colour s : ℕ) (a : Piece) → Came f t kind colour s a → square_after f t a.square ≡ s
man-came f t kind colour s a c = rw (ne_eqb a.square t c.off) c.square

module _ (m : Men) (q : Place) (w : Complete m q) (o : Board) (lw : o.white < 64) (lb : o.black < 64) (f t : ℕ)
    (hf : f < 64) (ht : t < 64) (e : moved o f t ≡ board_in m q) where
  abbrev seats : Seated m q
  seats = complete-seated m q w

  men-are : (l : List Piece) → o.men ≡ l → map (carried_piece f t) (left t l) ≡ (board_in m q).men
  unfolding moved
  men-are l h = sym (ap (λ (k : List Piece). map (carried_piece f t) (left t k)) h) ∙ ap (λ (b : Board). b.men) e

  arrived : (x y : ℕ) → square_after f t x ≡ q.first → square_after f t y ≡ q.second
      → place_after (record { side = o.side; white = o.white; black = o.black; first = x; second = y }) f t ≡ q
  unfolding place_after moved board_of posed
  arrived x y h k =
      place-eq (ap (λ (b : Board). b.side) e) (ap (λ (b : Board). b.white) e) (ap (λ (b : Board). b.black) e) h k

  seated-by : (x y : ℕ) → x < 64 → leb 64 y ≡ leb 4 m.second
      → Seated m (record { side = o.side; white = o.white; black = o.black; first = x; second = y })
  seated-by x y h k =
      record { ending = w.ending; colour = w.colour; white = lw; black = lb; first = h; second = k }

  pub before-one : leb 4 m.second ≡ true → (a : Piece) → o.men ≡ a ∷ [] → a.square < 64 → Before m q o f t
  before-one k a h l =
      let z = seats.second ∙ k in
      let c = one-came f t m.first q.first a
      (men-are (a ∷ []) h ∙ ap (λ (b : Board). b.men) (board-one m q seats.first z)) in
      let p : Place = record { side = o.side; white = o.white; black = o.black; first = a.square; second = q.second } in (
        p,
        seated-by a.square q.second l seats.second,
        board-one m p l z ∙ same m.first a c.kind c.colour h,
        arrived a.square q.second (man-came f t m.first 0 q.first a c) (still (leb-true 64 q.second z)),
      )
    where
      same : (kind : ℕ) (a : Piece) → a.kind ≡ kind → a.colour ≡ 0 → o.men ≡ a ∷ []
          → ◌≡◌ {A = Board} (record { side = o.side; white = o.white; black = o.black; men = piece_of kind 0 a.square ∷ [] }) o
      same kind a x y h =
          ap (λ (k : List Piece). record { side = o.side; white = o.white; black = o.black; men = k })
          (ap₂ (λ (i j : ℕ). piece_of i j a.square ∷ []) (sym x) (sym y) ∙ sym h)

      still : 64 ≤ q.second → square_after f t q.second ≡ q.second
      still g = rw (ne_eqb q.second t (λ z. omega arith), ne_eqb q.second f (λ z. omega arith))

  pub before-two : leb 4 m.second ≡ false → (a c : Piece) → o.men ≡ a ∷ c ∷ [] → a.square < 64 → c.square < 64
      → Before m q o f t
  before-two k a d h l g =
      let z = seats.second ∙ k in
      let c = two-came f t m.first q.first m.second m.colour q.second a d
      (men-are (a ∷ d ∷ []) h ∙ ap (λ (b : Board). b.men) (board-two m q seats.first z)) in
      let p : Place = record { side = o.side; white = o.white; black = o.black; first = a.square; second = d.square } in (
        p,
        seated-by a.square d.square l (lt-leb 64 d.square g ∙ sym k),
        board-two m p l (lt-leb 64 d.square g)
            ∙ same m.first m.second m.colour a d c.0.kind c.0.colour c.1.kind c.1.colour h,
        arrived a.square d.square (man-came f t m.first 0 q.first a c.0)
            (man-came f t m.second m.colour q.second d c.1),
      )
    where
      same : (kind kind' colour : ℕ) (a c : Piece) → a.kind ≡ kind → a.colour ≡ 0 → c.kind ≡ kind' → c.colour ≡ colour
          → o.men ≡ a ∷ c ∷ []
          → ◌≡◌ {A = Board} (record {
            side = o.side;
            white = o.white;
            black = o.black;
            men = piece_of kind 0 a.square ∷ piece_of kind' colour c.square ∷ [];
          }) o
      same kind kind' colour a c x y u v h =
          ap (λ (k : List Piece). record { side = o.side; white = o.white; black = o.black; men = k })
          (ap₂ (λ (i j : ℕ). piece_of i j a.square ∷ piece_of kind' colour c.square ∷ []) (sym x) (sym y)
          ∙ ap₂ (λ (i j : ℕ). a ∷ piece_of i j c.square ∷ []) (sym u) (sym v) ∙ sym h)

-- ---- exchanging the colours, before the move as after it

free-before : (j k : ℕ) (r : Bool) (f t : ℕ) (a c : Piece)
    → T (full (Material.Two j k r) (map (carried_piece f t) (left t (a ∷ c ∷ []))))
    → T (free (map (carried_piece f t) (left t (a ∷ c ∷ [])))) → T (free (a ∷ c ∷ []))
unfolding free filter exchangeable
free-before j k r f t a c u v = go (not (eqb a.square t)) (not (eqb c.square t)) u v
  where
    go : (x y : Bool) → T (full (Material.Two j k r) (map (carried_piece f t) (keep x a (keep y c []))))
        → T (free (map (carried_piece f t) (keep x a (keep y c [])))) → T (free (a ∷ c ∷ []))
    go true true u v = v
    go true false u v = absurd u
    go false true u v = absurd u
    go false false u v = absurd u

module _ (b c : Board) (f t : ℕ) (e : c ≡ moved b f t) where
  after-men : c.men ≡ map (carried_piece f t) (left t b.men)
  unfolding moved
  after-men = ap (λ (x : Board). x.men) e

  free_back : (m : Material) → OfMaterial m b → T (full m c.men) → T (free c.men) → T (free b.men)
  free_back (Material.One kind) o u v =
      let w = one-of kind b.men o in
      subst⁻¹ (λ (l : List Piece). T (free l)) w.1 (unfold free exchangeable in tt)
  free_back Material.Pawn o u v =
      let w = one-of 4 b.men o in
      subst⁻¹ (λ (l : List Piece). T (free l)) w.1 (unfold free exchangeable in tt)
  free_back (Material.Two j k r) o u v =
      let w = two-of j k r b.men o in
      let z = after-men ∙ ap (λ (l : List Piece). map (carried_piece f t) (left t l)) w.2 in
      subst⁻¹ (λ (l : List Piece). T (free l)) w.2
      (free-before j k r f t w.0 w.1 (subst (λ (l : List Piece). T (full (Material.Two j k r) l)) z u)
      (subst (λ (l : List Piece). T (free l)) z v))

-- ---- the men of a changed board: as many

module _ (s : Change) (b : Board) where
  one-changed : (a : Piece) → b.men ≡ a ∷ [] → (d : Piece) × ((changed_as s b).men ≡ d ∷ [])
  unfolding changed
  one-changed a e = go s.order refl
    where
      go : (x : Bool) → s.order ≡ x → (d : Piece) × ((changed_as s b).men ≡ d ∷ [])
      go x h = (
        changed_piece s.symmetry s.colours a,
        ap (map (changed_piece s.symmetry s.colours)) (ap₂ crossed h e ∙ same x),
      )
        where
          same : (x : Bool) → crossed x (a ∷ []) ≡ a ∷ []
          same true = unfold crossed in refl
          same false = unfold crossed in refl

  two-changed : (a c : Piece) → b.men ≡ a ∷ c ∷ [] → (d : Piece) × (g : Piece) × ((changed_as s b).men ≡ d ∷ g ∷ [])
  unfolding changed
  two-changed a c e = go s.order refl
    where
      swapped_two : crossed true (a ∷ c ∷ []) ≡ c ∷ a ∷ []
      swapped_two = unfold crossed in refl

      kept-two : crossed false (a ∷ c ∷ []) ≡ a ∷ c ∷ []
      kept-two = unfold crossed in refl

      go : (x : Bool) → s.order ≡ x → (d : Piece) × (g : Piece) × ((changed_as s b).men ≡ d ∷ g ∷ [])
      go true h = (
        changed_piece s.symmetry s.colours c,
        changed_piece s.symmetry s.colours a,
        ap (map (changed_piece s.symmetry s.colours)) (ap₂ crossed h e ∙ swapped_two),
      )
      go false h = (
        changed_piece s.symmetry s.colours a,
        changed_piece s.symmetry s.colours c,
        ap (map (changed_piece s.symmetry s.colours)) (ap₂ crossed h e ∙ kept-two),
      )

-- ---- squares of a legal board's men

all-men : (b : Board) → T (legal b) → T (all (λ a. ltb a.square 64) b.men)
unfolding all
all-men b t =
    let l = legal-facts b t in
    let men = all (λ a. ltb a.square 64) b.men in
    and_right (ltb b.black 64) men (and_right (ltb b.white 64) (ltb b.black 64 && men) l.squares)

first_on : (a : Piece) (l : List Piece) → T (all (λ a. ltb a.square 64) (a ∷ l)) → a.square < 64
unfolding all
first_on a l t = ltb→lt a.square 64 (and_left (ltb a.square 64) (all (λ a. ltb a.square 64) l) t)

rest-on : (a : Piece) (l : List Piece) → T (all (λ a. ltb a.square 64) (a ∷ l))
    → T (all (λ a. ltb a.square 64) l)
unfolding all
rest-on a l t = and_right (ltb a.square 64) (all (λ a. ltb a.square 64) l) t

-- ---- the move taken back

module _ (m : Men) (w : T (known (material_for m))) (n : ℕ) (h : n < size_of (material_for m))
    (live : T (legal_number_of (material_for m) n)) (c : Board) (i : c ∈ next chess (board_at (men_of (material_for m)) n))
    (u : T (full (material_for m) c.men)) where
  abbrev M : Material
  M = material_for m

  abbrev b : Board
  b = board_at (men_of M) n

  there : Within M b × T (full M b.men) × (number_of b ≡ n)
  there = live_at M w n h live

  own : OfMaterial M b
  own = own_of M b there.0 there.1

  few : LegalFew b
  few = within-few M w b there.0

  after : Within M c
  after = within-closed M w b c there.0 i

  same : Same c (board_at (men_of M) (number_of c))
  same = same_at M w c after u

  s : Change
  s = same.0

  o : Board
  o = changed_as s b

  legal-o : T (legal o)
  unfolding o
  legal-o =
      subst⁻¹ T (legal-changed s.symmetry s.colours (reordered s.order b))
      (subst⁻¹ T (legal-reordered s.order b) few.legality)

  leads : changed_as s c ∈ next chess o
  unfolding o
  leads =
      (automorphism s.symmetry s.colours).moves-f (reordered s.order b) (reordered s.order c)
      (subst⁻¹ T (legal-reordered s.order b) few.legality) ((reordering s.order).moves-f b c few i)

  alike : Same b o
  unfolding o same s
  alike =
      let v = map-out (played b) c (moves b) i in (
        s,
        few,
        λ g. free_back b c v.0.from v.0.to (v.2 ∙ plain-played b v.0 few.legality v.1) M own u (same.2 g),
        refl,
      )

  number-o : number_of o ≡ n
  number-o = sym (same_number M w b o alike there.1) ∙ there.2

  lw : o.white < 64
  unfolding all
  lw =
      let men = all (λ a. ltb a.square 64) o.men in
      ltb→lt o.white 64 (and_left (ltb o.white 64) (ltb o.black 64 && men) (legal-facts o legal-o).squares)

  lb : o.black < 64
  unfolding all
  lb =
      let men = all (λ a. ltb a.square 64) o.men in
      ltb→lt o.black 64
      (and_left (ltb o.black 64) men
      (and_right (ltb o.white 64) (ltb o.black 64 && men) (legal-facts o legal-o).squares))

  -- by the size of the ending
  before : (q : Place) → Complete m q → (f t : ℕ) → f < 64 → t < 64 → moved o f t ≡ board_in m q → Before m q o f t
  unfolding o
  before q d f t hf ht e = go (leb 4 m.second) refl
    where
      go : (x : Bool) → leb 4 m.second ≡ x → Before m q o f t
      go true k =
          let v = one-of m.first b.men (subst (λ (z : Material). OfMaterial z b) (piece-by m w k) own) in
          let r = one-changed s b v.0 v.1 in
          before-one m q d o lw lb f t hf ht e k r.0 r.1
          (first_on r.0 [] (subst (λ (l : List Piece). T (all (λ a. ltb a.square 64) l)) r.1 (all-men o legal-o)))
      go false k =
          let v = two-of m.first m.second (eqb m.colour 1) b.men
          (subst (λ (z : Material). OfMaterial z b) (material-by m false k) own) in
          let r = two-changed s b v.0 v.1 v.2 in
          let a = subst (λ (l : List Piece). T (all (λ a. ltb a.square 64) l)) r.2 (all-men o legal-o) in
          before-two m q d o lw lb f t hf ht e k r.0 r.1 r.2 (first_on r.0 (r.1 ∷ []) a)
          (first_on r.1 [] (rest-on r.0 (r.1 ∷ []) a))

  complete-before : (p : Place) → Seated m p → board_in m p ≡ o → Complete m p
  unfolding board_of posed
  complete-before p a e =
      let l = legal-facts (board_in m p) (subst⁻¹ (λ (x : Board). T (legal x)) e legal-o) in
      seated-complete m p a l.side (kings-separate (board_in m p) l.squares l.apart l.kings) l.apart

  -- a place of this number leads there
  pub taken_back : (q : Place) → Complete m q → board_in m q ≡ board_at (men_of M) (number_of c)
      → (p : Place) × (from : ℕ) × (to : ℕ) × Leads m p from to q × (number_of (board_in m p) ≡ n)
  unfolding s
  taken_back q d e =
      let v = map-out (played o) (changed_as s c) (moves o) leads in
      let can = (of-moves o v.0 v.1).1.can in
      let on = can-on o v.0.from v.0.to can in
      let r = before q d v.0.from v.0.to on.0 on.1
      (sym (v.2 ∙ plain-played o v.0 legal-o v.1) ∙ sym same.3 ∙ sym e) in (
        r.0,
        v.0.from,
        v.0.to,
        record {
          complete = complete-before r.0 r.1 r.2;
          legality = subst⁻¹ (λ (x : Board). T (legal x)) r.2 legal-o;
          can = subst⁻¹ (λ (x : Board). T (can_move x v.0.from v.0.to)) r.2 can;
          arrives = r.3;
        },
        ap number_of r.2 ∙ number-o,
      )
