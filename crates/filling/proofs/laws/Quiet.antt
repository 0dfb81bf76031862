-- Where a pass settles nothing: a depth above 0 is required only where a successor holds the depth before it, and
-- successors' numbers lie in the other half of the table, or in a lent one; the men being of one side, in its other
-- half too.
use Rattle.std.specs.Prelude.{◌≡◌, refl, Bool, true, false, not, ◌&&◌, ◌⊎◌, ℕ, ◌+◌, ◌-◌, ◌/◌, ◌<◌, ◌≤◌, leb, length, get_or, take, drop, nat_eq}
use Rattle.std.proofs.Common.{sym, ◌∙◌, inl, inr, le-leb, eqb-true, eq-eqb}
use Rattle.std.proofs.Math.Path.{ap, subst, subst⁻¹}
use Rattle.std.proofs.Math.Bool.{cond}
use mathlib.Core.List.Memᴰ
use mathlib.Core.List.{List, [], ◌∷◌, map}
use native.Mathlib.Omega.{arith}
use Rattle.std.proofs.Math.Dec.{T, eqb, eqb→eq}
use Rattle.std.proofs.lemmas.Bool.{lt-leb}
use Rattle.finite.specs.Truth.{decided, and_left, and_right, fails, le-or-lt, false_of, true-not-false}
use Rattle.finite.specs.Members.{◌∈◌, map-out, none_in}
use Rattle.theory.specs.Game.{next}
use Rattle.theory.specs.Required.{required_at}
use Rattle.theory.proofs.laws.RuleLaws.{required-rule, byte-before}
use Rattle.table_theory.specs.Tables.{reads, settles}
use Rattle.table_theory.proofs.laws.Acceptance.{reads-inside, reads-outside}
use Rattle.rules.specs.declared.Piece.{Piece}
use Rattle.rules.specs.Rules.{Board, empty, legal, mated}
use Rattle.rules.specs.Chess.{chess}
use Rattle.position.specs.declared.Men.{Men}
use Rattle.position.specs.Posed.{material_for}
use Rattle.numbering.specs.Keys.{board_at}
use Rattle.numbering.specs.Number.{number_of}
use Rattle.numbering.specs.declared.Material.{Material}
use Rattle.numbering.specs.Material.{known, one_of, men_of, size_of}
use Rattle.index.specs.Endings.{board_for}
use Rattle.index.proofs.laws.EndingsLaws.{legal-of, pieces-number, pieces-board}
use Rattle.index.proofs.laws.PlaceLaws.{material-by, piece-by}
use Rattle.endings.specs.Ending.{LoneOf, Lone, table_size, byte_of}
use Rattle.endings.proofs.laws.Halves.{side-next, number-side}
use Rattle.endings.proofs.laws.IndexLaws.{number-of-ending}
use Rattle.four_men.specs.Lending.{Lent, lent, borrowed}
use Rattle.four_men.specs.Reading.{Fewer, Within, full, lent_for, lent_to, lent_byte, legal_number_of, numbered}
use Rattle.four_men.proofs.laws.Captures.{within-closed, fewer-of}
use Rattle.four_men.proofs.laws.Numbered.{numbers, number-live, live_at}
use Rattle.working_back.specs.Admitted.{over, Admitted}
use Rattle.filling.specs.Quiet.{Absent, Quiet, low_of, high_of}
use Rattle.working_back.proofs.laws.Admitted.{long}
use Rattle.filling.proofs.laws.Halves.{side-below, side-above, below-side, above-side, number-side-with, standard-next, white-left}
use Rattle.std.specs.List.{IsAnyAnswer}
use Rattle.std.proofs.lemmas.List.{get_or-take, get_or-drop, length-take, length-drop}

-- the men of one side: what is left of them is White's
abbrev pub OneSide : Material → Type 0
OneSide (Material.One kind) = Unit {0}
OneSide (Material.Two j k r) = r ≡ false
OneSide Material.Pawn = Unit {0}

-- depth k - 1 stands in a lent table, at a number that a successor may have
abbrev pub Lower : Material → Lent → ℕ → ℕ → Type 0
Lower m l k side =
    (u : List ℕ) × (u ∈ borrowed m l) × (i : ℕ) × (i < table_size) × (OneSide m → i / 64 / 462 ≡ 1 - side)
    × (get_or u i 0 ≡ 1 + k)

module _ (m : Material) (l : Lent) (k : ℕ) (t : List ℕ) (side : ℕ) where
  -- where depth k - 1 stands, for a board with this side to move
  data Cause : Type 0 where
    own : (i : ℕ) → i < size_of m → (board_at (men_of m) i).side ≡ 1 - side → get_or t i 0 ≡ 1 + k → Cause
    lower : Lower m l k side → Cause

-- the table lent for a kind is one of the two
lent-in : (j k kind : ℕ) (r : Bool) (l : Lent) → lent_for j l kind ∈ borrowed (Material.Two j k r) l
lent-in j k kind r l = go (eqb kind j)
  where
    go : (x : Bool) → cond x l.first l.second ∈ (l.first ∷ l.second ∷ [])
    go true = Memᴰ.head refl
    go false = Memᴰ.tail (Memᴰ.head refl)

-- a successor with a man taken: bare kings hold no depth, a man left alone is read in his table
module _ (l : Lent) (d : ℕ) (n : ℕ) (q : Board) (legality : T (legal q)) (some : 0 < d) where
  bare : (u : List ℕ) → q.men ≡ [] → byte_of u q ≡ 1 + d → ⊥
  unfolding byte_of
  bare u e r =
      let z : byte_of u q ≡ 1 = ap (λ (men : List Piece). cond (empty men) 1 (get_or u (number_of q) 0)) e in
      omega (arith, z, r, some)

  read : (u : List ℕ) (kind : ℕ) → Lone kind q → byte_of u q ≡ get_or u (number_of q) 0
  unfolding byte_of
  read u kind w = ap (λ (men : List Piece). cond (empty men) 1 (get_or u (number_of q) 0)) w.1.1

  alone : (j k kind : ℕ) (r : Bool) → T (known (Material.Two j k r)) → q ∈ next chess (board_at (men_of (Material.Two j k r)) n) → Lone kind q
      → byte_of (lent_to j l q.men) q ≡ 1 + d
      → Lower (Material.Two j k r) l d (board_at (men_of (Material.Two j k r)) n).side
  alone j k kind r known-men i w e =
      let f : lent_to j l q.men ≡ lent_for j l kind = ap (lent_to j l) w.1.1 in (
        lent_for j l kind,
        lent-in j k kind r l,
        number_of q,
        (number-of-ending kind q legality w).0,
        (λ o. half o i),
        sym (read (lent_for j l kind) kind w) ∙ ap (λ (u : List ℕ). byte_of u q) (sym f) ∙ e,
      )
    where
      half : r ≡ false → q ∈ next chess (board_at (men_of (Material.Two j k r)) n)
          → number_of q / 64 / 462 ≡ 1 - (board_at (men_of (Material.Two j k r)) n).side
      half o i =
          let z : w.0 ≡ 0 =
          white-left j k kind w.0 w.1.0 n q
          (subst (λ (x : Bool). T (known (Material.Two j k x))) o known-men)
          (subst (λ (x : Bool). q ∈ next chess (board_at (men_of (Material.Two j k x)) n)) o i) w.1.1 in
          (number-side kind q legality (subst (λ (c : ℕ). LoneOf kind c q) z w.1)).1
          ∙ side-next (board_at (men_of (Material.Two j k r)) n) q i

  pub fewer : (m : Material) → T (known m) → q ∈ next chess (board_at (men_of m) n) → Fewer m q → lent_byte m l q ≡ 1 + d
      → Lower m l d (board_at (men_of m) n).side
  fewer Material.Pawn v i f e = absurd v
  fewer (Material.One kind) v i f e = absurd (omega arith)
  fewer (Material.Two j k r) v i (inl f) e = absurd (bare (lent_to j l q.men) f e)
  fewer (Material.Two j k r) v i (inr (inl f)) e = alone j k j r v i f e
  fewer (Material.Two j k r) v i (inr (inr f)) e = alone j k k r v i f e

module _ (m : Material) (w : T (known m)) (l : Lent) (k : ℕ) (t : List ℕ) (n : ℕ) (h : n < size_of m) where
  abbrev board : Board
  board = board_at (men_of m) n

  at-is : board_for m n ≡ board
  at-is = ap (λ (at : ℕ → Board). at n) (pieces-board m w)

  -- a number that pass k settles, k not 0, has a successor that holds depth k - 1
  cause : 0 < k → T (settles chess (numbered m l) k t n) → Cause m l k t board.side
  unfolding settles numbered
  cause some s =
      let byte = required_at chess (reads chess (numbered m l) t) board in
      let there = subst (λ (b : Board). T (eqb (get_or t n 0) 1 && (legal_number_of m n && eqb
      (required_at chess (reads chess (numbered m l) t) b) (2 + k)))) at-is s in
      let last = and_right (eqb (get_or t n 0) 1) (legal_number_of m n && eqb byte (2 + k)) there in
      let e = eqb→eq byte (2 + k) (and_right (legal_number_of m n) (eqb byte (2 + k)) last) in
      let b = byte-before
      (required-rule (mated board) (map (reads chess (numbered m l) t) (next chess board))) (omega (arith, e)) in
      let v = map-out (reads chess (numbered m l) t) b.0 (next chess board) b.1 in
      go v.0
      (within-closed m w board v.0 (live_at m w n h (and_left (legal_number_of m n) (eqb byte (2 + k)) last)).0 v.1)
      v.1 (sym v.2 ∙ before b.0 (sym e ∙ b.2)) (decided (full m v.0.men))
    where
      before : (b : ℕ) → 2 + k ≡ 1 + b → b ≡ 1 + k
      before b e = omega arith

      go : (q : Board) → Within m q → q ∈ next chess board → reads chess (numbered m l) t q ≡ 1 + k
          → T (full m q.men) ⊎ T (not (full m q.men)) → Cause m l k t board.side
      go q d i r (inl f) =
          Cause.own (number_of q) (number-live m w q d f).0
          (number-side-with m w q (numbers m w q d f) (standard-next m n q i w f) ∙ side-next board q i)
          (ap (λ (f : Board → ℕ). get_or t (f q) 0) (sym (pieces-number m w))
          ∙ sym (reads-inside chess (numbered m l) t q f) ∙ r)
      go q d i r (inr o) =
          Cause.lower
          (fewer l k n q (legal-of m w q d.legality) some m w i (fewer-of m q d (false_of o))
          (sym (reads-outside chess (numbered m l) t q (false_of o)) ∙ r))

-- ---- the numbers lent that a side's successors may have

one_side : (m : Men) → m.colour ≡ 0 → OneSide (material_for m)
one_side m e = go (leb 4 m.second)
  where
    go : (x : Bool) → OneSide
        (cond x (one_of m.first) (Material.Two m.first m.second (eqb m.colour 1)))
    go true = single (eqb m.first 4)
      where
        single : (y : Bool) → OneSide (cond y Material.Pawn (Material.One m.first))
        single true = tt
        single false = tt
    go false = ap (λ (c : ℕ). eqb c 1) e

in-upper : (m : Men) (i : ℕ) → (OneSide (material_for m) → i / 64 / 462 ≡ 1) → low_of m ≤ i
in-upper m i f = go (eqb m.colour 0) refl
  where
    go : (x : Bool) → eqb m.colour 0 ≡ x → cond x 29568 0 ≤ i
    go true e = let z = f (one_side m (eqb-true m.colour 0 e)) in omega arith
    go false e = omega arith

in-lower : (m : Men) (i : ℕ) → i < table_size → (OneSide (material_for m) → i / 64 / 462 ≡ 0) → i < high_of m
in-lower m i h f = go (eqb m.colour 0) refl
  where
    go : (x : Bool) → eqb m.colour 0 ≡ x → i < cond x 29568 59136
    go true e = let z = f (one_side m (eqb-true m.colour 0 e)) in omega arith
    go false e = omega arith

module _ (men : Men) (l : Lent) (k : ℕ) (t : List ℕ) where
  abbrev m : Material
  m = material_for men

  abbrev pub WhiteQuiet : Type 0
  WhiteQuiet = Quiet m l k t (size_of m / 2) (size_of m) (low_of men) table_size

  abbrev pub BlackQuiet : Type 0
  BlackQuiet = Quiet m l k t 0 (size_of m / 2) 0 (high_of men)

  module _ (n : ℕ) (h : n < size_of (material_for men)) where
    quiet-white : n < size_of m / 2 → WhiteQuiet → settles chess (numbered m l) k t n ≡ false
    quiet-white low q =
        fails (settles chess (numbered m l) k t n) (λ s. none (cause m q.pieces l k t n h q.later s))
      where
        w : T (known m)
        w = q.pieces

        none : Cause m l k t (board_at (men_of m) n).side → ⊥
        none (Cause.own i b e r) =
            q.absent.none i (above-side m w i (e ∙ ap (λ (x : ℕ). 1 - x) (side-below m w n low))) b r
        none (Cause.lower x) =
            (q.lent x.0 x.1).none x.2
            (in-upper men x.2 (λ o. x.4 o ∙ ap (λ (x : ℕ). 1 - x) (side-below m w n low))) x.3 x.5

    quiet-black : size_of m / 2 ≤ n → BlackQuiet → settles chess (numbered m l) k t n ≡ false
    quiet-black high q =
        fails (settles chess (numbered m l) k t n) (λ s. none (cause m q.pieces l k t n h q.later s))
      where
        w : T (known m)
        w = q.pieces

        none : Cause m l k t (board_at (men_of m) n).side → ⊥
        none (Cause.own i b e r) =
            q.absent.none i (omega arith) (below-side m w i (e ∙ ap (λ (x : ℕ). 1 - x) (side-above m w n h high))) r
        none (Cause.lower x) =
            (q.lent x.0 x.1).none x.2 (omega arith)
            (in-lower men x.2 x.3 (λ o. x.4 o ∙ ap (λ (x : ℕ). 1 - x) (side-above m w n h high))) x.5

-- as the code has it: the table has the ending's size
pub quiet-below : (m : Men) (first second t : List ℕ) → Admitted m first second t → (k n : ℕ) → n < length t / 2
    → Quiet (material_for m) (lent first second) k t (length t / 2) (length t) (low_of m) 59136
    → settles chess (over m first second) k t n ≡ false
quiet-below m first second t a k n = go (length t) (long m first second t a)
  where
    inside : (s : ℕ) → n < s / 2 → n < s
    inside s h = omega arith

    go : (s : ℕ) → s ≡ size_of (material_for m) → n < s / 2
        → Quiet (material_for m) (lent first second) k t (s / 2) s (low_of m) 59136
        → settles chess (over m first second) k t n ≡ false
    go s z =
        subst⁻¹ (λ (s : ℕ). n < s / 2 → Quiet (material_for m) (lent first second) k t (s / 2) s (low_of m) 59136
        → settles chess (over m first second) k t n ≡ false) z
        (λ h q. quiet-white m (lent first second) k t n (inside (size_of (material_for m)) h) h q)

pub quiet-above : (m : Men) (first second t : List ℕ) → Admitted m first second t → (k n : ℕ) → n < length t
    → length t / 2 ≤ n → Quiet (material_for m) (lent first second) k t 0 (length t / 2) 0 (high_of m)
    → settles chess (over m first second) k t n ≡ false
quiet-above m first second t a k n = go (length t) (long m first second t a)
  where
    go : (s : ℕ) → s ≡ size_of (material_for m) → n < s → s / 2 ≤ n
        → Quiet (material_for m) (lent first second) k t 0 (s / 2) 0 (high_of m)
        → settles chess (over m first second) k t n ≡ false
    go s z =
        subst⁻¹ (λ (s : ℕ). n < s → s / 2 ≤ n → Quiet (material_for m) (lent first second) k t 0 (s / 2) 0 (high_of m)
        → settles chess (over m first second) k t n ≡ false) z
        (λ h g q. quiet-black m (lent first second) k t n h g q)

-- ---- nothing found

module _ (m : Men) (l : Lent) (k : ℕ) (t : List ℕ) (from to low high : ℕ) (z : k ≡ 0 → ⊥)
    (a : Absent t (1 + k) from to) (w : T (known (material_for m))) where
  positive : 0 < k
  positive = omega arith

  none-in-any : (bs : List (List ℕ)) → borrowed (material_for m) l ≡ bs
      → ((u : List ℕ) → u ∈ bs → Absent u (1 + k) low high) → Quiet (material_for m) l k t from to low high
  none-in-any bs e f =
      record { pieces = w; later = positive; absent = a; lent = λ u i. f u (subst (λ (l : List (List ℕ)). u ∈ l) e i) }

  -- with one man nothing is lent
  pub quiet_one : 4 ≤ m.second → Quiet (material_for m) l k t from to low high
  quiet_one h =
      none-in-any [] (ap (λ (x : Material). borrowed x l) (piece-by m w (le-leb 4 m.second h)))
      (λ u i. absurd (none_in refl i))

  -- with two, both lent tables are asked
  pub quiet-two : m.second < 4 → Absent l.first (1 + k) low high → Absent l.second (1 + k) low high
      → Quiet (material_for m) l k t from to low high
  quiet-two h b c =
      none-in-any (l.first ∷ l.second ∷ [])
      (ap (λ (x : Material). borrowed x l) (material-by m false (lt-leb 4 m.second h))) either
    where
      either : (u : List ℕ) → u ∈ (l.first ∷ l.second ∷ []) → Absent u (1 + k) low high
      either u (Memᴰ.head e) = subst⁻¹ (λ (v : List ℕ). Absent v (1 + k) low high) e b
      either u (Memᴰ.tail (Memᴰ.head e)) = subst⁻¹ (λ (v : List ℕ). Absent v (1 + k) low high) e c
      either u (Memᴰ.tail (Memᴰ.tail i)) = elim i [ ]

pub quiet-low : (m : Men) (l : Lent) (k : ℕ) (t : List ℕ) (from to low high : ℕ) → low ≡ low_of m
    → Quiet (material_for m) l k t from to low high → Quiet (material_for m) l k t from to (low_of m) high
quiet-low m l k t from to low high e q = subst (λ (x : ℕ). Quiet (material_for m) l k t from to x high) e q

pub quiet-high : (m : Men) (l : Lent) (k : ℕ) (t : List ℕ) (from to low high : ℕ) → high ≡ high_of m
    → Quiet (material_for m) l k t from to low high → Quiet (material_for m) l k t from to low (high_of m)
quiet-high m l k t from to low high e q = subst (Quiet (material_for m) l k t from to low) e q

pub high-most : (m : Men) (high : ℕ) → high ≡ high_of m → high ≤ 59136
high-most m high e = subst⁻¹ (λ (x : ℕ). x ≤ 59136) e (go (eqb m.colour 0))
  where
    go : (x : Bool) → cond x 29568 59136 ≤ 59136
    go true = omega arith
    go false = omega arith

-- ---- looking for a byte

module _ (t : List ℕ) (byte from : ℕ) where
  pub absent_none : Absent t byte from from
  absent_none = record { none = λ m a b e. omega arith }

  pub absent_more : (n : ℕ) → Absent t byte from n → (get_or t n 0 ≡ byte → ⊥) → Absent t byte from (n + 1)
  absent_more n f g = record { none = λ m a b e. go m a b e (le-or-lt n m) }
    where
      go : (m : ℕ) → from ≤ m → m < n + 1 → get_or t m 0 ≡ byte → (n ≤ m) ⊎ (m < n) → ⊥
      go m a b e (inl h) = let z : m ≡ n = omega arith in g (subst (λ (j : ℕ). get_or t j 0 ≡ byte) z e)
      go m a b e (inr h) = f.none m a h e

  pub absent-upto : (n to : ℕ) → to ≤ n → Absent t byte from n → Absent t byte from to
  absent-upto n to h f = record { none = λ m a b e. f.none m a (omega arith) e }

pub absent-part : (t : List ℕ) (byte from to : ℕ) → to ≤ length t → (r : Bool)
    → IsAnyAnswer (λ b x. nat_eq b byte ≡ x) (take (to - from) (drop from t)) r → r ≡ false → Absent t byte from to
absent-part t byte from to h true a e = absurd (true-not-false refl e)
absent-part t byte from to h false a e = record { none = none }
  where
    none : (n : ℕ) → from ≤ n → n < to → get_or t n 0 ≡ byte → ⊥
    none n x y q =
        let i : from + (n - from) ≡ n = omega arith in
        let same : get_or (take (to - from) (drop from t)) (n - from) 0 ≡ byte =
        get_or-take (to - from) (drop from t) (n - from) 0 (omega arith) ∙ get_or-drop from t (n - from) 0
        ∙ ap (λ (k : ℕ). get_or t k 0) i ∙ q in
        let long : n - from < length (take (to - from) (drop from t)) =
        let a = length-take (to - from) (drop from t) in let b = length-drop from t in omega (arith, h) in
        true-not-false (eq-eqb _ _ same) (a (n - from) 0 (omega arith) long)
