-- A position with one man or two is legal, with men that have a table, exactly where no refusal applies: by the rules
-- without a pawn, or with one where the man is a pawn.
use Rattle.std.specs.Prelude.{◌≡◌, refl, Bool, true, false, cond, not, ◌&&◌, ◌||◌, ◌⊎◌, List, [], ◌∷◌, ◌++◌, ℕ, ◌-◌, ◌<◌, min, max, T, leb, ltb, eqb, None, Option, Some}
use Rattle.std.proofs.Common.{ap, subst, ◌∙◌, inl, inr, arith, le→leb, lt→ltb, lt-ltb, le-ltb, leb-false, eq-eqb, ne_eqb, eqb-true}
use Rattle.std.proofs.Math.Path.{subst⁻¹}
use Rattle.std.proofs.lemmas.Bool.{eqb-false}
use Rattle.finite.specs.Truth.{same_test, and_right, and_both, of-true, refuted}
use Rattle.finite.specs.Members.{all, all_in, all-out}
use Rattle.rules.specs.declared.Piece.{Piece}
use Rattle.rules.specs.Pawn.{pawn, inner}
use Rattle.rules.specs.Rules.{Board, pieces, known, known_or_pawn, touching, in_check, apart, legal_of, legal, legal_with_pawn}
use Rattle.rules.proofs.laws.Legal.{legal_of-facts, facts-legal_of, legal-with-pawn}
use Rattle.numbering.specs.declared.Material.{Material}
use Rattle.numbering.specs.Material.{given, material_in, legal_in}
use Rattle.numbering.specs.Material as materials
use Rattle.numbering.proofs.laws.MaterialLaws.{known-given}
use Rattle.position.specs.declared.Position.{Position}
use Rattle.position.specs.Keyed.{slot_men, board_of}
use Rattle.position.specs.Refusals.{ranked, bad_men_of, bad_side, bad_square, bad_pawn, shared_square, placing_with, standing_with}
use Rattle.position.proofs.laws.SlotLaws.{leb-not}
use Rattle.position.proofs.laws.BothSizes.{standing-placed-with, placed-men-with}

-- ---- what 1 admits the rules admit, if it has a colour and is no pawn on rank 1 or 8

four-or-less : (k : ℕ) → k < 5 → (k ≡ 4) ⊎ (k < 4)
four-or-less k h = go (eqb k 4) refl
  where
    go : (x : Bool) → eqb k 4 ≡ x → (k ≡ 4) ⊎ (k < 4)
    go true e = inl (eqb-true k 4 e)
    go false e = inr (let n = eqb-false k 4 e in omega arith)

admitted : (a : Piece) → a.kind < 5 → known_or_pawn a ≡ (ltb a.colour 2 && ranked a)
admitted a h = go (four-or-less a.kind h)
  where
    pass : (c r : Bool) → ((false && c) || ((true && c) && r)) ≡ (c && r)
    pass c r = refl

    plain : (c : Bool) (r : Bool) → ((true && c) || ((false && c) && r)) ≡ (c && true)
    plain true r = refl
    plain false r = refl

    go : (a.kind ≡ 4) ⊎ (a.kind < 4) → known_or_pawn a ≡ (ltb a.colour 2 && ranked a)
    go (inl e) =
        rw (le-ltb a.kind 4 (omega arith), eq-eqb a.kind 4 e) (pass (ltb a.colour 2) (inner a.square))
    go (inr e) =
        rw (lt-ltb a.kind 4 e, ne_eqb a.kind 4 (λ q. omega arith))
        (plain (ltb a.colour 2) (inner a.square))

one-pair : (c r : Bool) → ((c && r) && true) ≡ ((c && true) && (r && true))
one-pair true true = refl
one-pair true false = refl
one-pair false r = refl

two-pairs : (c r d s : Bool) → ((c && r) && ((d && s) && true)) ≡ ((c && (d && true)) && (r && (s && true)))
two-pairs false r d s = refl
two-pairs true false false s = refl
two-pairs true false true s = refl
two-pairs true true false s = refl
two-pairs true true true s = refl

either-false : (a b : Bool) → (a || b) ≡ false → (a ≡ false) × (b ≡ false)
either-false true b e = absurd (refuted e tt)
either-false false b e = (refl, e)

slots-admitted : (f s : Option Piece) → bad_men_of f s ≡ false
    → all known_or_pawn (slot_men f ++ slot_men s)
    ≡ (all (λ m. ltb m.colour 2) (slot_men f ++ slot_men s) && all ranked (slot_men f ++ slot_men s))
unfolding all
slots-admitted None s e = absurd (refuted e tt)
slots-admitted (Some a) None e =
    ap (λ (x : Bool). x && true) (admitted a (leb-false 5 a.kind e)) ∙ one-pair (ltb a.colour 2) (ranked a)
slots-admitted (Some a) (Some c) e =
    let x = either-false (leb 4 a.kind) (leb 4 c.kind) e in
    let j : a.kind < 5 = omega (arith, leb-false 4 a.kind x.0) in
    let k : c.kind < 5 = omega (arith, leb-false 4 c.kind x.1) in
    ap (λ (y : Bool). y && (known_or_pawn c && true)) (admitted a j)
    ∙ ap (λ (y : Bool). (ltb a.colour 2 && ranked a) && (y && true)) (admitted c k)
    ∙ two-pairs (ltb a.colour 2) (ranked a) (ltb c.colour 2) (ranked c)

-- ---- the chain, over the tests: men, side, colours, squares on the board, pawns' ranks, apart, touching kings, check

unfoldable chain : Bool → Bool → Bool → Bool → Bool → Bool → Bool → ℕ
chain m s h q r a t =
    cond m 1 (cond (not s || not h) 2 (cond (not q) 3 (cond (not r) 18 (cond (not a) 4 (cond t 5 0)))))

agree : (m s k h q r a t c : Bool) → (m ≡ false → k ≡ (h && r))
    → (not m && (s && k && q && a && not t && not c))
    ≡ eqb (cond (eqb (chain m s h q r a t) 0) (cond c 6 0) (chain m s h q r a t)) 0
unfolding chain
agree true s k h q r a t c e = refl
agree false s k h q r a t c e = rw (e refl) (rest s h q r a t c)
  where
    rest : (s h q r a t c : Bool)
        → (s && (h && r) && q && a && not t && not c)
        ≡ eqb (cond (eqb (chain false s h q r a t) 0) (cond c 6 0) (chain false s h q r a t)) 0
    rest false h q r a t c = refl
    rest true false q r a t c = refl
    rest true true false true a t c = refl
    rest true true false false a t c = refl
    rest true true true false a t c = refl
    rest true true true true false t c = refl
    rest true true true true true true c = refl
    rest true true true true true false true = refl
    rest true true true true true false false = refl

-- LEGAL EXACTLY WHERE NO REFUSAL APPLIES, with a pawn or without.
pub legal-standing-with : (p : Position)
    → (not (bad_men_of p.first p.second) && legal_with_pawn (board_of p)) ≡ eqb (standing_with p) 0
unfolding legal_of standing_with placing_with bad_side bad_square bad_pawn shared_square board_of chain
legal-standing-with p =
    rw (leb-not 2 p.side)
    (agree (bad_men_of p.first p.second) (ltb p.side 2) (all known_or_pawn (board_of p).men)
    (all (λ m. ltb m.colour 2) (board_of p).men)
    (all (λ m. ltb m.square 64) (pieces (board_of p))) (all ranked (board_of p).men) (apart (pieces (board_of p)))
    (touching (board_of p)) (in_check (board_of p) (1 - p.side))
    (slots-admitted p.first p.second))

pub standing-with-pawn : (p : Position) → standing_with p ≡ 0 → T (legal_with_pawn (board_of p))
standing-with-pawn p z =
    let bad = bad_men_of p.first p.second in
    and_right (not bad) (legal_with_pawn (board_of p)) (of-true (legal-standing-with p ∙ eq-eqb (standing_with p) 0 z))

pub standing-men : (p : Position) → standing_with p ≡ 0 → bad_men_of p.first p.second ≡ false
standing-men p z = placed-men-with p (standing-placed-with p z)

-- ---- without a pawn

-- a piece that the rules admit and that is no pawn is known
piece-known : (a : Piece) → T (known_or_pawn a) → T (not (pawn a)) → T (known a)
piece-known a t n = go (known a) (pawn a) (ltb a.colour 2) (inner a.square) t n
  where
    go : (k p c r : Bool) → T (k || ((p && c) && r)) → T (not p) → T k
    go true p c r t n = tt
    go false true c r t n = absurd n
    go false false c r t n = absurd t

pub pawnless-legal : (b : Board) → T (legal_with_pawn b) → T (all (λ a. not (pawn a)) b.men) → T (legal b)
pawnless-legal b t n =
    let l = legal_of-facts known_or_pawn b t in
    facts-legal_of known b (record {
      side = l.side;
      men = all_in known b.men
          (λ a i. piece-known a (all-out known_or_pawn i l.men) (all-out (λ c. not (pawn c)) i n));
      squares = l.squares;
      apart = l.apart;
      kings = l.kings;
      safe = l.safe;
    })

pub pawnless-same : (b : Board) → T (all (λ a. not (pawn a)) b.men) → legal_with_pawn b ≡ legal b
pawnless-same b n = same_test (legal_with_pawn b) (legal b) (λ t. pawnless-legal b t n) (legal-with-pawn b)

-- ---- by the ending

-- the men are a lone pawn, or those of an ending of pieces
abbrev pub PawnOrPieces : List Piece → Type 0
PawnOrPieces ms =
    (material_in ms ≡ Material.Pawn) ⊎ (T (materials.known (material_in ms)) × T (all (λ a. not (pawn a)) ms))

pub least-most : (j k : ℕ) → j < 4 → k < 4 → T (leb (min j k) (max j k) && ltb (max j k) 4)
least-most j k h i =
    and_both (leb (min j k) (max j k)) (ltb (max j k) 4) (le→leb (min j k) (max j k) (omega arith))
    (lt→ltb (max j k) 4 (omega arith))

men-by : (f s : Option Piece) → bad_men_of f s ≡ false → PawnOrPieces (slot_men f ++ slot_men s)
unfolding all
men-by None s e = absurd (refuted e tt)
men-by (Some a) None e = go (four-or-less a.kind (leb-false 5 a.kind e))
  where
    go : (a.kind ≡ 4) ⊎ (a.kind < 4) → PawnOrPieces (a ∷ [])
    go (inl e) = inl (rw (eq-eqb a.kind 4 e))
    go (inr e) = inr (rw (ne_eqb a.kind 4 (λ q. omega arith)) (lt→ltb a.kind 4 e, tt))
men-by (Some a) (Some c) e =
    let x = either-false (leb 4 a.kind) (leb 4 c.kind) e in
    let j = leb-false 4 a.kind x.0 in
    let k = leb-false 4 c.kind x.1 in
    inr (
      least-most a.kind c.kind j k,
      rw (ne_eqb a.kind 4 (λ q. omega arith), ne_eqb c.kind 4 (λ q. omega arith)) tt,
    )

pub pawn-or-pieces : (p : Position) → bad_men_of p.first p.second ≡ false → PawnOrPieces (board_of p).men
unfolding board_of
pawn-or-pieces p e = men-by p.first p.second e

pub men-given : (ms : List Piece) → PawnOrPieces ms → T (given (material_in ms))
men-given ms (inl e) = subst⁻¹ (λ (m : Material). T (given m)) e tt
men-given ms (inr t) = known-given (material_in ms) t.0

-- men of an ending of pieces: none is a pawn
pub men-pieces : (ms : List Piece) → PawnOrPieces ms → T (materials.known (material_in ms))
    → T (all (λ a. not (pawn a)) ms)
men-pieces ms (inl e) t = absurd (subst (λ (m : Material). T (materials.known m)) e t)
men-pieces ms (inr n) t = n.1

-- legal by the rules that the ending's men need
legal-by : (m : Material) (b : Board) → T (legal_with_pawn b)
    → (m ≡ Material.Pawn) ⊎ (T (materials.known m) × T (all (λ a. not (pawn a)) b.men))
    → T (legal_in m b)
legal-by m b t (inl e) = subst⁻¹ (λ (x : Material). T (legal_in x b)) e t
legal-by m b t (inr n) = go m
  where
    go : (m : Material) → T (legal_in m b)
    go (Material.One kind) = pawnless-legal b t n.1
    go (Material.Two first second rivals) = pawnless-legal b t n.1
    go Material.Pawn = t

module _ (p : Position) (z : standing_with p ≡ 0) where
  pub standing_by : PawnOrPieces (board_of p).men
  standing_by = pawn-or-pieces p (standing-men p z)

  pub standing-legal-in : T (legal_in (material_in (board_of p).men) (board_of p))
  standing-legal-in = legal-by (material_in (board_of p).men) (board_of p) (standing-with-pawn p z) standing_by

  pub standing-legal : T (materials.known (material_in (board_of p).men)) → T (legal (board_of p))
  standing-legal t =
      pawnless-legal (board_of p) (standing-with-pawn p z) (men-pieces (board_of p).men standing_by t)
