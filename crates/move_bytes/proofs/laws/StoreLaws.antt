-- Moves stored in lent bytes one after the other, and what is left to store.
use Rattle.std.specs.Prelude.{◌≡◌, refl, Bool, true, false, ℕ, suc, ◌+◌, ◌*◌, ◌≤◌, length, set}
use Rattle.std.proofs.Common.{sym, ap, ◌∙◌, arith, length-append}
use mathlib.Core.List.{List, [], ◌∷◌, ◌++◌, map, flat_map}
use Rattle.std.proofs.lemmas.List.Edits.{sets}
use Rattle.std.proofs.Math.Seq.{length-sets}
use Rattle.board.specs.Sets.{has, members, set_of}
use Rattle.board.proofs.laws.LowestLaws.{Lowest}
use Rattle.rules.specs.declared.Move.{Move}
use Rattle.rules.specs.Rules.{Board, can_move, taking, promotes, moves_from, promotion_of, move_of}
use Rattle.move_list.specs.Lists.{room}
use Rattle.move_list.specs.ListLaws.{targets_moves}
use Rattle.move_list.proofs.laws.ListLaws.{sets-append}
use Rattle.move_list.proofs.laws.TargetLaws.{targets_next}
use Rattle.move_list.proofs.laws.TurnLaws.{turn-moves}
use Rattle.move_bytes.specs.MoveBytes.{move_bytes, list_size}
use Rattle.move_bytes.specs.Stored.{Stored}

pub moves-length : (ms : List Move) → length (flat_map move_bytes ms) ≡ 4 * length ms
unfolding flat_map
moves-length [] = refl
moves-length (m ∷ ms) = let r = moves-length ms in omega arith

-- four bytes, one by one; x is whether the move takes
pub four_bytes : (l : List ℕ) (i a b c d x : ℕ) → x ≡ c
    → set (set (set (set l (4 * i) a) (4 * i + 1) b) (4 * i + 2) x) (4 * i + 3) d ≡ sets l (4 * i) (a ∷ b ∷ c ∷ d ∷ [])
four_bytes l i a b c d x q =
    let one : 4 * i + 1 ≡ suc (4 * i) = omega arith in
    let two : 4 * i + 2 ≡ suc (suc (4 * i)) = omega arith in
    let three : 4 * i + 3 ≡ suc (suc (suc (4 * i))) = omega arith in
    rw (one, two, three, q)

flat_map-append : (xs ys : List Move) → flat_map move_bytes (xs ++ ys) ≡ flat_map move_bytes xs ++ flat_map move_bytes ys
unfolding flat_map
flat_map-append [] ys = refl
flat_map-append (x ∷ xs) ys = ap (λ (l : List ℕ). move_bytes x ++ l) (flat_map-append xs ys)

-- two runs of moves are one
stored-twice : (l : List ℕ) (n k : ℕ) (xs ys : List Move) → k ≡ n + length xs
    → sets (sets l (4 * n) (flat_map move_bytes xs)) (4 * k) (flat_map move_bytes ys)
    ≡ sets l (4 * n) (flat_map move_bytes (xs ++ ys))
stored-twice l n k xs ys e =
    let at : 4 * k ≡ 4 * n + length (flat_map move_bytes xs) = omega (arith, e, moves-length xs) in
    rw at (sets-append l (4 * n) (flat_map move_bytes xs) (flat_map move_bytes ys))
    ∙ ap (sets l (4 * n)) (sym (flat_map-append xs ys))

-- four moves, one by one
pub four-moves : (l k k' k'' out : List ℕ) (n : ℕ) (a b c d : Move) → k ≡ sets l (4 * n) (move_bytes a)
    → k' ≡ sets k (4 * (n + 1)) (move_bytes b) → k'' ≡ sets k' (4 * (n + 2)) (move_bytes c)
    → out ≡ sets k'' (4 * (n + 3)) (move_bytes d)
    → out ≡ sets l (4 * n) (flat_map move_bytes (a ∷ b ∷ c ∷ d ∷ []))
unfolding flat_map
four-moves l k k' k'' out n a b c d e e' e'' eo =
    let two : k' ≡ sets l (4 * n) (flat_map move_bytes (a ∷ b ∷ [])) =
    e' ∙ ap (λ (x : List ℕ). sets x (4 * (n + 1)) (move_bytes b)) e
    ∙ stored-twice l n (n + 1) (a ∷ []) (b ∷ []) (omega arith) in
    let three : k'' ≡ sets l (4 * n) (flat_map move_bytes (a ∷ b ∷ c ∷ [])) =
    e'' ∙ ap (λ (x : List ℕ). sets x (4 * (n + 2)) (move_bytes c)) two
    ∙ stored-twice l n (n + 2) (a ∷ b ∷ []) (c ∷ []) (omega arith) in
    eo ∙ ap (λ (x : List ℕ). sets x (4 * (n + 3)) (move_bytes d)) three
    ∙ stored-twice l n (n + 3) (a ∷ b ∷ c ∷ []) (d ∷ []) (omega arith)

-- ---- what is left to store

-- ms were to be stored in l from n on; in k, from i on, ns are left
pub record Left (l : List ℕ) (n : ℕ) (ms : List Move) (k : List ℕ) (i : ℕ) (ns : List Move) : Type 0 where
  pub long : length k ≡ list_size
  pub fits : i + length ns ≤ room
  pub count : i + length ns ≡ n + length ms
  pub whole : sets k (4 * i) (flat_map move_bytes ns) ≡ sets l (4 * n) (flat_map move_bytes ms)

pub left-all : (l : List ℕ) (n : ℕ) (ms ns : List Move) → length l ≡ list_size → n + length ms ≤ room → ms ≡ ns
    → Left l n ms l n ns
left-all l n ms ns e h q =
    let c = ap length q in
    record {
      long = e;
      fits = omega (arith, h, c);
      count = omega (arith, c);
      whole = ap (λ (x : List Move). sets l (4 * n) (flat_map move_bytes x)) (sym q);
    }

module _ {l : List ℕ} {n : ℕ} {ms : List Move} {k : List ℕ} {i : ℕ} {ns : List Move} (r : Left l n ms k i ns)
    (xs ys : List Move) (e : ns ≡ xs ++ ys) where
  more : length ns ≡ length xs + length ys
  more = ap length e ∙ length-append xs ys

  left-room : i + length xs ≤ room
  left-room = omega (arith, r.fits, more)

  left-next : (k' : List ℕ) (i' : ℕ) → k' ≡ sets k (4 * i) (flat_map move_bytes xs) → i' ≡ i + length xs
      → Left l n ms k' i' ys
  left-next k' i' ek ei = record {
    long = ap length ek ∙ length-sets k (4 * i) (flat_map move_bytes xs) ∙ r.long;
    fits = omega (arith, r.fits, more, ei);
    count = omega (arith, r.count, more, ei);
    whole = ap (λ (x : List ℕ). sets x (4 * i') (flat_map move_bytes ys)) ek ∙ stored-twice k i i' xs ys ei
        ∙ ap (λ (x : List Move). sets k (4 * i) (flat_map move_bytes x)) (sym e)
        ∙ r.whole;
  }

pub left_end : {l : List ℕ} {n : ℕ} {ms : List Move} {k : List ℕ} {i : ℕ} {ns : List Move} → Left l n ms k i ns
    → ns ≡ [] → Stored ms n l i k
unfolding flat_map
left_end {k = k} {i = i} r e =
    let c = ap length e in
    record {
      count = omega (arith, r.count, c);
      bytes = ap (λ (x : List Move). sets k (4 * i) (flat_map move_bytes x)) (sym e) ∙ r.whole;
    }

-- ---- the moves to the lowest of some targets, and then to the others

module _ (foes ends from rest to others : ℕ) (low : Lowest rest to others) (takes end : Bool) (et : takes ≡ has foes to)
    (ee : end ≡ has ends to) {l : List ℕ} {n : ℕ} {ms : List Move} {k : List ℕ} {i : ℕ}
    (v : Left l n ms k i (targets_moves foes ends from (members rest))) where
  -- four promotions
  module _ (h : end ≡ true) where
    four : targets_moves foes ends from (members rest)
        ≡ map (promotion_of from to takes) (1 ∷ 2 ∷ 3 ∷ 4 ∷ []) ++ targets_moves foes ends from (members others)
    four = targets_next foes ends from rest to others low ∙ rw (sym ee ∙ h, et)

    pub promotes-room : i + 4 ≤ room
    promotes-room = left-room v (map (promotion_of from to takes) (1 ∷ 2 ∷ 3 ∷ 4 ∷ [])) _ four

    pub promotes-next : (k' : List ℕ) (i' : ℕ)
        → k' ≡ sets k (4 * i) (flat_map move_bytes (map (promotion_of from to takes) (1 ∷ 2 ∷ 3 ∷ 4 ∷ []))) → i' ≡ i + 4
        → Left l n ms k' i' (targets_moves foes ends from (members others))
    promotes-next = left-next v (map (promotion_of from to takes) (1 ∷ 2 ∷ 3 ∷ 4 ∷ [])) _ four

  -- one move
  module _ (h : end ≡ false) where
    single : targets_moves foes ends from (members rest)
        ≡ (move_of from to takes ∷ []) ++ targets_moves foes ends from (members others)
    single = targets_next foes ends from rest to others low ∙ rw (sym ee ∙ h, et)

    pub plain-room : i + 1 ≤ room
    plain-room = left-room v (move_of from to takes ∷ []) _ single

    pub plain-next : (k' : List ℕ) (i' : ℕ) → k' ≡ sets k (4 * i) (move_bytes (move_of from to takes)) → i' ≡ i + 1
        → Left l n ms k' i' (targets_moves foes ends from (members others))
    unfolding flat_map
    plain-next = left-next v (move_of from to takes ∷ []) _ single

-- ---- the moves from the lowest of some squares, and then from the others

module _ (b : Board) (rest from others targets : ℕ) (low : Lowest rest from others)
    (e : targets ≡ set_of (can_move b from)) (foes ends : ℕ) (ef : foes ≡ set_of (taking b)) (ee : ends ≡ set_of (promotes b from))
    {l : List ℕ} {n : ℕ} {ms : List Move} {k : List ℕ} {i : ℕ} (v : Left l n ms k i (flat_map (moves_from b) (members rest))) where
  pub mover-room : i + length (targets_moves foes ends from (members targets)) ≤ room
  mover-room = left-room v (targets_moves foes ends from (members targets)) _ (turn-moves b rest from others targets low e foes ends ef ee)

  pub mover-next : (k' : List ℕ) (i' : ℕ) → Stored (targets_moves foes ends from (members targets)) i k i' k'
      → Left l n ms k' i' (flat_map (moves_from b) (members others))
  mover-next k' i' s =
      left-next v (targets_moves foes ends from (members targets)) _ (turn-moves b rest from others targets low e foes ends ef ee)
      k' i' s.bytes s.count
