-- The empty board: the constant lists have what each piece attacks there, by one test over each whole list; and a piece on whose lines
-- nothing stands attacks what it does there.
use Rattle.std.specs.Prelude.{◌≡◌, Bool, true, ◌||◌, List, T, ltb, eqb, get_or, length}
use Rattle.std.proofs.Math.Path.{refl, sym}
use Rattle.std.proofs.Common.{ap, ap₂, ◌∙◌, inl, arith, eq-eqb, lt-ltb, le-ltb}
use Rattle.std.proofs.Math.Logic.{⊎_elim}
use Rattle.std.proofs.Math.Bool.{false}
use Prim.Native.Nat.{ℕ, zero, suc, ◌^◌, ◌≤◌, ◌<◌}
use Rattle.std.proofs.Math.Dec.{eqb→eq}
use Rattle.std.specs.Int.Bits.{bit_and, bit_or}
use Rattle.std.proofs.lemmas.Nat.{or_lt}
use Rattle.std.proofs.Math.ListN.{get_or-eq_default}
use Rattle.finite.specs.Truth.{le-or-lt, fails, of-true, true_of, refuted, and_both, or_left, or_right}
use Rattle.finite.specs.Members.{any, any-in, any_same}
use Rattle.finite.specs.Numbers.{numbers}
use Rattle.finite.specs.Below.{all_below, below}
use Rattle.board.specs.Square.{stays, shift}
use Rattle.board.specs.Reach.{line, step_xs, step_ys, step_ranges, steps_of, line_of, reaches}
use Rattle.board.specs.Sets.{has, pack, set_of}
use Rattle.board.specs.EmptyBoard.{nothing}
use Rattle.constants.specs.EmptyBoard.{king_steps, knight_steps, rook_lines, bishop_lines}
use Rattle.board.proofs.laws.SetLaws.{has-none, has-and, has-or, set_of-same, set_is, set-has}
use Rattle.board.proofs.laws.ReachLaws.{reaches-squares, reaches-off, king-reaches, knight-reaches}
use Rattle.board.proofs.laws.Blocking.{reaches-fewer}

-- ---- the lists

right : List ℕ → ℕ → ℕ → Bool
right list kind s = eqb (get_or list s 0) (set_of (reaches nothing kind s))

-- off the board a list has nothing, and nothing is attacked from there
module _ (list : List ℕ) (kind : ℕ) (n : length list ≡ 64) (t : T (all_below (right list kind) 64)) (s : ℕ) where
  off-board : 64 ≤ s → get_or list s 0 ≡ set_of (reaches nothing kind s)
  off-board h =
      get_or-eq_default list 0 (rw n h)
      ∙ set_is (reaches nothing kind s) 0 (omega arith) (λ u l. has-none u ∙ sym (reaches-off nothing kind s u (inl h)))

  listed : get_or list s 0 ≡ set_of (reaches nothing kind s)
  unfolding right
  listed =
      ⊎_elim off-board (λ h. eqb→eq (get_or list s 0) (set_of (reaches nothing kind s)) (below (right list kind) 64 t s h))
      (le-or-lt 64 s)

kings-right : T (all_below (right king_steps 5) 64)
unfolding all_below right set_of pack reaches any numbers line shift stays
kings-right = tt

knights-right : T (all_below (right knight_steps 3) 64)
unfolding all_below right set_of pack reaches any numbers line shift stays
knights-right = tt

rooks-right : T (all_below (right rook_lines 1) 64)
unfolding all_below right set_of pack reaches any numbers line shift stays
rooks-right = tt

bishops-right : T (all_below (right bishop_lines 2) 64)
unfolding all_below right set_of pack reaches any numbers line shift stays
bishops-right = tt

pub king-steps : (s : ℕ) → get_or king_steps s 0 ≡ set_of (reaches nothing 5 s)
king-steps s = listed king_steps 5 refl kings-right s

pub knight-steps : (s : ℕ) → get_or knight_steps s 0 ≡ set_of (reaches nothing 3 s)
knight-steps s = listed knight_steps 3 refl knights-right s

pub rook-lines : (s : ℕ) → get_or rook_lines s 0 ≡ set_of (reaches nothing 1 s)
rook-lines s = listed rook_lines 1 refl rooks-right s

pub bishop-lines : (s : ℕ) → get_or bishop_lines s 0 ≡ set_of (reaches nothing 2 s)
bishop-lines s = listed bishop_lines 2 refl bishops-right s

-- a set of a list that shares a square with others is that of a square on the board
pub listed-square : (list : List ℕ) → length list ≡ 64 → (occ s : ℕ) {full : ℕ} → full ≡ get_or list s 0
    → (bit_and full occ ≡ 0 → ⊥) → s < 64
listed-square list n occ s e z =
    ⊎_elim (λ h. let none = e ∙ get_or-eq_default list 0 (rw n h) in absurd (z (rw none))) (λ h. h) (le-or-lt 64 s)

-- a piece that attacks one of these squares there stands on the board
pub attacked-from : (occ kind s : ℕ) {full : ℕ} → full ≡ set_of (reaches nothing kind s) → (bit_and full occ ≡ 0 → ⊥) → s < 64
attacked-from occ kind s e z =
    ⊎_elim
    (λ h.
    let none = e ∙ sym (set_is (reaches nothing kind s) 0 (omega arith) (λ u l. has-none u ∙ sym (reaches-off nothing kind s u (inl h)))) in
    absurd (z (rw none)))
    (λ h. h) (le-or-lt 64 s)

-- a king's and a knight's are what they attack on any board
pub king-anywhere : (occ : ℕ → Bool) (s : ℕ) {set : ℕ} → set ≡ get_or king_steps s 0 → set ≡ set_of (reaches occ 5 s)
king-anywhere occ s e =
    e ∙ king-steps s ∙ set_of-same (reaches nothing 5 s) (reaches occ 5 s) (λ t h. king-reaches nothing occ s t)

pub knight-anywhere : (occ : ℕ → Bool) (s : ℕ) {set : ℕ} → set ≡ get_or knight_steps s 0 → set ≡ set_of (reaches occ 3 s)
knight-anywhere occ s e =
    e ∙ knight-steps s ∙ set_of-same (reaches nothing 3 s) (reaches occ 3 s) (λ t h. knight-reaches nothing occ s t)

-- what is not attacked there is not attacked on any board
pub never : (occ : ℕ → Bool) (kind s t : ℕ) → reaches nothing kind s t ≡ false → reaches occ kind s t ≡ false
never occ kind s t e =
    fails (reaches occ kind s t) (λ r. refuted e (reaches-fewer occ nothing t (λ u n o. absurd o) kind s r))

-- ---- nothing on the lines

module _ (occ : ℕ → Bool) where
  line_clear : (n s dx dy t : ℕ) → ((u : ℕ) → T (line nothing n s dx dy u) → occ u ≡ false)
      → line occ n s dx dy t ≡ line nothing n s dx dy t
  unfolding line
  line_clear zero s dx dy t clear = refl
  line_clear (suc n) s dx dy t clear =
      let u = shift s dx dy in
      ⊎_elim (λ h. rw (le-ltb u 64 h))
      (λ h.
      let on = of-true (lt-ltb u 64 h) in
      let free : occ u ≡ false =
      clear u
      (and_both (ltb u 64) (eqb u u || line nothing n u dx dy u) on
      (or_left (eqb u u) (line nothing n u dx dy u) (of-true (eq-eqb u u refl)))) in
      let more : line occ n u dx dy t ≡ line nothing n u dx dy t =
      line_clear n u dx dy t
      (λ v r. clear v
      (and_both (ltb u 64) (eqb u v || line nothing n u dx dy v) on (or_right (eqb u v) (line nothing n u dx dy v) r))) in
      rw (free, more))
      (le-or-lt 64 u)

-- where nothing stands on a piece's lines, the set of what it attacks on the empty board is that of what it attacks
module _ (occ kind s : ℕ) {full : ℕ} (is : full ≡ set_of (reaches nothing kind s)) (apart : bit_and full occ ≡ 0) where
  free : (u : ℕ) → T (reaches nothing kind s u) → has occ u ≡ false
  free u r =
      let on = (reaches-squares nothing kind s u r).1 in
      let held : has full u ≡ true = set-has (reaches nothing kind s) is u on ∙ true_of r in
      sym (rw held) ∙ sym (has-and full occ u) ∙ ap (λ z. has z u) apart ∙ has-none u

  clear : (t : ℕ) → reaches nothing kind s t ≡ reaches (has occ) kind s t
  unfolding reaches
  clear t =
      any_same (line_of nothing kind s t) (line_of (has occ) kind s t) (steps_of kind)
      (λ k m. sym
      (line_clear (has occ) (get_or step_ranges kind 0) s (get_or step_xs k 0) (get_or step_ys k 0) t
      (λ u r. free u (any-in (line_of nothing kind s u) m r))))

  pub targets-clear : full ≡ set_of (reaches (has occ) kind s)
  targets-clear = is ∙ set_of-same (reaches nothing kind s) (reaches (has occ) kind s) (λ t h. clear t)

-- ---- a queen's lines are a rook's and a bishop's

joined : (a b c d rest : Bool) → ((a || (b || (c || (d || false)))) || rest) ≡ (a || (b || (c || (d || rest))))
joined true b c d rest = refl
joined false true c d rest = refl
joined false false true d rest = refl
joined false false false true rest = refl
joined false false false false rest = refl

queen-any : (f : ℕ → Bool) → (any f (numbers 4 0) || any f (numbers 4 4)) ≡ any f (numbers 8 0)
unfolding any numbers
queen-any f = joined (f 0) (f 1) (f 2) (f 3) (f 4 || (f 5 || (f 6 || (f 7 || false))))

-- so the union of their sets is hers
pub queen-targets : (occ : ℕ → Bool) (s : ℕ) {rook bishop : ℕ} → rook < 2 ^ 64 → bishop < 2 ^ 64
    → rook ≡ set_of (reaches occ 1 s) → bishop ≡ set_of (reaches occ 2 s) → bit_or rook bishop ≡ set_of (reaches occ 0 s)
unfolding reaches
queen-targets occ s {rook} {bishop} f g e d =
    set_is (reaches occ 0 s) (bit_or rook bishop) (or_lt 64 rook bishop f g)
    (λ t h.
    has-or rook bishop t
    ∙ ap₂ ◌||◌ (set-has (reaches occ 1 s) e t h) (set-has (reaches occ 2 s) d t h)
    ∙ queen-any (line_of occ 0 s t))
