-- Laws of move lists: moves stored behind others, and what is left to store.
use Rattle.std.specs.Prelude.{◌≡◌, refl, List, [], ◌∷◌, ◌++◌, map, ℕ, zero, suc, ◌+◌, ◌-◌, ◌≤◌, length, drop, replicate, set}
use Rattle.std.proofs.Common.{sym, ap, ap₂, ◌∙◌, zero-add, add-zero, add_assoc, add-suc, suc-add, le_of_suc-le-suc, arith, length-append}
use Rattle.std.proofs.Math.Nat.{suc-sub-suc, sub-zero}
use Rattle.std.proofs.lemmas.List.{length-replicate}
use Rattle.std.proofs.lemmas.List.Edits.{sets, sets-eq}
use Rattle.rules.specs.declared.Move.{Move}
use Rattle.rules.specs.Rules.{zero_move}
use Rattle.move_list.specs.declared.MoveList.{MoveList}
use Rattle.move_list.specs.Lists.{room, list_of}
use Rattle.move_list.specs.ListLaws.{appended}

-- a list from its two fields
pub list-eq : (xs ys : List Move) (m n : ℕ) → xs ≡ ys → m ≡ n
    → ◌≡◌ {A = MoveList} (record { moves = xs; count = m }) (record { moves = ys; count = n })
list-eq xs ys m n p q = ap₂ (λ (x : List Move) (y : ℕ). record { moves = x; count = y }) p q

pub drop-replicate : {A : Type 0} (n k : ℕ) (x : A) → n ≤ k → drop n (replicate k x) ≡ replicate (k - n) x
drop-replicate zero k x h = rw sub-zero
drop-replicate (suc n) zero x h = absurd (omega arith)
drop-replicate (suc n) (suc k) x h = rw (suc-sub-suc, drop-replicate n k x (le_of_suc-le-suc h))

-- moves stored in an empty list
pub appended-first : (ms : List Move) → length ms ≤ room → appended (list_of []) ms ≡ list_of ms
unfolding appended list_of
appended-first ms h = list-eq _ _ _ _ stored (zero-add (length ms))
  where
    stored : sets (replicate room zero_move) 0 ms ≡ ms ++ replicate (room - length ms) zero_move
    stored = sets-eq ms (replicate room zero_move) 0 (simp length-replicate (omega arith))
        ∙ rw (zero-add (length ms), drop-replicate (length ms) room zero_move h)

-- two runs of stores are one
pub sets-append : {A : Type 0} (l : List A) (i : ℕ) (xs ys : List A) → sets (sets l i xs) (i + length xs) ys ≡ sets l i (xs ++ ys)
sets-append l i [] ys = rw add-zero
sets-append l i (x ∷ xs) ys = rw (add-suc, ← suc-add) (sets-append (set l i x) (suc i) xs ys)

pub appended-twice : (l : MoveList) (xs ys : List Move) → appended (appended l xs) ys ≡ appended l (xs ++ ys)
unfolding appended
appended-twice l xs ys = list-eq _ _ _ _ (sets-append l.moves l.count xs ys) (rw (length-append, ← add_assoc))

pub appended-none : (l : MoveList) → appended l [] ≡ l
unfolding appended
appended-none l = list-eq _ _ _ _ refl (add-zero l.count)

-- one move stored
pub appended_one : (l : MoveList) (m : Move) (n : ℕ) → n ≡ l.count + 1
    → ◌≡◌ {A = MoveList} (record { moves = set l.moves l.count m; count = n }) (appended l (m ∷ []))
unfolding appended
appended_one l m n e = list-eq _ _ _ _ refl e

pub appended-count : (l k : MoveList) (ms : List Move) → k ≡ appended l ms → k.count ≡ l.count + length ms
unfolding appended
appended-count l k ms e = rw e

-- four moves stored one by one
pub appended-four : (f : ℕ → Move) (l a b c d : MoveList) (p q r s : Move) → p ≡ f 1 → a ≡ appended l (p ∷ [])
    → q ≡ f 2 → b ≡ appended a (q ∷ []) → r ≡ f 3 → c ≡ appended b (r ∷ []) → s ≡ f 4 → d ≡ appended c (s ∷ [])
    → d ≡ appended l (map f (1 ∷ 2 ∷ 3 ∷ 4 ∷ []))
appended-four f l a b c d p q r s ep ea eq eb er ec es ed =
    rw (ed, ec, eb, ea, ep, eq, er, es)
    (rw (
      appended-twice l (f 1 ∷ []) (f 2 ∷ []),
      appended-twice l (f 1 ∷ f 2 ∷ []) (f 3 ∷ []),
      appended-twice l (f 1 ∷ f 2 ∷ f 3 ∷ []) (f 4 ∷ []),
    ))

-- a list after some moves are added to it, and what is still to be added to it
pub record Rest (l k : MoveList) (ms ns : List Move) : Type 0 where
  pub fits : k.count + length ns ≤ room
  pub whole : appended k ns ≡ appended l ms

pub rest_all : (l : MoveList) (ms : List Move) → l.count + length ms ≤ room → Rest l l ms ms
rest_all l ms h = record { fits = h; whole = refl }

pub rest-start : (k : MoveList) (ms ns : List Move) → k ≡ list_of [] → ms ≡ ns → length ms ≤ room → Rest (list_of []) k ms ns
unfolding list_of
rest-start k ms ns e q h = rw (e, ← q) (rest_all (list_of []) ms (omega (arith, h)))

module _ (l k : MoveList) (ms ns xs ys : List Move) (r : Rest l k ms ns) (e : ns ≡ xs ++ ys) where
  -- there is room for the next
  pub rest-room : k.count + length xs ≤ room
  rest-room = omega (arith, r.fits, simp length-append at (ap length e))

  pub rest-next : (k' : MoveList) → k' ≡ appended k xs → Rest l k' ms ys
  rest-next k' q =
      rw q (record {
        fits = omega (arith, r.fits, simp length-append at (ap length e), appended-count k (appended k xs) xs refl);
        whole = appended-twice k xs ys ∙ ap (appended k) (sym e) ∙ r.whole;
      })

pub rest_end : (l k : MoveList) (ms ns : List Move) → Rest l k ms ns → ns ≡ [] → k ≡ appended l ms
rest_end l k ms ns r e = sym (appended-none k) ∙ ap (appended k) (sym e) ∙ r.whole

-- all moves are stored
pub rest-done : (k : MoveList) (ms ns : List Move) → Rest (list_of []) k ms ns → ns ≡ [] → length ms ≤ room → k ≡ list_of ms
rest-done k ms ns r e h = rest_end (list_of []) k ms ns r e ∙ appended-first ms h
