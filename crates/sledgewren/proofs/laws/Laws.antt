-- Laws for the code: bytes written one after the other, and the answers by the test of a lent length.
use Rattle.std.specs.Prelude.{◌≡◌, Bool, true, false, cond, ℕ, ◌+◌, ◌-◌, ◌*◌, ◌≤◌, ◌<◌, eqb, get_or, set, drop, replicate, Err, Ok}
use Rattle.std.proofs.Math.Path.{refl, sym, ap}
use Rattle.std.proofs.Common.{◌∙◌, subst, zero-add, add-zero, add-one, arith, drop-cons, eq-eqb, ne_eqb, eqb-true}
use mathlib.Core.List.{List, [], ◌++◌, flat_map, append-nil}
use Rattle.std.proofs.Math.ListN.{length}
use Rattle.std.proofs.lemmas.List.{length-replicate}
use Rattle.std.proofs.lemmas.List.Edits.{sets, sets-eq}
use Rattle.std.proofs.Math.Seq.{drop-length}
use Rattle.finite.specs.Mapped.{map_from, cleared-same}
use Rattle.rules.specs.declared.Move.{Move}
use Rattle.rules.specs.Rules.{moves, all_moves}
use Rattle.position.specs.declared.Position.{Position}
use Rattle.position.specs.Keyed.{board_of}
use Rattle.position.specs.Refusals.{standing_with}
use Rattle.move_list.specs.Answers.{moves_of, count_answer}
use Rattle.move_list.proofs.laws.Served.{served-moves, few-moves}
use Rattle.move_list.proofs.laws.ListLaws.{drop-replicate}
use Rattle.slips.specs.Slip.{padded}
use Rattle.adjudication.specs.declared.Reply.{Reply}
use Rattle.adjudication.specs.Reply.{LineOutcome, Gives, reply_of}
use Rattle.adjudication.specs.TrueSlip.{LinePromise}
use Rattle.move_bytes.specs.Stored.{Stored}
use Rattle.move_bytes.proofs.laws.StoreLaws.{moves-length}
use Rattle.sledgewren.specs.Words.{count_word, move_bytes, list_size, list_bytes, WroteList, listing_of, WroteSlip, replied, line_answer}

-- ---- bytes written one after the other

-- written from the first place on, in a list as long as they are
pub sets-all : (xs l : List ℕ) → length l ≡ length xs → sets l 0 xs ≡ xs
sets-all xs l e = sets-eq xs l 0 (omega arith) ∙ rw (zero-add (length xs), ← e, drop-length l) (append-nil xs)

-- one byte more of a copy
pub copy-turn : (xs l : List ℕ) (i : ℕ) → i < length xs
    → sets l i (drop i xs) ≡ sets (set l i (get_or xs i 0)) (i + 1) (drop (i + 1) xs)
copy-turn xs l i h = rw (drop-cons xs i 0 h, add-one i)

pub copy-end : (xs l : List ℕ) (i : ℕ) → length xs ≡ i → sets l i (drop i xs) ≡ l
copy-end xs l i e = rw (← e, drop-length xs)

-- ---- the bytes of a move list

-- written over bytes that are cleared
zeros : (l : List ℕ) → length l ≡ list_size → map_from (λ n b. 0) 0 l ≡ replicate list_size 0
unfolding map_from
zeros l e = cleared-same l (replicate list_size 0) (e ∙ sym (length-replicate {A = ℕ} list_size 0))

over_zeros : (xs : List ℕ) → length xs ≤ list_size
    → sets (replicate list_size 0) 0 xs ≡ xs ++ replicate (list_size - length xs) 0
over_zeros xs h =
    sets-eq xs (replicate list_size 0) 0 (rw (length-replicate {A = ℕ} list_size 0) (omega arith))
    ∙ rw (zero-add (length xs), drop-replicate {A = ℕ} (length xs) list_size 0 h)

moves-written : (ms : List Move) (bytes cleared : List ℕ) → length bytes ≡ list_size → length ms ≤ 62
    → cleared ≡ map_from (λ n b. 0) 0 bytes
    → sets cleared 0 (flat_map move_bytes ms) ≡ list_bytes ms
unfolding list_bytes
moves-written ms bytes cleared h k e =
    ap (λ (l : List ℕ). sets l 0 (flat_map move_bytes ms)) (e ∙ zeros bytes h)
    ∙ over_zeros (flat_map move_bytes ms) (omega (arith, moves-length ms))
    ∙ rw (moves-length ms)

-- ---- the move list's answer

-- the list's refusal and count make the count's word
list-word : (p : Position) → standing_with p + length (moves_of p) * 256 ≡ count_word (count_answer p)
unfolding moves_of count_answer
list-word p = go (eqb (standing_with p) 0) refl
  where
    go : (b : Bool) → eqb (standing_with p) 0 ≡ b
        → standing_with p + length (cond b (moves (board_of p)) []) * 256
        ≡ count_word (cond b (Ok (length (moves (board_of p)))) (Err (standing_with p)))
    go true e = rw (eqb-true (standing_with p) 0 e) (zero-add (length (moves (board_of p)) * 256))
    go false e = add-zero (standing_with p)

module _ (p : Position) (bytes : List ℕ) where
  -- another length
  pub not_listed : (length bytes ≡ list_size → ⊥) → WroteList (listing_of p bytes) 255 bytes
  unfolding listing_of
  not_listed h = rw (ne_eqb (length bytes) list_size h) (record { word = refl; bytes = refl })

  module _ (h : length bytes ≡ list_size) (cleared : List ℕ) (c : cleared ≡ map_from (λ n b. 0) 0 bytes) where
    -- a refusal: no moves
    none-given : (r : ℕ) → r ≡ standing_with p → (r ≡ 0 → ⊥) → WroteList (listing_of p bytes) r cleared
    unfolding listing_of flat_map
    none-given r e n =
        let none : moves_of p ≡ [] = (unfold moves_of in rw (ne_eqb (standing_with p) 0 (λ z. n (e ∙ z)))) in
        rw (eq-eqb (length bytes) list_size h)
        (record {
          word = e ∙ sym (add-zero (standing_with p))
              ∙ ap (λ (ms : List Move). standing_with p + length ms * 256) (sym none)
              ∙ list-word p;
          bytes = moves-written [] bytes cleared h (omega arith) c ∙ ap list_bytes (sym none);
        })

    -- the moves, stored over zeros
    all-given : standing_with p ≡ 0 → (n : ℕ) (out : List ℕ) → Stored (all_moves (board_of p)) 0 cleared n out
        → WroteList (listing_of p bytes) (n * 256) out
    unfolding listing_of
    all-given z n out s =
        let all : moves_of p ≡ all_moves (board_of p) = (unfold moves_of in
        rw (eq-eqb (standing_with p) 0 z) (served-moves p z)) in
        rw (eq-eqb (length bytes) list_size h)
        (record {
          word = omega (arith, z, s.count, ap length all, list-word p);
          bytes = s.bytes ∙ moves-written (all_moves (board_of p)) bytes cleared h (few-moves p) c ∙ ap list_bytes (sym all);
        })

    -- of the position that was read
    module _ (q : Position) (e : p ≡ q) where
      pub refused-bytes : (r : ℕ) → r ≡ standing_with p → (r ≡ 0 → ⊥) → WroteList (listing_of q bytes) r cleared
      refused-bytes r w n = subst (λ (x : Position). WroteList (listing_of x bytes) r cleared) e (none-given r w n)

      pub given-bytes : standing_with p ≡ 0 → (n : ℕ) (out : List ℕ) → Stored (all_moves (board_of p)) 0 cleared n out
          → WroteList (listing_of q bytes) (n * 256) out
      given-bytes z n out s = subst (λ (x : Position). WroteList (listing_of x bytes) (n * 256) out) e (all-given z n out s)

-- ---- a line's answer

module _ (r : Reply) (o : LineOutcome) (g : Gives r o) where
  reply-word : r.slip.len + r.held * 256 ≡ length o.slip + o.held * 256
  unfolding Gives padded
  reply-word = ap (λ (x : Reply). x.slip.len + x.held * 256) g

  reply-bytes : r.slip.bytes ≡ (padded o.slip).bytes
  unfolding Gives
  reply-bytes = ap (λ (x : Reply). x.slip.bytes) g

module _ (line : List ℕ) (held : ℕ) (t s : List ℕ) where
  -- another length
  pub not-replied : (length s ≡ 16 → ⊥) → WroteSlip (line_answer line held t s) 65535 t s
  unfolding line_answer
  not-replied h = rw (ne_eqb (length s) 16 h) (record { word = refl; table = refl; slip = refl })

  pub line-replied : (r : Reply) (u v : List ℕ) → length s ≡ 16 → LinePromise line held t r u → v ≡ r.slip.bytes
      → WroteSlip (line_answer line held t s) (r.slip.len + r.held * 256) u v
  unfolding line_answer replied
  line-replied r u v h a w =
      let o = reply_of line held t in
      rw (eq-eqb (length s) 16 h)
      (record { word = reply-word r o a.reply; table = a.table; slip = w ∙ reply-bytes r o a.reply })
