-- The answer by what code has found: a refusal, a move that is not among the targets, or the position after it.
use Rattle.std.specs.Prelude.{◌≡◌, refl, Bool, ◌⊎◌, ℕ, zero, suc, ◌-◌, ◌^◌, ◌<◌, ◌≤◌, None, Option, Some, Err, Ok}
use Rattle.std.proofs.Math.Path.{sym, ap}
use Rattle.std.proofs.Common.{◌∙◌, inl, inr, arith, eq-eqb, ne_eqb}
use Rattle.std.proofs.Math.Bool.{true, false}
use Rattle.finite.specs.Truth.{fails, of-true, le-or-lt}
use Rattle.board.specs.Sets.{has, set_of}
use Rattle.board.proofs.laws.SetLaws.{set-has, has-off}
use Rattle.rules.specs.Rules.{Board, can_move, promotes}
use Rattle.rules.proofs.laws.CanMove.{can-on}
use Rattle.rules.specs.declared.Piece.{Piece}
use Rattle.position.specs.declared.Position.{Position}
use Rattle.position.specs.Keyed.{board_of}
use Rattle.position.specs.Refusals.{standing_with}
use Rattle.movegen.specs.After.{after}
use Rattle.playing.specs.Playing.{first_of, second_of, closed_up, named, promoted_to, after_as, can_play, play_of}

-- the targets hold a square exactly where the move to it is legal, on the board and off it
targets-tell : (b : Board) (from to targets : ℕ) → targets ≡ set_of (can_move b from) → targets < 2 ^ 64
    → has targets to ≡ can_move b from to
targets-tell b from to targets e l = go (le-or-lt 64 to)
  where
    go : (64 ≤ to) ⊎ (to < 64) → has targets to ≡ can_move b from to
    go (inl h) = has-off targets to h l ∙ sym (fails (can_move b from to) (λ t. omega (arith, (can-on b from to t).1)))
    go (inr h) = set-has (can_move b from) e to h

module _ (p : Position) (from to becomes r : ℕ) (e : r ≡ standing_with p) where
  pub refused-play : (r ≡ 0 → ⊥) → Err r ≡ play_of p from to becomes
  unfolding play_of
  refused-play n = sym (rw (ne_eqb (standing_with p) 0 (λ q. n (e ∙ q))) (ap Err (sym e)))

  module _ (z : r ≡ 0) (targets : ℕ) (s : targets ≡ set_of (can_move (board_of p) from)) (l : targets < 2 ^ 64)
      (found : Bool) (f : found ≡ has targets to) where
    told : (x : Bool) → found ≡ x → can_move (board_of p) from to ≡ x
    told x h = sym (targets-tell (board_of p) from to targets s l) ∙ sym f ∙ h

    pub illegal-play : found ≡ false → Ok None ≡ play_of p from to becomes
    unfolding play_of
    illegal-play h = sym (rw (eq-eqb (standing_with p) 0 (sym e ∙ z), told false h))

    -- the target is on the board, so the set tells whether the move promotes
    module _ (h : found ≡ true) (ends : ℕ) (t : ends ≡ set_of (promotes (board_of p) from)) (i : Bool)
        (g : i ≡ has ends to) (n : Bool) (k : n ≡ named i becomes) where
      promoting : i ≡ promotes (board_of p) from to
      promoting = g ∙ set-has (promotes (board_of p) from) t to (can-on (board_of p) from to (of-true (told true h))).1

      names : (x : Bool) → n ≡ x → can_play (board_of p) from to becomes ≡ x
      names x q = rw (told true h) (ap (λ (y : Bool). named y becomes) (sym promoting) ∙ sym k ∙ q)

      pub unnamed-play : n ≡ false → Ok None ≡ play_of p from to becomes
      unfolding play_of
      unnamed-play q = sym (rw (eq-eqb (standing_with p) 0 (sym e ∙ z), names false q))

      pub legal-play : (m c : Position) → n ≡ true → m ≡ after_as p from to becomes → c ≡ closed_up m
          → Ok (Some c) ≡ play_of p from to becomes
      unfolding play_of
      legal-play m c q u v =
          ap (λ x0. Ok (Some x0)) (v ∙ ap closed_up u) ∙ sym (rw (eq-eqb (standing_with p) 0 (sym e ∙ z), names true q))

-- ---- promoting

pub after-plain : (p : Position) (from to becomes : ℕ) → becomes ≡ 0 → after p from to ≡ after_as p from to becomes
after-plain p from to becomes e = ap (after_as p from to) (sym e)

pub after-named : (p : Position) (from to becomes : ℕ) → (becomes ≡ 0 → ⊥)
    → promoted_to p.side to (becomes - 1) (after p from to) ≡ after_as p from to becomes
after-named p from to zero n = absurd (n refl)
after-named p from to (suc kind) n =
    ap (λ (k : ℕ). promoted_to p.side to k (after p from to)) (omega arith)

-- ---- closing up, slot by slot

module _ (p : Position) where
  pub closes : p.first ≡ None
      → ◌≡◌ {A = Position}
      (record {
        side = p.side;
        white_king = p.white_king;
        black_king = p.black_king;
        first = p.second;
        second = None;
      })
      (closed_up p)
  unfolding closed_up
  closes e = sym (rw e)

  pub stays_closed : (m : Piece) → p.first ≡ Some m → p ≡ closed_up p
  unfolding closed_up
  stays_closed m e =
      let f : p.first ≡ first_of p.first p.second = e ∙ sym (ap (λ (s : Option Piece). first_of s p.second) e) in
      let g : p.second ≡ second_of p.first p.second = sym (ap (λ (s : Option Piece). second_of s p.second) e) in
      λ i. record {
        side = p.side;
        white_king = p.white_king;
        black_king = p.black_king;
        first = f i;
        second = g i;
      }
