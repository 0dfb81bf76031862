-- The legal targets from a square in two sets: where a man is taken, and where none is.
use Rattle.std.specs.Prelude.{◌≡◌, Bool, not, ◌&&◌, ℕ, ◌^◌, ◌<◌, T, Option}
use Rattle.std.proofs.Common.{sym, ap, ap₂, ◌∙◌, arith}
use Rattle.std.proofs.Math.Path.{subst⁻¹}
use Rattle.std.specs.Int.Bits.{bit_and}
use Rattle.std.proofs.lemmas.Nat.{and_le_l}
use Rattle.finite.specs.Truth.{and_left}
use Rattle.board.specs.Sets.{has, set_of}
use Rattle.board.proofs.laws.SetLaws.{has-and, set_of-lt, set_of-same, set_is, set-has}
use Rattle.rules.specs.Rules.{Board, can_move}
use Rattle.position.specs.declared.Men.{Men}
use Rattle.position.specs.declared.Place.{Place}
use Rattle.position.specs.Posed.{board_in}
use Rattle.successors.specs.Successors.{sifted_by}
use Rattle.successors.specs.Quiet.{of_man, taking_to, quiet_to}

module _ (m : Men) (q : Place) (from targets : ℕ) (e : targets ≡ set_of (can_move (board_in m q) from)) (men : ℕ)
    (k : (t : ℕ) → t < 64 → has men t ≡ of_man q t) where
  legal : (u : ℕ) → u < 64 → has targets u ≡ can_move (board_in m q) from u
  legal u h = set-has (can_move (board_in m q) from) e u h

  small : bit_and targets men < 2 ^ 64
  small =
      let h : targets < 2 ^ 64 = subst⁻¹ (λ (n : ℕ). n < 2 ^ 64) e (set_of-lt (can_move (board_in m q) from)) in
      omega (arith, and_le_l targets men, h)

  pub taking-set : bit_and targets men ≡ set_of (taking_to m q from)
  taking-set =
      set_is (taking_to m q from) (bit_and targets men) small
      (λ u l. has-and targets men u ∙ ap₂ ◌&&◌ (legal u l) (k u l))

  pub quiet-set : (others : ℕ) → others ≡ set_of (λ (u : ℕ). has targets u && not (has men u))
      → others ≡ set_of (quiet_to m q from)
  quiet-set others d =
      d ∙ set_of-same (λ (u : ℕ). has targets u && not (has men u)) (quiet_to m q from)
      (λ u l. ap₂ (λ (a c : Bool). a && not c) (legal u l) (k u l))

-- both are legal
pub taking-legal : (m : Men) (q : Place) (from t : ℕ) → T (taking_to m q from t) → T (can_move (board_in m q) from t)
taking-legal m q from t z = and_left (can_move (board_in m q) from t) (of_man q t) z

pub quiet-legal : (m : Men) (q : Place) (from t : ℕ) → T (quiet_to m q from t) → T (can_move (board_in m q) from t)
quiet-legal m q from t z = and_left (can_move (board_in m q) from t) (not (of_man q t)) z

-- of the piece on a square that code has by another name
pub taking-at : (m : Men) (q : Place) (bytes : Board → ℕ) (c targets : ℕ) (r : Option ℕ) {x from : ℕ} → from ≡ x
    → (targets ≡ set_of (taking_to m q from) → r ≡ sifted_by bytes c (board_in m q) from (taking_to m q from))
    → targets ≡ set_of (taking_to m q x) → r ≡ sifted_by bytes c (board_in m q) x (taking_to m q x)
taking-at m q bytes c targets r {x} {from} e f t =
    f (t ∙ ap (λ (s : ℕ). set_of (taking_to m q s)) (sym e))
    ∙ ap (λ (s : ℕ). sifted_by bytes c (board_in m q) s (taking_to m q s)) e
