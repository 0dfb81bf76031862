-- The laws by which the pocket look-up is proved.
use Rattle.std.specs.Prelude.{◌≡◌, List, ℕ, ◌*◌, ◌/◌, ◌%◌, ◌^◌, ◌≤◌, length}
use Rattle.std.proofs.Math.Path.{sym, ap}
use Rattle.std.proofs.Common.{◌∙◌}
use Rattle.std.proofs.Math.Nat.{zero-div}
use Rattle.std.proofs.Math.ListN.{get_or-eq_default}
use borrow.Author.Tests.{eq-eqb, ne_eqb}
use Rattle.position.specs.declared.Position.{Position}
use Rattle.position.specs.Keyed.{board_of}
use Rattle.position.specs.Refusals.{standing_refusal}
use Rattle.position.specs.Maps.{normal_position}
use Rattle.position.specs.Owned.{white_owned}
use Rattle.position.proofs.laws.PlacedLaws.{standing-placed}
use Rattle.numbering.specs.Keys.{key_of}
use Rattle.index.proofs.laws.NumberLaws.{owned-number}
use Rattle.pocket.specs.Pocket.{pocket_size, entry_at, Told, refusing, entry_tells, pocket_look_up_of}

-- ---- an entry beyond the pocket's end

zero-entry : (d : ℕ) → 0 / d % 4 ≡ 0
zero-entry d = rw (zero-div d)

pub entry-beyond : (pocket : List ℕ) (k : ℕ) → length pocket ≤ k / 4 → 0 ≡ entry_at pocket k
unfolding entry_at
entry-beyond pocket k h = sym (rw (get_or-eq_default pocket 0 h) (zero-entry (2 ^ (2 * (k % 4)))))

-- ---- looking up

module _ (pocket : List ℕ) (p : Position) where
  pub refused-standing : (n : ℕ) → n ≡ standing_refusal p → (n ≡ 0 → ⊥) → refusing n ≡ pocket_look_up_of pocket p
  unfolding pocket_look_up_of
  refused-standing n e h = sym (rw (← e, ne_eqb n 0 h))

  module _ (n : ℕ) (e : n ≡ standing_refusal p) (z : n ≡ 0) where
    pub refused-length : (length pocket ≡ pocket_size → ⊥) → refusing 7 ≡ pocket_look_up_of pocket p
    unfolding pocket_look_up_of
    refused-length h = sym (rw (← e, eq-eqb n 0 z, ne_eqb (length pocket) pocket_size h))

    pub answered : (r : Told) (k entry : ℕ) → length pocket ≡ pocket_size
        → k ≡ key_of (board_of (normal_position (white_owned p))) → entry ≡ entry_at pocket k → r ≡ entry_tells entry
        → r ≡ pocket_look_up_of pocket p
    unfolding pocket_look_up_of
    answered r k entry l q f a = a
        ∙ ap entry_tells (f ∙ ap (entry_at pocket) (q ∙ owned-number p (standing-placed p (sym e ∙ z))))
        ∙ sym (rw (← e, eq-eqb n 0 z, eq-eqb (length pocket) pocket_size l))
