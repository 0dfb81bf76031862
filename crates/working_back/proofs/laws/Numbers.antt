-- The number of a place with all men there: the table has it, and where the number is live, the place is legal.
use Rattle.std.specs.Prelude.{◌≡◌, List, ℕ, ◌*◌, ◌<◌, length, get_or}
use Rattle.std.proofs.Common.{sym, ◌∙◌, arith}
use Rattle.std.proofs.Math.Path.{ap, subst}
use Rattle.std.proofs.Math.Dec.{T}
use Rattle.finite.specs.Truth.{and_right}
use Rattle.rules.specs.Rules.{legal}
use Rattle.rules.specs.Chess.{chess}
use Rattle.numbering.specs.Keys.{board_at, spread}
use Rattle.numbering.specs.Kings.{separate}
use Rattle.numbering.specs.Number.{number_of, used}
use Rattle.numbering.specs.Material.{men_of}
use Rattle.numbering.specs.declared.Material.{Material}
use Rattle.numbering.proofs.laws.AtLaws.{image-at}
use Rattle.numbering.proofs.laws.ClassLaws.{number_lt}
use Rattle.position.specs.declared.Men.{Men}
use Rattle.position.specs.declared.Place.{Place}
use Rattle.position.specs.Keyed.{board_of}
use Rattle.position.specs.Posed.{posed, board_in, material_for, Complete}
use Rattle.index.specs.Seats.{Seated}
use Rattle.index.proofs.laws.CompleteLaws.{complete-seated, complete-has}
use Rattle.four_men.specs.Reading.{legal_number_of, numbered}
use Rattle.four_men.proofs.laws.Numbered.{live-is, legal-by}
use Rattle.four_men.proofs.laws.Materials.{size_is, own-material}
use Rattle.working_back.specs.Admitted.{over, Admitted}
use Rattle.working_back.specs.Trying.{Alive}
use Rattle.working_back.proofs.laws.Admitted.{long}

module _ (m : Men) (o : Place) (c : Complete m o) where
  abbrev M : Material
  M = material_for m

  -- a live number's boards are legal
  pub number-legal : T (legal_number_of M (number_of (board_in m o))) → T (legal (board_in m o))
  number-legal live =
      let n = number_of (board_in m o) in
      let i = image-at (own-material M c.ending) (board_in m o) (complete-has m o c) in
      subst T (ap legal i.1 ∙ legal-by i.0 (board_in m o))
      (and_right (used (board_at (men_of M) n)) (legal (board_at (men_of M) n)) (subst T (live-is M c.ending n) live))

  -- so are those of a number that holds 1
  pub holds-legal : (first second u : List ℕ) → Alive chess (over m first second) u → (n : ℕ) → n ≡ number_of (board_in m o) → get_or u n 0 ≡ 1
      → T (legal (board_in m o))
  unfolding numbered
  holds-legal first second u a n z e = number-legal (subst (λ (i : ℕ). T (legal_number_of M i)) z (a n (λ y. omega (arith, e, y))))

  -- the number made
  pub number-inside : (first second u : List ℕ) → Admitted m first second u → (n : ℕ) → n ≡ number_of (board_in m o) → n < length u
  number-inside first second u a n z =
      let h : number_of (board_in m o) < 924 * spread (men_of M) = number_lt (board_in m o) (complete-has m o c) in
      subst (λ (i : ℕ). n < i) (size_is M c.ending ∙ sym (long m first second u a)) (subst (λ (i : ℕ). i < 924 * spread (men_of M)) (sym z) h)

  -- a place is it, field by field
  pub number-as : (p : Place) → o ≡ p → (n : ℕ) → (Seated m p → T (separate p.white p.black) → n ≡ number_of (board_in m p))
      → n ≡ number_of (board_in m o)
  unfolding board_of posed
  number-as p e n f =
      let w = subst (Complete m) e c in
      f (complete-seated m p w) (complete-has m p w).kings ∙ ap (λ (x : Place). number_of (board_in m x)) (sym e)
