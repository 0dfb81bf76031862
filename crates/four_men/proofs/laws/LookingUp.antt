-- Look-up on accepted tables never refuses a legal position of the ending, and answers its true value and depth, of
-- pieces or of a pawn (demand 2).
use Rattle.std.specs.Prelude.{◌≡◌, List, ℕ, T, Ok}
use Rattle.std.proofs.Common.{sym, ap, subst}
use Rattle.std.proofs.Math.Path.{subst⁻¹}
use Rattle.std.proofs.Math.Logic.{inl}
use borrow.Author.Tests.{eq-eqb}
use Rattle.finite.specs.Truth.{true_of}
use Rattle.finite.specs.Members.{map-in}
use Rattle.theory.specs.Required.{required_at, Consistent}
use Rattle.theory.specs.Play.{Chooses, Answered}
use Rattle.theory.proofs.laws.OnePly.{answered-at}
use Rattle.table_theory.specs.Tables.{reads}
use Rattle.table_theory.proofs.laws.Acceptance.{accepted-consistent}
use Rattle.rules.specs.Rules.{Board, legal}
use Rattle.rules.specs.Chess.{chess, played}
use Rattle.pawn_numbers.specs.PawnNumber.{flipped, pawn_flip}
use Rattle.pawn_numbers.proofs.laws.FlipLaws.{legal-flipped, has-flipped}
use Rattle.numbering.specs.Number.{normalised}
use Rattle.numbering.proofs.laws.ClassLaws.{normalising, normal-image, normal-has}
use Rattle.position.specs.declared.Position.{Position}
use Rattle.position.specs.Keyed.{board_of}
use Rattle.position.specs.Refusals.{standing_with}
use Rattle.answers.specs.declared.Checked.{Checked}
use Rattle.endings.specs.Answers.{answer_of, chosen_by}
use Rattle.endings.specs.GamePromise.{given}
use Rattle.endings.proofs.laws.Turning.{CarriesBy, chosen-chooses}
use Rattle.endings.proofs.laws.LookingUp.{TrueNext, true-answer}
use Rattle.numbering.specs.declared.Material.{Material}
use Rattle.numbering.specs.Material as materials
use Rattle.numbering.specs.Material.{OfMaterial, material_in, legal_in}
use Rattle.index.specs.Endings.{normal_in}
use Rattle.four_men.specs.Lending.{Lent}
use Rattle.four_men.specs.Reading.{Within, numbered}
use Rattle.four_men.specs.Answers.{lengths_fit, check_with, look_up_with}
use Rattle.four_men.specs.Truth.{TrueAnswerIn}
use Rattle.four_men.proofs.laws.Numbered.{legal-number, legal-by}
use Rattle.four_men.proofs.laws.PawnWithin.{pawn-alone}
use Rattle.four_men.proofs.laws.PawnLawful.{has-pawn}
use Rattle.four_men.proofs.laws.Given.{closed-for, lawful_for, outer-true-for}
use Rattle.four_men.proofs.laws.Carrying.{map_then, normal_then, carries-then, chosen-then, carries-for}
use Rattle.four_men.proofs.laws.Checking.{accepted-with}
use Rattle.four_men.proofs.laws.Standing.{standing-with-facts}

-- the normal board is of the ending too
pub normal-within : (m : Material) → T (materials.given m) → (b : Board) → T (legal_in m b) → OfMaterial m b
    → Within m (normal_in m b)
normal-within m w b g e = go m w g e
  where
    plain : (m : Material) → T (legal b) → OfMaterial m b → T (legal (normalised b)) × OfMaterial m (normalised b)
    plain m g e = (
      subst⁻¹ (λ (c : Board). T (legal c)) (normal-image b) (subst⁻¹ T (legal-by (normalising b) b) g),
      (normal-has b (legal-number b g e)).men,
    )

    go : (m : Material) → T (materials.given m) → T (legal_in m b) → OfMaterial m b → Within m (normal_in m b)
    go (Material.One kind) w g e =
        let x = plain (Material.One kind) g e in record { legality = x.0; men = inl x.1 }
    go (Material.Two j k r) w g e =
        let x = plain (Material.Two j k r) g e in record { legality = x.0; men = inl x.1 }
    go Material.Pawn w g e =
        let s = pawn_flip b in
        let h = has-flipped s b (has-pawn b g e) in
        record {
          legality = subst⁻¹ T (legal-flipped s b) g;
          men = inl (pawn-alone (flipped s b) (h.colour, (h.square, h.men)));
        }

module _ (m : Material) (l : Lent) (t : List ℕ) (ok : check_with m l t ≡ Ok Checked.Accepted) where
  abbrev pub bytes_of : Board → ℕ
  bytes_of = reads chess (numbered m l) t

  is-given : T (materials.given m)
  is-given = (accepted-with m l t ok).0

  pub accepted-bytes-with : Consistent chess (Within m) bytes_of
  unfolding numbered lawful_for
  accepted-bytes-with =
      let r = accepted-with m l t ok in
      accepted-consistent chess (numbered m l) (lawful_for m r.0 l) t (outer-true-for m r.0 l r.2) r.3

  -- what is read goes to the normal board
  pub within-carries : (b : Board) → Within m b → CarriesBy map_then normal_then bytes_of b
  within-carries b d = carries-then bytes_of b (carries-for m is-given l t b d)

  -- the chosen move is a rule for ties
  pub chosen-chooses-with : Chooses chess (Within m) bytes_of (λ b. given (chosen_by map_then normal_then bytes_of b))
  chosen-chooses-with = chosen-chooses (Within m) bytes_of within-carries

  answered-with : (b : Board) → Within m b → Answered chess bytes_of (λ c. given (chosen_by map_then normal_then bytes_of c)) b
  answered-with =
      answered-at chess (Within m) (closed-for m is-given) bytes_of accepted-bytes-with
      (λ c. given (chosen_by map_then normal_then bytes_of c)) chosen-chooses-with

  true-next : (b : Board) → Within m b → TrueNext bytes_of b
  true-next b d v i = (answered-with (played b v) (closed-for m is-given b (played b v) d (map-in (played b) i))).truth

  -- a board of the ending has a true answer
  true-here : (b : Board) → T (legal_in m b) → OfMaterial m b → material_in b.men ≡ m
      → TrueAnswerIn b (answer_of (bytes_of b) (chosen_by map_then normal_then bytes_of b))
  unfolding chosen_by
  true-here b g o e =
      let d : Within m b = record { legality = g; men = inl o } in
      let a = answered-with b d in
      true-answer bytes_of b (carries-for m is-given l t b d) a.truth (true-next b d)
      (true-next (normal_then b)
      (subst⁻¹ (λ (k : Material). Within m (normal_in k b)) e (normal-within m is-given b g o))) a.goes_on

  module _ (p : Position) (e : material_in (board_of p).men ≡ m) (z : standing_with p ≡ 0) where
    here : T (legal_in m (board_of p)) × OfMaterial m (board_of p)
    here = subst (λ (k : Material). T (legal_in k (board_of p)) × OfMaterial k (board_of p)) e (standing-with-facts p z)

    pub keyed-within : Within m (board_of p)
    keyed-within = record { legality = here.0; men = inl here.1 }

    -- what look-up answers, no test refusing
    pub look-up-with-answers : look_up_with l t p
        ≡ answer_of (bytes_of (board_of p)) (chosen_by map_then normal_then bytes_of (board_of p))
    unfolding look_up_with
    look-up-with-answers =
        rw (
          eq-eqb (standing_with p) 0 z,
          e,
          true_of {b = lengths_fit m l t} (accepted-with m l t ok).1,
          eq-eqb (bytes_of (board_of p)) (required_at chess bytes_of (board_of p))
              (accepted-bytes-with (board_of p) keyed-within),
        )
        (ap (answer_of (bytes_of (board_of p))) (sym (chosen-then bytes_of m (board_of p) e)))

    -- LOOK-UP NEVER REFUSES A LEGAL POSITION OF THE ENDING, and answers its true value and depth.
    pub look-up-true-with : TrueAnswerIn (board_of p) (look_up_with l t p)
    look-up-true-with =
        subst⁻¹ (TrueAnswerIn (board_of p)) look-up-with-answers (true-here (board_of p) here.0 here.1 e)
