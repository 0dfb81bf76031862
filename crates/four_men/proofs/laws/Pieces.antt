-- Of pieces, what is chosen on the normal board of the ending is what is chosen on the normal board by king rule and
-- key.
use Rattle.std.specs.Prelude.{◌≡◌, ℕ, T, Result}
use Rattle.std.proofs.Common.{ap₂, subst}
use Rattle.std.proofs.Math.Path.{subst⁻¹}
use Rattle.symmetry.specs.Symmetry.{Symmetry}
use Rattle.rules.specs.Rules.{Board, legal}
use Rattle.numbering.specs.Number.{normal_by}
use Rattle.answers.specs.declared.Answer.{Answer}
use Rattle.endings.specs.Answers.{chosen_by, chosen}
use Rattle.endings.specs.Truth.{TrueAnswerBy, TrueAnswer}
use Rattle.numbering.specs.declared.Material.{Material}
use Rattle.numbering.specs.Material.{known, OfMaterial, material_in}
use Rattle.numbering.proofs.laws.MaterialLaws.{known-given}
use Rattle.index.specs.Endings.{normal_in, map_in}
use Rattle.index.proofs.laws.EndingsLaws.{pieces-normal, pieces-map}
use Rattle.four_men.specs.Truth.{TrueAnswerIn}
use Rattle.four_men.proofs.laws.Materials.{material-in}
use Rattle.four_men.proofs.laws.Turned.{known_of}

pub chosen_is : (m : Material) → T (known m) → (bytes : Board → ℕ) (b : Board)
    → chosen_by (map_in m) (normal_in m) bytes b ≡ chosen bytes b
chosen_is m w bytes b =
    ap₂ (λ (by : Board → Symmetry) (normal : Board → Board). chosen_by by normal bytes b) (pieces-map m w)
    (pieces-normal m w)

-- a legal board of pieces is of an ending of pieces
pub pieces-known : (m : Material) (b : Board) → T (legal b) → OfMaterial m b → T (known (material_in b.men))
pieces-known m b g e =
    let w = known_of m b g e in
    subst⁻¹ (λ (x : Material). T (known x)) (material-in m (known-given m w) b.men e) w

module _ (m : Material) (b : Board) (g : T (legal b)) (e : OfMaterial m b) (a : Result Answer ℕ) where
  abbrev own : Material
  own = material_in b.men

  pub answer-in : TrueAnswer b a → TrueAnswerIn b a
  answer-in x =
      let w = pieces-known m b g e in
      subst⁻¹ (λ (by : Board → Symmetry). TrueAnswerBy by (normal_in own) b a) (pieces-map own w)
      (subst⁻¹ (λ (normal : Board → Board). TrueAnswerBy normal_by normal b a) (pieces-normal own w) x)

  pub answer-out : TrueAnswerIn b a → TrueAnswer b a
  answer-out x =
      let w = pieces-known m b g e in
      subst (λ (normal : Board → Board). TrueAnswerBy normal_by normal b a) (pieces-normal own w)
      (subst (λ (by : Board → Symmetry). TrueAnswerBy by (normal_in own) b a) (pieces-map own w) x)
