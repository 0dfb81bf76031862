-- What is read of a board, its moves and what they leave go to the normal board by the ending then on the board: by king
-- rule and key without a pawn, by a flip with one.
use Rattle.std.specs.Prelude.{◌≡◌, refl, ◌⊎◌, List, [], ◌∷◌, ℕ, ◌<◌, T, ltb, Result}
use Rattle.std.proofs.Math.Path.{sym, ap, subst⁻¹}
use Rattle.std.proofs.Common.{◌∙◌}
use Rattle.std.proofs.Math.Logic.{inl, inr}
use Rattle.std.proofs.Math.Dec.{ltb→lt}
use Rattle.finite.specs.Truth.{and_left}
use Rattle.finite.specs.Members.{all, map-in}
use Rattle.table_theory.specs.Tables.{reads}
use Rattle.table_theory.proofs.laws.Acceptance.{reads_same, reads-outside}
use Rattle.symmetry.specs.Symmetry.{Symmetry, inverse}
use Rattle.rules.specs.declared.Piece.{Piece}
use Rattle.rules.specs.Rules.{Board, known, legal}
use Rattle.rules.specs.Changed.{mapped_move}
use Rattle.rules.proofs.laws.Legal.{legal-facts}
use Rattle.rules.specs.Chess.{chess, played}
use Rattle.pawn_numbers.specs.PawnNumber.{flipped, pawn_flip}
use Rattle.pawn_numbers.proofs.laws.FlippedMoves.{moves-flipped, moves-back, played-flipped}
use Rattle.numbering.specs.Change.{change}
use Rattle.numbering.specs.Number.{normal_by, normalised}
use Rattle.numbering.specs.declared.Material.{Material}
use Rattle.numbering.specs.Material as materials
use Rattle.numbering.specs.Material.{OfMaterial, material_in}
use Rattle.numbering.proofs.laws.MaterialLaws.{one_piece}
use Rattle.index.specs.Endings.{normal_in, map_in}
use Rattle.index.proofs.laws.EndingsLaws.{legal-of}
use Rattle.answers.specs.declared.Answer.{Answer}
use Rattle.endings.specs.Ending.{Lone, Ending, byte_of}
use Rattle.endings.specs.Truth.{TrueAnswerBy, TrueAnswer}
use Rattle.endings.specs.Answers.{chosen_by}
use Rattle.endings.proofs.laws.EndingDrawn.{ending-closed}
use Rattle.endings.proofs.laws.Turning.{CarriesBy, Carries, normal-ending, ending-carries}
use Rattle.four_men.specs.Lending.{Lent, part_of}
use Rattle.four_men.specs.Reading.{Fewer, Within, numbered}
use Rattle.four_men.specs.Truth.{TrueAnswerIn}
use Rattle.four_men.proofs.laws.Same.{normal-as, same-forth, same_back, same_next}
use Rattle.four_men.proofs.laws.Captures.{within-few, fewer-not-full}
use Rattle.four_men.proofs.laws.Numbered.{lawful_with}
use Rattle.four_men.proofs.laws.PawnWithin.{lone-pawn, lower-pawn, within-pawn-closed}
use Rattle.four_men.proofs.laws.PawnLawful.{part-byte, lawful-pawn}

-- ---- by the ending then on the board

abbrev pub map_then : Board → Symmetry
map_then b = map_in (material_in b.men) b

abbrev pub normal_then : Board → Board
normal_then b = normal_in (material_in b.men) b

-- moves and bytes of this board are carried so
abbrev pub CarriesOwn : (Board → ℕ) → Board → Type 0
CarriesOwn reads b = CarriesBy (map_in (material_in b.men)) (normal_in (material_in b.men)) reads b

pub carries-then : (reads : Board → ℕ) (b : Board) → CarriesOwn reads b → CarriesBy map_then normal_then reads b
carries-then reads b c = record { own = c.own; forth = c.forth; back = c.back; next = c.next }

pub chosen-then : (reads : Board → ℕ) (m : Material) (b : Board) → material_in b.men ≡ m
    → chosen_by map_then normal_then reads b ≡ chosen_by (map_in m) (normal_in m) reads b
unfolding chosen_by
chosen-then reads m b e = ap (λ (k : Material). chosen_by (map_in k) (normal_in k) reads b) e

-- without a pawn it is king rule and key
pub plain_in : (b : Board) → T (legal b)
    → (map_in (material_in b.men) ≡ normal_by) × (normal_in (material_in b.men) ≡ normalised)
plain_in b g = go b.men (legal-facts b g).men
  where
    kind-below : (a : Piece) → T (all known (a ∷ [])) → a.kind < 4
    kind-below a t = unfold all in
        ltb→lt a.kind 4 (and_left (ltb a.kind 4) (ltb a.colour 2) (and_left (known a) _ t))

    go : (l : List Piece) → T (all known l)
        → (map_in (material_in l) ≡ normal_by) × (normal_in (material_in l) ≡ normalised)
    go [] t = (refl, refl)
    go (a ∷ []) t =
        let e = one_piece a.kind (kind-below a t) in (ap map_in e, ap normal_in e)
    go (a ∷ c ∷ l) t = (refl, refl)

pub carries-plain : (reads : Board → ℕ) (b : Board) → T (legal b) → Carries reads b → CarriesOwn reads b
carries-plain reads b g c =
    let w = plain_in b g in
    subst⁻¹ (λ (by : Board → Symmetry). CarriesBy by (normal_in (material_in b.men)) reads b) w.0
    (subst⁻¹ (λ (normal : Board → Board). CarriesBy normal_by normal reads b) w.1 c)

pub answer-plain : (b : Board) (a : Result Answer ℕ) → T (legal b) → TrueAnswer b a → TrueAnswerIn b a
answer-plain b a g c =
    let w = plain_in b g in
    subst⁻¹ (λ (by : Board → Symmetry). TrueAnswerBy by (normal_in (material_in b.men)) b a) w.0
    (subst⁻¹ (λ (normal : Board → Board). TrueAnswerBy normal_by normal b a) w.1 c)

pub chosen_plain : (reads : Board → ℕ) (b : Board) → T (legal b)
    → chosen_by map_then normal_then reads b ≡ chosen_by normal_by normalised reads b
chosen_plain reads b g =
    let w = plain_in b g in
    chosen-then reads (material_in b.men) b refl
    ∙ ap (λ (by : Board → Symmetry). chosen_by by (normal_in (material_in b.men)) reads b) w.0
    ∙ ap (λ (normal : Board → Board). chosen_by normal_by normal reads b) w.1

-- ---- an ending of pieces

module _ (m : Material) (w : T (materials.known m)) (l : Lent) (t : List ℕ) where
  abbrev bytes : Board → ℕ
  bytes = reads chess (numbered m l) t

  pieces-carries : (b : Board) → Within m b → Carries bytes b
  unfolding lawful_with
  pieces-carries b d =
      let n = normal-as b in
      let few = within-few m w b d in
      let k = normal_by b in
      let law = lawful_with m w l in
      record {
        own = sym (reads_same chess (numbered m l) law t b (normalised b) (change n.0 n.1 k, few, n.2, n.3));
        forth = same-forth k n.0 n.1 b (normalised b) few n.2 n.3;
        back = same_back k n.0 n.1 b (normalised b) few n.2 n.3;
        next = λ v i. sym (reads_same chess (numbered m l) law t (played b v) (played (normalised b) (mapped_move k v))
            (same_next k n.0 n.1 b (normalised b) few n.2 n.3 v i));
      }

  pieces-own : (b : Board) → Within m b → CarriesOwn bytes b
  pieces-own b d = carries-plain bytes b (legal-of m w b d.legality) (pieces-carries b d)

-- ---- a pawn's ending

module _ (l : Lent) (t : List ℕ) where
  abbrev pub pawn_bytes : Board → ℕ
  pawn_bytes = reads chess (numbered Material.Pawn l) t

  pawn-carries : (b : Board) → Within Material.Pawn b
      → CarriesBy (map_in Material.Pawn) (normal_in Material.Pawn) pawn_bytes b
  unfolding lawful-pawn inverse
  pawn-carries b d =
      let s = pawn_flip b in
      record {
        own = sym (reads_same chess (numbered Material.Pawn l) (lawful-pawn l) t b (flipped s b) (s, d, refl));
        forth = moves-flipped s b d.legality;
        back = moves-back s b d.legality;
        next = λ v i. ap pawn_bytes (played-flipped s b d.legality v)
            ∙ sym (reads_same chess (numbered Material.Pawn l) (lawful-pawn l) t (played b v) (flipped s (played b v))
            (s, within-pawn-closed b (played b v) d (map-in (played b) i), refl));
      }

  -- after a promotion or a capture the part of the kind is read ..
  pub lower-reads : (kind : ℕ) → kind < 4 → (b : Board) → Ending kind b
      → pawn_bytes b ≡ byte_of (part_of kind l.first) b
  unfolding numbered
  lower-reads kind h b d =
      reads-outside chess (numbered Material.Pawn l) t b (fewer-not-full Material.Pawn b (fewer d.men))
      ∙ part-byte l kind b d
    where
      fewer : (b.men ≡ []) ⊎ Lone kind b → Fewer Material.Pawn b
      fewer (inl e) = inl e
      fewer (inr w) = inr (kind, h, w)

  -- .. and goes to the normal board of that ending
  lower-carries : (kind : ℕ) → kind < 4 → (b : Board) → Ending kind b → Carries pawn_bytes b
  lower-carries kind h b d =
      let n = normal-ending kind b d in
      let c = ending-carries kind (part_of kind l.first) b d in
      record {
        own = lower-reads kind h (normalised b) n ∙ c.own ∙ sym (lower-reads kind h b d);
        forth = c.forth;
        back = c.back;
        next = λ v i. let w = mapped_move (normal_by b) v in
            let j = map-in (played (normalised b)) (c.forth v i) in
            lower-reads kind h (played (normalised b) w)
            (ending-closed kind (normalised b) (played (normalised b) w) n j)
            ∙ c.next v i
            ∙ sym (lower-reads kind h (played b v) (ending-closed kind b (played b v) d (map-in (played b) i)));
      }

  pawn-own : (b : Board) → Within Material.Pawn b → CarriesOwn pawn_bytes b
  pawn-own b d = go d.men
    where
      go : OfMaterial Material.Pawn b ⊎ Fewer Material.Pawn b → CarriesOwn pawn_bytes b
      go (inl e) =
          subst⁻¹ (λ (m : Material). CarriesBy (map_in m) (normal_in m) pawn_bytes b)
          (ap material_in (lone-pawn b e).1.1) (pawn-carries b d)
      go (inr f) =
          let x = lower-pawn b d.legality f in
          carries-plain pawn_bytes b x.2.legality (lower-carries x.0 x.1 b x.2)

-- ---- every ending

pub carries-for : (m : Material) → T (materials.given m) → (l : Lent) (t : List ℕ) (b : Board) → Within m b
    → CarriesOwn (reads chess (numbered m l) t) b
carries-for (Material.One kind) w l t b d = pieces-own (Material.One kind) w l t b d
carries-for (Material.Two j k r) w l t b d = pieces-own (Material.Two j k r) w l t b d
carries-for Material.Pawn w l t b d = pawn-own l t b d
