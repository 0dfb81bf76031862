-- Boards that go alike are read alike, and the same is required of them: a position and its normal one among them.
use Rattle.std.specs.Prelude.{◌≡◌, ◌&&◌, ◌⊎◌, ℕ, ◌≤◌, ◌<◌, min, max, leb, ltb}
use Rattle.std.proofs.Math.Path.{subst}
use Rattle.std.proofs.Common.{inl, inr, arith, lt→ltb, le→leb}
use mathlib.Core.List.{List, ◌∷◌}
use Rattle.std.proofs.Math.Dec.{T, ltb→lt}
use Rattle.finite.specs.Truth.{and_left, and_right, and_both, le-or-lt}
use Rattle.finite.specs.Members.{all}
use Rattle.theory.specs.Required.{required_at}
use Rattle.theory.proofs.laws.Alike.{alike-required}
use Rattle.table_theory.specs.Tables.{reads}
use Rattle.table_theory.proofs.laws.Acceptance.{reads_same}
use Rattle.rules.specs.declared.Piece.{Piece}
use Rattle.rules.specs.Rules.{Board, known, legal}
use Rattle.rules.proofs.laws.Legal.{legal-facts}
use Rattle.rules.specs.Reordered.{LegalFew}
use Rattle.rules.specs.Chess.{chess}
use Rattle.numbering.specs.Change.{change}
use Rattle.numbering.specs.Number.{normal_by, normalised}
use Rattle.numbering.specs.declared.Material.{Material}
use Rattle.numbering.specs.Material as materials
use Rattle.numbering.specs.Material.{OfMaterial}
use Rattle.four_men.specs.Lending.{Lent}
use Rattle.four_men.specs.Reading.{numbered}
use Rattle.four_men.specs.Same.{Same}
use Rattle.four_men.proofs.laws.Same.{same_alike, normal-as, same-legal}
use Rattle.four_men.proofs.laws.Materials.{Both, one-of, two-of}
use Rattle.four_men.proofs.laws.Numbered.{lawful_with}

-- the ending of a legal board is one that there is
pub known_of : (m : Material) (b : Board) → T (legal b) → OfMaterial m b → T (materials.known m)
known_of m b g e = go m e
  where
    kind-below : (a : Piece) (rest : List Piece) → b.men ≡ a ∷ rest → a.kind < 4
    kind-below a rest f = unfold all in
        let t = subst (λ (l : List Piece). T (all known l)) f (legal-facts b g).men in
        ltb→lt a.kind 4 (and_left (ltb a.kind 4) (ltb a.colour 2) (and_left (known a) (all known rest) t))

    second_below : (a c : Piece) (rest : List Piece) → b.men ≡ a ∷ c ∷ rest → c.kind < 4
    second_below a c rest f = unfold all in
        let t = subst (λ (l : List Piece). T (all known l)) f (legal-facts b g).men in
        ltb→lt c.kind 4
        (and_left (ltb c.kind 4) (ltb c.colour 2)
        (and_left (known c) (all known rest) (and_right (known a) (all known (c ∷ rest)) t)))

    go : (m : Material) → OfMaterial m b → T (materials.known m)
    go (Material.One kind) e =
        let w = one-of kind b.men e in
        lt→ltb kind 4 (subst (λ (k : ℕ). k < 4) w.2 (kind-below w.0 _ w.1))
    go Material.Pawn e =
        let w = one-of 4 b.men e in absurd (omega (arith, w.2, kind-below w.0 _ w.1))
    go (Material.Two j k r) e =
        let w = two-of j k r b.men e in
        both w.0 w.1 w.3 (kind-below w.0 _ w.2) (second_below w.0 w.1 _ w.2)
      where
        both : (a c : Piece) → Both j k r a c → a.kind < 4 → c.kind < 4 → T (leb j k && ltb k 4)
        both a c x f h = by x.least x.greatest (le-or-lt a.kind c.kind)
          where
            by : min a.kind c.kind ≡ j → max a.kind c.kind ≡ k → (a.kind ≤ c.kind) ⊎ (c.kind < a.kind)
                → T (leb j k && ltb k 4)
            by p q (inl d) =
                and_both (leb j k) (ltb k 4) (le→leb j k (omega arith)) (lt→ltb k 4 (omega (arith, f, h)))
            by p q (inr d) =
                and_both (leb j k) (ltb k 4) (le→leb j k (omega arith)) (lt→ltb k 4 (omega (arith, f, h)))

-- the normal board goes alike
pub normal-same : (b : Board) → LegalFew b → Same b (normalised b)
normal-same b l = let n = normal-as b in (change n.0 n.1 (normal_by b), l, n.2, n.3)

pub normal-legal : (b : Board) → LegalFew b → T (legal (normalised b))
normal-legal b l = let n = normal-as b in same-legal (normal_by b) n.0 n.1 b (normalised b) l n.2 n.3

module _ (m : Material) (w : T (materials.known m)) (l : Lent) (t : List ℕ) where
  pub reads_turned : (b c : Board) → Same b c → reads chess (numbered m l) t b ≡ reads chess (numbered m l) t c
  unfolding lawful_with
  reads_turned b c x = reads_same chess (numbered m l) (lawful_with m w l) t b c x

  pub required-turned-with : (b c : Board) → Same b c
      → required_at chess (reads chess (numbered m l) t) b ≡ required_at chess (reads chess (numbered m l) t) c
  required-turned-with b c x =
      alike-required chess chess Same same_alike (reads chess (numbered m l) t) (reads chess (numbered m l) t)
      reads_turned b c x
