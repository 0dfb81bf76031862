-- A position's normal board, of pieces or of a pawn: it goes alike, so what is read there and required is the same.
use Rattle.std.specs.Prelude.{◌≡◌, refl, List, ℕ, T}
use Rattle.std.proofs.Common.{ap, inl, inr}
use Rattle.theory.specs.Required.{required_at}
use Rattle.theory.proofs.laws.Alike.{alike-required}
use Rattle.table_theory.specs.Tables.{reads}
use Rattle.table_theory.proofs.laws.Acceptance.{reads_same}
use Rattle.rules.specs.Rules.{Board}
use Rattle.rules.specs.Chess.{chess}
use Rattle.pawn_numbers.specs.PawnNumber.{pawn_flip}
use Rattle.numbering.specs.declared.Material.{Material}
use Rattle.numbering.specs.Material.{given, legal_in, OfMaterial}
use Rattle.position.specs.declared.Men.{Men}
use Rattle.position.specs.declared.Place.{Place}
use Rattle.position.specs.Posed.{material_for}
use Rattle.index.specs.Endings.{normal_in}
use Rattle.index.specs.Arranging.{Whole}
use Rattle.four_men.specs.Lending.{Lent}
use Rattle.four_men.specs.Reading.{numbered}
use Rattle.four_men.proofs.laws.Materials.{few-of}
use Rattle.four_men.proofs.laws.Turned.{known_of, normal-same}
use Rattle.four_men.proofs.laws.Given.{SameFor, alike-for, lawful_for}
use Rattle.deciding.specs.Deciding.{Seated}

-- the ending of a legal board is one that there is
pub given-of : (m : Material) (b : Board) → T (legal_in m b) → OfMaterial m b → T (given m)
given-of (Material.One kind) b g e = known_of (Material.One kind) b g e
given-of (Material.Two j k r) b g e = known_of (Material.Two j k r) b g e
given-of Material.Pawn b g e = tt

pub normal-for : (m : Material) (b : Board) → T (legal_in m b) → OfMaterial m b → SameFor m b (normal_in m b)
normal-for (Material.One kind) b g e =
    normal-same b (record { legality = g; few = few-of (Material.One kind) b.men e })
normal-for (Material.Two j k r) b g e =
    normal-same b (record { legality = g; few = few-of (Material.Two j k r) b.men e })
normal-for Material.Pawn b g e = (pawn_flip b, record { legality = g; men = inl e }, refl)

module _ (m : Material) (w : T (given m)) (l : Lent) (t : List ℕ) where
  pub reads-for : (b c : Board) → SameFor m b c → reads chess (numbered m l) t b ≡ reads chess (numbered m l) t c
  unfolding lawful_for
  reads-for b c x = reads_same chess (numbered m l) (lawful_for m w l) t b c x

  pub required-for : (b c : Board) → SameFor m b c
      → required_at chess (reads chess (numbered m l) t) b ≡ required_at chess (reads chess (numbered m l) t) c
  required-for b c x =
      alike-required chess chess (SameFor m) (alike-for m) (reads chess (numbered m l) t)
      (reads chess (numbered m l) t) reads-for b c x

-- the normal place, as the verdict on its byte asks for it
pub seated-of : (m : Men) (q : Place) → Whole m q → Seated m q
seated-of m q (inl w) = inl w
seated-of m q (inr w) =
    inr (record {
      ending = ap material_for w.men;
      second = w.second;
      on = record {
        side = w.side;
        white = w.white;
        black = w.black;
        inner = w.inner;
        separated = w.separated;
      };
    })
