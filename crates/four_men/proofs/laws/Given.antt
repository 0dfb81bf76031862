-- Every ending that there is, of pieces or of a pawn: its numbering is lawful, what is read elsewhere is true, and a
-- depth read elsewhere is one that a lent table holds.
use Rattle.std.specs.Prelude.{◌≡◌, false, ℕ, ◌<◌, T}
use Rattle.finite.specs.Members.{◌∈◌}
use Rattle.theory.specs.Game.{next}
use Rattle.theory.specs.Value.{DepthIs, TrueByte}
use Rattle.theory.specs.Required.{Closed}
use Rattle.theory.specs.Alike.{Alike}
use Rattle.table_theory.specs.Tables.{Lawful, OuterTrue}
use Rattle.rules.specs.Rules.{Board}
use Rattle.rules.specs.Chess.{chess}
use Rattle.numbering.specs.declared.Material.{Material}
use Rattle.numbering.specs.Material.{given, size_of}
use Rattle.index.specs.Endings.{number_in, board_for}
use Rattle.four_men.specs.Lending.{Lent, borrowed}
use Rattle.four_men.specs.Reading.{Fewer, Within, full, lent_byte, legal_number_of, numbered, holds_depth}
use Rattle.four_men.specs.Answers.{lent_accepted}
use Rattle.four_men.specs.Same.{Same}
use Rattle.four_men.proofs.laws.Same.{same_alike}
use Rattle.four_men.proofs.laws.Captures.{within-closed, fewer-next, fewer-not-full, fewer-of}
use Rattle.four_men.proofs.laws.Numbered.{full-same, outer_same, number-live-in, live-at-in, same-number-in, same-at-in, lawful_with}
use Rattle.four_men.proofs.laws.Lent.{outer-true-with, lent-held}
use Rattle.four_men.proofs.laws.PawnWithin.{fewer-pawn-next, within-pawn-closed}
use Rattle.four_men.proofs.laws.PawnLawful.{SamePawn, pawn-alike, full-flipped, outer-flipped, pawn-live, pawn-live-at, number-flipped, same-at-pawn}
use Rattle.four_men.proofs.laws.PawnLent.{fewer-true-pawn, held-pawn}

-- boards that go alike, as the ending's numbers have them
abbrev pub SameFor : Material → Board → Board → Type 0
SameFor (Material.One kind) = Same
SameFor (Material.Two first second rivals) = Same
SameFor Material.Pawn = SamePawn

pub alike-for : (m : Material) → Alike chess chess (SameFor m)
alike-for (Material.One kind) = same_alike
alike-for (Material.Two j k r) = same_alike
alike-for Material.Pawn = pawn-alike

pub closed-for : (m : Material) → T (given m) → Closed chess (Within m)
closed-for (Material.One kind) w = within-closed (Material.One kind) w
closed-for (Material.Two j k r) w = within-closed (Material.Two j k r) w
closed-for Material.Pawn w = within-pawn-closed

pub fewer-next-for : (m : Material) → T (given m) → (b q : Board) → Within m b → Fewer m b → q ∈ next chess b
    → Fewer m q
fewer-next-for (Material.One kind) w = fewer-next (Material.One kind) w
fewer-next-for (Material.Two j k r) w = fewer-next (Material.Two j k r) w
fewer-next-for Material.Pawn w = fewer-pawn-next

pub number-live-for : (m : Material) → T (given m) → (b : Board) → Within m b → T (full m b.men)
    → (number_in m b < size_of m) × T (legal_number_of m (number_in m b))
number-live-for (Material.One kind) w = number-live-in (Material.One kind) w
number-live-for (Material.Two j k r) w = number-live-in (Material.Two j k r) w
number-live-for Material.Pawn w = pawn-live

pub live-at-for : (m : Material) → T (given m) → (n : ℕ) → n < size_of m → T (legal_number_of m n)
    → Within m (board_for m n) × T (full m (board_for m n).men) × (number_in m (board_for m n) ≡ n)
live-at-for (Material.One kind) w = live-at-in (Material.One kind) w
live-at-for (Material.Two j k r) w = live-at-in (Material.Two j k r) w
live-at-for Material.Pawn w = pawn-live-at

pub full-for : (m : Material) → T (given m) → (b c : Board) → SameFor m b c → full m b.men ≡ full m c.men
full-for (Material.One kind) w = full-same (Material.One kind) w
full-for (Material.Two j k r) w = full-same (Material.Two j k r) w
full-for Material.Pawn w = full-flipped

pub same-number-for : (m : Material) → T (given m) → (b c : Board) → SameFor m b c → T (full m b.men)
    → number_in m b ≡ number_in m c
same-number-for (Material.One kind) w = same-number-in (Material.One kind) w
same-number-for (Material.Two j k r) w = same-number-in (Material.Two j k r) w
same-number-for Material.Pawn w = number-flipped

pub outer-same-for : (m : Material) → T (given m) → (l : Lent) (b c : Board) → SameFor m b c → full m b.men ≡ false
    → lent_byte m l b ≡ lent_byte m l c
outer-same-for (Material.One kind) w = outer_same (Material.One kind) w
outer-same-for (Material.Two j k r) w = outer_same (Material.Two j k r) w
outer-same-for Material.Pawn w = outer-flipped

pub same-at-for : (m : Material) → T (given m) → (b : Board) → Within m b → T (full m b.men)
    → SameFor m b (board_for m (number_in m b))
same-at-for (Material.One kind) w = same-at-in (Material.One kind) w
same-at-for (Material.Two j k r) w = same-at-in (Material.Two j k r) w
same-at-for Material.Pawn w = same-at-pawn

unfoldable pub lawful_for : (m : Material) → T (given m) → (l : Lent) → Lawful chess (numbered m l)
unfolding numbered
lawful_for m w l = record {
  D = Within m;
  closed = closed-for m w;
  number-live = number-live-for m w;
  live_at = live-at-for m w;
  outer-next = λ b q d e h. fewer-not-full m q (fewer-next-for m w b q d (fewer-of m b d e) h);
  Same = SameFor m;
  alike = alike-for m;
  same-inside = full-for m w;
  same_number = same-number-for m w;
  same-outer = outer-same-for m w l;
  same_at = same-at-for m w;
}

-- what is read elsewhere is true
pub outer-true-for : (m : Material) (w : T (given m)) (l : Lent) → T (lent_accepted m l)
    → OuterTrue chess (numbered m l) (lawful_for m w l)
unfolding numbered lawful_for lawful_with
outer-true-for m w l ok b d e = go m w ok d e
  where
    go : (m : Material) → T (given m) → T (lent_accepted m l) → Within m b → full m b.men ≡ false
        → TrueByte chess b (lent_byte m l b)
    go (Material.One kind) w ok d e = outer-true-with (Material.One kind) w l ok b d e
    go (Material.Two j k r) w ok d e = outer-true-with (Material.Two j k r) w l ok b d e
    go Material.Pawn w ok d e = fewer-true-pawn l ok b d (fewer-of Material.Pawn b d e)

-- a position that is read elsewhere has a depth that a lent table holds
pub lent-held-for : (m : Material) → T (given m) → (l : Lent) → T (lent_accepted m l) → (b : Board) → Within m b
    → full m b.men ≡ false → (k : ℕ) → DepthIs chess k b → T (holds_depth (borrowed m l) k)
lent-held-for (Material.One kind) w = lent-held (Material.One kind) w
lent-held-for (Material.Two j k r) w = lent-held (Material.Two j k r) w
lent-held-for Material.Pawn w = held-pawn
