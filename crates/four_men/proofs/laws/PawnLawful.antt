-- A pawn's ending, numbered over lent tables: what `table_theory` asks of a numbering. Boards go alike that a flip makes
-- into one another.
use Rattle.std.specs.Prelude.{◌≡◌, false, ◌⊎◌, ℕ, ◌<◌, T, get_or}
use Rattle.std.proofs.Math.Path.{refl, ap, subst⁻¹}
use Rattle.std.proofs.Common.{sym, ◌∙◌, inl, inr}
use Rattle.std.proofs.Math.Bool.{cond}
use mathlib.Core.List.{List, [], ◌∷◌, map}
use Rattle.finite.specs.Truth.{and_right, and_both}
use Rattle.theory.specs.Alike.{Alike}
use Rattle.table_theory.specs.Tables.{Lawful}
use Rattle.symmetry.specs.Symmetry.{Symmetry}
use Rattle.rules.specs.declared.Piece.{Piece}
use Rattle.rules.specs.Rules.{Board, piece_of, empty, legal_with_pawn}
use Rattle.rules.specs.Changed.{changed, changed_piece}
use Rattle.rules.specs.Changed.{keeping}
use Rattle.rules.specs.Chess.{chess}
use Rattle.rules.proofs.laws.ChessLaws.{fitting-alike}
use Rattle.pawn_numbers.specs.PawnNumber.{Flip, flipped, pawn_flip, pawn_number, pawn_board, pawn_size, used_pawn, HasPawn}
use Rattle.pawn_numbers.proofs.laws.FlipLaws.{flip-fitting, legal-has}
use Rattle.pawn_numbers.proofs.laws.NormalPawn.{number_lt}
use Rattle.pawn_numbers.proofs.laws.SameNumber.{number-along}
use Rattle.pawn_numbers.proofs.laws.BackLaws.{board-number, number-board, legal-used, legal-at-number}
use Rattle.numbering.specs.Men.{material_of}
use Rattle.numbering.specs.Number.{number_of}
use Rattle.numbering.specs.declared.Material.{Material}
use Rattle.numbering.specs.Material.{OfMaterial}
use Rattle.endings.specs.Ending.{Lone, Ending, byte_of}
use Rattle.endings.proofs.laws.EndingLaws.{Turned}
use Rattle.endings.proofs.laws.Turning.{ending-turned, byte-turned}
use Rattle.four_men.specs.Lending.{Lent, part_of}
use Rattle.four_men.specs.Reading.{Within, full, part_for, lent_byte, legal_number_of, numbered}
use Rattle.four_men.proofs.laws.Materials.{full-of}
use Rattle.four_men.proofs.laws.Captures.{fewer-not-full, own_of, fewer-of}
use Rattle.four_men.proofs.laws.PawnWithin.{lone-pawn, lower-pawn, fewer-pawn-next, within-pawn-closed}

-- the map of a flip
abbrev pub map_by : Flip → Symmetry
map_by s = keeping s.files s.colours

-- a flip makes a board of the ending, or one that it leaves, into the other
abbrev pub SamePawn : Board → Board → Type 0
SamePawn b c = (s : Flip) × Within Material.Pawn b × (c ≡ flipped s b)

pub pawn-alike : Alike chess chess SamePawn
unfolding flipped
pawn-alike = record {
  forth = λ b c x q i.
      let s = x.0 in
      let r = (fitting-alike (map_by s) s.colours).forth b c (flip-fitting s b x.1.legality, x.2) q i in
      (r.0, r.1, (s, within-pawn-closed b q x.1 i, r.2.1));
  back = λ b c x u i.
      let s = x.0 in
      let r = (fitting-alike (map_by s) s.colours).back b c (flip-fitting s b x.1.legality, x.2) u i in
      (r.0, r.1, (s, within-pawn-closed b r.0 x.1 r.1, r.2.1));
  mate = λ b c x.
      (fitting-alike (map_by x.0) x.0.colours).mate b c (flip-fitting x.0 b x.1.legality, x.2);
}

-- ---- boards that go alike are read alike

pub men-flipped : (s : Flip) (b : Board) → (flipped s b).men ≡ map (changed_piece (map_by s) s.colours) b.men
unfolding flipped changed
men-flipped s b = refl

pub full-flipped : (b c : Board) → SamePawn b c → full Material.Pawn b.men ≡ full Material.Pawn c.men
full-flipped b c x =
    sym (ap (λ (d : Board). full Material.Pawn d.men) x.2
    ∙ ap (full Material.Pawn) (men-flipped x.0 b)
    ∙ go b.men)
  where
    go : (l : List Piece) → full Material.Pawn (map (changed_piece (map_by x.0) x.0.colours) l) ≡ full Material.Pawn l
    go [] = refl
    go (a ∷ l) = refl

-- a board of one man's ending is read in the part of his kind
pub part-byte : (l : Lent) (kind : ℕ) (b : Board) → Ending kind b
    → lent_byte Material.Pawn l b ≡ byte_of (part_of kind l.first) b
part-byte l kind b d = go d.men
  where
    bare : (t : List ℕ) → b.men ≡ [] → byte_of t b ≡ 1
    bare t e = unfold byte_of in ap (λ (men : List Piece). cond (empty men) 1 (get_or t (number_of b) 0)) e

    go : (b.men ≡ []) ⊎ Lone kind b → byte_of (part_for l b.men) b ≡ byte_of (part_of kind l.first) b
    go (inl e) = bare (part_for l b.men) e ∙ sym (bare (part_of kind l.first) e)
    go (inr w) = ap (λ (men : List Piece). byte_of (part_for l men) b) w.1.1

pub outer-flipped : (l : Lent) (b c : Board) → SamePawn b c → full Material.Pawn b.men ≡ false
    → lent_byte Material.Pawn l b ≡ lent_byte Material.Pawn l c
outer-flipped l b c x e =
    let s = x.0 in
    let k = lower-pawn b x.1.legality (fewer-of Material.Pawn b x.1 e) in
    let y : Turned k.0 b c = (k.2, map_by s, s.colours, (k.2.legality, x.2 ∙ is s)) in
    part-byte l k.0 b k.2
    ∙ sym (byte-turned k.0 (part_of k.0 l.first) b c y)
    ∙ sym (part-byte l k.0 c
    (subst⁻¹ (Ending k.0) (x.2 ∙ is s) (ending-turned k.0 (map_by s) s.colours b k.2)))
  where
    is : (s : Flip) → flipped s b ≡ changed (map_by s) s.colours b
    is s = unfold flipped in refl

-- ---- the numbering

pub has-pawn : (b : Board) → T (legal_with_pawn b) → OfMaterial Material.Pawn b → HasPawn b
has-pawn b t e =
    let w = lone-pawn b e in legal-has b (piece_of 4 w.0 w.1.0) w.1.1 tt t

pub within_has : (b : Board) → Within Material.Pawn b → T (full Material.Pawn b.men) → HasPawn b
within_has b d t = has-pawn b d.legality (own_of Material.Pawn b d t)

pub pawn-live : (b : Board) → Within Material.Pawn b → T (full Material.Pawn b.men)
    → (pawn_number b < pawn_size) × T (legal_number_of Material.Pawn (pawn_number b))
unfolding legal_number_of
pawn-live b d t =
    let h = within_has b d t in (
      number_lt b h,
      and_both (used_pawn (pawn_number b)) (legal_with_pawn (pawn_board (pawn_number b))) (legal-used b h d.legality)
          (subst⁻¹ T (legal-at-number b h) d.legality),
    )

-- the board at a number has the pawn
pub pawn-at : (n : ℕ) → OfMaterial Material.Pawn (pawn_board n)
unfolding pawn_board material_of
pawn-at n = refl

pub pawn-live-at : (n : ℕ) → n < pawn_size → T (legal_number_of Material.Pawn n)
    → Within Material.Pawn (pawn_board n) × T (full Material.Pawn (pawn_board n).men) × (pawn_number (pawn_board n) ≡ n)
unfolding legal_number_of
pawn-live-at n h t = (
  record { legality = and_right (used_pawn n) (legal_with_pawn (pawn_board n)) t; men = inl (pawn-at n) },
  full-of Material.Pawn (pawn_board n).men (pawn-at n),
  board-number n h,
)

pub number-flipped : (b c : Board) → SamePawn b c → T (full Material.Pawn b.men) → pawn_number b ≡ pawn_number c
number-flipped b c x t = sym (ap pawn_number x.2 ∙ number-along x.0 b (within_has b x.1 t))

pub same-at-pawn : (b : Board) → Within Material.Pawn b → T (full Material.Pawn b.men)
    → SamePawn b (pawn_board (pawn_number b))
same-at-pawn b d t = (pawn_flip b, d, number-board b (within_has b d t))

unfoldable pub lawful-pawn : (l : Lent) → Lawful chess (numbered Material.Pawn l)
unfolding numbered
lawful-pawn l = record {
  D = Within Material.Pawn;
  closed = within-pawn-closed;
  number-live = pawn-live;
  live_at = pawn-live-at;
  outer-next = λ b q d e h. fewer-not-full Material.Pawn q (fewer-pawn-next b q d (fewer-of Material.Pawn b d e) h);
  Same = SamePawn;
  alike = pawn-alike;
  same-inside = full-flipped;
  same_number = number-flipped;
  same-outer = outer-flipped l;
  same_at = same-at-pawn;
}
