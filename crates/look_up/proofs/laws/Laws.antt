-- Look-up's answer by the tests that lead to it.
use Rattle.std.specs.Prelude.{◌≡◌, refl, Bool, true, false, List, ℕ, ◌-◌, T, None, Option, Some, Err, Result}
use Rattle.std.proofs.Math.Path.{sym, ap, subst⁻¹}
use Rattle.std.proofs.Common.{◌∙◌, arith}
use borrow.Author.Tests.{ne_eqb}
use Rattle.theory.specs.Required.{required_at}
use Rattle.theory.specs.Play.{first_suited}
use Rattle.table_theory.specs.Tables.{reads}
use Rattle.symmetry.specs.Symmetry.{Symmetry, mapped, inverse}
use Rattle.rules.specs.declared.Piece.{Piece}
use Rattle.rules.specs.declared.Move.{Move}
use Rattle.rules.specs.Rules.{Board, promotion_of, in_check}
use Rattle.rules.specs.Chess.{chess}
use Rattle.numbering.specs.declared.Material.{Material}
use Rattle.numbering.specs.Material.{known, given, legal_in, OfMaterial, material_in}
use Rattle.answers.specs.declared.Answer.{Answer}
use Rattle.position.specs.declared.Position.{Position}
use Rattle.position.specs.declared.Map.{Map}
use Rattle.position.specs.declared.Men.{Men}
use Rattle.position.specs.Keyed.{board_of, man_in, man_kind}
use Rattle.position.specs.Refusals.{bad_men, other_in_check, placing_refusal, standing_refusal, placing_with, standing_with}
use Rattle.position.specs.Maps.{symmetry_of}
use Rattle.position.specs.Posed.{posed, board_in, material_for, Complete}
use Rattle.position.proofs.laws.BothSizes.{standing-placed-with, placed-men-with, placed-side-with}
use Rattle.index.specs.declared.NormalPlace.{NormalPlace}
use Rattle.index.specs.Arranging.{Normalises, pawn_normal_as}
use Rattle.index.proofs.laws.PawnLaws.{keyed-pieces}
use Rattle.endings.specs.Answers.{advice_of, mapped_advice, answer_of, chosen_by, look_up_of}
use Rattle.four_men.specs.Lending.{Lent}
use Rattle.four_men.specs.Reading.{numbered}
use Rattle.four_men.specs.Answers.{lengths_fit, look_up_with}
use Rattle.four_men.proofs.laws.Alone.{pawn-refused, look-up-alone}
use Rattle.index.specs.Endings.{normal_in, map_in}
use Rattle.four_men.proofs.laws.Given.{SameFor}
use Rattle.four_men.proofs.laws.Standing.{known-not-pawn, men-known, standing-with-facts}
use Rattle.successors.specs.declared.Verdict.{Verdict}
use Rattle.successors.specs.Successors.{suited_from, verdict_of}
use Rattle.successors.proofs.laws.VerdictLaws.{told-wrong, told-right}
use Rattle.deciding.specs.Deciding.{PawnSeated, Seated}
use Rattle.deciding.proofs.laws.PawnLaws.{known-first}
use Rattle.deciding.proofs.laws.PawnVerdicts.{seated-pawn, seated-pieces}
use Rattle.look_up.specs.Told.{told_of}
use Rattle.look_up.proofs.laws.Checked.{rival_checked, checked-there}
use Rattle.look_up.proofs.laws.Normal.{given-of, normal-for, reads-for, required-for, seated-of}

-- a move, its two squares carried back
pub back-on-the-board : (via : Map) (advice : Option Move) (m v : Move) (from to : ℕ) → advice ≡ Some m
    → from ≡ mapped (inverse (symmetry_of via)) m.from → to ≡ mapped (inverse (symmetry_of via)) m.to
    → v ≡ promotion_of from to m.takes m.becomes → Some v ≡ mapped_advice (inverse (symmetry_of via)) advice
back-on-the-board via advice m v from to e f g h =
    ap Some (h ∙ rw (f, g)) ∙ ap (mapped_advice (inverse (symmetry_of via))) (sym e)

-- whether the lengths fit, asked of the men's material
pub fit_of : (l : Lent) (t : List ℕ) (m : Men) (x : Material) (fit : Bool) → x ≡ material_for m → fit ≡ lengths_fit x l t
    → fit ≡ lengths_fit (material_for m) l t
fit_of l t m x fit e h = h ∙ ap (λ (y : Material). lengths_fit y l t) e

-- the normal place of pieces, and of a pawn
pub of-pieces : (p : Position) (r : NormalPlace) → placing_with p ≡ 0 → Normalises p r → (man_kind p ≡ 4 → ⊥)
    → Seated r.men r.place → Complete r.men r.place
of-pieces p r z n k s =
    seated-pieces r.men r.place s
    (λ e. omega (
      arith,
      known-first r.men (subst⁻¹ (λ (x : Material). T (known x)) n.material (keyed-pieces p z k)),
      e,
    ))

pub of-pawn : (p : Position) (r : NormalPlace) → r ≡ pawn_normal_as p → Seated r.men r.place
    → PawnSeated r.men r.place
unfolding pawn_normal_as
of-pawn p r e s = seated-pawn r.men r.place s (ap (λ (x : NormalPlace). x.men.first) e)

-- whether the side that does not move is in check, asked of the normal place of pieces
pub check-of : (p : Position) (r : NormalPlace) → placing_with p ≡ 0 → Normalises p r → (man_kind p ≡ 4 → ⊥)
    → (x : Bool) (rival : ℕ) → rival ≡ 1 - r.place.side
    → (Complete r.men r.place → x ≡ in_check (board_in r.men r.place) rival) → x ≡ other_in_check p
unfolding board_of posed
check-of p r z n k x rival e f =
    let w = keyed-pieces p z k in
    f (of-pieces p r z n k (seated-of r.men r.place n.whole))
    ∙ ap (in_check (board_in r.men r.place)) e
    ∙ ap rival_checked n.board
    ∙ checked-there (board_of p) (placed-side-with p z)
    (men-known p (placed-men-with p z) (known-not-pawn (material_in (board_of p).men) w)).1
    (material_in (board_of p).men) w

module _ (l : Lent) (t : List ℕ) (p : Position) where
  pub refused-standing : (n : ℕ) → n ≡ standing_with p → (n ≡ 0 → ⊥) → Err n ≡ look_up_with l t p
  unfolding look_up_with
  refused-standing n e h = sym (rw (← e, ne_eqb n 0 h))

  module _ (stands : standing_with p ≡ 0) (r : NormalPlace) (f : placing_with p ≡ 0 → Normalises p r) where
    abbrev b : Board
    b = board_of p

    abbrev m : Material
    m = material_in b.men

    abbrev c : Board
    c = normal_in m b

    abbrev bytes : Board → ℕ
    bytes = reads chess (numbered m l) t

    there : Normalises p r
    there = f (standing-placed-with p stands)

    facts : T (legal_in m b) × OfMaterial m b
    facts = standing-with-facts p stands

    is-given : T (given m)
    is-given = given-of m b facts.0 facts.1

    same : SameFor m b c
    same = normal-for m b facts.0 facts.1

    own : bytes b ≡ bytes c
    own = reads-for m is-given l t b c same

    seated : Seated r.men r.place
    seated = seated-of r.men r.place there.whole

    module _ (fit : Bool) (o : fit ≡ lengths_fit (material_for r.men) l t) where
      fits : fit ≡ lengths_fit m l t
      fits = o ∙ ap (λ (x : Material). lengths_fit x l t) there.material

      pub refused-length : fit ≡ false → Err 7 ≡ look_up_with l t p
      unfolding look_up_with
      refused-length h = sym (rw (stands, sym fits ∙ h))

      module _ (long : fit ≡ true) (byte : ℕ) (v : Verdict)
          (g : Seated r.men r.place
          → byte ≡ reads chess (numbered (material_for r.men) l) t (board_in r.men r.place))
          (h : Seated r.men r.place
          → v ≡ verdict_of (reads chess (numbered (material_for r.men) l) t) byte (board_in r.men r.place)) where
        at-normal : byte ≡ bytes c
        at-normal = g seated
            ∙ ap (λ (x : Material). reads chess (numbered x l) t (board_in r.men r.place)) there.material
            ∙ ap bytes there.board

        at-number : byte ≡ bytes b
        at-number = at-normal ∙ sym own

        told : v ≡ verdict_of bytes byte c
        told = h seated
            ∙ ap (λ (x : Material). verdict_of (reads chess (numbered x l) t) byte (board_in r.men r.place))
            there.material
            ∙ ap (verdict_of bytes byte) there.board

        required : required_at chess bytes c ≡ required_at chess bytes b
        required = sym (required-for m is-given l t b c same)

        refused-byte : v ≡ Verdict.Wrong → Err 11 ≡ look_up_with l t p
        unfolding look_up_with
        refused-byte w =
            sym (rw (
              stands,
              sym fits ∙ long,
              ← at-number,
              ← required,
              told-wrong bytes c byte v told w,
            ))

        -- the advice carried back by the map
        answered : (a d : Option Move) → v ≡ Verdict.Right a → d ≡ mapped_advice (inverse (symmetry_of r.via)) a
            → answer_of byte d ≡ look_up_with l t p
        unfolding look_up_with chosen_by suited_from first_suited
        answered a d w u =
            let j = told-right bytes c byte v a told w in
            let x : d ≡ chosen_by (map_in m) (normal_in m) bytes b =
            u ∙ ap (λ (k : Symmetry). mapped_advice (inverse k) a) there.map
            ∙ ap (mapped_advice (inverse (map_in m b))) j.1
            ∙ ap (λ (i : ℕ). mapped_advice (inverse (map_in m b)) (advice_of (suited_from bytes i c))) at-normal in
            sym (rw (stands, sym fits ∙ long, ← at-number, ← required, j.0, ← x))

        pub told-answer : (x : Result Answer ℕ) → x ≡ told_of r.via byte v → x ≡ look_up_with l t p
        told-answer x i = i ∙ go v refl
          where
            go : (u : Verdict) → v ≡ u → told_of r.via byte u ≡ look_up_with l t p
            go Verdict.Wrong w = refused-byte w
            go (Verdict.Right a) w = answered a _ w refl

-- ---- the parts that keep to three men

-- two men, or an absent one before a present one, are refused 1
pub two-refused : (t : List ℕ) (p : Position) (a : Piece) → p.second ≡ Some a → Err 1 ≡ look_up_of t p
unfolding look_up_of standing_refusal placing_refusal
two-refused t p a e = sym (rw (bad p.first p.second a e))
  where
    bad : (f s : Option Piece) (a : Piece) → s ≡ Some a → bad_men f s ≡ true
    bad f s a e = ap (bad_men f) e ∙ go f
      where
        go : (f : Option Piece) → bad_men f (Some a) ≡ true
        go None = refl
        go (Some x) = refl

-- and so is a pawn
pub pawn-alone-refused : (t : List ℕ) (p : Position) (a : Piece) → a ≡ man_in p.first → a.kind ≡ 4
    → Err 1 ≡ look_up_of t p
unfolding look_up_of
pawn-alone-refused t p a e k = sym (rw (pawn-refused p (ap (λ (x : Piece). x.kind) (sym e) ∙ k)))

pub one-answered : (l : Lent) (t : List ℕ) (p : Position) (a : Piece) (r : Result Answer ℕ) → a ≡ man_in p.first
    → (a.kind ≡ 4 → ⊥) → p.second ≡ None → r ≡ look_up_with l t p → r ≡ look_up_of t p
one-answered l t p a r f n e h = h ∙ look-up-alone l t p e (λ k. n (ap (λ (x : Piece). x.kind) f ∙ k))
