-- Each ending's boards, numbered: what `numbered` asks, met by the rules of chess and by the index.
use Rattle.std.specs.Prelude.{◌≡◌, Bool, false, ◌⊎◌, List, [], map, ℕ, ◌%◌, ◌<◌, T}
use Rattle.std.proofs.Math.Path.{refl, sym, ap}
use Rattle.std.proofs.Common.{subst, ◌∙◌, inl}
use Rattle.std.proofs.Math.Bool.{not}
use Rattle.std.proofs.Math.Logic.{inr}
use Rattle.finite.specs.Truth.{and_right, refuted}
use Rattle.finite.specs.Members.{◌∈◌, none_in}
use Rattle.theory.specs.Game.{next}
use Rattle.theory.specs.Value.{Drawn, TrueByte}
use Rattle.theory.specs.Alike.{Alike}
use Rattle.table_theory.specs.Tables.{Lawful, OuterTrue}
use Rattle.symmetry.specs.Symmetry.{Symmetry}
use Rattle.rules.specs.declared.Piece.{Piece}
use Rattle.rules.specs.Rules.{Board, empty, legal}
use Rattle.rules.proofs.laws.ChangedRules.{bare-changed}
use Rattle.rules.specs.Chess.{chess, played, Image}
use Rattle.rules.proofs.laws.ChessLaws.{image-alike}
use Rattle.position.specs.Keyed.{board_of}
use Rattle.numbering.specs.Number.{number_of}
use Rattle.index.specs.Answers.{position_at, unused}
use Rattle.endings.specs.Ending.{Lone, Ending, table_size, lone_board_at, legal_number, ending}
use Rattle.endings.proofs.laws.EndingDrawn.{ending-closed, bare-over, bare-drawn}
use Rattle.endings.proofs.laws.IndexLaws.{number-of-ending, number_at, image-at, number-image}

-- ---- boards with a man

pub has-man : (kind : ℕ) (b : Board) → Ending kind b → T (not (empty b.men)) → Lone kind b
has-man kind b d i = go d.men
  where
    go : (b.men ≡ []) ⊎ Lone kind b → Lone kind b
    go (inl e) = absurd (subst (λ (l : List Piece). T (not (empty l))) e i)
    go (inr l) = l

pub bare_of : (kind : ℕ) (b : Board) → Ending kind b → not (empty b.men) ≡ false → b.men ≡ []
bare_of kind b d e = go d.men
  where
    go : (b.men ≡ []) ⊎ Lone kind b → b.men ≡ []
    go (inl h) = h
    go (inr l) = absurd (refuted e (subst (λ (m : List Piece). T (not (empty m))) (sym l.1.1) tt))

-- ---- boards of an ending that a map, with the colours exchanged or not, makes into one another

abbrev pub Turned : ℕ → Board → Board → Type 0
Turned kind b c = Ending kind b × (m : Symmetry) × (x : Bool) × Image m x b c

pub turned-alike : (kind : ℕ) → Alike chess chess (Turned kind)
turned-alike kind = record {
  forth = λ b c x q i. let r = (image-alike x.1 x.2).forth b c x.3 q i in
      (r.0, r.1, (ending-closed kind b q x.0 i, x.1, x.2, r.2));
  back = λ b c x s i. let r = (image-alike x.1 x.2).back b c x.3 s i in
      (r.0, r.1, (ending-closed kind b r.0 x.0 r.1, x.1, x.2, r.2));
  mate = λ b c x. (image-alike x.1 x.2).mate b c x.3;
}

module _ (kind : ℕ) where
  pub live_at : (n : ℕ) → n < table_size → T (legal_number kind n)
      → Ending kind (lone_board_at kind n) × T (not (empty (lone_board_at kind n).men))
      × (number_of (lone_board_at kind n) ≡ n)
  unfolding legal_number lone_board_at board_of position_at
  live_at n h l = (
    record {
      legality = and_right (not (unused (position_at kind n))) (legal (board_of (position_at kind n))) l;
      men = inr (0, (n % 64, refl));
    },
    tt,
    number_at kind n h l,
  )

  pub outer-drawn : (b : Board) → Ending kind b → not (empty b.men) ≡ false → Drawn chess b
  outer-drawn b d e = bare-drawn b d.legality (bare_of kind b d e)

  pub bare-stays : (b q : Board) → Ending kind b → not (empty b.men) ≡ false → q ∈ next chess b
      → not (empty q.men) ≡ false
  bare-stays b q d e i = absurd (none_in (ap (map (played b)) (bare-over b d.legality (bare_of kind b d e))) i)

  unfoldable pub lawful : Lawful chess (ending kind)
  unfolding ending
  lawful = record {
    D = Ending kind;
    closed = ending-closed kind;
    number-live = λ b d i. number-of-ending kind b d.legality (has-man kind b d i);
    live_at = live_at;
    outer-next = bare-stays;
    Same = Turned kind;
    alike = turned-alike kind;
    same-inside =
        λ b c x. ap not (sym (bare-changed x.1 x.2 b) ∙ ap (λ (d : Board). empty d.men) (sym x.3.1));
    same_number =
        λ b c x i. sym (ap number_of x.3.1 ∙ number-image kind x.1 x.2 b x.3.0 (has-man kind b x.0 i));
    same-outer = λ b c x e. refl;
    same_at =
        λ b d i. let w = image-at kind b d.legality (has-man kind b d i) in (d, w.0, w.1, (d.legality, w.2));
  }

  -- bare kings count as drawn, and are
  pub outer-true : OuterTrue chess (ending kind) lawful
  unfolding ending lawful
  outer-true b d e = TrueByte.draw (outer-drawn b d e) refl
