-- DEMAND 3, in one theorem for one man, for two and for a pawn: every list of legal moves from any legal position of an
-- ending, through captures and promotions until bare kings, in which one side, either one, plays the moves that look-up
-- gives with tables that checking accepted and that stay as they are.
use Rattle.std.specs.Prelude.{◌≡◌, refl, Bool, ◌⊎◌, ℕ, ◌<◌, T, take, None, Ok, Result}
use Rattle.std.proofs.Math.Path.{sym, ap, subst⁻¹}
use Rattle.std.proofs.Common.{subst, ◌∙◌, inl, inr, arith, ne_eqb}
use Rattle.std.proofs.Math.Bool.{false, cond}
use mathlib.Core.List.Memᴰ
use mathlib.Core.List.{List, [], ◌∷◌}
use Rattle.std.proofs.Math.Option.{Option, none}
use Rattle.finite.specs.Truth.{refuted}
use Rattle.finite.specs.Members.{◌∈◌, first, map-in}
use Rattle.theory.specs.Play.{suits, LegalGame, Follows, after, at_ply, first_suited, Chooses, Promised}
use Rattle.theory.proofs.laws.Choice.{legal-take}
use Rattle.theory.proofs.laws.Games.{promised}
use Rattle.table_theory.proofs.laws.Acceptance.{reads-outside}
use Rattle.symmetry.specs.Symmetry.{inverse}
use Rattle.rules.specs.declared.Piece.{Piece}
use Rattle.rules.specs.declared.Move.{Move}
use Rattle.rules.specs.Rules.{Board, empty, legal, moves}
use Rattle.rules.specs.Chess.{chess, played}
use Rattle.numbering.specs.Number.{normal_by, normalised}
use Rattle.position.specs.Keyed.{board_of, slot_of, others, keyed}
use Rattle.position.specs.Refusals.{standing_with}
use Rattle.answers.specs.declared.Answer.{Answer}
use Rattle.answers.specs.declared.Checked.{Checked}
use Rattle.endings.specs.Ending.{Lone, Ending, byte_of}
use Rattle.endings.specs.Truth.{TrueAnswer}
use Rattle.endings.specs.Answers.{check_of, advice_of, mapped_advice, chosen_by, look_up_of}
use Rattle.endings.specs.GamePromise.{given, move_of_answer, desk_move}
use Rattle.endings.proofs.laws.EndingDrawn.{ending-closed, bare-over, bare-drawn}
use Rattle.endings.proofs.laws.Turning.{normal-ending}
use Rattle.endings.proofs.laws.LookingUp.{over_none}
use Rattle.endings.proofs.laws.Games.{answer-move, told-by, desk-chosen, board-answer}
use Rattle.numbering.specs.declared.Material.{Material}
use Rattle.numbering.specs.Material as materials
use Rattle.numbering.specs.Material.{OfMaterial, material_in, legal_in}
use Rattle.four_men.specs.Lending.{Lent, part_of}
use Rattle.four_men.specs.Reading.{Fewer, Within, full, lent_for, numbered}
use Rattle.four_men.specs.Answers.{check_with, look_up_with}
use Rattle.four_men.specs.Truth.{TrueAnswerIn}
use Rattle.four_men.specs.GamePromise.{table_then, looked_up, desk_move_with, GamePromiseWith}
use Rattle.four_men.specs.Same.{Manned}
use Rattle.four_men.proofs.laws.Alone.{lone-piece, look-up-alone}
use Rattle.four_men.proofs.laws.Materials.{two-of, few-of, manned-of, material-in}
use Rattle.four_men.proofs.laws.Lent.{lower-byte, own-accepted}
use Rattle.four_men.proofs.laws.PawnWithin.{bare-legal, lone-legal, lone-pawn}
use Rattle.four_men.proofs.laws.PawnLent.{part-accepted}
use Rattle.four_men.proofs.laws.Given.{closed-for}
use Rattle.four_men.proofs.laws.Carrying.{map_then, normal_then, answer-plain, chosen_plain, lower-reads}
use Rattle.four_men.proofs.laws.Checking.{accepted-with}
use Rattle.four_men.proofs.laws.Standing.{keyed-back, keyed-standing-with}
use Rattle.four_men.proofs.laws.LookingUp.{bytes_of, accepted-bytes-with, within-carries, chosen-chooses-with, look-up-with-answers, look-up-true-with}

-- a board with one man, keyed, has no second
pub second_none : (kind : ℕ) (b : Board) → Lone kind b → (keyed b).second ≡ None
second_none kind b w = ap (λ (ms : List Piece). slot_of (others ms)) w.1.1

manned-not-empty : (l : List Piece) → Manned l → empty l ≡ false
manned-not-empty [] m = absurd m
manned-not-empty (a ∷ l) m = refl

-- bare kings are legal without a pawn
plain-bare : (m : Material) (b : Board) → T (legal_in m b) → b.men ≡ [] → T (legal b)
plain-bare (Material.One kind) b g e = g
plain-bare (Material.Two j k r) b g e = g
plain-bare Material.Pawn b g e = bare-legal b g e

-- tests that agree on a list's members find the same first
first-same : (f g : Move → Bool) (l : List Move) → ((v : Move) → v ∈ l → f v ≡ g v) → first f l ≡ first g l
unfolding first
first-same f g [] h = refl
first-same f g (v ∷ l) h = rw (h v (Memᴰ.head refl), first-same f g l (λ y m. h y (Memᴰ.tail m)))

module _ (m : Material) (l : Lent) (t : List ℕ) (ok : check_with m l t ≡ Ok Checked.Accepted) where
  abbrev bytes : Board → ℕ
  bytes = bytes_of m l t ok

  -- the move chosen by the ending then on the board
  abbrev pick : Board → Option Move
  pick b = given (chosen_by map_then normal_then bytes b)

  is-given : T (materials.given m)
  is-given = (accepted-with m l t ok).0

  -- ---- a board with all its men: it is looked up in the ending's own table

  module _ (b : Board) (g : T (legal_in m b)) (e : OfMaterial m b) where
    own-table : table_then m l t b.men ≡ t
    own-table = go m e
      where
        go : (m : Material) → OfMaterial m b → table_then m l t b.men ≡ t
        go (Material.One kind) e = refl
        go (Material.Two j k r) e = ap (table_then (Material.Two j k r) l t) (two-of j k r b.men e).2
        go Material.Pawn e = ap (table_then Material.Pawn l t) (lone-pawn b e).1.1

    own_back : board_of (keyed b) ≡ b
    own_back = keyed-back b (few-of m b.men e)

    own_in : material_in (board_of (keyed b)).men ≡ m
    own_in = ap (λ (c : Board). material_in c.men) own_back ∙ material-in m is-given b.men e

    own-standing : standing_with (keyed b) ≡ 0
    own-standing = keyed-standing-with m is-given b g e

    own-looked : looked_up m l t b ≡ look_up_with l t (keyed b)
    unfolding looked_up
    own-looked = ap (λ (u : List ℕ). look_up_with l u (keyed b)) own-table

    own-answer : TrueAnswerIn b (looked_up m l t b)
    own-answer =
        subst⁻¹ (TrueAnswerIn b) own-looked
        (subst (λ (c : Board). TrueAnswerIn c (look_up_with l t (keyed b))) own_back
        (look-up-true-with m l t ok (keyed b) own_in own-standing))

    own-desk : desk_move_with m l t b ≡ pick b
    unfolding desk_move_with
    own-desk =
        ap (λ (x : Bool). cond x none (move_of_answer (looked_up m l t b)))
        (manned-not-empty b.men (manned-of m b.men e))
        ∙ ap move_of_answer (own-looked ∙ look-up-with-answers m l t ok (keyed b) own_in own-standing)
        ∙ answer-move (bytes (board_of (keyed b))) (chosen_by map_then normal_then bytes (board_of (keyed b)))
        ∙ ap pick own_back

  -- bare kings have no move
  bare-desk : (b : Board) → Within m b → b.men ≡ [] → desk_move_with m l t b ≡ pick b
  unfolding desk_move_with
  bare-desk b d e =
      ap (λ (ms : List Piece). cond (empty ms) none (move_of_answer (looked_up m l t b))) e
      ∙ sym (ap given (over_none bytes b (within-carries m l t ok b d)
      (bare-over b (plain-bare m b d.legality e) e)))

  -- ---- a man alone, left by a capture or made by a promotion: he is looked up in his own ending's table

  module _ (kind : ℕ) (small : List ℕ) (small-ok : check_of kind small ≡ Ok Checked.Accepted)
      (lone-byte : (c : Board) → Ending kind c → bytes c ≡ byte_of small c) (b : Board) (g : T (legal b)) (w : Lone kind b)
      (own : table_then m l t b.men ≡ small) where
    lone-ending : Ending kind b
    lone-ending = record { legality = g; men = inr w }

    lone-looked : looked_up m l t b ≡ look_up_of small (keyed b)
    unfolding looked_up
    lone-looked =
        ap (λ (u : List ℕ). look_up_with l u (keyed b)) own
        ∙ look-up-alone l small (keyed b) (second_none kind b w) (lone-piece kind b g w)

    lone-answer : TrueAnswerIn b (looked_up m l t b)
    lone-answer =
        answer-plain b (looked_up m l t b) g
        (subst⁻¹ (TrueAnswer b) lone-looked (board-answer kind small small-ok b lone-ending (ap empty w.1.1)))

    -- on his normal board the same moves suit
    lone-first : first_suited chess (byte_of small) (normalised b) ≡ first_suited chess bytes (normalised b)
    unfolding first_suited
    lone-first =
        let n = normalised b in
        let d = normal-ending kind b lone-ending in
        ap (λ (i : ℕ). first (λ v. suits i (byte_of small (played n v))) (moves n)) (sym (lone-byte n d))
        ∙ first-same (λ v. suits (bytes n) (byte_of small (played n v))) (λ v. suits (bytes n) (bytes (played n v)))
        (moves n)
        (λ v i. ap (suits (bytes n))
        (sym (lone-byte (played n v) (ending-closed kind n (played n v) d (map-in (played n) i)))))

    lone-desk : desk_move_with m l t b ≡ pick b
    unfolding desk_move_with desk_move chosen_by
    lone-desk =
        ap (λ (a : Result Answer ℕ). cond (empty b.men) none (move_of_answer a)) lone-looked
        ∙ desk-chosen kind small small-ok b lone-ending
        ∙ ap (λ (o : Option Move). given (mapped_advice (inverse (normal_by b)) (advice_of o))) lone-first
        ∙ ap given (sym (chosen_plain bytes b g))

    lone-both : (desk_move_with m l t b ≡ pick b) × TrueAnswerIn b (looked_up m l t b)
    lone-both = (lone-desk, lone-answer)

-- ---- which table he is looked up in

-- what is promised of a board with a man: the desk's move is the chosen one, and the answer is true
abbrev Served : (m : Material) (l : Lent) (t : List ℕ) → check_with m l t ≡ Ok Checked.Accepted → Board → Type 0
Served m l t ok b = (desk_move_with m l t b ≡ pick m l t ok b) × TrueAnswerIn b (looked_up m l t b)

module _ (j k : ℕ) (r : Bool) (l : Lent) (t : List ℕ) (ok : check_with (Material.Two j k r) l t ≡ Ok Checked.Accepted)
    (kind : ℕ) (s : (kind ≡ j) ⊎ (kind ≡ k)) where
  -- what is read of his ending is read in the lent table of his kind
  lent-byte : (b : Board) → Ending kind b → bytes_of (Material.Two j k r) l t ok b ≡ byte_of (lent_for j l kind) b
  unfolding numbered
  lent-byte b d =
      reads-outside chess (numbered (Material.Two j k r) l) t b (taken d.men) ∙ lower-byte j k r l kind b d
    where
      taken : (b.men ≡ []) ⊎ Lone kind b → full (Material.Two j k r) b.men ≡ false
      taken (inl e) = ap (full (Material.Two j k r)) e
      taken (inr w) = ap (full (Material.Two j k r)) w.1.1

  lent-served : (b : Board) → T (legal b) → Lone kind b → Served (Material.Two j k r) l t ok b
  lent-served b g w =
      lone-both (Material.Two j k r) l t ok kind (lent_for j l kind)
      (own-accepted j k r l (accepted-with (Material.Two j k r) l t ok).2 kind s) lent-byte b g w
      (ap (table_then (Material.Two j k r) l t) w.1.1)

-- what the pawn has become is looked up in the part of its kind
part-served : (l : Lent) (t : List ℕ) (ok : check_with Material.Pawn l t ≡ Ok Checked.Accepted) (kind : ℕ) → kind < 4
    → (b : Board) → T (legal b) → Lone kind b → Served Material.Pawn l t ok b
part-served l t ok kind h b g w =
    lone-both Material.Pawn l t ok kind (part_of kind l.first)
    (part-accepted l (accepted-with Material.Pawn l t ok).2 kind h) (lower-reads l t kind h) b g w
    (ap (table_then Material.Pawn l t) w.1.1
    ∙ ap (λ (x : Bool). cond x t (part_of kind l.first)) (ne_eqb kind 4 (λ q. omega arith)))

fewer-served : (m : Material) (l : Lent) (t : List ℕ) (ok : check_with m l t ≡ Ok Checked.Accepted) (b : Board)
    → T (legal_in m b) → Fewer m b → (b.men ≡ [] → ⊥) → Served m l t ok b
fewer-served (Material.One kind) l t ok b g f n = absurd (n f)
fewer-served (Material.Two j k r) l t ok b g (inl e) n = absurd (n e)
fewer-served (Material.Two j k r) l t ok b g (inr (inl w)) n = lent-served j k r l t ok j (inl refl) b g w
fewer-served (Material.Two j k r) l t ok b g (inr (inr w)) n = lent-served j k r l t ok k (inr refl) b g w
fewer-served Material.Pawn l t ok b g (inl e) n = absurd (n e)
fewer-served Material.Pawn l t ok b g (inr (kind, h, w)) n =
    part-served l t ok kind h b (lone-legal b kind h g w) w

-- ---- every board of a game

module _ (m : Material) (l : Lent) (t : List ℕ) (ok : check_with m l t ≡ Ok Checked.Accepted) where
  served : (b : Board) → Within m b → (b.men ≡ [] → ⊥) → Served m l t ok b
  served b d n = go d.men
    where
      go : OfMaterial m b ⊎ Fewer m b → Served m l t ok b
      go (inl e) = (own-desk m l t ok b d.legality e, own-answer m l t ok b d.legality e)
      go (inr f) = fewer-served m l t ok b d.legality f n

  -- the desk's move is the chosen one
  desk-chosen-with : (b : Board) → Within m b → desk_move_with m l t b ≡ pick m l t ok b
  desk-chosen-with b d = go b.men refl
    where
      some-man : (a : Piece) (ms : List Piece) → b.men ≡ a ∷ ms → b.men ≡ [] → ⊥
      some-man a ms e f = refuted (ap empty e) (subst⁻¹ (λ (k : List Piece). T (empty k)) f tt)

      go : (ms : List Piece) → b.men ≡ ms → desk_move_with m l t b ≡ pick m l t ok b
      go [] e = bare-desk m l t ok b d e
      go (a ∷ ms) e = (served b d (some-man a ms e)).0

  board-answer-with : (b : Board) → Within m b → empty b.men ≡ false → TrueAnswerIn b (looked_up m l t b)
  board-answer-with b d n = (served b d (λ e. refuted n (subst⁻¹ (λ (ms : List Piece). T (empty ms)) e tt))).1

  pub desk-chooses-with : Chooses chess (Within m) (bytes_of m l t ok) (desk_move_with m l t)
  desk-chooses-with =
      let rule = chosen-chooses-with m l t ok in
      record {
        sound = λ b d v e. rule.sound b d v (sym (desk-chosen-with b d) ∙ e);
        total = λ b d v i s. let x = rule.total b d v i s in (x.0, desk-chosen-with b d ∙ x.1);
      }

  closed : (b q : Board) → Within m b → (v : Move) → v ∈ moves b → q ≡ played b v → Within m q
  closed b q d v i e = subst⁻¹ (Within m) e (closed-for m (is-given m l t ok) b (played b v) d (map-in (played b) i))

  stays : (b : Board) (ms : List Move) → Within m b → LegalGame chess b ms → Within m (after chess b ms)
  stays b [] d g = d
  stays b (v ∷ ms) d g = stays (played b v) ms (closed b (played b v) d v g.0 refl) g.1

  -- THE THEOREM ABOUT GAMES, for one man, for two and for a pawn. The tables are accepted; b is a legal board of the
  -- ending, its men in either order, White's or Black's; ms is a game from b; the side plays the desk's moves in it.
  pub games-with : (b : Board) → T (legal_in m b) → OfMaterial m b → (side : Bool) (ms : List Move)
      → LegalGame chess b ms → Follows chess (desk_move_with m l t) side b ms → GamePromiseWith m l t side b ms
  games-with b g e side ms game follows = record {
    called = first-answer;
    told = told-by (bytes_of m l t ok) (desk_move_with m l t) side b ms (looked_up m l t b) first-answer kept;
    answers = λ i h n. board-answer-with (at_ply chess b ms i) (here i) n;
    bare = λ i h n. let c = at_ply chess b ms i in
        let x = plain-bare m c (here i).legality n in (bare-over c x n, bare-drawn c x n);
    promised = kept;
  }
    where
      start : Within m b
      start = record { legality = g; men = inl e }

      first-answer : TrueAnswerIn b (looked_up m l t b)
      first-answer = own-answer m l t ok b g e

      kept : Promised chess (bytes_of m l t ok) (desk_move_with m l t) side b ms
      kept = promised chess (Within m) (closed-for m (is-given m l t ok)) (bytes_of m l t ok)
          (accepted-bytes-with m l t ok) (desk_move_with m l t) desk-chooses-with side b ms start game follows

      here : (i : ℕ) → Within m (at_ply chess b ms i)
      here i = stays b (take i ms) start (legal-take chess i b ms game)
