-- Games of one man are the instance of the theorem about games in which nothing is lent.
use Rattle.std.specs.Prelude.{◌≡◌, Bool, false, not, ◌⊎◌, ℕ, T, take, Ok, Result}
use Rattle.std.proofs.Math.Path.{refl, ap, subst⁻¹}
use Rattle.std.proofs.Common.{sym, subst, ◌∙◌, inl, inr}
use Rattle.std.proofs.Math.Bool.{cond}
use mathlib.Core.List.{List, [], ◌∷◌}
use Rattle.std.proofs.Math.Option.{Option, none, some}
use Rattle.finite.specs.Truth.{refuted}
use Rattle.finite.specs.Members.{◌∈◌, map-in}
use Rattle.theory.specs.Play.{LegalGame, Follows, Over, after, at_ply, Promised}
use Rattle.theory.proofs.laws.Choice.{legal-take}
use Rattle.rules.specs.declared.Piece.{Piece}
use Rattle.rules.specs.declared.Move.{Move}
use Rattle.rules.specs.Rules.{Board, empty, legal, moves}
use Rattle.rules.specs.Chess.{chess, played}
use Rattle.answers.specs.declared.Answer.{Answer}
use Rattle.answers.specs.declared.Checked.{Checked}
use Rattle.endings.specs.Ending.{Lone, Ending, byte_of}
use Rattle.endings.specs.Truth.{TrueAnswer}
use Rattle.endings.specs.Answers.{check_of, look_up_of}
use Rattle.position.specs.Keyed.{keyed}
use Rattle.endings.specs.GamePromise.{move_of_answer, desk_move, Told, GamePromise}
use Rattle.endings.proofs.laws.EndingDrawn.{ending-closed}
use Rattle.numbering.specs.declared.Material.{Material}
use Rattle.four_men.specs.Steps.{nothing}
use Rattle.four_men.specs.GamePromise.{looked_up, desk_move_with, GamePromiseWith}
use Rattle.four_men.proofs.laws.Alone.{check-alone, reads-alone, lone-piece, look-up-alone}
use Rattle.four_men.specs.Truth.{TrueAnswerIn}
use Rattle.four_men.proofs.laws.Materials.{lone-material}
use Rattle.four_men.proofs.laws.Pieces.{answer-out}
use Rattle.four_men.proofs.laws.Games.{second_none, games-with}

-- ---- two ways of picking that agree on the positions of a game promise the same

module _ (D : Board → Type 0) (closed : (b q : Board) → D b → (v : Move) → v ∈ moves b → q ≡ played b v → D q)
    (pick other : Board → Option Move) (same : (b : Board) → D b → pick b ≡ other b) where
  pub follows_same : (side : Bool) (b : Board) (ms : List Move) → D b → LegalGame chess b ms
      → Follows chess pick side b ms → Follows chess other side b ms
  follows_same side b [] d g f = tt
  follows_same side b (v ∷ ms) d g f = (
    λ e. sym (same b d) ∙ f.0 e,
    follows_same side (played b v) ms (closed b (played b v) d v g.0 refl) g.1 f.1,
  )

  stays : (b : Board) (ms : List Move) → D b → LegalGame chess b ms → D (after chess b ms)
  stays b [] d g = d
  stays b (v ∷ ms) d g = stays (played b v) ms (closed b (played b v) d v g.0 refl) g.1

  promised-same : (bytes : Board → ℕ) (side : Bool) (b : Board) (ms : List Move) → D b → LegalGame chess b ms
      → (Follows chess other (not side) b ms → Follows chess pick (not side) b ms)
      → Promised chess bytes pick side b ms → Promised chess bytes other side b ms
  promised-same bytes side b ms d g back p = record {
    answered = λ i h. let a = p.answered i h in
        let x = stays b (take i ms) d (legal-take chess i b ms g) in
        record { truth = a.truth; accepted = a.accepted; goes_on = on (at_ply chess b ms i) x a.goes_on };
    won = p.won;
    lost = p.lost;
    drawn = p.drawn;
    lost-other = p.lost-other;
    won-other = p.won-other;
    both = λ f. p.both (back f);
  }
    where
      on : (c : Board) → D c → Over chess c ⊎ ((v : Move) × (pick c ≡ some v) × (v ∈ moves c))
          → Over chess c ⊎ ((v : Move) × (other c ≡ some v) × (v ∈ moves c))
      on c x (inl o) = inl o
      on c x (inr v) = inr (v.0, sym (same c x) ∙ v.1, v.2)

-- ---- one man

module _ (kind : ℕ) (t : List ℕ) where
  looked-alone : (b : Board) → T (legal b) → Lone kind b → looked_up (Material.One kind) nothing t b ≡ look_up_of t (keyed b)
  unfolding looked_up
  looked-alone b g w = look-up-alone nothing t (keyed b) (second_none kind b w) (lone-piece kind b g w)

  pub desk-alone : (b : Board) → Ending kind b → desk_move_with (Material.One kind) nothing t b ≡ desk_move t b
  unfolding desk_move_with desk_move
  desk-alone b d = go d.men
    where
      go : (b.men ≡ []) ⊎ Lone kind b
          → cond (empty b.men) none (move_of_answer (looked_up (Material.One kind) nothing t b))
          ≡ cond (empty b.men) none (move_of_answer (look_up_of t (keyed b)))
      go (inl e) =
          subst⁻¹ (λ (ms : List Piece). cond (empty ms) none
          (move_of_answer (looked_up (Material.One kind) nothing t b))
          ≡ cond (empty ms) none (move_of_answer (look_up_of t (keyed b)))) e refl
      go (inr w) = ap (λ (a : Result Answer ℕ). cond (empty b.men) none (move_of_answer a)) (looked-alone b d.legality w)

  pub closed : (b q : Board) → Ending kind b → (v : Move) → v ∈ moves b → q ≡ played b v → Ending kind q
  closed b q d v i e = subst⁻¹ (Ending kind) e (ending-closed kind b (played b v) d (map-in (played b) i))

  -- THREE-MAN GAMES FOLLOW: what is promised of a game with one man and his table.
  pub games-alone : check_of kind t ≡ Ok Checked.Accepted → (b : Board) → T (legal b) → Lone kind b → (side : Bool)
      (ms : List Move) → LegalGame chess b ms → Follows chess (desk_move t) side b ms → GamePromise t side b ms
  games-alone ok b g w side ms game follows = record {
    called = answer b g w whole.called;
    told = subst (λ (a : Result Answer ℕ). Told a side b ms) (looked-alone b g w) whole.told;
    answers = λ i h n. answer (at_ply chess b ms i) (there i).legality (man i n) (whole.answers i h n);
    bare = whole.bare;
    promised = promised-same (Ending kind) closed (desk_move_with (Material.One kind) nothing t) (desk_move t) desk-alone
        (byte_of t) side b ms start game (back (not side))
        (subst (λ (bytes : Board → ℕ). Promised chess bytes (desk_move_with (Material.One kind) nothing t) side b ms)
        (reads-alone kind nothing t) whole.promised);
  }
    where
      start : Ending kind b
      start = record { legality = g; men = inr w }

      back : (s : Bool) → Follows chess (desk_move t) s b ms
          → Follows chess (desk_move_with (Material.One kind) nothing t) s b ms
      back s = follows_same (Ending kind) closed (desk_move t) (desk_move_with (Material.One kind) nothing t)
          (λ c d. sym (desk-alone c d)) s b ms start game

      whole : GamePromiseWith (Material.One kind) nothing t side b ms
      whole = games-with (Material.One kind) nothing t (check-alone kind nothing t ∙ ok) b g (lone-material kind b w) side ms
          game (back side follows)

      answer : (c : Board) → T (legal c) → Lone kind c → TrueAnswerIn c (looked_up (Material.One kind) nothing t c)
          → TrueAnswer c (look_up_of t (keyed c))
      answer c v x a =
          subst (TrueAnswer c) (looked-alone c v x)
          (answer-out (Material.One kind) c v (lone-material kind c x) _ a)

      there : (i : ℕ) → Ending kind (at_ply chess b ms i)
      there i = stays (Ending kind) closed (desk_move t) (desk_move t) (λ c d. refl) b (take i ms) start
          (legal-take chess i b ms game)

      man : (i : ℕ) → empty (at_ply chess b ms i).men ≡ false → Lone kind (at_ply chess b ms i)
      man i n = go (there i).men
        where
          go : ((at_ply chess b ms i).men ≡ []) ⊎ Lone kind (at_ply chess b ms i) → Lone kind (at_ply chess b ms i)
          go (inl e) = absurd (refuted n (subst⁻¹ (λ (l : List Piece). T (empty l)) e tt))
          go (inr x) = x
