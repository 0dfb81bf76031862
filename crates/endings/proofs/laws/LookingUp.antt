-- Look-up on an accepted table never refuses a legal position of the ending, and answers its true value and depth (demand 2).
use Rattle.std.specs.Prelude.{◌≡◌, refl, ◌⊎◌, ◌↔◌, ℕ, zero, suc, ◌+◌, ◌-◌, ◌%◌, ◌≤◌, T, length, None, Option, Some, Ok}
use Rattle.std.proofs.Common.{sym, ap, ◌∙◌, inl, inr, arith}
use Rattle.std.proofs.Math.Path.{subst}
use mathlib.Core.List.Memᴰ
use mathlib.Core.List.{List, ◌∷◌, map}
use Rattle.std.proofs.Math.Option.{some}
use borrow.Author.Tests.{eq-eqb, lt-leb, ne_eqb}
use Rattle.finite.specs.Truth.{refuted}
use Rattle.finite.specs.Members.{◌∈◌, first-split, none_in, map-in}
use Rattle.theory.specs.Value.{WonIn, LostIn, Drawn, DepthIs, TrueByte}
use Rattle.theory.proofs.laws.Depth.{mate-is, win-is, loss-is, no-win-in-0, won-odd, lost-even, depth-odd, depth-even}
use Rattle.theory.proofs.laws.TrueBytes.{byte-is, byte_one}
use Rattle.theory.specs.Required.{required_at, Consistent}
use Rattle.theory.specs.Play.{Over, first_suited, suits, Answered}
use Rattle.theory.proofs.laws.Choice.{suits-draw, suits-less, draw-suits, less-suits}
use Rattle.theory.proofs.laws.OnePly.{answered-at}
use Rattle.table_theory.proofs.laws.Acceptance.{accepted-consistent}
use Rattle.symmetry.specs.Symmetry.{Symmetry}
use Rattle.rules.specs.declared.Move.{Move}
use Rattle.rules.specs.Rules.{Board, legal, moves}
use Rattle.rules.specs.Changed.{mapped_move}
use Rattle.rules.specs.Chess.{chess, played}
use Rattle.numbering.specs.Number.{normalised}
use Rattle.position.specs.declared.Position.{Position}
use Rattle.position.specs.Keyed.{board_of, man_kind}
use Rattle.position.specs.Refusals.{standing_refusal}
use Rattle.answers.specs.declared.Answer.{Answer}
use Rattle.answers.specs.declared.Checked.{Checked}
use Rattle.endings.specs.Ending.{Ending, table_size, byte_of, ending}
use Rattle.endings.proofs.laws.EndingDrawn.{ending-closed}
use Rattle.endings.proofs.laws.EndingLaws.{lawful, outer-true}
use Rattle.endings.specs.Truth.{First, ChosenBy, TrueAnswerBy, TrueAnswer}
use Rattle.endings.specs.Answers.{check_of, answer_of, chosen_by, chosen, look_up_of}
use Rattle.endings.specs.GamePromise.{given}
use Rattle.endings.proofs.laws.Checking.{byte_reads, keyed-ending, accepted-ending}
use Rattle.endings.proofs.laws.Turning.{CarriesBy, normal-ending, ending-carries, given-some, chosen-first, chosen-suits, chosen-chooses}

-- ---- the answer of a true byte

answer-win : (n : ℕ) (a : Option Move) → n % 2 ≡ 1 → answer_of (2 + n) a ≡ Ok (Answer.Win n a)
unfolding answer_of
answer-win n a e =
    let z : 2 + n - 2 ≡ n = omega arith in rw (lt-leb (2 + n) 1 (omega arith), eq-eqb ((2 + n) % 2) 1 (omega arith), z)

answer-loss : (n : ℕ) (a : Option Move) → n % 2 ≡ 0 → answer_of (2 + n) a ≡ Ok (Answer.Loss n a)
unfolding answer_of
answer-loss n a e =
    let z : 2 + n - 2 ≡ n = omega arith in
    rw (lt-leb (2 + n) 1 (omega arith), ne_eqb ((2 + n) % 2) 1 (λ q. omega arith), z)

answer-draw : (a : Option Move) → answer_of 1 a ≡ Ok (Answer.Draw a)
unfolding answer_of
answer-draw a = refl

module _ (b : Board) where
  -- won: there is a move; lost with no move: mate
  won-moves : (n : ℕ) → WonIn chess n b → Over chess b → ⊥
  won-moves zero w o = no-win-in-0 chess b w
  won-moves (suc n) w o =
      let r = (win-is chess n b).0 w in none_in (ap (λ (l : List Move). map (played b) l) o) r.legal

  lost-over : (n : ℕ) → LostIn chess n b → Over chess b → n ≡ 0
  lost-over zero l o = refl
  lost-over (suc n) l o =
      let r = (loss-is chess n b).0 l in absurd (none_in (ap (λ (l : List Move). map (played b) l) o) r.legal)

  -- mate has no move
  lost-moves : (n : ℕ) → LostIn chess n b → (m : Move) → m ∈ moves b → 1 ≤ n
  lost-moves zero l m i = absurd (none_in (chess.mate-ends b ((mate-is chess b).0 l)) i)
  lost-moves (suc n) l m i = omega arith

-- ---- what suits the bytes is what is sought, where the bytes are true

abbrev Seeks : (Board → ℕ) → (Board → Type 0) → Board → Type 0
Seeks reads Sought q = (v : Move) → v ∈ moves q → T (suits (reads q) (reads (played q v))) ↔ Sought (played q v)

abbrev pub TrueNext : (Board → ℕ) → Board → Type 0
TrueNext reads q = (v : Move) → v ∈ moves q → TrueByte chess (played q v) (reads (played q v))

module _ (reads : Board → ℕ) (q : Board) (true-next : TrueNext reads q) where
  -- from depth n, not 0, the moves sought lead to depth n - 1
  depth-sought : (n : ℕ) → reads q ≡ 2 + n → 1 ≤ n → Seeks reads (DepthIs chess (n - 1)) q
  depth-sought n e h v i =
      let k = byte-is chess (played q v) (reads (played q v)) (n - 1) (true-next v i) in (
        λ s. k.0 (omega (arith, suits-less (reads q) (reads (played q v)) (omega arith) s)),
        λ d. less-suits
            (reads q) (reads (played q v)) (omega arith) (omega (arith, k.1 d)),
      )

  draw-sought : reads q ≡ 1 → Seeks reads (Drawn chess) q
  draw-sought e v i = (
    λ s. go (suits-draw (reads q) (reads (played q v)) (omega arith) s)
        (true-next v i),
    λ d. let z = byte_one chess (played q v) (reads (played q v)) 1 (true-next v i)
        (TrueByte.draw d refl) in draw-suits (reads q) (reads (played q v)) (omega arith) (omega arith),
  )
    where
      go : reads (played q v) ≤ 1 → TrueByte chess (played q v) (reads (played q v)) → Drawn chess (played q v)
      go h (TrueByte.win n w z) = absurd (omega arith)
      go h (TrueByte.loss n w z) = absurd (omega arith)
      go h (TrueByte.draw d z) = d

  won-sought : (n : ℕ) → n % 2 ≡ 1 → reads q ≡ 2 + n → Seeks reads (LostIn chess (n - 1)) q
  won-sought n o e v i =
      let k = depth-sought n e (omega arith) v i in
      (λ s. depth-even chess (n - 1) (played q v) (k.0 s) (omega arith), λ l. k.1 (DepthIs.loss l))

  lost-sought : (n : ℕ) → n % 2 ≡ 0 → 1 ≤ n → reads q ≡ 2 + n → Seeks reads (WonIn chess (n - 1)) q
  lost-sought n o h e v i =
      let k = depth-sought n e h v i in
      (λ s. depth-odd chess (n - 1) (played q v) (k.0 s) (omega arith), λ l. k.1 (DepthIs.win l))

module _ {by : Board → Symmetry} {normal : Board → Board} (reads : Board → ℕ) (b : Board)
    (c : CarriesBy by normal reads b) where
  first-of : (Sought : Board → Type 0) → Seeks reads Sought (normal b) → (m : Move)
      → first_suited chess reads (normal b) ≡ some m
      → First (λ v. Sought (played (normal b) v)) (moves (normal b)) m
  unfolding first_suited
  first-of Sought same m e =
      let n = normal b in
      let f = first-split (λ v. suits (reads n) (reads (played n v))) (moves n) m e in
      record {
        before = f.0;
        rest = f.1;
        split = f.2;
        sought =
            (same m (subst (λ (l : List Move). m ∈ l) (sym f.2) (Memᴰ.append_right f.0 (Memᴰ.head refl)))).0
            f.3;
        none-earlier =
            λ v i s. let j : v ∈ moves n = subst (λ (l : List Move). v ∈ l) (sym f.2)
            (Memᴰ.append_left (m ∷ f.1) i) in refuted (f.4 v i) ((same v j).1 s);
      }

  chosen_of : (Sought : Board → Type 0) → Seeks reads Sought b → Seeks reads Sought (normal b) → (m : Move)
      → chosen_by by normal reads b ≡ Some m → ChosenBy by normal Sought b m
  chosen_of Sought here there m e =
      let s = chosen-suits reads b c m e in
      record {
        legal = s.0;
        leads = (here m s.0).0 s.1;
        there = first-of Sought there
            (mapped_move (by b) m) (chosen-first by normal reads b m e);
      }

  pub over_none : Over chess b → chosen_by by normal reads b ≡ None
  over_none o = go (chosen_by by normal reads b) (λ m e. (chosen-suits reads b c m e).0)
    where
      go : (a : Option Move) → ((m : Move) → a ≡ Some m → m ∈ moves b) → a ≡ None
      go (Some m) f = absurd (none_in o (f m refl))
      go None f = refl

  module _ (truth : TrueByte chess b (reads b)) (next : TrueNext reads b)
      (normal-next : TrueNext reads (normal b)) where
    abbrev advice : Option Move
    advice = chosen_by by normal reads b

    -- a move where the game goes on
    abbrev Goes : Type 0
    Goes = (m : Move) × (given advice ≡ some m) × (m ∈ moves b)

    pub true-answer : Over chess b ⊎ Goes → TrueAnswerBy by normal b (answer_of (reads b) advice)
    true-answer g = go truth g
      where
        play : (x : Goes) → advice ≡ Some x.0
        play x = given-some advice x.0 x.1

        go : TrueByte chess b (reads b) → Over chess b ⊎ Goes → TrueAnswerBy by normal b (answer_of (reads b) advice)
        go (TrueByte.win n v e) (inl o) = absurd (won-moves b n v o)
        go (TrueByte.win n v e) (inr x) =
            let d = won-odd chess n b v in
            TrueAnswerBy.won n x.0 v (chosen_of (LostIn chess (n - 1)) (won-sought reads b next n d e)
            (won-sought reads (normal b) normal-next n d (c.own ∙ e)) x.0 (play x))
            (rw (e, play x) (answer-win n (Some x.0) d))
        go (TrueByte.loss n v e) (inl o) =
            let z = lost-over b n v o in
            TrueAnswerBy.mate (subst (λ (k : ℕ). LostIn chess k b) z v) o
            (rw (e, z, over_none o) (answer-loss 0 None refl))
        go (TrueByte.loss n v e) (inr x) =
            let d = lost-even chess n b v in
            let h = lost-moves b n v x.0 x.2 in
            TrueAnswerBy.lost n x.0 v (chosen_of (WonIn chess (n - 1)) (lost-sought reads b next n d h e)
            (lost-sought reads (normal b) normal-next n d h (c.own ∙ e)) x.0 (play x))
            (rw (e, play x) (answer-loss n (Some x.0) d))
        go (TrueByte.draw v e) (inl o) = TrueAnswerBy.stalemate v o (rw (e, over_none o) (answer-draw None))
        go (TrueByte.draw v e) (inr x) =
            TrueAnswerBy.drawn x.0 v (chosen_of (Drawn chess) (draw-sought reads b next e)
            (draw-sought reads (normal b) normal-next (c.own ∙ e)) x.0 (play x))
            (rw (e, play x) (answer-draw (Some x.0)))

-- ---- an accepted table

module _ (kind : ℕ) (t : List ℕ) (ok : check_of kind t ≡ Ok Checked.Accepted) where
  pub accepted-bytes : Consistent chess (Ending kind) (byte_of t)
  unfolding lawful
  accepted-bytes =
      rw (byte_reads kind t) (accepted-consistent chess (ending kind) (lawful kind) t (outer-true kind)
      (accepted-ending kind t ok).2)

  -- what look-up answers, no test refusing
  pub look-up-answers : (p : Position) → man_kind p ≡ kind → standing_refusal p ≡ 0
      → look_up_of t p ≡ answer_of (byte_of t (board_of p)) (chosen (byte_of t) (board_of p))
  unfolding look_up_of
  look-up-answers p e z =
      rw (
        eq-eqb (standing_refusal p) 0 z,
        eq-eqb (length t) table_size (accepted-ending kind t ok).1,
        eq-eqb
            (byte_of t (board_of p)) (required_at chess (byte_of t) (board_of p))
            (accepted-bytes (board_of p) (keyed-ending kind p e z)),
      )

  board-answered : (b : Board) → Ending kind b → Answered chess (byte_of t) (λ c. given (chosen (byte_of t) c)) b
  board-answered =
      answered-at chess (Ending kind) (ending-closed kind) (byte_of t) accepted-bytes
      (λ c. given (chosen (byte_of t) c)) (chosen-chooses (Ending kind) (byte_of t) (ending-carries kind t))

  true-next : (b : Board) → Ending kind b → TrueNext (byte_of t) b
  true-next b d v i =
      (board-answered (played b v) (ending-closed kind b (played b v) d (map-in (played b) i))).truth

  -- Look-up never refuses a legal position of the ending, and answers its true value and depth.
  pub look-up-true : (p : Position) → man_kind p ≡ kind → standing_refusal p ≡ 0 → TrueAnswer (board_of p) (look_up_of t p)
  look-up-true p e z =
      let b = board_of p in
      let d = keyed-ending kind p e z in
      rw (look-up-answers p e z)
      (true-answer (byte_of t) b (ending-carries kind t b d) (board-answered b d).truth (true-next b d)
      (true-next (normalised b) (normal-ending kind b d)) (board-answered b d).goes_on)
