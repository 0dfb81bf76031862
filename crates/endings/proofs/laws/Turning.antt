-- Boards of an ending, their bytes, what these require and the moves that suit them go with the eight maps, the colours exchanged or not; so the move
-- chosen on the normal board and carried back is a rule for ties.
use Rattle.answers.specs.Advice.{BestMove}
use Rattle.std.specs.Prelude.{◌≡◌, Bool, ◌⊎◌, List, [], ◌∷◌, map, ℕ, T, None, Some}
use Rattle.std.proofs.Math.Path.{refl, ap, subst⁻¹}
use Rattle.std.proofs.Common.{sym, ap₂, subst, ◌∙◌, inl, arith}
use Rattle.std.proofs.Math.Bool.{true, false, cond, not}
use Rattle.std.proofs.Math.Logic.{inr}
use Rattle.std.proofs.Math.Option.{Option, none, some}
use Rattle.std.proofs.Math.ListN.{get_or}
use Rattle.finite.specs.Truth.{of-true}
use Rattle.finite.specs.Members.{◌∈◌, map-in}
use Rattle.theory.specs.Required.{required_at}
use Rattle.theory.specs.Play.{suits, first_suited, Chooses}
use Rattle.theory.proofs.laws.Alike.{alike-required}
use Rattle.theory.proofs.laws.Choice.{first-chooses}
use Rattle.symmetry.specs.Symmetry.{Symmetry, mapped, inverse}
use Rattle.rules.specs.declared.Piece.{Piece}
use Rattle.rules.specs.declared.Move.{Move}
use Rattle.rules.specs.Rules.{Board, empty, moves}
use Rattle.rules.specs.Changed.{swapped, changed_piece, changed, mapped_move}
use Rattle.rules.proofs.laws.Changed.{changed-back, move-back, move-forth}
use Rattle.rules.proofs.laws.ChangedRules.{legal-changed, bare-changed}
use Rattle.rules.specs.Chess.{chess, played}
use Rattle.rules.proofs.laws.ChessLaws.{moves-changed, played-changed}
use Rattle.numbering.specs.Men.{first_black}
use Rattle.numbering.specs.Number.{normal_by, normalised, number_of}
use Rattle.numbering.proofs.laws.FitLaws.{few-normal}
use Rattle.endings.specs.Ending.{Lone, Ending, byte_of}
use Rattle.endings.specs.Answers.{advice_of, mapped_advice, chosen_by}
use Rattle.endings.specs.GamePromise.{given}
use Rattle.endings.proofs.laws.EndingDrawn.{ending-closed}
use Rattle.endings.proofs.laws.EndingLaws.{has-man, Turned, turned-alike}
use Rattle.endings.proofs.laws.IndexLaws.{number-image}

-- ---- boards

pub ending-turned : (kind : ℕ) (m : Symmetry) (x : Bool) (b : Board) → Ending kind b → Ending kind (changed m x b)
ending-turned kind m x b d =
    record { legality = subst T (sym (legal-changed m x b)) d.legality; men = go d.men }
  where
    go : (b.men ≡ []) ⊎ Lone kind b → ((changed m x b).men ≡ []) ⊎ Lone kind (changed m x b)
    go (inl e) = inl (unfold changed in ap (map (changed_piece m x)) e)
    go (inr l) =
        inr (swapped x l.0, (mapped m l.1.0, unfold changed in ap (map (changed_piece m x)) l.1.1))

module _ (kind : ℕ) (b : Board) (d : Ending kind b) where
  -- the normal board is an image
  pub normal-turned : normalised b ≡ changed (normal_by b) (first_black b.men) b
  normal-turned = few-normal b (go d.men)
    where
      go : (b.men ≡ []) ⊎ Lone kind b → (b.men ≡ []) ⊎ ((a : Piece) × (b.men ≡ a ∷ []))
      go (inl e) = inl e
      go (inr l) = inr (_, l.1.1)

  pub turned-normal : Turned kind b (normalised b)
  turned-normal = (d, normal_by b, first_black b.men, (d.legality, normal-turned))

  pub normal-ending : Ending kind (normalised b)
  normal-ending = subst⁻¹ (Ending kind) normal-turned (ending-turned kind (normal_by b) (first_black b.men) b d)

  -- and leads back
  back-normal : changed (inverse (normal_by b)) (first_black b.men) (normalised b) ≡ b
  back-normal =
      ap (changed (inverse (normal_by b)) (first_black b.men)) normal-turned
      ∙ changed-back (normal_by b) (first_black b.men) b

-- ---- bytes

-- The moves of a board, and what the bytes say of it and of what its moves leave, go with the map by which it is made normal.
pub record CarriesBy (by : Board → Symmetry) (normal : Board → Board) (reads : Board → ℕ) (b : Board) : Type 0 where
  pub own : reads (normal b) ≡ reads b
  pub forth : (v : Move) → v ∈ moves b → mapped_move (by b) v ∈ moves (normal b)
  pub back : (v : Move) → v ∈ moves (normal b) → mapped_move (inverse (by b)) v ∈ moves b
  pub next : (v : Move) → v ∈ moves b → reads (played (normal b) (mapped_move (by b) v)) ≡ reads (played b v)

-- of pieces
abbrev pub Carries : (Board → ℕ) → Board → Type 0
Carries = CarriesBy normal_by normalised

module _ (kind : ℕ) (t : List ℕ) where
  pub byte-turned : (b c : Board) → Turned kind b c → byte_of t c ≡ byte_of t b
  unfolding byte_of
  byte-turned b c (d, m, x, (l, e)) =
      ap (byte_of t) e ∙ ap (λ (z : Bool). cond z 1 (get_or t (number_of (changed m x b)) 0)) (bare-changed m x b)
      ∙ go (empty b.men) refl
    where
      go : (z : Bool) → empty b.men ≡ z
          → cond z 1 (get_or t (number_of (changed m x b)) 0) ≡ cond z 1 (get_or t (number_of b) 0)
      go true h = refl
      go false h =
          ap (λ (n : ℕ). get_or t n 0) (number-image kind m x b d.legality (has-man kind b d (of-true (ap not h))))

  pub required-turned : (b c : Board) → Turned kind b c → required_at chess (byte_of t) c ≡ required_at chess (byte_of t) b
  required-turned b c x =
      sym (alike-required chess chess (Turned kind) (turned-alike kind) (byte_of t) (byte_of t)
      (λ p q y. sym (byte-turned p q y)) b c x)

  -- and so do the moves of a board of the ending, and the bytes of what they leave
  pub ending-carries : (b : Board) → Ending kind b → Carries (byte_of t) b
  ending-carries b d =
      let k = normal_by b in
      let x = first_black b.men in
      record {
        own = byte-turned b (normalised b) (turned-normal kind b d);
        forth = λ v i. subst⁻¹ (λ (c : Board). mapped_move k v ∈ moves c) (normal-turned kind b d)
            (moves-changed k x b d.legality v i);
        back = λ v i. subst (λ (c : Board). mapped_move (inverse k) v ∈ moves c) (back-normal kind b d)
            (moves-changed (inverse k) x (normalised b) (normal-ending kind b d).legality v i);
        next = λ v i. let n = ending-closed kind b (played b v) d (map-in (played b) i) in
            ap (λ (c : Board). byte_of t (played c (mapped_move k v))) (normal-turned kind b d)
            ∙ ap (byte_of t) (played-changed k x b d.legality v)
            ∙ byte-turned (played b v) (changed k x (played b v)) (n, k, x, (n.legality, refl));
      }

-- ---- the chosen move

found : (k : Symmetry) (o : Option Move) (m : Move) → mapped_advice (inverse k) (advice_of o) ≡ Some m
    → o ≡ some (mapped_move k m)
found k none m e = let z : ◌≡◌ {A = ℕ} 0 1 = cc in absurd (omega arith)
found k (some v) m e =
    let z : mapped_move (inverse k) v ≡ m = cc in ap some (sym (move-forth k v) ∙ ap (mapped_move k) z)

pub given-some : (a : BestMove) (m : Move) → given a ≡ some m → a ≡ Some m
given-some (Some v) m e = cc
given-some None m e = let z : ◌≡◌ {A = ℕ} 0 1 = cc in absurd (omega arith)

-- on the normal board it is the first that suits
pub chosen-first : (by : Board → Symmetry) (normal : Board → Board) (reads : Board → ℕ) (b : Board) (m : Move) → chosen_by by normal reads b ≡ Some m
    → first_suited chess reads (normal b) ≡ some (mapped_move (by b) m)
unfolding chosen_by
chosen-first by normal reads b m e = found (by b) (first_suited chess reads (normal b)) m e

-- a legal move that suits
abbrev Suited : (Board → ℕ) → Board → Move → Type 0
Suited reads b v = (v ∈ moves b) × T (suits (reads b) (reads (played b v)))

firsts : (reads : Board → ℕ) → Chooses chess (λ b. Unit {0}) reads (first_suited chess reads)
firsts reads = first-chooses chess (λ b. Unit {0}) reads

module _ {by : Board → Symmetry} {normal : Board → Board} (reads : Board → ℕ) (b : Board)
    (c : CarriesBy by normal reads b) where
  suited-forth : (v : Move) → Suited reads b v → Suited reads (normal b) (mapped_move (by b) v)
  suited-forth v s = (c.forth v s.0, subst⁻¹ T (ap₂ suits c.own (c.next v s.0)) s.1)

  suited-back : (v : Move) → Suited reads (normal b) v → Suited reads b (mapped_move (inverse (by b)) v)
  suited-back v s =
      let i = c.back v s.0 in
      let e = ap (λ (w : Move). reads (played (normal b) w)) (sym (move-forth (by b) v))
      ∙ c.next (mapped_move (inverse (by b)) v) i in
      (i, subst T (ap₂ suits c.own e) s.1)

  pub chosen-suits : (m : Move) → chosen_by by normal reads b ≡ Some m → Suited reads b m
  chosen-suits m e =
      let v = mapped_move (by b) m in
      subst (Suited reads b) (move-back (by b) m)
      (suited-back v ((firsts reads).sound (normal b) tt v (chosen-first by normal reads b m e)))

  chosen-some : (m : Move) → Suited reads b m → (k : Move) × (given (chosen_by by normal reads b) ≡ some k)
  unfolding chosen_by
  chosen-some m s =
      let there = suited-forth m s in
      let f = (firsts reads).total (normal b) tt (mapped_move (by b) m) there.0 there.1 in (
        mapped_move (inverse (by b)) f.0,
        ap (λ (o : Option Move). given (mapped_advice (inverse (by b)) (advice_of o))) f.1,
      )

-- Where moves and bytes are carried it is a rule for ties.
pub chosen-chooses : {by : Board → Symmetry} {normal : Board → Board} (D : Board → Type 0) (reads : Board → ℕ) → ((b : Board) → D b → CarriesBy by normal reads b)
    → Chooses chess D reads (λ b. given (chosen_by by normal reads b))
chosen-chooses {by} {normal} D reads carries = record {
  sound = λ b d m e. chosen-suits reads b (carries b d) m (given-some (chosen_by by normal reads b) m e);
  total = λ b d m i s. chosen-some reads b (carries b d) m (i, s);
}
