-- A position that play gives is the one that the rules leave, and every listed move is played.
use Rattle.rules.specs.declared.Piece.{Piece}
use Rattle.std.specs.Prelude.{◌≡◌, Bool, [], ◌∷◌, ◌++◌, map, ℕ, zero, suc, ◌<◌, T, ltb, None, Option, Some, Err, Ok, Result}
use Rattle.std.proofs.Math.Path.{refl, subst, subst⁻¹}
use Rattle.std.proofs.Common.{sym, ap, ◌∙◌, arith, eqb→eq, ltb→lt, lt→ltb, eq-eqb, eqb-true}
use Rattle.std.proofs.Math.Bool.{true, false, cond}
use mathlib.Core.List.Memᴰ
use Rattle.std.proofs.Math.Dec.{eqb}
use Rattle.finite.specs.Truth.{and_left, and_right, and_both, of-true, true_of, true-not-false, refuted}
use Rattle.finite.specs.Members.{◌∈◌, map-in}
use Rattle.theory.specs.Game.{next}
use Rattle.rules.specs.declared.Move.{Move}
use Rattle.rules.specs.Rules.{Board, empty, can_move, moved, taking, move_on, promotion_of, promotes, promotions, moves_to, becoming, promoted, played_as, moves}
use Rattle.rules.specs.Chess.{chess, played}
use Rattle.rules.proofs.laws.ChessLaws.{in-moves-to, of-moves, next-legal, next-with-pawn}
use Rattle.rules.proofs.laws.MoveLists.{ListedMove}
use Rattle.rules.proofs.laws.Changed.{board-eq}
use Rattle.numbering.specs.declared.Material.{Material}
use Rattle.numbering.specs.Material.{material_in, legal_in}
use Rattle.position.specs.declared.Position.{Position}
use Rattle.position.specs.Keyed.{slot_men, board_of}
use Rattle.position.specs.Refusals.{bad_men_of, standing_with}
use Rattle.position.proofs.laws.BothSizes.{standing-placed-with, placed-men-with}
use Rattle.position.proofs.laws.StandingWith.{standing-legal-in}
use Rattle.movegen.specs.After.{after}
use Rattle.movegen.proofs.laws.Making.{after-moved}
use Rattle.playing.specs.Playing.{first_of, second_of, closed_up, named, slot_becoming, promoted_to, after_as, can_play, play_of, Plays}

-- closing up moves no man
closed-men : (f s : Option Piece) → slot_men (first_of f s) ++ slot_men (second_of f s) ≡ slot_men f ++ slot_men s
closed-men None None = refl
closed-men None (Some m) = refl
closed-men (Some m) s = refl

pub closed-board : (p : Position) → board_of (closed_up p) ≡ board_of p
unfolding board_of closed_up
closed-board p = board-eq refl refl refl (closed-men p.first p.second)

-- what an answer holds
abbrev is_at : Result (Option Position) ℕ → Bool
is_at (Ok (Some q)) = true
is_at (Ok None) = false
is_at (Err k) = false

abbrev is_refused : Result (Option Position) ℕ → Bool
is_refused (Ok (Some q)) = false
is_refused (Ok None) = false
is_refused (Err k) = true

abbrev refusal_in : Result (Option Position) ℕ → ℕ
refusal_in (Ok (Some q)) = 0
refusal_in (Ok None) = 0
refusal_in (Err k) = k

abbrev position_in : Position → Result (Option Position) ℕ → Position
position_in p (Ok (Some q)) = q
position_in p (Ok None) = p
position_in p (Err k) = p

-- promoting on a position is promoting on its board
promoted-men : (side to kind : ℕ) (f s : Option Piece)
    → slot_men (slot_becoming side to kind f) ++ slot_men (slot_becoming side to kind s)
    ≡ map (becoming side to kind) (slot_men f ++ slot_men s)
promoted-men side to kind None None = refl
promoted-men side to kind None (Some m) = refl
promoted-men side to kind (Some m) None = refl
promoted-men side to kind (Some m) (Some n) = refl

promoted-board : (side to kind : ℕ) (p : Position)
    → board_of (promoted_to side to kind p) ≡ promoted side to kind (board_of p)
unfolding board_of promoted_to
promoted-board side to kind p = board-eq refl refl refl (promoted-men side to kind p.first p.second)

as-board : (p : Position) (from to becomes : ℕ) → board_of (after_as p from to becomes) ≡ played_as (board_of p) from to becomes
as-board p from to zero = after-moved from to p
as-board p from to (suc kind) =
    promoted-board p.side to kind (after p from to)
    ∙ ap (promoted p.side to kind) (after-moved from to p)
    ∙ ap (λ (side : ℕ). promoted side to kind (moved (board_of p) from to)) (unfold board_of in refl)

after-board : (p : Position) (from to becomes : ℕ)
    → board_of (closed_up (after_as p from to becomes)) ≡ played_as (board_of p) from to becomes
after-board p from to becomes = closed-board (after_as p from to becomes) ∙ as-board p from to becomes

-- there is a man
some-man : (f s : Option Piece) → bad_men_of f s ≡ false → empty (slot_men f ++ slot_men s) ≡ false
some-man None s e = absurd (refuted e tt)
some-man (Some m) s e = refl

some-men : (p : Position) → standing_with p ≡ 0 → empty (board_of p).men ≡ false
unfolding board_of
some-men p z = some-man p.first p.second (placed-men-with p (standing-placed-with p z))

-- ---- a move that can be played is in the list

choice : (k : ℕ) → 0 < k → k < 5 → k ∈ 1 ∷ 2 ∷ 3 ∷ 4 ∷ []
choice zero h i = absurd (omega arith)
choice (suc zero) h i = Memᴰ.head refl
choice (suc (suc zero)) h i = Memᴰ.tail (Memᴰ.head refl)
choice (suc (suc (suc zero))) h i = Memᴰ.tail (Memᴰ.tail (Memᴰ.head refl))
choice (suc (suc (suc (suc zero)))) h i = Memᴰ.tail (Memᴰ.tail (Memᴰ.tail (Memᴰ.head refl)))
choice (suc (suc (suc (suc (suc k))))) h i = absurd (omega arith)

named-listed : (b : Board) (from to becomes : ℕ) → T (named (promotes b from to) becomes)
    → promotion_of from to (taking b to) becomes ∈ moves_to b from to
named-listed b from to becomes t = go (promotes b from to) t
  where
    go : (x : Bool) → T (named x becomes)
        → promotion_of from to (taking b to) becomes ∈ cond x (promotions b from to) (move_on b from to ∷ [])
    go true t =
        map-in (promotion_of from to (taking b to))
        (choice becomes (ltb→lt 0 becomes (and_left (ltb 0 becomes) (ltb becomes 5) t))
        (ltb→lt becomes 5 (and_right (ltb 0 becomes) (ltb becomes 5) t)))
    go false t = Memᴰ.head (ap (promotion_of from to (taking b to)) (eqb→eq becomes 0 t))

listed-named : (b : Board) (m : Move) → ListedMove b m → T (named (promotes b m.from m.to) m.becomes)
listed-named b m c = go (promotes b m.from m.to) refl
  where
    go : (x : Bool) → promotes b m.from m.to ≡ x → T (named x m.becomes)
    go true e =
        let n = c.named (of-true e) in
        and_both (ltb 0 m.becomes) (ltb m.becomes 5) (lt→ltb 0 m.becomes n.0) (lt→ltb m.becomes 5 n.1)
    go false e = of-true (eq-eqb m.becomes 0 (c.plain e))

-- by the ending's rules a legal board leads to one
legal-next : (m : Material) (b q : Board) → T (legal_in m b) → q ∈ next chess b → T (legal_in m q)
legal-next (Material.One kind) b q l i = next-legal b q l i
legal-next (Material.Two j k r) b q l i = next-legal b q l i
legal-next Material.Pawn b q l i = next-with-pawn b q l i

module _ (p : Position) (from to becomes : ℕ) where
  abbrev b : Board
  b = board_of p

  abbrev move : Move
  move = promotion_of from to (taking b to) becomes

  -- a legal move of a position that stands
  plays : standing_with p ≡ 0 → T (can_play b from to becomes)
      → Plays p from to becomes (closed_up (after_as p from to becomes))
  plays z t =
      let c = and_left (can_move b from to) (named (promotes b from to) becomes) t in
      let n = and_right (can_move b from to) (named (promotes b from to) becomes) t in
      let e = after-board p from to becomes in
      let i : move ∈ moves b = in-moves-to b from to move (some-men p z) c (named-listed b from to becomes n) in
      record {
        stood = z;
        listed = i;
        board = e;
        legal-after = subst⁻¹ (λ (c : Board). T (legal_in (material_in b.men) c)) e
            (legal-next (material_in b.men) b (played b move) (standing-legal-in p z) (map-in (played b) i));
      }

  -- the position that is given is the one after a legal move
  pub played-true : (q : Position) → play_of p from to becomes ≡ Ok (Some q) → Plays p from to becomes q
  unfolding play_of
  played-true q h =
      go (eqb (standing_with p) 0) refl (can_play b from to becomes) refl h
    where
      go : (a : Bool) → eqb (standing_with p) 0 ≡ a → (c : Bool) → can_play b from to becomes ≡ c
          → cond a (cond c (Ok (Some (closed_up (after_as p from to becomes)))) (Ok None)) (Err (standing_with p)) ≡ Ok (Some q)
          → Plays p from to becomes q
      go true e true f h =
          subst (Plays p from to becomes) (ap (position_in p) h) (plays (eqb-true (standing_with p) 0 e) (of-true f))
      go true e false f h = absurd (true-not-false (ap is_at h) refl)
      go false e c f h = absurd (true-not-false (ap is_at h) refl)

  -- a refusal is the position's
  pub refused-played : (k : ℕ) → play_of p from to becomes ≡ Err k
      → (k ≡ standing_with p) × (eqb (standing_with p) 0 ≡ false)
  unfolding play_of
  refused-played k h = go (eqb (standing_with p) 0) refl (can_play b from to becomes) h
    where
      go : (a : Bool) → eqb (standing_with p) 0 ≡ a → (c : Bool)
          → cond a (cond c (Ok (Some (closed_up (after_as p from to becomes)))) (Ok None)) (Err (standing_with p)) ≡ Err k
          → (k ≡ standing_with p) × (eqb (standing_with p) 0 ≡ false)
      go true e true h = absurd (true-not-false (ap is_refused h) refl)
      go true e false h = absurd (true-not-false (ap is_refused h) refl)
      go false e c h = (sym (ap refusal_in h), e)

-- every move of the list is played
pub listed-played : (p : Position) (m : Move) → standing_with p ≡ 0 → m ∈ moves (board_of p)
    → play_of p m.from m.to m.becomes ≡ Ok (Some (closed_up (after_as p m.from m.to m.becomes)))
unfolding play_of
listed-played p m z h =
    let b = board_of p in
    let c = (of-moves b m h).1 in
    rw (
      eq-eqb (standing_with p) 0 z,
      true_of {b = can_move b m.from m.to} c.can,
      true_of {b = named (promotes b m.from m.to) m.becomes} (listed-named b m c),
    )
