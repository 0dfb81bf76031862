-- Membership in the list of all moves.
use Rattle.std.specs.Prelude.{◌≡◌, Bool, true, false, cond, not, ◌&&◌, ◌⊎◌, ℕ, suc, ◌<◌, T, eqb, ltb, length}
use Rattle.std.proofs.Math.Path.{refl}
use Rattle.std.proofs.Common.{sym, ap, subst, inl, inr, ⊎_elim, ltb→lt, T_not}
use mathlib.Core.List.Memᴰ
use mathlib.Core.List.{List, [], ◌∷◌, ◌++◌, flat_map}
use Rattle.finite.specs.Truth.{and_left, and_right, fails, refuted, true-not-false}
use Rattle.finite.specs.Members.{◌∈◌, any, all, any_out, all-out, map-out}
use Rattle.finite.specs.Filter.{filter, filter-in, filter-out}
use Rattle.board.specs.Sets.{squares}
use Rattle.board.proofs.laws.SetLaws.{squares-in, squares-out}
use Rattle.rules.specs.declared.Move.{Move}
use Rattle.rules.specs.Pawn.{pawn}
use Rattle.rules.specs.Rules.{Board, can_move, taking, promotion_of, move_on, promotes, promotions, moves_to, moves_onto, moves_from, all_moves}

module _ {A B : Type 0} (f : A → List B) where
  flat_map-in : {x : A} {l : List A} (y : B) → x ∈ l → y ∈ f x → y ∈ flat_map f l
  unfolding flat_map
  flat_map-in y (Memᴰ.head {x = z} {xs = l} e) h = Memᴰ.append_left (flat_map f l) (subst (λ (a : A). y ∈ f a) e h)
  flat_map-in y (Memᴰ.tail {x = z} {xs = l} m) h = Memᴰ.append_right (f z) (flat_map-in y m h)

  flat_map-out : (y : B) (l : List A) → y ∈ flat_map f l → (x : A) × (x ∈ l) × (y ∈ f x)
  unfolding flat_map
  flat_map-out y [] m = elim m [ ]
  flat_map-out y (x ∷ l) m = go (flat_map-out y l) (Memᴰ.append_cases (f x) m)
    where
      go : (y ∈ flat_map f l → (z : A) × (z ∈ l) × (y ∈ f z)) → (y ∈ f x) ⊎ (y ∈ flat_map f l)
          → (z : A) × (z ∈ x ∷ l) × (y ∈ f z)
      go rest (inl h) = (x, Memᴰ.head refl, h)
      go rest (inr h) = let r = rest h in (r.0, Memᴰ.tail r.1, r.2)

only-in : {A : Type 0} {x y : A} → y ∈ x ∷ [] → y ≡ x
only-in m = ⊎_elim (λ e. e) (λ n. absurd (Memᴰ.not-nil n)) (Memᴰ.cases_cons m)

-- A move is among all moves exactly when its squares are on the board, it can be made, and it says whether it takes and
-- what a pawn becomes.
pub in-all_moves-to : (b : Board) (from to : ℕ) (v : Move) → from < 64 → to < 64 → T (can_move b from to)
    → v ∈ moves_to b from to → v ∈ all_moves b
unfolding all_moves moves_from moves_onto
in-all_moves-to b from to v h k t i =
    flat_map-in (moves_from b) v (squares-in from h)
    (flat_map-in (moves_to b from) v (filter-in (can_move b from) (squares-in to k) t) i)

-- the one move where nothing promotes
pub in-all_moves : (b : Board) (from to : ℕ) → from < 64 → to < 64 → T (can_move b from to) → promotes b from to ≡ false
    → move_on b from to ∈ all_moves b
in-all_moves b from to h k t e =
    in-all_moves-to b from to (move_on b from to) h k t
    (subst (λ (x : Bool). move_on b from to ∈ cond x (promotions b from to) (move_on b from to ∷ [])) (sym e)
    (Memᴰ.head refl))

pub record ListedMove (b : Board) (m : Move) : Type 0 where
  pub from_on : m.from < 64
  pub to-on : m.to < 64
  pub can : T (can_move b m.from m.to)
  pub mark : m.takes ≡ taking b m.to
  pub listed : m ∈ moves_to b m.from m.to
  -- it names nothing, or exactly what its pawn becomes
  pub plain : promotes b m.from m.to ≡ false → m.becomes ≡ 0
  pub named : T (promotes b m.from m.to) → (0 < m.becomes) × (m.becomes < 5)

choice : (k : ℕ) → k ∈ 1 ∷ 2 ∷ 3 ∷ 4 ∷ [] → (0 < k) × (k < 5)
unfolding all
choice k i =
    let t = all-out (λ x. ltb 0 x && ltb x 5) i tt in
    (ltb→lt 0 k (and_left (ltb 0 k) (ltb k 5) t), ltb→lt k 5 (and_right (ltb 0 k) (ltb k 5) t))

-- a move from one square to another that is on the board and can be made
module _ (b : Board) (from to : ℕ) (h : from < 64) (k : to < 64) (c : T (can_move b from to)) where
  of-moves_to : (m : Move) → m ∈ moves_to b from to → ListedMove b m
  of-moves_to m i = go (promotes b from to) refl i
    where
      go : (x : Bool) → promotes b from to ≡ x → m ∈ cond x (promotions b from to) (move_on b from to ∷ [])
          → ListedMove b m
      go true e j =
          let w = map-out (promotion_of from to (taking b to)) m (1 ∷ 2 ∷ 3 ∷ 4 ∷ []) j in
          subst (ListedMove b) (sym w.2)
          (record {
            from_on = h;
            to-on = k;
            can = c;
            mark = refl;
            listed = subst (λ (v : Move). v ∈ moves_to b from to) w.2 i;
            plain = λ n. absurd (true-not-false e n);
            named = λ t. choice w.0 w.1;
          })
      go false e j =
          subst (ListedMove b) (sym (only-in j))
          (record {
            from_on = h;
            to-on = k;
            can = c;
            mark = refl;
            listed = subst (λ (v : Move). v ∈ moves_to b from to) (only-in j) i;
            plain = λ n. refl;
            named = λ t. absurd (refuted e t);
          })

pub of-all_moves : (b : Board) (m : Move) → m ∈ all_moves b → ListedMove b m
unfolding all_moves moves_from moves_onto
of-all_moves b m h =
    let f = flat_map-out (moves_from b) m squares h in
    let g = flat_map-out (moves_to b f.0) m (filter (can_move b f.0) squares) f.2 in
    let q = filter-out (can_move b f.0) g.0 squares g.1 in
    of-moves_to b f.0 g.0 (squares-out f.0 f.1) (squares-out g.0 q.0) q.1 m g.2

-- ---- without a pawn nothing promotes

pub none-promotes : (b : Board) (from to : ℕ) → T (all (λ a. not (pawn a)) b.men) → promotes b from to ≡ false
unfolding promotes
none-promotes b from to t =
    rw (fails (any (λ m. pawn m && eqb m.square from) b.men)
    (λ h. let w = any_out (λ m. pawn m && eqb m.square from) b.men h in
    T_not (pawn w.0) (all-out (λ a. not (pawn a)) w.1 t)
    (and_left (pawn w.0) (eqb w.0.square from) w.2)))

-- ---- moves to some targets

module _ (b : Board) (from : ℕ) where
  pub onto-none : moves_onto b from [] ≡ []
  unfolding moves_onto flat_map
  onto-none = refl

  pub onto-next : (t : ℕ) (ts : List ℕ) → moves_onto b from (t ∷ ts) ≡ moves_to b from t ++ moves_onto b from ts
  unfolding moves_onto flat_map
  onto-next t ts = refl

module _ (b : Board) (pawnless : T (all (λ a. not (pawn a)) b.men)) (from : ℕ) where
  pub onto-more : (t : ℕ) (ts : List ℕ) → moves_onto b from (t ∷ ts) ≡ move_on b from t ∷ moves_onto b from ts
  unfolding moves_onto flat_map
  onto-more t ts = rw (none-promotes b from t pawnless)

  pub onto-length : (ts : List ℕ) → length (moves_onto b from ts) ≡ length ts
  onto-length [] = rw (onto-none b from)
  onto-length (t ∷ ts) = rw (onto-more t ts) (ap suc (onto-length ts))
