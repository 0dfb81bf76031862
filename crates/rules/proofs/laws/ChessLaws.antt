-- Chess's moves one by one, and its symmetries: a legal board and its images have one value, all sixteen without a
-- pawn, those that fit with one.
use Rattle.std.specs.Prelude.{◌≡◌, refl, Bool, true, false, cond, ◌&&◌, List, [], ◌∷◌, map, ℕ, ◌<◌, T}
use Rattle.std.proofs.Common.{sym, ap, ap₂, ◌∙◌, subst, arith}
use Rattle.std.proofs.Math.Path.{subst⁻¹}
use mathlib.Core.List.Memᴰ
use Rattle.finite.specs.Truth.{by-test, fails, same_test}
use Rattle.finite.specs.Members.{◌∈◌, map-in, map-out}
use Rattle.theory.specs.Game.{next}
use Rattle.theory.specs.Value.{won, lost, TrueByte}
use Rattle.theory.specs.Alike.{Alike, Automorphism}
use Rattle.theory.proofs.laws.Alike.{automorphism-alike, alike-won, alike-lost, alike-byte}
use Rattle.symmetry.specs.Symmetry.{Symmetry, mapped, inverse}
use Rattle.rules.specs.declared.Move.{Move}
use Rattle.rules.specs.Rules.{Board, empty, known_or_pawn, legal, legal_with_pawn, moved, can_move, taking, move_of, move_on, promotion_of, promotes, moves_to, all_moves, played_as, moves, mated}
use Rattle.rules.proofs.laws.MoveLists.{ListedMove, in-all_moves, in-all_moves-to, of-all_moves, none-promotes}
use Rattle.rules.proofs.laws.Legal.{legal_of-facts, legal-pawnless, legal-with-pawn}
use Rattle.rules.proofs.laws.CanMove.{can-on}
use Rattle.rules.proofs.laws.Closed.{closed}
use Rattle.rules.proofs.laws.Promotion.{closed-pawn}
use Rattle.rules.specs.Changed.{changed, mapped_move, fits}
use Rattle.rules.proofs.laws.Changed.{changed-back, changed-forth}
use Rattle.rules.proofs.laws.ChangedRules.{legal-fits, fits-image, fits-changed, legal-changed, legal_with_pawn-changed, check-changed, can_move-changed, taking-changed, bare-changed}
use Rattle.rules.proofs.laws.PromotionChanged.{promotes-changed, played-as-changed, fits-played}
use Rattle.rules.specs.Chess.{played, chess, Fitting, FittingImage, LegalBoard, Image}

empty-if : {A : Type 0} (l : List A) → ((x : A) → x ∈ l → ⊥) → T (empty l)
empty-if [] f = tt
empty-if (x ∷ l) f = absurd (f x (Memᴰ.head refl))

empty-out : {A : Type 0} (l : List A) (x : A) → x ∈ l → T (empty l) → ⊥
empty-out [] x m t = Memᴰ.not-nil m
empty-out (y ∷ l) x m t = t

-- ---- the moves, one by one

pub in-moves : (b : Board) (from to : ℕ) → empty b.men ≡ false → T (can_move b from to) → promotes b from to ≡ false
    → move_on b from to ∈ moves b
unfolding moves
in-moves b from to e t p = let h = can-on b from to t in rw e (in-all_moves b from to h.0 h.1 t p)

-- also each of a pawn's promotions
pub in-moves-to : (b : Board) (from to : ℕ) (v : Move) → empty b.men ≡ false → T (can_move b from to)
    → v ∈ moves_to b from to → v ∈ moves b
unfolding moves
in-moves-to b from to v e t i = let h = can-on b from to t in rw e (in-all_moves-to b from to v h.0 h.1 t i)

pub of-moves : (b : Board) (m : Move) → m ∈ moves b → (empty b.men ≡ false) × ListedMove b m
unfolding moves
of-moves b m h = go (empty b.men) refl h
  where
    go : (x : Bool) → empty b.men ≡ x → m ∈ cond x [] (all_moves b) → (empty b.men ≡ false) × ListedMove b m
    go true e h = absurd (Memᴰ.not-nil h)
    go false e h = (e, of-all_moves b m h)

-- without a pawn nothing promotes, and a move is its two squares
pub plain-move : (b : Board) (v : Move) → T (legal b) → v ∈ moves b → v.becomes ≡ 0
plain-move b v l h = (of-moves b v h).1.plain (none-promotes b v.from v.to (legal-pawnless b l))

pub plain-played : (b : Board) (v : Move) → T (legal b) → v ∈ moves b → played b v ≡ moved b v.from v.to
plain-played b v l h = ap (played_as b v.from v.to) (plain-move b v l h)

-- a listed move names a queen, rook, bishop or knight, or nothing
named-piece : (b : Board) (v : Move) → ListedMove b v → v.becomes < 5
named-piece b v c =
    by-test (promotes b v.from v.to) (λ t. (c.named t).1)
    (λ n. let e = c.plain (fails (promotes b v.from v.to) n) in omega (arith, e))

pub next-legal : (b q : Board) → T (legal b) → q ∈ next chess b → T (legal q)
next-legal b q l h =
    let w = map-out (played b) q (moves b) h in
    let c = of-moves b w.0 w.1 in
    subst (λ (z : Board). T (legal z)) (sym (w.2 ∙ plain-played b w.0 l w.1))
    (closed b w.0.from w.0.to l c.1.can)

pub next-with-pawn : (b q : Board) → T (legal_with_pawn b) → q ∈ next chess b → T (legal_with_pawn q)
next-with-pawn b q l h =
    let w = map-out (played b) q (moves b) h in
    subst (λ (z : Board). T (legal_with_pawn z)) (sym w.2) (closed-pawn b w.0 l (of-moves b w.0 w.1).1)

-- ---- symmetry

-- the moves from one square to another under a change that fits
moves_to-changed : (m : Symmetry) (x : Bool) (b : Board) (from to : ℕ) → T (fits m x b) → b.side < 2
    → moves_to (changed m x b) (mapped m from) (mapped m to) ≡ map (mapped_move m) (moves_to b from to)
moves_to-changed m x b from to k h =
    ap₂ (λ (p t : Bool). cond p (map (promotion_of (mapped m from) (mapped m to) t) (1 ∷ 2 ∷ 3 ∷ 4 ∷ []))
    (move_of (mapped m from) (mapped m to) t ∷ []))
    (promotes-changed m x b k from to) (taking-changed m x b from to h)
    ∙ go (promotes b from to) (taking b to)
  where
    go : (p t : Bool)
        → cond p (map (promotion_of (mapped m from) (mapped m to) t) (1 ∷ 2 ∷ 3 ∷ 4 ∷ []))
        (move_of (mapped m from) (mapped m to) t ∷ [])
        ≡ map (mapped_move m) (cond p (map (promotion_of from to t) (1 ∷ 2 ∷ 3 ∷ 4 ∷ [])) (move_of from to t ∷ []))
    go true t = refl
    go false t = refl

pub legal-fitting : (m : Symmetry) (x : Bool) (b : Board) → T (legal b) → Fitting m x b
legal-fitting m x b l = record { legality = legal-with-pawn b l; fit = legal-fits m x b l }

fitting-side : (m : Symmetry) (x : Bool) (b : Board) → Fitting m x b → b.side < 2
fitting-side m x b l = (legal_of-facts known_or_pawn b l.legality).side

module _ (m : Symmetry) (x : Bool) (b : Board) (l : Fitting m x b) where
  pub moves-fitting : (v : Move) → v ∈ moves b → mapped_move m v ∈ moves (changed m x b)
  moves-fitting v h =
      let c = of-moves b v h in
      let s = fitting-side m x b l in
      in-moves-to (changed m x b) (mapped m v.from) (mapped m v.to) (mapped_move m v) (bare-changed m x b ∙ c.0)
      (rw (can_move-changed m x b v.from v.to l.fit s) c.1.can)
      (subst⁻¹ (λ (r : List Move). mapped_move m v ∈ r) (moves_to-changed m x b v.from v.to l.fit s)
      (map-in (mapped_move m) c.1.listed))

  pub played-fitting : (v : Move) → played (changed m x b) (mapped_move m v) ≡ changed m x (played b v)
  played-fitting v = played-as-changed m x b v.from v.to v.becomes (fitting-side m x b l)

  next-forth : (q : Board) → q ∈ next chess b → changed m x q ∈ next chess (changed m x b)
  next-forth q h =
      let w = map-out (played b) q (moves b) h in
      let e = ap (changed m x) w.2 ∙ sym (played-fitting w.0) in
      rw e (map-in (played (changed m x b)) (moves-fitting w.0 w.1))

  stuck_back : T (empty (moves (changed m x b))) → T (empty (moves b))
  stuck_back t = empty-if (moves b) (λ v h. empty-out (moves (changed m x b)) (mapped_move m v) (moves-fitting v h) t)

  -- the image fits the change that takes it back
  image-fitting : Fitting (inverse m) x (changed m x b)
  image-fitting =
      record { legality = rw (legal_with_pawn-changed m x b l.fit) l.legality; fit = fits-image m x b l.fit }

  -- and so does the board itself
  inverse-fitting : Fitting (inverse m) x b
  inverse-fitting = record {
    legality = l.legality;
    fit = subst (λ (c : Board). T (fits (inverse m) x c)) (changed-back m x b)
        (fits-changed (inverse m) (inverse m) x x (changed m x b) (fits-image m x b l.fit));
  }

  next-fitting : (q : Board) → q ∈ next chess b → Fitting m x q
  next-fitting q h =
      let w = map-out (played b) q (moves b) h in
      let v = w.0 in
      record {
        legality = next-with-pawn b q l.legality h;
        fit = subst⁻¹ (λ (c : Board). T (fits m x c)) w.2
            (fits-played m x b v.from v.to v.becomes (named-piece b v (of-moves b v w.1).1) l.fit);
      }

stuck-same : (m : Symmetry) (x : Bool) (b : Board) → Fitting m x b → empty (moves (changed m x b)) ≡ empty (moves b)
stuck-same m x b l =
    same_test (empty (moves (changed m x b))) (empty (moves b)) (stuck_back m x b l)
    (λ t. stuck_back (inverse m) x (changed m x b) (image-fitting m x b l) (rw (changed-back m x b) t))

mated-changed : (m : Symmetry) (x : Bool) (b : Board) → Fitting m x b → mated (changed m x b) ≡ mated b
unfolding mated changed
mated-changed m x b l =
    ap₂ ◌&&◌ (check-changed m x b l.fit b.side (fitting-side m x b l)) (stuck-same m x b l)

-- ---- boards with a pawn, under a change that fits

pub fitting-automorphism : (m : Symmetry) (x : Bool)
    → Automorphism chess (Fitting m x) (changed m x) (changed (inverse m) x)
fitting-automorphism m x = record {
  there = λ b l. record {
    legality = rw (legal_with_pawn-changed m x b l.fit) l.legality;
    fit = fits-changed m m x x b l.fit;
  };
  onward = λ b q l h. next-fitting m x b l q h;
  undo = λ b l. changed-back m x b;
  redo = λ b l. changed-forth m x b;
  moves-f = λ b q l h. next-forth m x b l q h;
  moves-g = λ b q l h. next-forth (inverse m) x b (inverse-fitting m x b l) q h;
  mate = λ b l. mated-changed m x b l;
}

pub fitting-alike : (m : Symmetry) (x : Bool) → Alike chess chess (FittingImage m x)
fitting-alike m x =
    automorphism-alike chess (Fitting m x) (changed m x) (changed (inverse m) x) (fitting-automorphism m x)

pub byte-fitting : (m : Symmetry) (x : Bool) (b : Board) (v : ℕ) → Fitting m x b → TrueByte chess b v
    → TrueByte chess (changed m x b) v
byte-fitting m x b v l t = alike-byte chess chess (FittingImage m x) (fitting-alike m x) b (changed m x b) v (l, refl) t

-- ---- boards without a pawn, under all sixteen

module _ (m : Symmetry) (x : Bool) (b : Board) (l : T (legal b)) where
  pub moves-changed : (v : Move) → v ∈ moves b → mapped_move m v ∈ moves (changed m x b)
  moves-changed = moves-fitting m x b (legal-fitting m x b l)

  pub played-changed : (v : Move) → played (changed m x b) (mapped_move m v) ≡ changed m x (played b v)
  played-changed = played-fitting m x b (legal-fitting m x b l)

pub automorphism : (m : Symmetry) (x : Bool) → Automorphism chess LegalBoard (changed m x) (changed (inverse m) x)
automorphism m x = record {
  there = λ b l. rw (legal-changed m x b) l;
  onward = λ b q l h. next-legal b q l h;
  undo = λ b l. changed-back m x b;
  redo = λ b l. changed-forth m x b;
  moves-f = λ b q l h. next-forth m x b (legal-fitting m x b l) q h;
  moves-g = λ b q l h. next-forth (inverse m) x b (legal-fitting (inverse m) x b l) q h;
  mate = λ b l. mated-changed m x b (legal-fitting m x b l);
}

pub image-alike : (m : Symmetry) (x : Bool) → Alike chess chess (Image m x)
image-alike m x = automorphism-alike chess LegalBoard (changed m x) (changed (inverse m) x) (automorphism m x)

pub won-changed : (m : Symmetry) (x : Bool) (k : ℕ) (b : Board) → T (legal b) → won chess k (changed m x b) ≡ won chess k b
won-changed m x k b l = sym (alike-won chess chess (Image m x) (image-alike m x) k b (changed m x b) (l, refl))

pub lost-changed : (m : Symmetry) (x : Bool) (k : ℕ) (b : Board) → T (legal b) → lost chess k (changed m x b) ≡ lost chess k b
lost-changed m x k b l = sym (alike-lost chess chess (Image m x) (image-alike m x) k b (changed m x b) (l, refl))

pub byte-changed : (m : Symmetry) (x : Bool) (b : Board) (v : ℕ) → T (legal b) → TrueByte chess b v → TrueByte chess (changed m x b) v
byte-changed m x b v l t = alike-byte chess chess (Image m x) (image-alike m x) b (changed m x b) v (l, refl) t
