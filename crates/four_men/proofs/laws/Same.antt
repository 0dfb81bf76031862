-- Boards that go alike: a map, the men in the other order, the colours exchanged where that is allowed (01; 02, P9 and
-- P10).
use Rattle.std.specs.Prelude.{◌≡◌, refl, Bool, true, false, not, ◌&&◌, List, [], ◌∷◌, map, ℕ, T, eqb}
use Rattle.std.proofs.Common.{sym, ap, subst, ◌∙◌}
use Rattle.std.proofs.Math.Path.{subst⁻¹}
use Rattle.finite.specs.Truth.{and_right, true_of}
use Rattle.finite.specs.Members.{◌∈◌, map-in, map-out}
use Rattle.finite.specs.Filter.{filter, keep}
use Rattle.theory.specs.Game.{next}
use Rattle.theory.specs.Alike.{Alike}
use Rattle.theory.proofs.laws.Alike.{automorphism-alike}
use Rattle.symmetry.specs.Symmetry.{Symmetry, inverse}
use Rattle.symmetry.proofs.laws.SymmetryLaws.{nothing_then}
use Rattle.rules.specs.declared.Piece.{Piece}
use Rattle.rules.specs.declared.Move.{Move}
use Rattle.rules.specs.Rules.{Board, carried_piece, left, legal, moved, played_as, moves}
use Rattle.rules.specs.Changed.{changed, mapped_move}
use Rattle.rules.proofs.laws.Changed.{changed-back}
use Rattle.rules.proofs.laws.ChangedRules.{legal-changed}
use Rattle.rules.specs.Reordered.{reordered, Few}
use Rattle.rules.proofs.laws.ReorderedLaws.{few-next, reordering, legal-reordered, moved-reordered, moves-reordered}
use Rattle.rules.specs.Reordered.{LegalFew}
use Rattle.rules.specs.Chess.{chess, played}
use Rattle.rules.proofs.laws.ChessLaws.{plain-move, plain-played, automorphism, image-alike, moves-changed, played-changed}
use Rattle.numbering.specs.Men.{exchangeable}
use Rattle.numbering.specs.Change.{Change, change, changed_by, then}
use Rattle.numbering.specs.Number.{normal_by, normalised}
use Rattle.numbering.proofs.laws.ClassLaws.{normalising, normal-image}
use Rattle.four_men.specs.Same.{free, changed_as, Same, Manned}

-- a capture leaves no two of like kinds one each
free-left : (from to : ℕ) (l : List Piece) → Few l → T (free l) → T (free (map (carried_piece from to) (left to l)))
unfolding free filter exchangeable
free-left from to [] f t = tt
free-left from to (a ∷ []) f t = go (not (eqb a.square to))
  where
    go : (x : Bool) → T (free (map (carried_piece from to) (keep x a [])))
    go true = tt
    go false = tt
free-left from to (a ∷ c ∷ []) f t = go (not (eqb a.square to)) (not (eqb c.square to))
  where
    go : (x y : Bool) → T (free (map (carried_piece from to) (keep x a (keep y c []))))
    go true true = t
    go true false = tt
    go false true = tt
    go false false = tt
free-left from to (a ∷ c ∷ d ∷ l) f t = absurd f

free-next : (b q : Board) → LegalFew b → q ∈ next chess b → T (free b.men) → T (free q.men)
unfolding moved
free-next b q l h t =
    let w = map-out (played b) q (moves b) h in
    subst⁻¹ (λ (c : Board). T (free c.men)) (w.2 ∙ plain-played b w.0 l.legality w.1)
    (free-left w.0.from w.0.to b.men l.few t)

legal-there : (e : Bool) (b : Board) → LegalFew b → T (legal (reordered e b))
legal-there e b l = rw (legal-reordered e b) l.legality

reordered-alike : (e : Bool) → Alike chess chess (λ b c. LegalFew b × (c ≡ reordered e b))
reordered-alike e = automorphism-alike chess LegalFew (reordered e) (reordered e) (reordering e)

pub same_alike : Alike chess chess Same
same_alike = record {
  forth = λ b c x q h.
      let s = x.0 in
      let r = (reordering s.order).moves-f b q x.1 h in
      let t = (automorphism s.symmetry s.colours).moves-f (reordered s.order b) (reordered s.order q)
      (legal-there s.order b x.1) r in (
        changed_as s q,
        subst⁻¹ (λ (d : Board). changed_as s q ∈ next chess d) x.3 t,
        (s, few-next b q x.1 h, λ g. free-next b q x.1 h (x.2 g), refl),
      );
  back = λ b c x u h.
      let s = x.0 in
      let v = (image-alike s.symmetry s.colours).back (reordered s.order b) c
      (legal-there s.order b x.1, x.3) u h in
      let w = (reordered-alike s.order).back b (reordered s.order b) (x.1, refl) v.0 v.1 in (
        w.0,
        w.1,
        (
          s,
          w.2.0,
          λ g. free-next b w.0 x.1 w.1 (x.2 g),
          v.2.1 ∙ ap (changed s.symmetry s.colours) w.2.1,
        ),
      );
  mate = λ b c x.
      let s = x.0 in
      (reordered-alike s.order).mate b (reordered s.order b) (x.1, refl)
      ∙ (image-alike s.symmetry s.colours).mate (reordered s.order b) c
      (legal-there s.order b x.1, x.3);
}

-- ---- the change of a class is one of these, and back

tight : (l : List Piece) → Manned l → T (free l) → T (exchangeable l)
unfolding free
tight [] m t = absurd m
tight (a ∷ k) m t = t

pub same-changed : (b c : Board) → Manned b.men → (x : Same b c) → c ≡ changed_by x.0 b
unfolding changed_by
same-changed b c m x =
    x.3
    ∙ ap (λ (z : Bool). changed x.0.symmetry z (reordered x.0.order b))
    (sym (held x.0.colours (exchangeable b.men) (λ g. tight b.men m (x.2 g))))
  where
    held : (p q : Bool) → (T p → T q) → (p && q) ≡ p
    held true q f = true_of (f tt)
    held false q f = refl

loose : (l : List Piece) → T (exchangeable l) → T (free l)
unfolding free
loose [] t = tt
loose (a ∷ k) t = t

pub changed-same : (s : Change) (b : Board) → LegalFew b → Same b (changed_by s b)
unfolding changed_by
changed-same s b l = (
  change s.order (s.colours && exchangeable b.men) s.symmetry,
  l,
  λ g. loose b.men (and_right s.colours (exchangeable b.men) g),
  refl,
)

-- the map by which a board is made normal is that of such a change
pub normal-as : (b : Board) → (e : Bool) × (x : Bool) × (T x → T (free b.men))
    × (normalised b ≡ changed_as (change e x (normal_by b)) b)
unfolding changed_by then
normal-as b =
    let s = normalising b in (
      s.order,
      s.colours && exchangeable b.men,
      λ g. loose b.men (and_right s.colours (exchangeable b.men) g),
      normal-image b ∙ ap (λ (k : Symmetry). changed k (s.colours && exchangeable b.men) (reordered s.order b))
          (nothing_then (normal_by b)),
    )

-- ---- moves go with such a change, and what they leave with it

module _ (k : Symmetry) (e x : Bool) (b c : Board) (l : LegalFew b) (f : T x → T (free b.men))
    (q : c ≡ changed_as (change e x k) b) where
  pub same-legal : T (legal c)
  same-legal =
      subst⁻¹ (λ (d : Board). T (legal d)) q (subst⁻¹ T (legal-changed k x (reordered e b)) (legal-there e b l))

  pub same-forth : (v : Move) → v ∈ moves b → mapped_move k v ∈ moves c
  same-forth v i =
      subst⁻¹ (λ (d : Board). mapped_move k v ∈ moves d) q
      (moves-changed k x (reordered e b) (legal-there e b l) v
      (subst⁻¹ (λ (ms : List Move). v ∈ ms) (moves-reordered e b l.few) i))

  pub same_back : (v : Move) → v ∈ moves c → mapped_move (inverse k) v ∈ moves b
  same_back v i =
      let r = ap (changed (inverse k) x) q ∙ changed-back k x (reordered e b) in
      subst (λ (ms : List Move). mapped_move (inverse k) v ∈ ms) (ap moves r ∙ moves-reordered e b l.few)
      (moves-changed (inverse k) x c same-legal v i)

  pub same_next : (v : Move) → v ∈ moves b → Same (played b v) (played c (mapped_move k v))
  same_next v i =
      let h = map-in (played b) i in (
        change e x k,
        few-next b (played b v) l h,
        λ g. free-next b (played b v) l h (f g),
        ap (λ (d : Board). played d (mapped_move k v)) q
            ∙ played-changed k x (reordered e b) (legal-there e b l) v
            ∙ ap (changed k x) reorders,
      )
    where
      reorders : played (reordered e b) v ≡ reordered e (played b v)
      reorders =
          ap (played_as (reordered e b) v.from v.to) (plain-move b v l.legality i)
          ∙ moved-reordered e b l.few v.from v.to
          ∙ ap (reordered e) (sym (plain-played b v l.legality i))
