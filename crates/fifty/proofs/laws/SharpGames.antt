-- 100 is sharp where captures lead to nothing decided, as with one man, or with two whose lent tables hold no depth:
-- from every decided board and count that make 101 there is a game, both sides playing the desk's moves, in which the
-- loser comes to a turn at which he may claim.
use Rattle.std.specs.Prelude.{◌≡◌, refl, Bool, true, false, ◌⊎◌, List, [], ◌∷◌, ℕ, ◌+◌, ◌-◌, ◌≤◌, T, leb, length, Ok}
use Rattle.std.proofs.Common.{ap, subst, ◌∙◌, inl, inr, ⊎_elim, arith, leb→le, le→leb}
use Rattle.finite.specs.Truth.{refuted, or_left, or_right, or_cases}
use Rattle.finite.specs.Members.{◌∈◌, any, map-in}
use Rattle.theory.specs.Value.{DepthIs}
use Rattle.theory.specs.Fifty.{Spoilt}
use Rattle.theory.proofs.laws.Sharp.{sharp}
use Rattle.rules.specs.declared.Move.{Move}
use Rattle.rules.specs.Rules.{Board, legal, moves}
use Rattle.rules.specs.Chess.{chess, played}
use Rattle.rules.proofs.laws.Marks.{says-what-it-takes}
use Rattle.answers.specs.declared.Checked.{Checked}
use Rattle.endings.specs.Ending.{Lone, Ending}
use Rattle.endings.specs.Answers.{check_of}
use Rattle.endings.specs.GamePromise.{desk_move}
use Rattle.numbering.specs.declared.Material.{Material}
use Rattle.numbering.specs.Material.{known, OfMaterial}
use Rattle.index.proofs.laws.EndingsLaws.{legal-of, of-legal}
use Rattle.four_men.specs.Lending.{Lent, borrowed}
use Rattle.four_men.specs.Reading.{Fewer, Within, holds_depth}
use Rattle.four_men.specs.Answers.{check_with}
use Rattle.four_men.specs.Steps.{nothing}
use Rattle.four_men.specs.GamePromise.{desk_move_with}
use Rattle.four_men.proofs.laws.Alone.{check-alone}
use Rattle.four_men.proofs.laws.AloneGames.{follows_same, desk-alone, closed}
use Rattle.four_men.proofs.laws.Materials.{one-of, two-of, lone-material}
use Rattle.four_men.proofs.laws.Turned.{known_of}
use Rattle.four_men.proofs.laws.Captures.{within-closed, fewer-not-full}
use Rattle.four_men.proofs.laws.Lent.{lent-held}
use Rattle.four_men.proofs.laws.Checking.{accepted-with}
use Rattle.four_men.proofs.laws.LookingUp.{bytes_of, accepted-bytes-with}
use Rattle.four_men.proofs.laws.Games.{desk-chooses-with}
use Rattle.fifty.specs.FiftyPromise.{zeroing}

-- ---- tables that hold a depth of k or more hold one of 0 or more

any-more : {A : Type 0} (f g : A → Bool) (l : List A) → ((a : A) → T (f a) → T (g a)) → T (any f l) → T (any g l)
unfolding any
any-more f g [] h t = t
any-more f g (a ∷ l) h t =
    ⊎_elim (λ x. or_left (g a) (any g l) (h a x)) (λ x. or_right (g a) (any g l) (any-more f g l h x))
    (or_cases (f a) (any f l) t)

holds-some : (tables : List (List ℕ)) (k : ℕ) → T (holds_depth tables k) → T (holds_depth tables 0)
unfolding holds_depth
holds-some tables k =
    any-more (λ t. any (λ b. leb (2 + k) b) t) (λ t. any (λ b. leb 2 b) t) tables
    (λ t. any-more (λ b. leb (2 + k) b) (λ b. leb 2 b) t
    (λ b h. le→leb 2 b (let x = leb→le (2 + k) b h in omega arith)))

-- ---- a move that takes leaves a man fewer than the ending has

-- how many men the ending has
abbrev men_in : Material → ℕ
men_in (Material.One kind) = 1
men_in (Material.Two first second rivals) = 2
men_in Material.Pawn = 1

all_there : (m : Material) (b : Board) → OfMaterial m b → length b.men ≡ men_in m
all_there (Material.One kind) b e = ap length (one-of kind b.men e).1
all_there Material.Pawn b e = ap length (one-of 4 b.men e).1
all_there (Material.Two j k r) b e = ap length (two-of j k r b.men e).2

most-there : (m : Material) (b : Board) → OfMaterial m b ⊎ Fewer m b → length b.men ≤ men_in m
most-there m b (inl e) = let z = all_there m b e in omega arith
most-there m b (inr f) = go m f
  where
    go : (m : Material) → Fewer m b → length b.men ≤ men_in m
    go (Material.One kind) e = let z = ap length e in omega arith
    go Material.Pawn (inl e) = let z = ap length e in omega arith
    go Material.Pawn (inr x) = let z = ap length x.2.1.1 in omega arith
    go (Material.Two j k r) (inl e) = let z = ap length e in omega arith
    go (Material.Two j k r) (inr (inl w)) = let z = ap length w.1.1 in omega arith
    go (Material.Two j k r) (inr (inr w)) = let z = ap length w.1.1 in omega arith

module _ (m : Material) (is_Known : T (known m)) (l : Lent) (t : List ℕ) (ok : check_with m l t ≡ Ok Checked.Accepted)
    (none : holds_depth (borrowed m l) 0 ≡ false) where
  fewer-undecided : (b : Board) → Within m b → Fewer m b → (n : ℕ) → DepthIs chess n b → ⊥
  fewer-undecided b d f n h =
      refuted none
      (holds-some (borrowed m l) n (lent-held m is_Known l (accepted-with m l t ok).2 b d (fewer-not-full m b f) n h))

  quiet-decided : (b : Board) → Within m b → (v : Move) → v ∈ moves b → (n : ℕ) → DepthIs chess n (played b v)
      → v.takes ≡ false
  quiet-decided b d v i n h = go v.takes refl
    where
      q : Board
      q = played b v

      there : Within m q
      there = within-closed m is_Known b q d (map-in (played b) i)

      taken : v.takes ≡ true → OfMaterial m q ⊎ Fewer m q → ⊥
      taken e (inl w) =
          let z = (says-what-it-takes b v (legal-of m is_Known b d.legality) i).fewer e in
          omega (arith, z, all_there m q w, most-there m b d.men)
      taken e (inr f) = fewer-undecided q there f n h

      go : (x : Bool) → v.takes ≡ x → v.takes ≡ false
      go false e = e
      go true e = absurd (taken e there.men)

  sharp-of : (b : Board) → T (legal b) → OfMaterial m b → (n c : ℕ) → DepthIs chess n b → 2 ≤ n → c + n ≡ 101
      → Spoilt chess zeroing (desk_move_with m l t) c b
  sharp-of b g w n c h k e =
      sharp chess zeroing (Within m) (within-closed m is_Known) (bytes_of m l t ok) (accepted-bytes-with m l t ok)
      (desk_move_with m l t) (desk-chooses-with m l t ok) quiet-decided (n - 2) c b
      (record { legality = of-legal m is_Known b g; men = inl w }) (subst (λ (d : ℕ). DepthIs chess d b) (omega arith) h) (omega arith)

-- b is legal without a pawn, and so of an ending of pieces
pub sharp-games-with : (m : Material) (l : Lent) (t : List ℕ) → check_with m l t ≡ Ok Checked.Accepted
    → holds_depth (borrowed m l) 0 ≡ false → (b : Board) → T (legal b) → OfMaterial m b → (n c : ℕ)
    → DepthIs chess n b → 2 ≤ n → c + n ≡ 101 → Spoilt chess zeroing (desk_move_with m l t) c b
sharp-games-with m l t ok none b g w = sharp-of m (known_of m b g w) l t ok none b g w

-- with one man nothing is lent
none_lent : holds_depth [] 0 ≡ false
unfolding holds_depth any
none_lent = refl

pub sharp-games : (kind : ℕ) (t : List ℕ) → check_of kind t ≡ Ok Checked.Accepted → (b : Board) → T (legal b) → Lone kind b
    → (n c : ℕ) → DepthIs chess n b → 2 ≤ n → c + n ≡ 101 → Spoilt chess zeroing (desk_move t) c b
sharp-games kind t ok b l m n c h k e =
    let s = sharp-games-with (Material.One kind) nothing t (check-alone kind nothing t ∙ ok) none_lent b l
    (lone-material kind b m) n c h k e in
    record {
      line = s.line;
      game = s.game;
      follows = λ side. follows_same (Ending kind) (closed kind t) (desk_move_with (Material.One kind) nothing t)
          (desk_move t) (desk-alone kind t) side b s.line (record { legality = l; men = inr m }) s.game
          (s.follows side);
      lost = s.lost;
      claims = s.claims;
    }
