-- A piece put on a free square: the ending's men are still all there, no two on one square.
use Rattle.std.specs.Prelude.{◌≡◌, refl, Bool, true, false, cond, not, ℕ, ◌<◌, T, leb, eqb}
use Rattle.std.proofs.Math.Path.{sym, subst⁻¹}
use Rattle.std.proofs.Common.{ap, ◌∙◌}
use native.Mathlib.Omega.{arith}
use borrow.Author.Tests.{lt-ltb, lt-leb, ne_eqb, eqb-true}
use Rattle.rules.specs.Rules.{touching, carried}
use Rattle.numbering.specs.Kings.{separate}
use Rattle.position.specs.declared.Men.{Men}
use Rattle.position.specs.declared.Place.{Place}
use Rattle.position.specs.Keyed.{board_of}
use Rattle.position.specs.Posed.{posed, board_in, Complete}
use Rattle.index.specs.Seats.{Seated, shares}
use Rattle.index.proofs.laws.PlaceLaws.{apart-shares}
use Rattle.index.proofs.laws.CompleteLaws.{seated-complete}
use Rattle.movegen.specs.Places.{square_after, place_after}
use Rattle.retracting.specs.Retracting.{Missing, LegalLeft, put_again, place_before}
use Rattle.retracting.proofs.laws.Back.{Free, gone-king}

module _ (x y : ℕ) (lx : x < 64) (ly : y < 64) where
  -- two squares that are not the target stay apart
  stay-apart : (a b : ℕ) → (a ≡ y → ⊥) → (b ≡ y → ⊥) → (a ≡ b → ⊥) → carried x y a ≡ carried x y b → ⊥
  stay-apart a b na nb n e = go (eqb a x) refl (eqb b x) refl e
    where
      go : (p : Bool) → eqb a x ≡ p → (r : Bool) → eqb b x ≡ r → cond p y a ≡ cond r y b → ⊥
      go true h true k e = n (eqb-true a x h ∙ sym (eqb-true b x k))
      go true h false k e = nb (sym e)
      go false h true k e = na e
      go false h false k e = n e

  carried_on : (s : ℕ) → s < 64 → carried x y s < 64
  carried_on s h = go (eqb s x)
    where
      go : (p : Bool) → cond p y s < 64
      go true = ly
      go false = h

  carried-off : (s : ℕ) → leb 64 (carried x y s) ≡ leb 64 s
  carried-off s = go (eqb s x) refl
    where
      go : (p : Bool) → eqb s x ≡ p → leb 64 (cond p y s) ≡ leb 64 s
      go true e = lt-leb 64 y ly ∙ sym (ap (leb 64) (eqb-true s x e) ∙ lt-leb 64 x lx)
      go false e = refl

  man-after : (s : ℕ) → (s ≡ y → ⊥) → square_after x y s ≡ carried x y s
  man-after s n = rw (ne_eqb s y n)

  module _ (xy : x ≡ y → ⊥) (m : Men) (q : Place) (taken : ℕ) (w : LegalLeft m q taken) (f : Free q y) where
    abbrev o : Place
    o = place_before q taken y x

    seated-by : (i : ℕ) → Missing m q i → Seated m (place_before q i y x)
    unfolding put_again place_after
    seated-by i (Missing.nobody a b) = record {
      ending = w.ending;
      colour = w.colour;
      white = carried_on q.white w.white;
      black = carried_on q.black w.black;
      first = rw (man-after q.first f.first) (carried_on q.first a);
      second = rw (man-after q.second f.second) (carried-off q.second ∙ b);
    }
    seated-by i (Missing.first a b c) = record {
      ending = w.ending;
      colour = w.colour;
      white = carried_on q.white w.white;
      black = carried_on q.black w.black;
      first = lx;
      second = rw (man-after q.second f.second)
          (carried-off q.second ∙ lt-leb 64 q.second b ∙ sym (lt-leb 4 m.second c));
    }
    seated-by i (Missing.second a b c) = record {
      ending = w.ending;
      colour = w.colour;
      white = carried_on q.white w.white;
      black = carried_on q.black w.black;
      first = rw (man-after q.first f.first) (carried_on q.first a);
      second = lt-leb 64 x lx ∙ sym (lt-leb 4 m.second c);
    }

    side-of : (i : ℕ) → Missing m q i → (place_before q i y x).side < 2
    unfolding put_again place_after
    side-of i (Missing.nobody a b) = omega arith
    side-of i (Missing.first a b c) = omega arith
    side-of i (Missing.second a b c) = omega arith

    kings-of : (i : ℕ) → Missing m q i → eqb (place_before q i y x).white (place_before q i y x).black ≡ false
    unfolding put_again place_after
    kings-of i (Missing.nobody a b) =
        ne_eqb (carried x y q.white) (carried x y q.black)
        (stay-apart q.white q.black f.white f.black w.white-black)
    kings-of i (Missing.first a b c) =
        ne_eqb (carried x y q.white) (carried x y q.black)
        (stay-apart q.white q.black f.white f.black w.white-black)
    kings-of i (Missing.second a b c) =
        ne_eqb (carried x y q.white) (carried x y q.black)
        (stay-apart q.white q.black f.white f.black w.white-black)

    abbrev left : (s : ℕ) → carried x y s ≡ x → ⊥
    left s = gone-king x y s xy

    unshared-by : (i : ℕ) → Missing m q i → shares (place_before q i y x) ≡ false
    unfolding shares put_again place_after
    unshared-by i (Missing.nobody a b) =
        rw (
          man-after q.first f.first,
          man-after q.second f.second,
          ne_eqb (carried x y q.white) (carried x y q.first)
              (stay-apart q.white q.first f.white f.first w.white-first),
          ne_eqb (carried x y q.black) (carried x y q.first)
              (stay-apart q.black q.first f.black f.first w.black-first),
          ne_eqb (carried x y q.white) (carried x y q.second)
              (stay-apart q.white q.second f.white f.second w.white-second),
          ne_eqb (carried x y q.black) (carried x y q.second)
              (stay-apart q.black q.second f.black f.second w.black-second),
          ne_eqb (carried x y q.first) (carried x y q.second)
              (stay-apart q.first q.second f.first f.second w.first-second),
        )
    unshared-by i (Missing.first a b c) =
        rw (
          man-after q.second f.second,
          ne_eqb (carried x y q.white) x (left q.white),
          ne_eqb (carried x y q.black) x (left q.black),
          ne_eqb (carried x y q.white) (carried x y q.second)
              (stay-apart q.white q.second f.white f.second w.white-second),
          ne_eqb (carried x y q.black) (carried x y q.second)
              (stay-apart q.black q.second f.black f.second w.black-second),
          ne_eqb x (carried x y q.second) (λ z. left q.second (sym z)),
        )
    unshared-by i (Missing.second a b c) =
        rw (
          man-after q.first f.first,
          ne_eqb (carried x y q.white) (carried x y q.first)
              (stay-apart q.white q.first f.white f.first w.white-first),
          ne_eqb (carried x y q.black) (carried x y q.first)
              (stay-apart q.black q.first f.black f.first w.black-first),
          ne_eqb (carried x y q.white) x (left q.white),
          ne_eqb (carried x y q.black) x (left q.black),
          ne_eqb (carried x y q.first) x (left q.first),
        )

    -- complete, where the kings do not touch
    pub complete-before : touching (board_in m o) ≡ false → Complete m o
    complete-before h =
        let s = seated-by taken w.missing in
        let e = kings-of taken w.missing in
        seated-complete m o s (side-of taken w.missing) (kings o s.white s.black e h)
        (subst⁻¹ T (apart-shares m o s e ∙ ap not (unshared-by taken w.missing)) tt)
      where
        kings : (o : Place) → o.white < 64 → o.black < 64 → eqb o.white o.black ≡ false
            → touching (board_in m o) ≡ false → T (separate o.white o.black)
        kings o a b e t =
            unfold separate touching board_of posed in
            rw (lt-ltb o.white 64 a, lt-ltb o.black 64 b, e, t) tt
