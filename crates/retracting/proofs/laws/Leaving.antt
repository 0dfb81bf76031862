-- What a capture leaves of two men, from the place of the man left alone: it is legal, and has his number.
use Rattle.std.specs.Prelude.{◌≡◌, Bool, not, ◌⊎◌, List, [], ◌∷◌, ℕ, zero, suc, ◌+◌, ◌*◌, ◌-◌, ◌/◌, ◌%◌, ◌<◌, ltb, eqb}
use Rattle.std.proofs.Math.Path.{refl, sym, ap, subst⁻¹}
use Rattle.std.proofs.Common.{subst, ◌∙◌, inl, inr, arith}
use Rattle.std.proofs.Math.Bool.{true, false, cond}
use Rattle.std.proofs.Math.Dec.{T}
use borrow.Author.Tests.{lt-leb, eqb-true, eqb-false}
use Rattle.symmetry.specs.Symmetry.{Symmetry, mapped}
use Rattle.rules.specs.declared.Piece.{Piece}
use Rattle.rules.specs.Rules.{Board, piece_of, empty, legal}
use Rattle.rules.specs.Changed.{other, swapped, changed}
use Rattle.rules.specs.Reordered.{crossed}
use Rattle.rules.proofs.laws.ChangedRules.{legal-changed}
use Rattle.numbering.specs.declared.Material.{Material}
use Rattle.numbering.specs.Men.{exchangeable}
use Rattle.numbering.specs.Number.{number_of}
use Rattle.numbering.specs.Material.{known, OfMaterial}
use Rattle.position.specs.declared.Men.{Men}
use Rattle.position.specs.declared.Place.{Place}
use Rattle.position.specs.Keyed.{board_of}
use Rattle.position.specs.Posed.{posed, board_in, material_for, Complete}
use Rattle.position.specs.Spread.{Spread}
use Rattle.position.proofs.laws.PosedLaws.{complete-spread}
use Rattle.index.proofs.laws.NormalKey.{one_board}
use Rattle.index.proofs.laws.SeatLaws.{board-one}
use Rattle.index.proofs.laws.CompleteLaws.{complete-seated}
use Rattle.index.proofs.laws.PlaceLaws.{piece-by}
use Rattle.four_men.specs.Same.{free}
use Rattle.four_men.specs.Reading.{Within}
use Rattle.four_men.proofs.laws.Captures.{within-few}
use Rattle.four_men.proofs.laws.Numbered.{same_number}
use Rattle.retracting.specs.Retracting.{Missing, LegalLeft, lone_of, left_place}

-- ---- the colours exchanged, and no map

abbrev still : Symmetry
still = record { files = false; ranks = false; swap = false }

still-mapped : (s : ℕ) → mapped still s ≡ s
unfolding mapped
still-mapped s = go (ltb s 64)
  where
    go : (x : Bool) → cond x (s / 8 * 8 + s % 8) s ≡ s
    go true = omega arith
    go false = refl

abbrev exchanged : Bool → ℕ → ℕ → ℕ → ℕ → ℕ → Board
exchanged x kind side white black p =
    record { side = swapped x side; white = cond x black white; black = cond x white black; men = piece_of kind (swapped x 0) p ∷ [] }

still-board : (x : Bool) (kind side white black p : ℕ)
    → changed still x (one_board kind side white black p) ≡ exchanged x kind side white black p
unfolding changed
still-board x kind side white black p =
    rw (still-mapped (cond x black white), still-mapped (cond x white black), still-mapped p)

flips : (s : ℕ) → s < 2 → 1 - s ≡ other s
unfolding other
flips zero l = refl
flips (suc zero) l = refl
flips (suc (suc n)) l = absurd (omega arith)

-- ---- the boards

board-eq : {s s' w w' b b' : ℕ} {l l' : List Piece} → s ≡ s' → w ≡ w' → b ≡ b' → l ≡ l'
    → ◌≡◌ {A = Board} (record { side = s; white = w; black = b; men = l }) (record { side = s'; white = w'; black = b'; men = l' })
board-eq e f g h = rw (e, f, g, h)

module _ (m : Men) (cl : m.colour < 2) (t : Place) (hf : t.first < 64) (hs : t.side < 2) where
  exchanged-by : (x : Bool) → eqb m.colour 1 ≡ x
      → board_in m (cond x (record { side = 1 - t.side; white = t.black; black = t.white; first = 64; second = t.first })
      (record { side = t.side; white = t.white; black = t.black; first = 64; second = t.first }))
      ≡ exchanged x m.second t.side t.white t.black t.first
  unfolding board_of posed swapped
  exchanged-by true z =
      board-eq (flips t.side hs) refl refl
      (rw (lt-leb 64 t.first hf) (ap (λ (c : ℕ). piece_of m.second c t.first ∷ []) (eqb-true m.colour 1 z ∙ (unfold other in refl))))
  exchanged-by false z =
      let n = eqb-false m.colour 1 z in
      let e : m.colour ≡ 0 = omega (arith, n, cl) in
      board-eq refl refl refl (rw (lt-leb 64 t.first hf) (ap (λ (c : ℕ). piece_of m.second c t.first ∷ []) e))

  left-board : (taken : ℕ) → (taken ≡ 1) ⊎ (taken ≡ 2)
      → (x : Bool) × (board_in m (left_place m taken t) ≡ exchanged x (lone_of m taken).first t.side t.white t.black t.first)
  unfolding left_place swapped
  left-board taken (inl e) =
      subst⁻¹ (λ (i : ℕ). (x : Bool) × (board_in m (left_place m i t) ≡ exchanged x (lone_of m i).first t.side t.white t.black t.first)) e
      (eqb m.colour 1, exchanged-by (eqb m.colour 1) refl)
  left-board taken (inr e) =
      subst⁻¹ (λ (i : ℕ). (x : Bool) × (board_in m (left_place m i t) ≡ exchanged x (lone_of m i).first t.side t.white t.black t.first)) e
      (false, board-one m (record { side = t.side; white = t.white; black = t.black; first = t.first; second = 64 }) hf refl)

module _ (m : Men) (t : Place) where
  first-place : (taken : ℕ) → taken ≡ 1
      → cond (eqb m.colour 1) (record { side = 1 - t.side; white = t.black; black = t.white; first = 64; second = t.first })
      (record { side = t.side; white = t.white; black = t.black; first = 64; second = t.first }) ≡ left_place m taken t
  unfolding left_place
  first-place taken e = subst⁻¹ (λ (i : ℕ).
      cond (eqb m.colour 1) (record { side = 1 - t.side; white = t.black; black = t.white; first = 64; second = t.first })
      (record { side = t.side; white = t.white; black = t.black; first = 64; second = t.first }) ≡ left_place m i t) e refl

  second-place : (taken : ℕ) → taken ≡ 2
      → record { side = t.side; white = t.white; black = t.black; first = t.first; second = 64 } ≡ left_place m taken t
  unfolding left_place
  second-place taken e = subst⁻¹ (λ (i : ℕ).
      record { side = t.side; white = t.white; black = t.black; first = t.first; second = 64 } ≡ left_place m i t) e refl

module _ (m : Men) (w : T (known (material_for m))) (cl : m.colour < 2) (two : m.second < 4) (taken : ℕ)
    (which : (taken ≡ 1) ⊎ (taken ≡ 2)) (t : Place) (d : Complete (lone_of m taken) t)
    (l : T (legal (board_in (lone_of m taken) t))) where
  abbrev kind : ℕ
  kind = (lone_of m taken).first

  sp : Spread (lone_of m taken) t
  sp = complete-spread d

  abbrev small : Board
  small = board_in (lone_of m taken) t

  small_is : small ≡ one_board kind t.side t.white t.black t.first
  small_is = let s = complete-seated (lone_of m taken) t d in board-one (lone_of m taken) t s.first s.second

  x : Bool
  x = (left-board m cl t sp.first sp.side taken which).0

  left_is : board_in m (left_place m taken t) ≡ changed still x small
  unfolding x
  left_is =
      (left-board m cl t sp.first sp.side taken which).1
      ∙ sym (ap (changed still x) small_is ∙ still-board x kind t.side t.white t.black t.first)

  legality : T (legal (board_in m (left_place m taken t)))
  legality = subst⁻¹ (λ (b : Board). T (legal b)) left_is (subst⁻¹ T (legal-changed still x small) l)

  pub left-lone : (colour : ℕ) × (s : ℕ) × ((board_in m (left_place m taken t)).men ≡ piece_of kind colour s ∷ [])
  unfolding x
  left-lone =
      (swapped x 0, t.first, ap (λ (b : Board). b.men) (left-board m cl t sp.first sp.side taken which).1)

  lone_is : material_for (lone_of m taken) ≡ Material.One kind
  lone_is = piece-by (lone_of m taken) d.ending refl

  lone-known : T (known (Material.One kind))
  lone-known = subst (λ (y : Material). T (known y)) lone_is d.ending

  within : Within (Material.One kind) small
  within = record { legality = l; men = inl (subst (λ (y : Material). OfMaterial y small) lone_is d.men) }

  pub left-number : number_of (board_in m (left_place m taken t)) ≡ number_of small
  unfolding crossed free exchangeable
  left-number =
      sym (same_number (Material.One kind) lone-known small
      (board_in m (left_place m taken t)) (
        record { symmetry = still; order = false; colours = x },
        within-few (Material.One kind) lone-known small within,
        (λ g. subst⁻¹ (λ (b : Board). T (free b.men)) small_is tt),
        left_is,
      )
      (subst⁻¹ (λ (b : Board). T (not (empty b.men))) small_is tt))

  -- the pieces apart
  first-gone : (y : Bool) (q : Place)
      → cond y (record { side = 1 - t.side; white = t.black; black = t.white; first = 64; second = t.first })
      (record { side = t.side; white = t.white; black = t.black; first = 64; second = t.first }) ≡ q
      → T (legal (board_in m q)) → LegalLeft m q 1
  first-gone true q e g = subst (λ (p : Place). T (legal (board_in m p)) → LegalLeft m p 1) e (λ g. record {
    ending = w;
    colour = cl;
    side = omega arith;
    white = sp.black;
    black = sp.white;
    white-black = λ z. sp.white-black (sym z);
    white-first = λ z. omega (arith, z, sp.black);
    white-second = sp.black-first;
    black-first = λ z. omega (arith, z, sp.white);
    black-second = sp.white-first;
    first-second = λ z. omega (arith, z, sp.first);
    missing = Missing.first refl sp.first two;
    legality = g;
  }) g
  first-gone false q e g = subst (λ (p : Place). T (legal (board_in m p)) → LegalLeft m p 1) e (λ g. record {
    ending = w;
    colour = cl;
    side = sp.side;
    white = sp.white;
    black = sp.black;
    white-black = sp.white-black;
    white-first = λ z. omega (arith, z, sp.white);
    white-second = sp.white-first;
    black-first = λ z. omega (arith, z, sp.black);
    black-second = sp.black-first;
    first-second = λ z. omega (arith, z, sp.first);
    missing = Missing.first refl sp.first two;
    legality = g;
  }) g

  second-gone : (q : Place) → record { side = t.side; white = t.white; black = t.black; first = t.first; second = 64 } ≡ q
      → T (legal (board_in m q)) → LegalLeft m q 2
  second-gone q e g = subst (λ (p : Place). T (legal (board_in m p)) → LegalLeft m p 2) e (λ g. record {
    ending = w;
    colour = cl;
    side = sp.side;
    white = sp.white;
    black = sp.black;
    white-black = sp.white-black;
    white-first = sp.white-first;
    white-second = λ z. omega (arith, z, sp.white);
    black-first = sp.black-first;
    black-second = λ z. omega (arith, z, sp.black);
    first-second = λ z. omega (arith, z, sp.first);
    missing = Missing.second sp.first refl two;
    legality = g;
  }) g

  pub left-legal : LegalLeft m (left_place m taken t) taken
  left-legal = go taken which refl
    where
      go : (i : ℕ) → (i ≡ 1) ⊎ (i ≡ 2) → i ≡ taken → LegalLeft m (left_place m taken t) taken
      go i (inl z) e =
          let y = sym z ∙ e in
          subst (λ (j : ℕ). LegalLeft m (left_place m taken t) j) y
          (first-gone (eqb m.colour 1) (left_place m taken t) (first-place m t taken (sym y)) legality)
      go i (inr z) e =
          let y = sym z ∙ e in
          subst (λ (j : ℕ). LegalLeft m (left_place m taken t) j) y
          (second-gone (left_place m taken t) (second-place m t taken (sym y)) legality)
