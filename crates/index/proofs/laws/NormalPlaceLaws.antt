-- The normal place of a placed position, as code finds it, and the map that leads to it.
use Rattle.std.specs.Prelude.{◌≡◌, Bool, cond, ◌&&◌, ℕ, ◌/◌, ◌%◌, ◌<◌}
use Rattle.std.proofs.Math.Path.{refl, ap, subst⁻¹, sym}
use Rattle.std.proofs.Common.{ap₂, ◌∙◌, arith}
use Rattle.std.proofs.Math.Bool.{true, false}
use Rattle.std.proofs.Math.Logic.{inl}
use Rattle.std.proofs.Math.Dec.{T, leb, ltb}
use borrow.Author.Tests.{lt-leb, leb-false}
use Rattle.finite.specs.Truth.{and_right, of-true, true_of}
use Rattle.finite.specs.Members.{all}
use Rattle.symmetry.specs.Symmetry.{Symmetry, mapped}
use Rattle.symmetry.proofs.laws.SymmetryLaws.{mapped-on}
use Rattle.rules.specs.Rules.{Board, pieces, apart}
use Rattle.numbering.specs.Kings.{separate}
use Rattle.numbering.specs.Keys.{key_of}
use Rattle.numbering.specs.Normal.{turn}
use Rattle.numbering.specs.KingMaps.{king_map}
use Rattle.numbering.specs.Men.{material_of}
use Rattle.numbering.specs.Material.{known, material_in}
use Rattle.numbering.specs.Change.{change, changed_by}
use Rattle.numbering.specs.Number.{arranged, ruling_map, ruling_order, normalised, number_of}
use Rattle.numbering.proofs.laws.ChangeLaws.{HasNumber}
use Rattle.numbering.proofs.laws.ClassLaws.{normalising, normal-image, normal-has}
use Rattle.numbering.proofs.laws.AtLaws.{apart_by}
use Rattle.numbering.proofs.laws.LoneLaws.{is-arranged}
use Rattle.position.specs.declared.Position.{Position}
use Rattle.position.specs.declared.Men.{Men}
use Rattle.position.specs.declared.Place.{Place}
use Rattle.position.specs.Keyed.{board_of}
use Rattle.position.specs.Refusals.{placing_with}
use Rattle.position.specs.Posed.{posed, board_in}
use Rattle.position.proofs.laws.PlacedLaws.{kings-separate}
use Rattle.index.specs.declared.Arranged.{Arranged}
use Rattle.index.specs.Least.{turned_key, transposed_key, rising_key, least_of}
use Rattle.index.specs.Seats.{Seated, alike, alone, least_at, place_from}
use Rattle.index.specs.Arranging.{arranged_as, Arranges, swaps_at, normal_by, normal_as, Normalises}
use Rattle.index.proofs.laws.LeastLaws.{transposed-less}
use Rattle.index.proofs.laws.NormalKey.{pair-arranged, pair-swap, one-swap}
use Rattle.index.proofs.laws.SeatLaws.{board-one, board-two, known-one, known_two, turned-one, turned_two, normal-place}
use Rattle.index.proofs.laws.CompleteLaws.{PlacedOf, placed-facts-with, seated-complete}
use Rattle.index.proofs.laws.ArrangingLaws.{placed-arranges}
use Rattle.index.proofs.laws.EndingsLaws.{pieces-normal, pieces-map}

-- ---- men in standard order stay as they are

module _ (m : Men) (q : Place) (s : Seated m q) where
  pub seated-arranged : arranged (board_in m q) ≡ board_in m q
  seated-arranged = go (alone q) refl
    where
      go : (e : Bool) → alone q ≡ e → arranged (board_in m q) ≡ board_in m q
      go true e =
          subst⁻¹ (λ (b : Board). arranged b ≡ b) (board-one m q s.first e)
          (is-arranged m.first q.side q.white q.first q.black)
      go false e =
          subst⁻¹ (λ (b : Board). arranged b ≡ b) (board-two m q s.first e)
          (pair-arranged m.first m.second m.colour q.side q.white q.black q.first q.second
          (known_two m s.ending (sym s.second ∙ e)).0)

  -- ---- the map

  swap-found : (ruling_map (board_in m q)).swap ≡ swaps_at m q
  unfolding swaps_at
  swap-found = go (alone q) refl
    where
      on : (x : ℕ) → x < 64 → mapped (turn q.white) x < 64
      on x h = mapped-on (turn q.white) x h

      go : (e : Bool) → alone q ≡ e → (ruling_map (board_in m q)).swap
          ≡ ltb (rising_key (alike m) (transposed_key (turned_key q.white q.black q.first q.second)))
          (rising_key (alike m) (turned_key q.white q.black q.first q.second))
      go true e =
          ap (λ (b : Board). (ruling_map b).swap) (board-one m q s.first e)
          ∙ one-swap m.first q.side q.white q.black q.first s.white s.black s.first
          ∙ sym (ap₂ (λ (like : Bool) (k : ℕ). ltb (rising_key like (transposed_key k)) (rising_key like k))
          (known-one m s.ending (sym s.second ∙ e)).1
          (turned-one q.white q.black q.first q.second s.white s.black s.first e)
          ∙ transposed-less false (mapped (turn q.white) q.white) (mapped (turn q.white) q.black)
          (mapped (turn q.white) q.first) 0 (on q.white s.white) (on q.black s.black)
          (on q.first s.first) (omega arith))
      go false e =
          let y = leb-false 64 q.second e in
          ap (λ (b : Board). (ruling_map b).swap) (board-two m q s.first e)
          ∙ pair-swap m.first m.second m.colour q.side q.white q.black q.first q.second
          s.white s.black s.first y (known_two m s.ending (sym s.second ∙ e)).0
          ∙ sym (ap (λ (k : ℕ). ltb (rising_key (alike m) (transposed_key k)) (rising_key (alike m) k))
          (turned_two q.white q.black q.first q.second s.white s.black s.first e)
          ∙ transposed-less (alike m) (mapped (turn q.white) q.white) (mapped (turn q.white) q.black)
          (mapped (turn q.white) q.first) (mapped (turn q.white) q.second) (on q.white s.white)
          (on q.black s.black) (on q.first s.first) (on q.second y))

  map_found : ◌≡◌ {A = Symmetry}
      (record { files = ltb 3 (q.white % 8); ranks = ltb 3 (q.white / 8); swap = swaps_at m q })
      (ruling_map (board_in m q))
  unfolding ruling_map king_map turn board_of posed
  map_found = λ i. record {
    files = ltb 3 (q.white % 8);
    ranks = ltb 3 (q.white / 8);
    swap = sym swap-found i;
  }

  -- ---- the place

  pub seated-from : (n : ℕ) → Seated m (place_from (alone q) q.side n)
  unfolding place_from
  seated-from n = record {
    ending = s.ending;
    colour = s.colour;
    white = omega arith;
    black = omega arith;
    first = omega arith;
    second = there (alone q) ∙ s.second;
  }
    where
      there : (e : Bool) → leb 64 (cond e 64 (n % 64)) ≡ e
      there true = refl
      there false = lt-leb 64 (n % 64) (omega arith)

-- ---- a placed position

-- the board of a placed position has a number
pub placed-has : (p : Position) → PlacedOf p → HasNumber (material_of (board_of p).men) (board_of p)
unfolding all
placed-has p w =
    let b = board_of p in
    let men = all (λ m. ltb m.square 64) b.men in
    record {
      men = refl;
      side = unfold board_of in w.side;
      colours = w.colours;
      squares =
          and_right (ltb b.black 64) men (and_right (ltb b.white 64) (ltb b.black 64 && men) w.squares);
      kings = kings-separate b w.squares w.distinct w.kings;
    }

module _ (p : Position) (r : Arranged) (a : Arranges p r) where
  abbrev m : Men
  m = r.men

  abbrev q : Place
  q = r.place

  -- arranging leaves the normal board
  pub same-normal : normalised (board_in m q) ≡ normalised (board_of p)
  unfolding normalised
  same-normal =
      ap (λ (b : Board). changed_by (change (ruling_order b) false (ruling_map b)) b)
      (seated-arranged m q a.seated ∙ a.board)

  pub arranged-number : number_of (board_in m q) ≡ number_of (board_of p)
  unfolding number_of
  arranged-number = ap key_of same-normal

  abbrev normal : Place
  normal = place_from (alone q) q.side (least_at m q)

  board-found : board_in m normal ≡ normalised (board_of p)
  board-found = sym (normal-place m q a.seated) ∙ same-normal

  module _ (w : PlacedOf p) where
    kings-found : T (separate normal.white normal.black)
    unfolding board_of posed
    kings-found =
        subst⁻¹ (λ (b : Board). T (separate b.white b.black)) board-found
        (normal-has (board_of p) (placed-has p w)).kings

    apart-found : T (apart (pieces (board_in m normal)))
    apart-found =
        of-true (ap (λ (b : Board). apart (pieces b)) (board-found ∙ normal-image (board_of p))
        ∙ apart_by (normalising (board_of p)) (board_of p) ∙ true_of {b = apart (pieces (board_of p))} w.distinct)

    side-found : normal.side < 2
    unfolding place_from
    side-found = a.side

    normalises : T (known (material_in (board_of p).men)) → Normalises p (normal_as r)
    unfolding normal_as
    normalises t = record {
      board = board-found
          ∙ ap (λ (f : Board → Board). f (board_of p)) (sym (pieces-normal (material_in (board_of p).men) t));
      map = map_found m q a.seated ∙ ap ruling_map a.board
          ∙ ap (λ (f : Board → Symmetry). f (board_of p)) (sym (pieces-map (material_in (board_of p).men) t));
      whole = inl
          (seated-complete m normal (seated-from m q a.seated (least_at m q)) side-found kings-found apart-found);
      material = a.material;
    }

-- of an ending of pieces
pub normal-found : (p : Position) → T (known (material_in (board_of p).men)) → placing_with p ≡ 0
    → Normalises p (normal_as (arranged_as p))
normal-found p t z = normalises p (arranged_as p) (placed-arranges p t z) (placed-facts-with p z) t

-- ---- as code finds it

pub normal-keys : (m : Men) (q : Place) (k t s u : ℕ) → k ≡ turned_key q.white q.black q.first q.second
    → t ≡ transposed_key k → s ≡ rising_key (alike m) k → u ≡ rising_key (alike m) t
    → normal_by m q s u ≡ normal_as (record { men = m; place = q })
unfolding normal_by normal_as least_at least_of swaps_at
normal-keys m q k t s u hk ht hs hu = rw (hu, hs, ht, hk)
