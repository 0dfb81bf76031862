-- A black king without men: from each square he goes to those next to it that White's pieces, who stand still, do not attack; nothing else moves.
use Rattle.std.specs.Prelude.{◌≡◌, Bool, true, false, ◌&&◌, ◌||◌, ◌⊎◌, ℕ, ◌<◌, T, eqb}
use Rattle.std.proofs.Math.Path.{refl, ap₂, subst⁻¹}
use Rattle.std.proofs.Common.{sym, ap, subst, ◌∙◌, inl, inr, arith, ne_eqb, eqb-true}
use Rattle.std.proofs.Math.Bool.{not}
use Rattle.std.specs.Int.Bits.{bit_or}
use Rattle.finite.specs.Truth.{refuted}
use Rattle.board.specs.Reach.{reaches}
use Rattle.board.specs.Sets.{has, set_of}
use Rattle.board.proofs.laws.ReachLaws.{reaches_same, king-reaches}
use Rattle.board.proofs.laws.Blocking.{reaches-own}
use Rattle.board.proofs.laws.SetLaws.{has-none, set_is, set-has, has-or}
use Rattle.rules.specs.Rules.{Board, occupied, king, stands, goes, can_move}
use Rattle.rules.proofs.laws.CanMove.{can-on}
use Rattle.position.specs.declared.Men.{Men}
use Rattle.position.specs.declared.Place.{Place}
use Rattle.position.specs.Keyed.{board_of}
use Rattle.position.specs.Over.{attacked_over, goes_over, lifted}
use Rattle.position.specs.Posed.{posed, board_in, Complete}
use Rattle.position.specs.Spread.{Spread}
use Rattle.position.proofs.laws.PosedLaws.{complete-spread}
use Rattle.movegen.specs.Reach.{Alone}
use Rattle.movegen.proofs.laws.Places.{occupied-men, stands-men}
use Rattle.movegen.proofs.laws.Alone.{king-alone, first-man, second-man}
use Rattle.movegen.proofs.laws.Lifted.{king-moves}
use Rattle.movegen.proofs.laws.Struck.{attacked-split}
use Rattle.successors.specs.Successors.{king_at}
use Rattle.successors.proofs.laws.PlaceLaws.{starts}
use Rattle.retracting.specs.Retracting.{Leads, GoesBack, place_before}
use Rattle.retracting.proofs.laws.Sources.{free_of}
use Rattle.retracting.proofs.laws.Stepping.{leads_goes}
use Rattle.working_back.specs.Bare.{bare_on, Bare, stood_on, struck_by}
use Rattle.working_back.proofs.laws.KingBack.{king-back}

-- a man of the other side, or one who is not there
man-none : (m : Men) (q : Place) (kind owner square : ℕ) → Alone m q kind owner square
    → ((t : ℕ) → (eqb owner q.side && reaches (occupied (board_in m q)) kind square t) ≡ false)
    → 0 ≡ set_of (can_move (board_in m q) square)
unfolding can_move goes goes_over board_of posed
man-none m q kind owner square a none =
    set_is _ 0 (omega arith)
    (λ t l. has-none t ∙ sym (rw (a.goes (occupied (board_in m q)) t ∙ none t)))

-- a step that is not shut: the king's target but for one square
shut-or-not : (a o x e : Bool) → (a ≡ true → o ≡ false) → (a && not (x || e)) ≡ ((a && not o && not x) && not e)
shut-or-not true true x e f = absurd (refuted (f refl) tt)
shut-or-not true false true e f = refl
shut-or-not true false false e f = refl
shut-or-not false o x e f = refl

-- what code gathers
pub struck-is : (m : Men) (white x y to i j k stood near far out : ℕ) → i ≡ set_of (λ (u : ℕ). eqb u white) → j ≡ set_of (λ (u : ℕ). eqb u x)
    → k ≡ set_of (λ (u : ℕ). eqb u y) → stood ≡ bit_or i (bit_or j k) → near ≡ set_of (reaches (has 0) 5 white) → (a c : ℕ)
    → a ≡ set_of (reaches (has stood) m.first x) → c ≡ set_of (reaches (has stood) m.second y) → far ≡ bit_or a c
    → out ≡ set_of (λ (u : ℕ). has (bit_or near far) u || eqb u to) → (t : ℕ) → t < 64 → has out t ≡ (struck_by m white x y t || eqb t to)
struck-is m white x y to i j k stood near far out ei ej ek es en a c ea ec ef eo t h =
    set-has _ eo t h
    ∙ ap (λ (z : Bool). z || eqb t to)
    (has-or near far t ∙ ap₂ ◌||◌ (set-has _ en t h)
    (ap (λ (z : ℕ). has z t) ef ∙ has-or a c t
    ∙ ap₂ ◌||◌ (set-has _ ea t h ∙ reaches_same (has stood) (stood_on white x y) there m.first x t)
    (set-has _ ec t h ∙ reaches_same (has stood) (stood_on white x y) there m.second y t)))
  where
    there : (u : ℕ) → u < 64 → has stood u ≡ stood_on white x y u
    there u g =
        ap (λ (z : ℕ). has z u) es ∙ has-or i (bit_or j k) u
        ∙ ap₂ ◌||◌ (set-has _ ei u g) (has-or j k u ∙ ap₂ ◌||◌ (set-has _ ej u g) (set-has _ ek u g))

-- the place before his move, by its squares
pub place_is : (m : Men) (q : Place) (taken to white x y : ℕ) → Bare m q taken to white x y → (s : ℕ) → GoesBack m q taken s to
    → place_before q taken s to ≡ bare_on 1 white s x y
place_is m q taken to white x y v s b =
    let h = v.side in
    king-back m q taken to s v.legal (free_of m q s b.square b.free) x y v.at_first v.at_second 1 (omega arith) v.king
    ∙ ap (λ (w : ℕ). bare_on 1 w s x y) (sym v.at-white)

module _ (m : Men) (q : Place) (taken to white x y : ℕ) (v : Bare m q taken to white x y) (s : ℕ)
    (l : Leads m (place_before q taken s to) s to q) where
  abbrev p : Place
  p = bare_on 1 white s x y

  pub complete : Complete m p
  complete = subst (Complete m) (place_is m q taken to white x y v s (leads_goes m q taken s to v.legal l)) l.complete

  spread : Spread m p
  spread = complete-spread complete

  abbrev b : Board
  b = board_in m p

  king-is : king b 1 ≡ s
  unfolding board_of posed
  king-is = refl

  white-is : king b 0 ≡ white
  unfolding board_of posed
  white-is = refl

  -- what stands there with him lifted
  stood : (u : ℕ) → u < 64 → lifted (occupied b) s u ≡ stood_on white x y u
  stood u h = ap (λ (z : Bool). z && not (eqb u s)) (occupied-men m p u h) ∙ go (eqb u s) refl
    where
      off : (a d : Bool) → ((a || (false || d)) && true) ≡ (a || d)
      off true d = refl
      off false true = refl
      off false false = refl

      none : (a d : Bool) → a ≡ false → d ≡ false → ((a || true) && false) ≡ (a || d)
      none a d e f = rw (e, f)

      go : (c : Bool) → eqb u s ≡ c
          → ((eqb u white || (c || (eqb u x || eqb u y))) && not c) ≡ (eqb u white || (eqb u x || eqb u y))
      go true e =
          let z = eqb-true u s e in
          none (eqb u white) (eqb u x || eqb u y) (ne_eqb u white (λ w. spread.white-black (sym w ∙ z)))
          (ap₂ ◌||◌ (ne_eqb u x (λ w. spread.black-first (sym z ∙ w))) (ne_eqb u y (λ w. spread.black-second (sym z ∙ w))))
      go false e = off (eqb u white) (eqb u x || eqb u y)

  strikes-is : (t : ℕ) → attacked_over (lifted (occupied b) s) b 0 t ≡ struck_by m white x y t
  strikes-is t =
      attacked-split m p spread.pawnless (lifted (occupied b) s) 0 (omega arith) t
      ∙ ap₂ ◌||◌ (ap (λ (k : ℕ). reaches (lifted (occupied b) s) 5 k t) white-is ∙ king-reaches (lifted (occupied b) s) (has 0) white t)
      (ap₂ ◌||◌ (reaches_same (lifted (occupied b) s) (stood_on white x y) stood m.first x t)
      (ap (λ (c : ℕ). eqb c 0 && reaches (lifted (occupied b) s) m.second y t) v.colour
      ∙ reaches_same (lifted (occupied b) s) (stood_on white x y) stood m.second y t))

  -- he does not stay
  not_own : (t : ℕ) → t < 64 → reaches (has 0) 5 s t ≡ true → stands b 1 t ≡ false
  not_own t h e =
      stands-men m p 1 t h
      ∙ rw v.colour (ap (λ (z : Bool). z || false) (ne_eqb s t (λ z. refuted (ap (reaches (has 0) 5 s) (sym z) ∙ reaches-own (has 0) 5 s) (subst⁻¹ T e tt))))

  can-is : (t : ℕ) → can_move b s t ≡ (reaches (has 0) 5 s t && not (stands b 1 t) && not (struck_by m white x y t))
  unfolding goes goes_over board_of posed
  can-is t =
      king-moves b s (λ h. (king-alone m p spread).foes refl h) king-is t
      ∙ ap₂ (λ (g a : Bool). g && not (stands b 1 t) && not a)
      ((king-alone m p spread).goes (occupied b) t ∙ king-reaches (occupied b) (has 0) s t) (strikes-is t)

  -- his targets but for the one he went to
  pub goals-are : (steps shut goals : ℕ) → steps ≡ set_of (reaches (has 0) 5 s)
      → ((t : ℕ) → t < 64 → has shut t ≡ (struck_by m white x y t || eqb t to))
      → goals ≡ set_of (λ (u : ℕ). has steps u && not (has shut u)) → (t : ℕ) → t < 64 → has goals t ≡ (can_move b s t && not (eqb t to))
  goals-are steps shut goals es eh eg t h =
      set-has _ eg t h ∙ ap₂ (λ (a c : Bool). a && not c) (set-has _ es t h) (eh t h)
      ∙ shut-or-not (reaches (has 0) 5 s t) (stands b 1 t) (struck_by m white x y t) (eqb t to) (not_own t h)
      ∙ ap (λ (c : Bool). c && not (eqb t to)) (sym (can-is t))

  -- only he moves
  pub only-king : (from t : ℕ) → T (can_move b from t) → from ≡ s
  only-king from t c = go (starts m p from t c)
    where
      none : (square : ℕ) → 0 ≡ set_of (can_move b square) → from ≡ square → ⊥
      none square z e =
          let h = (can-on b from t c).1 in
          refuted (sym (set-has (can_move b square) z t h) ∙ has-none t) (subst (λ (f : ℕ). T (can_move b f t)) e c)

      go : (from ≡ king_at p) ⊎ ((from ≡ x) ⊎ (from ≡ y)) → from ≡ s
      go (inl e) = e
      go (inr (inl e)) =
          absurd (none x (man-none m p m.first 0 x (first-man m p spread).alone (λ t. refl)) e)
      go (inr (inr e)) =
          absurd (none y (man-none m p m.second m.colour y (second-man m p spread).alone
          (λ t. ap (λ (c : ℕ). eqb c 1 && reaches (occupied b) m.second y t) v.colour)) e)
