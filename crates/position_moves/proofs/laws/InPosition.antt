-- The legal targets of a position's pieces, by what code has in hand.
use Rattle.std.specs.Prelude.{◌≡◌, Bool, true, cond, ◌&&◌, ◌++◌, ℕ, ◌-◌, ◌^◌, ◌<◌, None, Option, Some}
use Rattle.std.proofs.Math.Path.{refl, sym, ap, ap₂, subst⁻¹}
use Rattle.std.proofs.Common.{◌∙◌, arith, eqb→eq}
use Rattle.std.proofs.Math.Bool.{false, not, ◌||◌, or-false, and-true}
use mathlib.Core.List.Memᴰ
use Rattle.std.proofs.Math.Dec.{eqb, eqb_refl}
use Rattle.std.specs.Int.Bits.{bit_and, bit_or}
use borrow.Author.Tests.{eq-eqb, ne_eqb}
use Rattle.finite.specs.Truth.{by-test, fails, true_of}
use Rattle.finite.specs.Members.{◌∈◌, any, any-in, any_same}
use Rattle.finite.specs.Tests.{any_append}
use Rattle.board.specs.Reach.{line, reaches}
use Rattle.board.specs.Sets.{has, set_of}
use Rattle.board.proofs.laws.ReachLaws.{king-reaches}
use Rattle.board.proofs.laws.SetLaws.{set_is, set-has, has-set_of, has-none, has-or, has-and}
use Rattle.rules.specs.declared.Piece.{Piece}
use Rattle.rules.specs.Pawn.{pawn, forward, strides, pawn_hits, pawn_goes}
use Rattle.rules.specs.Rules.{Board, piece_of, pieces, occupied, attacks, king, in_check, stands, goes_to, goes, can_move}
use Rattle.rules.proofs.laws.CanMove.{can-facts, can-on, goes-piece}
use Rattle.position.specs.declared.Position.{Position}
use Rattle.position.specs.Keyed.{slot_men, board_of, man_in}
use Rattle.position.specs.Over.{strikes, men_over, goes_over, lifted}
use Rattle.position.proofs.laws.Over.{goes_same}
use Rattle.position.proofs.laws.MenOver.{attacked-parts, attacked-king, check-men}
use Rattle.position_moves.specs.InPosition.{goes_by, Placed, Sight, Held}
use Rattle.movegen.proofs.laws.Targets.{by-attacked, by-freedom}
use Rattle.position_moves.proofs.laws.OneThere.{man-piece, stands_one, goes_one, king-there, no-king}
use Rattle.position_moves.proofs.laws.Unpinned.{men-same, men-free}

-- ---- what all men share

module _ (p : Position) (w : Placed (board_of p)) (occ own : ℕ) (eo : occ ≡ set_of (occupied (board_of p)))
    (em : own ≡ set_of (stands (board_of p) p.side)) (at rest foe strike : ℕ) (ek : at ≡ king (board_of p) p.side)
    (er : rest ≡ set_of (λ (u : ℕ). has occ u && not (eqb u at))) (es : foe ≡ 1 - p.side)
    (et : (t : ℕ) → t < 64 → has strike t ≡ men_over (has rest) (board_of p) foe t) where
  pub sight-of : Sight p occ own (bit_and strike own)
  sight-of = record {
    placed = w;
    occ-is = eo;
    own_is = em;
    quiet = λ z s l e. sym (et s l ∙ ap (λ (c : ℕ). men_over (has rest) (board_of p) c s) es
        ∙ men-same (has rest) (lifted (has occ) (king (board_of p) p.side))
        (λ u h. set-has _ er u h ∙ ap (λ (k : ℕ). has occ u && not (eqb u k)) ek) (board_of p) (1 - p.side) s)
        ∙ missed s (set-has _ em s l ∙ e) (sym (has-and strike own s) ∙ ap (λ (x : ℕ). has x s) z ∙ has-none s);
  }
    where
      missed : (s : ℕ) → has own s ≡ true → (has strike s && has own s) ≡ false → has strike s ≡ false
      missed s e q = sym (and-true (has strike s)) ∙ ap (λ (x : Bool). has strike s && x) (sym e) ∙ q

  -- the king: by one set of attacked squares
  module _ (rival reach free near r : ℕ) (ep : rival ≡ king (board_of p) foe) (eg : reach ≡ set_of (reaches (has 0) 5 at))
      (ef : free ≡ set_of (λ (u : ℕ). has reach u && not (has own u))) (en : near ≡ set_of (reaches (has 0) 5 rival))
      (e : r ≡ set_of (λ (u : ℕ). has free u && not (has (bit_or near strike) u))) where
    there : piece_of 5 p.side (king (board_of p) p.side) ∈ pieces (board_of p)
    unfolding board_of
    there = king-there (board_of p) w p.side w.side

    goes-king : (t : ℕ) → t < 64 → has reach t ≡ goes_over (has occ) (board_of p) at t
    unfolding board_of
    goes-king t h =
        let b = board_of p in
        let k = piece_of 5 p.side (king b p.side) in
        set-has _ eg t h ∙ king-reaches (has 0) (has occ) at t
        ∙ ap (λ (s : ℕ). reaches (has occ) 5 s t) ek
        ∙ sym (ap (λ (s : ℕ). goes_over (has occ) b s t) ek ∙ goes_one b w k there (has occ) t
        ∙ rw (eq-eqb p.side p.side refl) (goes-piece (has occ) k t refl))

    no-foe : has (set_of (stands (board_of p) foe)) at ≡ false
    unfolding board_of
    no-foe =
        let b = board_of p in
        let k = piece_of 5 p.side (king b p.side) in
        has-set_of (stands b foe) at (subst⁻¹ (λ (s : ℕ). s < 64) ek (w.on k there))
        ∙ ap₂ (stands b) es ek ∙ stands_one b w k there (1 - p.side)
        ∙ ne_eqb p.side (1 - p.side) (λ q. absurd (omega (arith, w.side)))

    pub king-in : r ≡ set_of (can_move (board_of p) (king (board_of p) p.side))
    unfolding board_of
    king-in =
        let b = board_of p in
        by-attacked p at occ reach own free eo goes-king em ef foe (set_of (stands b foe)) rest es refl no-foe er at
        (bit_or near strike) r ek refl
        (λ t h. has-or near strike t
        ∙ ap₂ ◌||◌ (set-has _ en t h ∙ ap (λ (s : ℕ). reaches (has 0) 5 s t) ep ∙ king-reaches (has 0) (has rest) (king b foe) t)
        (et t h) ∙ sym (attacked-parts b (has rest) foe (omega (arith, w.side, es)) t))
        e
        ∙ ap (λ (s : ℕ). set_of (can_move b s)) ek

-- ---- a man

goes-over : (b : Board) (occ : ℕ) → occ ≡ set_of (occupied b) → (from t : ℕ) → goes b from t ≡ goes_over (has occ) b from t
unfolding goes goes_over
goes-over b occ e from t = goes_same (occupied b) (has occ) (λ u h. sym (set-has _ e u h)) b from t

no-goer : (b : Board) (from t : ℕ) → goes b from t ≡ false → can_move b from t ≡ false
unfolding can_move
no-goer b from t e = rw e

-- nobody goes anywhere
nothing : (b : Board) (from r : ℕ) → r < 2 ^ 64 → ((t : ℕ) → t < 64 → has r t ≡ false)
    → ((t : ℕ) → t < 64 → can_move b from t ≡ false)
    → r ≡ set_of (can_move b from)
nothing b from r l e f = set_is (can_move b from) r l (λ t h. e t h ∙ sym (f t h))

module _ {p : Position} {occ own struck : ℕ} (v : Sight p occ own struck) where
  -- one who may not go
  idle : (m : Piece) → m ∈ (board_of p).men → (t : ℕ) → goes_by (has occ) p.side t m ≡ false
      → can_move (board_of p) m.square t ≡ false
  unfolding board_of
  idle m i t e =
      let b = board_of p in
      let g : goes b m.square t ≡ false = goes-over b occ v.occ-is m.square t
      ∙ goes_one b v.placed m (man-piece b i) (has occ) t ∙ e in
      no-goer b m.square t g

  off : (t : ℕ) → can_move (board_of p) 64 t ≡ false
  off t = fails (can_move (board_of p) 64 t) (λ h. absurd (omega (arith, (can-on (board_of p) 64 t h).0)))

  module _ (goes : ℕ) where
    -- none there, or none who may go
    pub man-none : (slot : Option Piece) → Held p slot
        → ((t : ℕ) → t < 64 → has goes t ≡ any (goes_by (has occ) p.side t) (slot_men slot))
        → goes ≡ 0 → 0 ≡ set_of (can_move (board_of p) (man_in slot).square)
    unfolding any
    man-none None i e z = nothing (board_of p) 64 0 (omega arith) (λ t h. has-none t) (λ t h. off t)
    man-none (Some m) i e z =
        nothing (board_of p) m.square 0 (omega arith) (λ t h. has-none t)
        (λ t h. idle m (i m refl) t
        (sym (or-false (goes_by (has occ) p.side t m)) ∙ sym (e t h) ∙ ap (λ (x : ℕ). has x t) z ∙ has-none t))

    module _ (z : struck ≡ 0) (r : ℕ) (er : r ≡ set_of (λ (u : ℕ). has goes u && not (has own u))) (l : r < 2 ^ 64) where
      -- one of the side to move, when no foe attacks him or his king
      goer : (m : Piece) → m ∈ (board_of p).men → m.colour ≡ p.side
          → ((t : ℕ) → t < 64 → has goes t ≡ goes_by (has occ) p.side t m)
          → r ≡ set_of (can_move (board_of p) m.square)
      unfolding board_of
      goer m i c e =
          let b = board_of p in
          let w = v.placed in
          let k = king b p.side in
          let j = man-piece b i in
          let there = king-there b w p.side w.side in
          let rest = set_of (λ (u : ℕ). has occ u && not (eqb u m.square)) in
          by-freedom p m.square occ goes own r v.occ-is (λ t h. e t h ∙ sym (goes_one b w m j (has occ) t))
          v.own_is er (1 - p.side) (set_of (stands b (1 - p.side))) rest refl refl
          (has-set_of (stands b (1 - p.side)) m.square (w.on m j) ∙ stands_one b w m j (1 - p.side)
          ∙ ne_eqb m.colour (1 - p.side) (λ q. absurd (omega (arith, w.side, c, q))))
          refl k refl (no-king b w m i p.side)
          (attacked-king b w.kings (has rest) p.side
          ∙ men-same (has rest) (lifted (has occ) m.square) (λ u h. has-set_of _ u h) b (1 - p.side) k
          ∙ men-free (has occ) (1 - p.side) k m.square b
          (v.quiet z k (w.on (piece_of 5 p.side k) there)
          (stands_one b w (piece_of 5 p.side k) there p.side ∙ eq-eqb p.side p.side refl))
          (v.quiet z m.square (w.on m j) (stands_one b w m j p.side ∙ eq-eqb m.colour p.side c)))
          l

      pub man-free : (slot : Option Piece) → Held p slot
          → ((t : ℕ) → t < 64 → has goes t ≡ any (goes_by (has occ) p.side t) (slot_men slot))
          → r ≡ set_of (can_move (board_of p) (man_in slot).square)
      unfolding any
      man-free None i e =
          nothing (board_of p) 64 r l (λ t h. set-has _ er t h ∙ ap (λ (x : Bool). x && not (has own t)) (e t h))
          (λ t h. off t)
      man-free (Some m) i e =
          let by : (t : ℕ) → t < 64 → has goes t ≡ goes_by (has occ) p.side t m =
          λ t h. e t h ∙ or-false (goes_by (has occ) p.side t m) in
          by-test (eqb m.colour p.side) (λ c. goer m (i m refl) (eqb→eq m.colour p.side c) by)
          (λ c. let other : (t : ℕ) → goes_by (has occ) p.side t m ≡ false =
          λ t. ap (λ (x : Bool). x && goes_to (has occ) m t) (fails (eqb m.colour p.side) c) in
          nothing (board_of p) m.square r l
          (λ t h. set-has _ er t h ∙ ap (λ (x : Bool). x && not (has own t)) (by t h ∙ other t))
          (λ t h. idle m (i m refl) t (other t)))

-- ---- check

-- where something stands a piece goes exactly if it attacks
goes-hits : (occ : ℕ → Bool) (a : Piece) (t : ℕ) → occ t ≡ true → goes_to occ a t ≡ attacks occ a t
unfolding goes_to attacks pawn_goes
goes-hits occ a t o =
    rw o (go (pawn a) (line occ (strides a.colour a.square) a.square 2 (forward a.colour) t)
    (pawn_hits occ a.colour a.square t))
  where
    go : (x l h : Bool)
        → cond x ((l && false) || (h && true)) (reaches occ a.kind a.square t)
        ≡ cond x h (reaches occ a.kind a.square t)
    go false l h = refl
    go true true true = refl
    go true true false = refl
    go true false true = refl
    go true false false = refl

module _ (p : Position) (w : Placed (board_of p)) (occ foe rival one two : ℕ) (eo : occ ≡ set_of (occupied (board_of p)))
    (es : foe ≡ 1 - p.side) (ep : rival ≡ king (board_of p) foe)
    (ea : (t : ℕ) → t < 64 → has one t ≡ any (goes_by (has occ) p.side t) (slot_men p.first))
    (ec : (t : ℕ) → t < 64 → has two t ≡ any (goes_by (has occ) p.side t) (slot_men p.second)) where
  rival-there : piece_of 5 foe rival ∈ pieces (board_of p)
  unfolding board_of
  rival-there = subst⁻¹ (λ (s : ℕ). piece_of 5 foe s ∈ pieces (board_of p)) ep
      (king-there (board_of p) w foe (omega (arith, w.side, es)))

  rival-on : rival < 64
  rival-on = w.on (piece_of 5 foe rival) rival-there

  rival-stands : has occ rival ≡ true
  unfolding occupied
  rival-stands = set-has _ eo rival rival-on
      ∙ true_of (any-in (λ m. eqb rival m.square) rival-there (eqb_refl rival))

  by-goers : any (goes_by (has occ) p.side rival) (board_of p).men ≡ men_over (has occ) (board_of p) p.side rival
  unfolding men_over
  by-goers =
      any_same (goes_by (has occ) p.side rival) (strikes (has occ) p.side rival) (board_of p).men
      (λ m i. ap (λ (x : Bool). eqb m.colour p.side && x) (goes-hits (has occ) m rival rival-stands))

  pub check-found : has (bit_or one two) rival ≡ in_check (board_of p) (1 - p.side)
  unfolding board_of
  check-found =
      let b = board_of p in
      let back : p.side ≡ 1 - (1 - p.side) = omega (arith, w.side) in
      has-or one two rival
      ∙ ap₂ ◌||◌ (ea rival rival-on) (ec rival rival-on)
      ∙ sym (any_append (goes_by (has occ) p.side rival) (slot_men p.first) (slot_men p.second))
      ∙ by-goers
      ∙ men-same (has occ) (occupied b) (set-has _ eo) b p.side rival
      ∙ ap₂ (men_over (occupied b) b) back (ep ∙ ap (king b) es)
      ∙ sym (check-men b w.kings (1 - p.side))

-- ---- nobody of the side to move on a square

pub nobody-moves : (p : Position) (from : ℕ) → (from ≡ king (board_of p) p.side → ⊥)
    → (from ≡ (man_in p.first).square → ⊥) → (from ≡ (man_in p.second).square → ⊥)
    → 0 ≡ set_of (can_move (board_of p) from)
unfolding board_of
nobody-moves p from nk nf ns =
    set_is (can_move (board_of p) from) 0 (omega arith)
    (λ t h. has-none t ∙ sym (fails (can_move (board_of p) from t)
    (λ c. let f = can-facts (board_of p) from t c in who f.piece f.there f.own f.at)))
  where
    man : (x : Piece) (f s : Option Piece) → (from ≡ (man_in f).square → ⊥) → (from ≡ (man_in s).square → ⊥)
        → x ∈ slot_men f ++ slot_men s → x.square ≡ from → ⊥
    man x (Some m) s n k (Memᴰ.head e) q = n (sym q ∙ ap (λ (y : Piece). y.square) e)
    man x (Some m) (Some y) n k (Memᴰ.tail (Memᴰ.head e)) q = k (sym q ∙ ap (λ (y : Piece). y.square) e)
    man x None (Some m) n k (Memᴰ.head e) q = k (sym q ∙ ap (λ (y : Piece). y.square) e)
    man x None None n k i q = elim i [ ]
    man x None (Some m) n k (Memᴰ.tail i) q = elim i [ ]
    man x (Some m) None n k (Memᴰ.tail i) q = elim i [ ]
    man x (Some m) (Some y) n k (Memᴰ.tail (Memᴰ.tail i)) q = elim i [ ]

    who : (x : Piece) → x ∈ pieces (board_of p) → x.colour ≡ p.side → x.square ≡ from → ⊥
    who x (Memᴰ.head e) c q =
        nk (sym q ∙ ap (λ (y : Piece). y.square) e
        ∙ ap (λ (s : ℕ). king (board_of p) s) (sym (ap (λ (y : Piece). y.colour) e) ∙ c))
    who x (Memᴰ.tail (Memᴰ.head e)) c q =
        nk (sym q ∙ ap (λ (y : Piece). y.square) e
        ∙ ap (λ (s : ℕ). king (board_of p) s) (sym (ap (λ (y : Piece). y.colour) e) ∙ c))
    who x (Memᴰ.tail (Memᴰ.tail i)) c q = man x p.first p.second nf ns i q
