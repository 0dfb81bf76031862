-- The moves to some targets, by the sets of the squares where a move takes and where it promotes: stored one target at a
-- time, and how many they are.
use Rattle.std.specs.Prelude.{◌≡◌, Bool, ◌&&◌}
use Rattle.std.proofs.Math.Path.{refl, sym, ap, ap₂}
use Rattle.std.proofs.Common.{◌∙◌, arith, length-append}
use Rattle.std.proofs.Math.Bool.{true, false, cond}
use mathlib.Core.List.Memᴰ
use mathlib.Core.List.{List, [], ◌∷◌, ◌++◌, map, flat_map}
use Prim.Native.Nat.{ℕ, suc, ◌+◌, ◌*◌, ◌≤◌, ◌<◌}
use Rattle.std.specs.Int.Bits.{bit_and}
use Rattle.std.proofs.Math.ListN.{length}
use Rattle.finite.specs.Members.{◌∈◌}
use Rattle.finite.specs.Filter.{filter, keep, filter_same}
use Rattle.board.specs.Sets.{has, squares, members, set_of}
use Rattle.board.proofs.laws.SetLaws.{has-and, set-has, squares-out, members-out}
use Rattle.board.proofs.laws.LowestLaws.{Lowest}
use Rattle.rules.specs.declared.Move.{Move}
use Rattle.rules.specs.Rules.{Board, taking, promotion_of, move_of, move_on, promotes, moves_to, moves_onto}
use Rattle.rules.proofs.laws.MoveLists.{onto-none, onto-next}
use Rattle.move_list.specs.declared.MoveList.{MoveList}
use Rattle.move_list.specs.Lists.{room}
use Rattle.move_list.specs.ListLaws.{appended, target_moves, targets_moves}
use Rattle.move_list.proofs.laws.ListLaws.{Rest, rest-room, rest-next}

flat_map-same : (f g : ℕ → List Move) (l : List ℕ) → ((x : ℕ) → x ∈ l → f x ≡ g x) → flat_map f l ≡ flat_map g l
unfolding flat_map
flat_map-same f g [] e = refl
flat_map-same f g (x ∷ l) e =
    ap₂ ◌++◌ (e x (Memᴰ.head refl)) (flat_map-same f g l (λ y m. e y (Memᴰ.tail m)))

module _ (foes ends from : ℕ) where
  pub targets-end : (rest : ℕ) → members rest ≡ [] → targets_moves foes ends from (members rest) ≡ []
  unfolding targets_moves flat_map
  targets-end rest z = rw z

  module _ (rest to others : ℕ) (low : Lowest rest to others) where
    pub targets_next : targets_moves foes ends from (members rest)
        ≡ target_moves foes ends from to ++ targets_moves foes ends from (members others)
    unfolding targets_moves flat_map
    targets_next = rw low.first

    -- a list to which the moves to the squares of `rest` are still to be added: those to the lowest of them are
    module _ (l k : MoveList) (ms : List Move) (r : Rest l k ms (targets_moves foes ends from (members rest)))
        (takes end : Bool) (et : takes ≡ has foes to) (ee : end ≡ has ends to) where
      abbrev Added : MoveList → Type 0
      Added k' = Rest l k' ms (targets_moves foes ends from (members others))

      -- four promotions
      module _ (h : end ≡ true) where
        four : targets_moves foes ends from (members rest)
            ≡ map (promotion_of from to takes) (1 ∷ 2 ∷ 3 ∷ 4 ∷ []) ++ targets_moves foes ends from (members others)
        four = targets_next ∙ rw (sym ee ∙ h, et)

        pub promotes-room : k.count + 4 ≤ room
        promotes-room = rest-room l k ms _ (map (promotion_of from to takes) (1 ∷ 2 ∷ 3 ∷ 4 ∷ [])) _ r four

        pub promotes-next : (k' : MoveList) → k' ≡ appended k (map (promotion_of from to takes) (1 ∷ 2 ∷ 3 ∷ 4 ∷ []))
            → Added k'
        promotes-next k' q = rest-next l k ms _ (map (promotion_of from to takes) (1 ∷ 2 ∷ 3 ∷ 4 ∷ [])) _ r four k' q

      -- one move
      module _ (h : end ≡ false) where
        single : targets_moves foes ends from (members rest)
            ≡ (move_of from to takes ∷ []) ++ targets_moves foes ends from (members others)
        single = targets_next ∙ rw (sym ee ∙ h, et)

        pub plain-room : k.count < room
        plain-room =
            let h = rest-room l k ms (targets_moves foes ends from (members rest)) (move_of from to takes ∷ [])
            (targets_moves foes ends from (members others)) r single in omega (arith, h)

        pub plain-next : (k' : MoveList) (m : Move) → m ≡ move_of from to takes → k' ≡ appended k (m ∷ []) → Added k'
        plain-next k' m q e = rest-next l k ms _ (move_of from to takes ∷ []) _ r single k' (e ∙ ap (λ (v : Move). appended k (v ∷ [])) q)

  module _ (b : Board) (ef : foes ≡ set_of (taking b)) (ee : ends ≡ set_of (promotes b from)) (targets : ℕ) where
    pub by-sets : targets_moves foes ends from (members targets) ≡ moves_onto b from (members targets)
    unfolding targets_moves moves_onto
    by-sets = flat_map-same (target_moves foes ends from) (moves_to b from) (members targets)
        (λ t m. let h = (members-out targets t m).0 in
        ap₂ (λ (p k : Bool). cond p (map (promotion_of from t k) (1 ∷ 2 ∷ 3 ∷ 4 ∷ [])) (move_of from t k ∷ []))
        (set-has (promotes b from) ee t h) (set-has (taking b) ef t h))

-- ---- how many: one a target, and three more where it promotes

module _ (b : Board) (from : ℕ) where
  onto-count : (ts : List ℕ) → length (moves_onto b from ts) ≡ length ts + 3 * length (filter (promotes b from) ts)
  unfolding filter
  onto-count [] = rw (onto-none b from)
  onto-count (t ∷ ts) = rw (onto-next b from t ts, length-append) (go (promotes b from t) (onto-count ts))
    where
      go : (x : Bool) → length (moves_onto b from ts) ≡ length ts + 3 * length (filter (promotes b from) ts)
          → length (cond x (map (promotion_of from t (taking b t)) (1 ∷ 2 ∷ 3 ∷ 4 ∷ [])) (move_on b from t ∷ []))
          + length (moves_onto b from ts)
          ≡ suc (length ts) + 3 * length (keep x t (filter (promotes b from) ts))
      go true e = omega (arith, e)
      go false e = omega (arith, e)

  filter-twice : (p q : ℕ → Bool) (ts : List ℕ) → filter q (filter p ts) ≡ filter (λ t. p t && q t) ts
  unfolding filter
  filter-twice p q [] = refl
  filter-twice p q (t ∷ ts) = go (p t) (filter-twice p q ts)
    where
      go : (x : Bool) → filter q (filter p ts) ≡ filter (λ t. p t && q t) ts
          → filter q (keep x t (filter p ts)) ≡ keep (x && q t) t (filter (λ t. p t && q t) ts)
      go true e = rw e
      go false e = e

  pub sets-count : (targets ends : ℕ) → ends ≡ set_of (promotes b from)
      → length (moves_onto b from (members targets)) ≡ length (members targets) + 3 * length (members (bit_and targets ends))
  unfolding members
  sets-count targets ends e =
      onto-count (members targets)
      ∙ ap (λ (l : List ℕ). length (members targets) + 3 * length l)
      (filter-twice (has targets) (promotes b from) squares
      ∙ filter_same (λ t. has targets t && promotes b from t) (has (bit_and targets ends)) squares
      (λ t m. sym (has-and targets ends t ∙ ap (λ (x : Bool). has targets t && x)
      (set-has (promotes b from) e t (squares-out t m)))))
