-- 01's positions to keep by the bench, those marked to be shown of the definitions: one list, one claim.
use Rattle.std.specs.Prelude.{◌≡◌, refl, ℕ, ◌<◌, Err, Ok}
use Rattle.std.proofs.Common.{subst, sym, ⊎_elim, arith, lit<}
use mathlib.Core.List.Memᴰ
use mathlib.Core.List.{List, [], ◌∷◌, flat_map}
use Rattle.finite.specs.Members.{◌∈◌, any, all}
use Rattle.finite.specs.Filter.{filter}
use Rattle.finite.specs.Numbers.{numbers}
use Rattle.finite.specs.Ranked.{rank}
use Rattle.theory.specs.Value.{LostIn, Drawn}
use Rattle.theory.proofs.laws.Depth.{mate-is, stuck-drawn}
use Rattle.board.specs.Square.{stays, shift}
use Rattle.board.specs.Reach.{line, reaches}
use Rattle.board.specs.Sets.{squares}
use Rattle.symmetry.specs.Symmetry.{mapped}
use Rattle.rules.specs.Rules.{occupied, attacks, attacked, in_check, apart, touching, stands, goes_to, goes, moved, can_move, moves_onto, moves_from, all_moves, moves, mated}
use Rattle.rules.specs.Changed.{other, swapped, changed}
use Rattle.rules.specs.Reordered.{crossed}
use Rattle.rules.specs.Chess.{chess}
use Rattle.numbering.specs.Kings.{cornered, separate, king_rule, king_pair, pair_of}
use Rattle.numbering.specs.Normal.{turn, swaps_kings}
use Rattle.numbering.specs.KingMaps.{king_map}
use Rattle.numbering.specs.Keys.{key_from, key_of}
use Rattle.numbering.specs.Men.{exchangeable, crosses, first_black, like, falling, ordered, prefers}
use Rattle.numbering.specs.Change.{changed_by}
use Rattle.numbering.specs.Number.{arranged, ruling_map, ruling_order, normalised, number_of}
use Rattle.position.specs.declared.Position.{Position}
use Rattle.position.specs.Keyed.{board_of, lone}
use Rattle.position.specs.Refusals.{bad_side, bad_square, bad_pawn, shared_square, placing_refusal, standing_refusal}
use Rattle.index.specs.Answers.{number_answer, position_at, unused, placed_at}
use Rattle.index.proofs.laws.AnswerLaws.{placed-above, placed-unused, placed-used}
use Rattle.endings.specs.Ending.{table_size}
use Rattle.endings.proofs.laws.LastNumbers.{corner-kings, last-kings, last-unused}

pub data Case : Type 0 where
  has-number : Position → ℕ → Case
  refused : Position → ℕ → Case
  back-refused : ℕ → ℕ → Case
  highest-used : ℕ → Case
  lost-in-0 : Position → Case
  drawn-no-move : Position → Case

-- What a case says. A number is spoken of with any man.
abbrev pub CaseHolds : Case → Type 0
CaseHolds (has-number p n) = number_answer p ≡ Ok n
CaseHolds (refused p r) = number_answer p ≡ Err r
CaseHolds (back-refused n r) = (kind : ℕ) → kind < 4 → placed_at kind n ≡ Err r
CaseHolds (highest-used n) =
    (kind : ℕ) → kind < 4
    → (placed_at kind n ≡ Ok (position_at kind n))
    × ((k : ℕ) → n < k → k < table_size → placed_at kind k ≡ Err 9)
CaseHolds (lost-in-0 p) = (standing_refusal p ≡ 0) × LostIn chess 0 (board_of p) × (moves (board_of p) ≡ [])
CaseHolds (drawn-no-move p) = (standing_refusal p ≡ 0) × Drawn chess (board_of p) × (moves (board_of p) ≡ [])

-- a man by his kind, the side to move, the white king's square, the man's, the black king's
abbrev pub starred : List Case
starred =
    has-number (lone 0 0 0 1 63) 2049  -- Ka1 Qb1, Kh8
    ∷ has-number (lone 0 0 63 55 0) 2049  -- Kh8 Qh7, Ka1
    ∷ has-number (lone 0 0 0 63 2) 63  -- Ka1 Qh8, Kc1
    ∷ back-refused 2056 9
    ∷ highest-used 59127
    ∷ back-refused 59128 9
    ∷ back-refused 59136 8
    ∷ refused (lone 0 0 0 63 9) 5  -- kings on a1 and b2
    ∷ lost-in-0 (lone 1 1 16 7 0)  -- Ka3 Rh1, Ka1
    ∷ lost-in-0 (lone 0 1 17 9 0)  -- Kb3 Qb2, Ka1
    ∷ drawn-no-move (lone 0 1 36 17 0)  -- Ke5 Qb3, Ka1
    ∷ []

data AllHold : List Case → Type 0 where
  no_more : AllHold []
  also : {c : Case} {l : List Case} → CaseHolds c → AllHold l → AllHold (c ∷ l)

each : {l : List Case} → AllHold l → (c : Case) → c ∈ l → CaseHolds c
each no_more c m = absurd (Memᴰ.not-nil m)
each (also h rest) c m = ⊎_elim (λ e. subst CaseHolds (sym e) h) (each rest c) (Memᴰ.cases_cons m)

pub bench : (c : Case) → c ∈ starred → CaseHolds c
unfolding number_answer number_of key_of key_from normalised arranged ruling_map ruling_order changed_by crossed exchangeable crosses first_black like falling ordered prefers king_map turn swaps_kings bad_side changed swapped other mapped board_of bad_square bad_pawn shared_square placing_refusal standing_refusal apart position_at unused pair_of rank king_pair king_rule cornered separate reaches any all numbers line shift stays touching mated moves all_moves moves_from moves_onto flat_map filter squares can_move goes goes_to stands moved in_check attacked attacks occupied
bench =
    each
    (also refl
    (also refl
    (also refl
    (also (λ kind h. placed-unused kind 2056 h (lit< tt) (rw corner-kings refl))
    (also (λ kind
    h. (
      placed-used kind 59127 h (lit< tt) (rw last-kings refl),
      λ k a b. placed-unused kind k h b (last-unused kind k a b),
    ))
    (also (λ kind h. placed-unused kind 59128 h (lit< tt) (rw last-kings refl))
    (also (λ kind h. placed-above kind 59136 h (omega arith))
    (also refl
    (also (refl, (mate-is chess (board_of (lone 1 1 16 7 0))).1 tt, refl)
    (also (refl, (mate-is chess (board_of (lone 0 1 17 9 0))).1 tt, refl)
    (also (refl, stuck-drawn chess (board_of (lone 0 1 36 17 0)) refl tt, refl)
    no_more)))))))))))
