-- The byte of a board through an ending's table and the lent ones, and a byte compared with those of a board's
-- successors, for one man and for two. Definitions only.
use Rattle.std.specs.Prelude.{◌≡◌, Bool, true, false, cond, not, ◌&&◌, ◌||◌, List, ℕ, ◌≤◌, ◌<◌, T, eqb, leb, ltb, Option, Some, None}
use Rattle.std.proofs.Math.Option as maybe
use Rattle.std.specs.Int.Bits.{bit_or}
use Rattle.finite.specs.Members.{any, first}
use Rattle.theory.specs.Required.{required_at}
use Rattle.theory.specs.Play.{suits}
use Rattle.theory.specs.Judge.{refutes}
use Rattle.table_theory.specs.Tables.{reads}
use Rattle.board.specs.Sets.{members, lowest_square, set_of}
use Rattle.rules.specs.declared.Move.{Move}
use Rattle.rules.specs.Rules.{Board, in_check, moved, can_move, moves}
use Rattle.rules.specs.Chess.{chess, played}
use Rattle.numbering.specs.Keys.{board_at}
use Rattle.numbering.specs.Material.{known, men_of}
use Rattle.position.specs.declared.Men.{Men}
use Rattle.position.specs.declared.Place.{Place}
use Rattle.position.specs.Posed.{board_in, material_for, Complete}
use Rattle.movegen.specs.declared.Reach.{Reach}
use Rattle.endings.specs.Answers.{advice_of}
use Rattle.four_men.specs.Reading.{legal_number_of, numbered}
use Rattle.successors.specs.declared.Seen.{Seen}
use Rattle.successors.specs.declared.Verdict.{Verdict}
use Rattle.successors.specs.declared.Weighed.{Weighed}

-- the byte of a board of the ending, and of what its captures leave: in its own table, and in the lent ones
abbrev pub bytes_in : Men → List ℕ → List ℕ → List ℕ → Board → ℕ
bytes_in m first second table = reads chess (numbered (material_for m) (record { first = first; second = second })) table

-- ---- places

-- no king moves from this square, and the men who then stand on x and y are all there
abbrev pub framed_after : Men → Place → ℕ → ℕ → ℕ → Bool
framed_after m q from x y =
    not (eqb q.white from || eqb q.black from) && (ltb x 64 && (leb 4 m.second || ltb y 64))

-- the king's square of the side to move
abbrev pub king_at : Place → ℕ
king_at q = cond (eqb q.side 0) q.white q.black

-- what is left of an ending's men, kings and men on the board
pub record Remains (m : Men) (q : Place) : Type 0 where
  pub ending : T (known (material_for m))
  pub colour : m.colour < 2
  pub side : q.side < 2
  pub white : q.white < 64
  pub black : q.black < 64
  pub alone : 4 ≤ m.second → 64 ≤ q.second

-- the legal targets of each piece of the side to move
pub record Reaches (m : Men) (q : Place) (r : Reach) : Type 0 where
  pub king : r.king ≡ set_of (can_move (board_in m q) (king_at q))
  pub first : r.first ≡ set_of (can_move (board_in m q) q.first)
  pub second : r.second ≡ set_of (can_move (board_in m q) q.second)

-- ---- a byte compared with successors' bytes

-- moves from a square to the targets that pass a test: those whose bytes suit byte c, unless one refutes it
unfoldable pub sifted_by : (Board → ℕ) → ℕ → Board → ℕ → (ℕ → Bool) → Option ℕ
sifted_by byte c b from goes =
    cond (any (λ t. refutes c (byte (moved b from t))) (members (set_of goes))) None
    (Some (set_of (λ t. goes t && suits c (byte (moved b from t)))))

-- all the legal ones
abbrev pub sifted_from : (Board → ℕ) → ℕ → Board → ℕ → Option ℕ
sifted_from byte c b from = sifted_by byte c b from (can_move b from)

-- what other moves of the piece tell, beside the targets already found
abbrev pub alongside : ℕ → Option ℕ → Option ℕ
alongside found None = None
alongside found (Some more) = Some (bit_or found more)

-- those of three pieces together
abbrev pub joined : Option ℕ → Option ℕ → Option ℕ → Option Reach
joined None y z = None
joined (Some a) None z = None
joined (Some a) (Some b) None = None
joined (Some a) (Some b) (Some c) = Some (record { king = a; first = b; second = c })

unfoldable pub judged_from : (Board → ℕ) → ℕ → Board → ℕ → ℕ → ℕ → Option Reach
judged_from byte c b king first second =
    joined (sifted_from byte c b king) (sifted_from byte c b first) (sifted_from byte c b second)

-- ---- the first suiting move

unfoldable pub seen_from : ℕ → ℕ → Seen
seen_from from set = cond (eqb set 0) (record { from = 64; to = 64 }) (record { from = from; to = lowest_square set })

unfoldable pub earlier : Seen → Seen → Seen
earlier a b = cond (ltb b.from a.from) b a

unfoldable pub seen_in : ℕ → ℕ → ℕ → Reach → Seen
seen_in king first second sets =
    earlier (earlier (seen_from king sets.king) (seen_from first sets.first)) (seen_from second sets.second)

-- the first move to a byte that suits byte c
unfoldable pub suited_from : (Board → ℕ) → ℕ → Board → maybe.Option Move
suited_from byte c b = first (λ m. suits c (byte (played b m))) (moves b)

-- ---- the verdict

-- byte c is the one required, and what it advises; or it is wrong
unfoldable pub verdict_of : (Board → ℕ) → ℕ → Board → Verdict
verdict_of byte c b =
    cond (eqb c (required_at chess byte b)) (Verdict.Right (advice_of (suited_from byte c b))) Verdict.Wrong

-- no piece has a target
abbrev pub no_targets : Reach → Bool
no_targets r = eqb r.king 0 && (eqb r.first 0 && eqb r.second 0)

-- with no move left the byte is 2 in check, which is mate, and 1 otherwise, which is stalemate
unfoldable pub end_verdict : ℕ → Board → Verdict
end_verdict c b = cond (eqb c (cond (in_check b b.side) 2 1)) (Verdict.Right None) Verdict.Wrong

unfoldable pub over_of : ℕ → Reach → Board → Verdict
over_of c r b = cond (no_targets r) (end_verdict c b) Verdict.Wrong

-- ---- a byte weighed

-- no byte suits, and what the pieces' targets are
pub record NoneSuits (m : Men) (q : Place) (byte : Board → ℕ) (c : ℕ) (stuck : Bool) : Type 0 where
  pub sets : Reach
  pub found : judged_from byte c (board_in m q) (king_at q) q.first q.second ≡ Some sets
  pub unseen : 64 ≤ (seen_in (king_at q) q.first q.second sets).from
  pub reach : Reach
  pub reaches : Reaches m q reach
  pub targets : no_targets reach ≡ stuck

-- the first of the moves whose bytes suit
pub record OneSuits (m : Men) (q : Place) (byte : Board → ℕ) (c : ℕ) (s : Seen) : Type 0 where
  pub sets : Reach
  pub found : judged_from byte c (board_in m q) (king_at q) q.first q.second ≡ Some sets
  pub seen : s ≡ seen_in (king_at q) q.first q.second sets
  pub on : s.from < 64

abbrev pub Weighs : Men → Place → (Board → ℕ) → ℕ → Weighed → Type 0
Weighs m q byte c Weighed.Refuted =
    judged_from byte c (board_in m q) (king_at q) q.first q.second ≡ None
Weighs m q byte c Weighed.Unmet = NoneSuits m q byte c false
Weighs m q byte c Weighed.Stuck = NoneSuits m q byte c true
Weighs m q byte c (Weighed.Met s) = OneSuits m q byte c s

-- ---- what stands at a number

abbrev pub StandingAt : Men → ℕ → Option Place → Type 0
StandingAt m n None = legal_number_of (material_for m) n ≡ false
StandingAt m n (Some q) =
    (legal_number_of (material_for m) n ≡ true) × Complete m q × (board_in m q ≡ board_at (men_of (material_for m)) n)
