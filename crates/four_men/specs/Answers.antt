-- What checking, filling and looking up answer for one man and for two (02, P10). Definitions only.
use Rattle.std.specs.Prelude.{Bool, true, false, cond, not, ◌&&◌, List, [], ◌∷◌, ℕ, ◌*◌, ltb, eqb, length, Err, Ok, Result}
use Rattle.finite.specs.Lowest.{lowest}
use Rattle.finite.specs.Members.{all}
use Rattle.theory.specs.Required.{required_at}
use Rattle.table_theory.specs.Tables.{reads, wrong_at}
use Rattle.table_theory.specs.Lending.{filled_until}
use Rattle.rules.specs.Chess.{chess}
use Rattle.position.specs.declared.Position.{Position}
use Rattle.position.specs.Keyed.{board_of}
use Rattle.answers.specs.declared.Answer.{Answer}
use Rattle.answers.specs.declared.Checked.{Checked}
use Rattle.endings.specs.Ending.{table_size}
use Rattle.endings.specs.Answers.{check_of, result_of, Fill, answer_of, chosen_by}
use Rattle.numbering.specs.declared.Material.{Material}
use Rattle.numbering.specs.Material.{given, material_in, large_size, size_of}
use Rattle.pawn_numbers.specs.PawnNumber.{pawn_size}
use Rattle.four_men.specs.Lending.{Lent, part_of, borrowed}
use Rattle.four_men.specs.Reading.{numbered, holds_depth}
use Rattle.position.specs.Refusals.{standing_with}
use Rattle.index.specs.Endings.{normal_in, map_in}

-- 7 reads every length: "the new sizes, 7 the small tables' too"
abbrev pub lengths_fit : Material → Lent → List ℕ → Bool
lengths_fit (Material.One kind) l t = eqb (length t) table_size
lengths_fit (Material.Two first second rivals) l t =
    eqb (length t) large_size && (eqb (length l.first) table_size && eqb (length l.second) table_size)
lengths_fit Material.Pawn l t = eqb (length t) pawn_size && eqb (length l.first) (4 * table_size)

abbrev pub accepts : Result Checked ℕ → Bool
accepts (Ok Checked.Accepted) = true
accepts (Ok (Checked.Wrong n)) = false
accepts (Err n) = false

-- the four small tables are accepted, each for its kind
abbrev pub parts_accepted : List ℕ → Bool
parts_accepted run = all (λ kind. accepts (check_of kind (part_of kind run))) (0 ∷ 1 ∷ 2 ∷ 3 ∷ [])

-- 17 is its failure: each lent table is accepted by the checker, the first for the first man's kind and the second for
-- the second's; a pawn's four for Q, R, B, N
abbrev pub lent_accepted : Material → Lent → Bool
lent_accepted (Material.One kind) l = true
lent_accepted (Material.Two first second rivals) l = accepts (check_of first l.first) && accepts (check_of second l.second)
lent_accepted Material.Pawn l = parts_accepted l.first

-- ---- checking: refusals 1, 7, 17

unfoldable pub check_with : Material → Lent → List ℕ → Result Checked ℕ
check_with m l t =
    cond (not (given m)) (Err 1)
    (cond (not (lengths_fit m l t)) (Err 7)
    (cond (not (lent_accepted m l)) (Err 17)
    (let low = lowest (wrong_at chess (numbered m l) t) (size_of m) in
    cond (ltb low (size_of m)) (Ok (Checked.Wrong low)) (Ok Checked.Accepted))))

-- ---- filling: refusals 1, 7, 17, 10; "the large table stays as it was"

unfoldable pub fill_with : Material → Lent → List ℕ → Fill
fill_with m l t =
    cond (not (given m)) (record { answer = Err 1; bytes = t })
    (cond (not (lengths_fit m l t)) (record { answer = Err 7; bytes = t })
    (cond (not (lent_accepted m l)) (record { answer = Err 17; bytes = t })
    (let o = filled_until chess (numbered m l) (holds_depth (borrowed m l)) t in
    record { answer = result_of o.result; bytes = o.bytes })))

-- ---- looking up: refusals 1 to 7, 11 by what all the tables require; t is the table of the position's own ending

unfoldable pub look_up_with : Lent → List ℕ → Position → Result Answer ℕ
look_up_with l t p =
    let b = board_of p in
    let m = material_in b.men in
    let bytes = reads chess (numbered m l) t in
    cond (not (eqb (standing_with p) 0)) (Err (standing_with p))
    (cond (not (lengths_fit m l t)) (Err 7)
    (cond (not (eqb (bytes b) (required_at chess bytes b))) (Err 11)
    (answer_of (bytes b) (chosen_by (map_in m) (normal_in m) bytes b))))
