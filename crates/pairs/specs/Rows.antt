-- The pair of two kings by rows of bits, a second way to it beside the list of 640 entries. Definitions only.
use Rattle.std.specs.Prelude.{cond, ℕ, ◌+◌, ◌/◌, ◌%◌, ◌^◌, eqb}
use Rattle.std.specs.Int.Count.{ones_in}

-- for each of the ten squares of the white king, the set of the black king's squares that form a pair with his
unfoldable pub partners_of : ℕ → ℕ
partners_of white =
    cond (eqb white 0) 9277662557957324028
    (cond (eqb white 1) 18446744073709549816
    (cond (eqb white 2) 18446744073709548017
    (cond (eqb white 3) 18446744073709544419
    (cond (eqb white 9) 9277662557957060856
    (cond (eqb white 10) 18446744073708630513
    (cond (eqb white 11) 18446744073707709411
    (cond (eqb white 18) 9277662557822316799
    (cond (eqb white 19) 18446744073237947391
    (cond (eqb white 27) 9277662488833359615 0)))))))))

-- and the first of these pairs (01's table)
unfoldable pub first_of : ℕ → ℕ
first_of white =
    cond (eqb white 0) 0
    (cond (eqb white 1) 33
    (cond (eqb white 2) 91
    (cond (eqb white 3) 149
    (cond (eqb white 9) 207
    (cond (eqb white 10) 237
    (cond (eqb white 11) 292
    (cond (eqb white 18) 347
    (cond (eqb white 19) 377
    (cond (eqb white 27) 432 0)))))))))

-- the pair of a white square and a black one on the board, counted from the first of its row; 65535 where they form none
unfoldable pub pair_by_row : ℕ → ℕ → ℕ
pair_by_row white black = cond (eqb (partners_of white / 2 ^ black % 2) 0) 65535 (first_of white + ones_in 64 (partners_of white % 2 ^ black))
