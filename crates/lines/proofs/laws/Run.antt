-- Lines and their requests, computed from the definitions.
use Rattle.std.specs.Prelude.{◌≡◌, refl, List, [], ◌∷◌, map, ℕ, Err, Ok, Result}
use Rattle.ascii.specs.Bytes.{bytes}
use Rattle.check_digits.specs.Check.{right_number}
use Rattle.position.specs.Keyed.{one_man, lone}
use Rattle.lines.specs.declared.Request.{Request}
use Rattle.lines.specs.Grammar.{request_of, keyed_of, number_request, five_digits, typed_check, seven_digits, has_shape, fits_place, kind_named, as_white, colour_of, side_of, square_named, digit_of}

abbrev pub at : ℕ → ℕ → ℕ → ℕ → ℕ → Result Request ℕ
at kind side white square black = Ok (Request.LookUp (lone kind side white square black))

-- the lines of 01's run, as 02 changes it
unfoldable pub run_lines : List (List ℕ)
run_lines = map bytes
    ("Q w b3 h2 a1" ∷ "Q b b3 b2 a1" ∷ "Q b e5 b3 a1" ∷ "Q b h8 b2 a1" ∷ "Q w b3 b2 a1" ∷ "P w b3 h2 a1" ∷ "Q w b3 h2"
    ∷ "Q # 0204962" ∷ [])

pub run : map request_of run_lines ≡ (at 0 0 17 15 0 ∷ at 0 1 17 9 0 ∷ at 0 1 36 17 0 ∷ at 0 1 63 9 0 ∷ at 0 0 17 9
    0 ∷ at 4 0 17 15 0 ∷ (Err 12) ∷ (Ok (Request.Back 0 2049)) ∷ [])
unfolding run_lines request_of keyed_of number_request five_digits typed_check seven_digits right_number has_shape fits_place kind_named as_white colour_of side_of square_named digit_of
run = refl

-- Lines at the edges: shape comes first; a wrong byte is a part out of range. In turn: empty; a space for the man; a space for the side; `#`
-- for the side; a wrong man and side; a wrong side and file; a rank 9; a tab for a space; a carriage return at the end.
unfoldable pub edge_lines : List (List ℕ)
edge_lines = map bytes
    ("" ∷ "  w b3 h2 a1" ∷ "Q   b3 h2 a1" ∷ "Q # b3 h2 a1" ∷ "P x b3 h2 a1" ∷ "Q x z3 h2 a1" ∷ "Q w b9 h2 a1"
    ∷ "Q\tw b3 h2 a1" ∷ "Q w b3 h2 a1\r" ∷ [])

pub edges : map request_of edge_lines ≡ ((Err 12) ∷ (Err 12) ∷ (Err 12) ∷ at 0 2 17 15
    0 ∷ at 4 2 17 15 0 ∷ at 0 2 64 15 0 ∷ at 0 0 64 15 0 ∷ (Err 12) ∷ (Err 12) ∷ [])
unfolding edge_lines request_of keyed_of number_request five_digits typed_check seven_digits right_number has_shape fits_place kind_named as_white colour_of side_of square_named digit_of
edges = refl

-- Black's man: "On a position line `q r b n` mean Black's man" (02, P9), and no other letter does.
abbrev pub black_at : ℕ → ℕ → ℕ → ℕ → ℕ → Result Request ℕ
black_at kind side white square black = Ok (Request.LookUp (one_man kind 1 side white square black))

unfoldable pub black_lines : List (List ℕ)
black_lines =
    map bytes ("q b a1 h2 b3" ∷ "r w a1 h2 b3" ∷ "b w a1 h2 b3" ∷ "n b a1 h2 b3" ∷ "p b a1 h2 b3" ∷ "k b a1 h2 b3" ∷ [])

pub blacks : map request_of black_lines ≡ (black_at 0 1 0 15 17 ∷ black_at 1 0 0 15 17 ∷ black_at 2 0 0 15 17 ∷ black_at 3 1
    0 15 17 ∷ at 4 1 0 15 17 ∷ at 4 1 0 15 17 ∷ [])
unfolding black_lines request_of keyed_of number_request five_digits typed_check seven_digits right_number has_shape fits_place kind_named as_white colour_of side_of square_named digit_of
blacks = refl

-- Numbers as typed. Of the wrong shape: the old nine bytes, ten, twelve; no `#`; a letter among the digits; a letter and a wrong man; a space
-- among them.
unfoldable pub shapeless_lines : List (List ℕ)
shapeless_lines =
    map bytes
    ("Q # 02049" ∷ "Q # 020496" ∷ "Q # 02049620" ∷ "Q w 0204962" ∷ "Q # 020496x" ∷ "P # 020496x" ∷ "Q # 0 04962" ∷ [])

pub shapeless : map request_of shapeless_lines ≡ map (λ line. (Err 12)) shapeless_lines
unfolding shapeless_lines request_of keyed_of number_request five_digits typed_check seven_digits right_number has_shape fits_place kind_named as_white colour_of side_of square_named digit_of
shapeless = refl

-- With a wrong check: "A clerk typed 02094 for 02049"; the same with a wrong man and with Black's; 00, 01 and 99, which leave 1 too, for 97, 98 and 02.
unfoldable pub unchecked_lines : List (List ℕ)
unchecked_lines =
    map bytes ("Q # 0209462" ∷ "P # 0209462" ∷ "q # 0209462" ∷ "Q # 0006500" ∷ "Q # 0000001" ∷ "Q # 0003299" ∷ [])

pub unchecked : map request_of unchecked_lines ≡ map (λ line. (Err 13)) unchecked_lines
unfolding unchecked_lines request_of keyed_of number_request five_digits typed_check seven_digits right_number has_shape fits_place kind_named as_white colour_of side_of square_named digit_of
unchecked = refl

-- With the right check: a wrong man; Black's, who has no numbers of his own; five nines; 97, 98 and 02.
unfoldable pub checked_lines : List (List ℕ)
checked_lines =
    map bytes ("P # 0204962" ∷ "q # 0204962" ∷ "N # 9999925" ∷ "Q # 0006597" ∷ "Q # 0000098" ∷ "Q # 0003202" ∷ [])

pub checked : map request_of checked_lines ≡ ((Err 1) ∷ (Err 1) ∷ (Ok (Request.Back 3 99999)) ∷ (Ok (Request.Back 0 65)) ∷ (Ok (Request.Back 0 0)) ∷ (Ok (Request.Back 0 32)) ∷ [])
unfolding checked_lines request_of keyed_of number_request five_digits typed_check seven_digits right_number has_shape fits_place kind_named as_white colour_of side_of square_named digit_of
checked = refl
