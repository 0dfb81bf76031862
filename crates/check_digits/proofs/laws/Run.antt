-- 02's own number, computed from the definitions.
use Rattle.std.specs.Prelude.{◌≡◌, refl, true, false, [], ◌∷◌, map}
use Rattle.ascii.specs.Bytes.{bytes}
use Rattle.check_digits.specs.Check.{right_number, check_after, with_check, digits, digit_bytes}

-- "For 02049 they are 62, so the line is `Q # 0204962`"
pub example : digit_bytes 7 (with_check 2049) ≡ bytes "0204962"
unfolding digit_bytes digits with_check check_after
example = refl

-- "A clerk typed 02094 for 02049": 0204962 is right and 0209462 wrong; and 0006500, 0000001 and 0003299, which leave 1 too, are wrong
pub typed : map right_number (204962 ∷ 209462 ∷ 6500 ∷ 1 ∷ 3299 ∷ []) ≡ (true ∷ false ∷ false ∷ false ∷ false ∷ [])
unfolding right_number
typed = refl
