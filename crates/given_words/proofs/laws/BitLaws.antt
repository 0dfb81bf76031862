-- One field of any word.
use Rattle.std.specs.Prelude.{◌≡◌, ℕ, ◌+◌, ◌*◌, ◌^◌, ◌<◌}
use Rattle.std.proofs.Common.{zero-add, mod-eq_of_lt, arith}
use Rattle.std.proofs.Math.Nat.{add-mul-div_right, add-mul-mod_self_right, div-eq_of_lt}
use Rattle.given_words.specs.Bits.{bits}

-- a value above what lies below it, with anything above
pub field : (first width low value high word : ℕ) → word ≡ low + (value + high * 2 ^ width) * 2 ^ first
    → low < 2 ^ first → value < 2 ^ width → bits first width word ≡ value
field first width low value high word e l v =
    rw (
      e,
      add-mul-div_right low (value + high * 2 ^ width) {z = 2 ^ first} (omega arith),
      div-eq_of_lt l,
      zero-add (value + high * 2 ^ width),
      add-mul-mod_self_right value high (2 ^ width),
    )
    (mod-eq_of_lt v)
