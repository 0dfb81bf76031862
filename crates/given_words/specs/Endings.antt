-- An ending as one word, the ending of two men's words, and how long its table is (include/sledgewren.h). Definitions
-- only.
use Rattle.std.specs.Prelude.{cond, ◌++◌, ℕ, ◌+◌, ◌-◌, ◌*◌, ◌^◌, eqb}
use Rattle.numbering.specs.declared.Material.{Material}
use Rattle.numbering.specs.Material.{given, one_of, material_in, size_of}
use Rattle.position.specs.Keyed.{slot_men}
use Rattle.move_bytes.specs.MoveBytes.{flag_of}
use Rattle.given_words.specs.Bits.{bits}
use Rattle.given_words.specs.Men.{man_read}

-- one man: his kind, a pawn's being 4; two: bits 0-7 the first's kind, 8-15 1 + the second's, bit 16 one each
abbrev pub material_word : Material → ℕ
material_word (Material.One kind) = kind
material_word (Material.Two first second rivals) = first + (second + 1) * 2 ^ 8 + flag_of rivals * 2 ^ 16
material_word Material.Pawn = 4

-- no ending: its word is refused 1 wherever an ending is asked for
abbrev pub no_material : Material
no_material = Material.One 255

-- "below 256 one man; else two, where bits 8-15 are not 0 and bits 17-31 are"
abbrev pub material_read : ℕ → Material
material_read word =
    cond (eqb (bits 8 24 word) 0) (one_of (bits 0 8 word))
    (cond (eqb (bits 8 8 word) 0) no_material
    (cond (eqb (bits 17 15 word) 0) (Material.Two (bits 0 8 word) (bits 8 8 word - 1) (eqb (bits 16 1 word) 1)) no_material))

-- the ending's word; or all bits set
abbrev pub no_ending : ℕ
no_ending = 4294967295

abbrev pub ending_word : Material → ℕ
ending_word m = cond (given m) (material_word m) no_ending

-- of the men of two words, whichever comes first and whoever owns them
abbrev pub ending_of : ℕ → ℕ → ℕ
ending_of first second = ending_word (material_in (slot_men (man_read first) ++ slot_men (man_read second)))

-- how long an ending's table is; 0 where there is no such ending
abbrev pub table_bytes : Material → ℕ
table_bytes m = cond (given m) (size_of m) 0
