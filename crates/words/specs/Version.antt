-- The library's version, and its word (include/sledgewren.h). Definitions only.
use Rattle.std.specs.Prelude.{ℕ, ◌+◌, ◌*◌, ◌^◌}

pub record Version : Type 0 where
  pub major : ℕ
  pub minor : ℕ
  pub patch : ℕ

-- bits 0-7 patch, 8-15 minor, 16-23 major
abbrev pub version_word : Version → ℕ
version_word v = v.major * 2 ^ 16 + v.minor * 2 ^ 8 + v.patch

abbrev pub current : Version
current = record { major = 0; minor = 2; patch = 0 }
