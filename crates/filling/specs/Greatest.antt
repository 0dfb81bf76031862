-- What the laws of the same name speak of. Definitions only.
use Rattle.std.specs.Prelude.{◌≡◌, List, ℕ, ◌<◌, ◌≤◌, length, get_or}

-- of the bytes below n this is the greatest; 0 where there is none
pub record GreatestBelow (t : List ℕ) (n byte : ℕ) : Type 0 where
  pub most : (i : ℕ) → i < n → get_or t i 0 ≤ byte
  pub held : 0 < byte → (i : ℕ) × (i < n) × (get_or t i 0 ≡ byte)

abbrev pub Greatest : List ℕ → ℕ → Type 0
Greatest t byte = GreatestBelow t (length t) byte
