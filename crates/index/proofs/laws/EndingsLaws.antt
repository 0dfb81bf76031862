-- An ending of pieces is numbered by king rule and key.
use Rattle.std.specs.Prelude.{◌≡◌, refl, ℕ, T}
use Rattle.rules.specs.Rules.{Board, legal}
use Rattle.numbering.specs.declared.Material.{Material}
use Rattle.numbering.specs.Material.{known, men_of, legal_in}
use Rattle.numbering.specs.Keys.{board_at}
use Rattle.numbering.specs.Number.{normal_by, normalised, number_of, used}
use Rattle.index.specs.Endings.{number_in, board_for, used_in, normal_in, map_in}

pub pieces-legal : (m : Material) → T (known m) → legal_in m ≡ legal
pieces-legal (Material.One kind) t = refl
pieces-legal (Material.Two first second rivals) t = refl
pieces-legal Material.Pawn t = absurd t

pub legal-of : (m : Material) → T (known m) → (b : Board) → T (legal_in m b) → T (legal b)
legal-of (Material.One kind) t b g = g
legal-of (Material.Two first second rivals) t b g = g
legal-of Material.Pawn t b g = absurd t

pub of-legal : (m : Material) → T (known m) → (b : Board) → T (legal b) → T (legal_in m b)
of-legal (Material.One kind) t b g = g
of-legal (Material.Two first second rivals) t b g = g
of-legal Material.Pawn t b g = absurd t

pub pieces-number : (m : Material) → T (known m) → number_in m ≡ number_of
pieces-number (Material.One kind) t = refl
pieces-number (Material.Two first second rivals) t = refl
pieces-number Material.Pawn t = absurd t

pub pieces-board : (m : Material) → T (known m) → board_for m ≡ board_at (men_of m)
pieces-board (Material.One kind) t = refl
pieces-board (Material.Two first second rivals) t = refl
pieces-board Material.Pawn t = absurd t

pub pieces-used : (m : Material) (n : ℕ) → T (known m) → used_in m n ≡ used (board_at (men_of m) n)
pieces-used (Material.One kind) n t = refl
pieces-used (Material.Two first second rivals) n t = refl
pieces-used Material.Pawn n t = absurd t

pub pieces-normal : (m : Material) → T (known m) → normal_in m ≡ normalised
pieces-normal (Material.One kind) t = refl
pieces-normal (Material.Two first second rivals) t = refl
pieces-normal Material.Pawn t = absurd t

pub pieces-map : (m : Material) → T (known m) → map_in m ≡ normal_by
pieces-map (Material.One kind) t = refl
pieces-map (Material.Two first second rivals) t = refl
pieces-map Material.Pawn t = absurd t
