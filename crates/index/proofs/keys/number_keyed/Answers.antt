-- `index::keys::number_keyed` meets its contract.
use mathlib.Core.Path.{◌≡◌, sym, ap, subst, ◌∙◌}
use mathlib.Core.Bool.{Bool}
use Prim.Native.Nat.{ℕ, ◌/◌, ◌%◌}
use lib.Dec.{T}
use Rattle.numbering.specs.Kings.{in_triangle}
use Rattle.index.specs.Least.{least_of}
use Rattle.index.specs.Seats.{number_from}
use Rattle.index.proofs.keys.number_keyed.Goals as goal

at_key : (single : Bool) (side k l r : ℕ) → k ≡ l
    → (T (in_triangle (k / 4096 % 4096 / 64)) → r ≡ number_from single side k)
    → T (in_triangle (l / 4096 % 4096 / 64)) → r ≡ number_from single side l
at_key single side k l r e f t =
    f (subst (λ (n : ℕ). T (in_triangle (n / 4096 % 4096 / 64))) (sym e) t) ∙ ap (number_from single side) e

pub returns : goal.returns
returns c =
    λ w b x y s t. at_key _ _ _ _ _ (c.least_of.ensures ∙ ap (least_of _) (c.turned.ensures w b x y s))
    c.number_from.ensures t
