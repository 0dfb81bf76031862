-- `index::arranging::normal_of` meets its contract.
use mathlib.Core.Path.{sym, ap, ◌∙◌}
use mathlib.Core.Bool.{Bool}
use Rattle.index.specs.Least.{rising_key}
use Rattle.index.proofs.laws.LeastLaws.{rising-unlike}
use Rattle.index.proofs.laws.NormalPlaceLaws.{normal-keys}
use Rattle.index.proofs.arranging.normal_of.Goals as goal

pub returns-then-alike : goal.returns-then-alike
returns-then-alike c =
    let like = sym (sym c.alike.ensures ∙ c.if-alike.true) in
    c.normal_by.ensures
    ∙ normal-keys _ _ _ _ _ _ c.turned_key-k.ensures c.transposed_key-t.ensures
    (c.rising_key.ensures ∙ ap (λ (l : Bool). rising_key l c.turned_key-k.result) like)
    (c.rising_key-then-alike.ensures ∙ ap (λ (l : Bool). rising_key l c.transposed_key-t.result) like)

pub returns : goal.returns
returns c =
    let unlike = sym c.alike.ensures ∙ c.if-alike.false in
    c.normal_by-2.ensures
    ∙ normal-keys _ _ _ _ _ _ c.turned_key-k.ensures c.transposed_key-t.ensures
    (rising-unlike _ _ unlike) (rising-unlike _ _ unlike)
