-- `lines::keyed` meets its contract, part by part.
use mathlib.Core.Path.{◌∙◌}
use Rattle.lines.specs.Grammar.{keyed_of}
use Rattle.lines.proofs.keyed.Goals as goal

pub returns : goal.returns
unfolding keyed_of
returns c =
    c.one_man.ensures
    ∙ rw (c.man_code.ensures, c.as_white.ensures, c.colour_code.ensures, c.side_code.ensures, c.square_named.ensures, c.square_named-2.ensures, c.square_named-3.ensures)
