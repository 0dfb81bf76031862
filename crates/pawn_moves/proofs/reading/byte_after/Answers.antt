-- `reading::byte_after` meets its contract: a promotion, the pawn taken, or the pawn still there.
use Rattle.pawn_moves.proofs.laws.AfterLaws.{byte-promoted, byte-taken, byte-kept}
use Rattle.pawn_moves.proofs.reading.byte_after.Goals as goal

pub returns-then-v-ne0 : goal.returns-then-v-ne0
returns-then-v-ne0 c =
    λ o i. byte-promoted _ _ _ o _ i _ c.place_after-next.ensures c.if-v-ne0.true _ _ (λ kind. c.number_alone-n.ensures kind)
    c.read_part.ensures

pub returns-then-next-ge64 : goal.returns-then-next-ge64
returns-then-next-ge64 c =
    λ o i. byte-taken _ _ _ o _ i _ c.place_after-next.ensures c.if-v-ne0.false c.if-next-ge64.true

pub returns : goal.returns
returns c =
    λ o i. byte-kept _ _ _ o _ i _ c.place_after-next.ensures c.if-v-ne0.false c.if-next-ge64.false _ c.pawn_byte.ensures
