-- The toy game meets the theory's premises, by one test over its nodes each, and the theorem about games speaks of it.
use Rattle.std.specs.Prelude.{◌≡◌, refl, Bool, true, false, not, ◌&&◌, List, [], ◌∷◌, map, ℕ, ◌≤◌, ◌<◌, T, eqb, ltb, length, get_or}
use Rattle.std.proofs.Common.{sym, subst, ◌∙◌, eqb→eq, ltb→lt, lit<}
use mathlib.Core.List.Memᴰ
use Rattle.std.proofs.Math.Option.{some}
use Rattle.finite.specs.Members.{any, all, some?, first, all-out, map-out}
use Rattle.finite.specs.Below.{all_below, below}
use Rattle.theory.specs.Game.{Game}
use Rattle.theory.specs.Value.{won, lost, WonIn}
use Rattle.theory.specs.Required.{required, best, better, back, winning, Closed, Consistent}
use Rattle.theory.proofs.laws.Step.{required-moves}
use Rattle.theory.proofs.laws.Consistency.{consistent-depth}
use Rattle.theory.proofs.laws.Depth.{depth-odd}
use Rattle.theory.specs.Play.{suits, LegalGame, Follows, first_suited, Promised, IsMated, after}
use Rattle.theory.proofs.laws.Choice.{first-chooses}
use Rattle.theory.proofs.laws.Games.{promised}
use Rattle.toy.specs.Toy.{Spot, edges, bytes, move_to, mate-stops, toy, reads, Inside}

-- ---- the premises, each by one test over the nine nodes

stays : ℕ → Bool
stays n = all (λ m. ltb m 9) (get_or edges n [])

stays-test : T (all_below stays 9)
unfolding all_below stays all
stays-test = tt

pub closed : Closed toy Inside
unfolding stays
closed p q d i =
    let m = map-out (move_to p) q (get_or edges p.node []) i in
    let h : m.0 < 9 = ltb→lt m.0 9 (all-out (λ k. ltb k 9) m.1 (below stays 9 stays-test p.node d)) in
    subst (λ (r : Spot). r.node < 9) (sym m.2) h

right : ℕ → Bool
right n = eqb (get_or bytes n 0) (required (eqb n 0) (map (λ m. get_or bytes m 0) (get_or edges n [])))

right-test : T (all_below right 9)
unfolding all_below right required best better back winning
right-test = tt

pub consistent : Consistent toy Inside reads
unfolding right
consistent p d = eqb→eq (reads p) (required (eqb p.node 0) (map (λ m. get_or bytes m 0) (get_or edges p.node []))) (below right 9 right-test p.node d) ∙ sym (required-moves toy reads p)

-- ---- the theorem, of every game in which a side plays the first suited move

pub toy-promised : (side : Bool) (p : Spot) (ms : List ℕ) → Inside p → LegalGame toy p ms → Follows toy (first_suited toy reads) side p ms → Promised toy reads (first_suited toy reads) side p ms
toy-promised = promised toy Inside closed reads consistent (first_suited toy reads) (first-chooses toy Inside reads)

-- ---- its use

abbrev at : ℕ → Bool → Spot
at n side = record { node = n; white = side }

-- node 3 is won in 3, though one of its moves draws; by the table, and by the definition
won-in-3 : WonIn toy 3 (at 3 true)
won-in-3 = depth-odd toy 3 (at 3 true) ((consistent-depth toy Inside closed reads consistent (at 3 true) (lit< tt) 3).0 refl) refl

by-definition : T (won toy 3 (at 3 true) && not (won toy 2 (at 3 true)))
unfolding won lost any all some?
by-definition = tt

-- White follows from node 3: whatever Black plays, no game has more than three plies
pub no-fourth-ply : (ms : List ℕ) → LegalGame toy (at 3 true) ms → Follows toy (first_suited toy reads) true (at 3 true) ms → length ms ≤ 3
no-fourth-ply ms l f = ((toy-promised true (at 3 true) ms (lit< tt) l f).won 3 won-in-3 refl).short

-- the whole game 3, 2, 1, 0, in which both follow, mates Black
pub mates-black : IsMated toy false (after toy (at 3 true) (2 ∷ 1 ∷ 0 ∷ []))
unfolding first_suited first suits
mates-black = ((toy-promised true (at 3 true) (2 ∷ 1 ∷ 0 ∷ []) (lit< tt) (Memᴰ.tail (Memᴰ.head refl), (Memᴰ.head refl, (Memᴰ.head refl, tt))) (λ e. refl, (λ e. refl, (λ e. refl, tt)))).won 3 won-in-3 refl).over-mated refl
