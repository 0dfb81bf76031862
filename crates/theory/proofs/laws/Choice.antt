-- What a suited move is, as facts on bytes; that the first suited move is a rule for ties; and that a game broken off earlier is a game.
use Rattle.std.specs.Prelude.{◌≡◌, Bool, true, false, List, [], ◌∷◌, ℕ, zero, suc, ◌+◌, ◌≤◌, T, leb, take}
use Rattle.std.proofs.Math.Option.{Option}
use Rattle.std.proofs.Common.{arith, leb→le, le→leb, eqb→eq}
use Rattle.std.proofs.Math.Dec.{eqb_refl}
use Rattle.finite.specs.Truth.{true_of, fails}
use Rattle.finite.specs.Members.{first-in, first_out}
use Rattle.theory.specs.Game.{Game}
use Rattle.theory.specs.Play.{suits, LegalGame, first_suited, Chooses, Follows}

low : (b : ℕ) → b ≤ 1 → leb b 1 ≡ true
low b h = true_of (le→leb b 1 h)

high : (b : ℕ) → 2 ≤ b → leb b 1 ≡ false
high b h = fails (leb b 1) (λ l. let k = leb→le b 1 l in omega arith)

pub suits-draw : (b c : ℕ) → b ≤ 1 → T (suits b c) → c ≤ 1
unfolding suits
suits-draw b c h t = leb→le c 1 (rw (low b h) at t)

pub suits-less : (b c : ℕ) → 2 ≤ b → T (suits b c) → 1 + c ≡ b
unfolding suits
suits-less b c h t = eqb→eq (1 + c) b (rw (high b h) at t)

pub draw-suits : (b c : ℕ) → b ≤ 1 → c ≤ 1 → T (suits b c)
unfolding suits
draw-suits b c h k = rw (low b h) (le→leb c 1 k)

pub less-suits : (b c : ℕ) → 2 ≤ b → 1 + c ≡ b → T (suits b c)
unfolding suits
less-suits b c h k = rw (high b h, k) (eqb_refl b)

pub first-chooses : (G : Game) (D : G.Pos → Type 0) (reads : G.Pos → ℕ) → Chooses G D reads (first_suited G reads)
unfolding first_suited
first-chooses G D reads = record {
  sound = λ p d m e. first_out (λ k. suits (reads p) (reads (G.play p k))) (G.moves p) m e;
  total = λ p d m i t. first-in (λ k. suits (reads p) (reads (G.play p k))) i t;
}

pub legal-take : (G : Game) (i : ℕ) (p : G.Pos) (ms : List G.Move) → LegalGame G p ms → LegalGame G p (take i ms)
legal-take G zero p ms l = tt
legal-take G (suc i) p [] l = tt
legal-take G (suc i) p (m ∷ ms) l = (l.0, legal-take G i (G.play p m) ms l.1)

pub follows-take : (G : Game) (pick : G.Pos
    → Option G.Move) (side : Bool) (i : ℕ) (p : G.Pos) (ms : List G.Move) → Follows G pick side p ms
    → Follows G pick side p (take i ms)
follows-take G pick side zero p ms f = tt
follows-take G pick side (suc i) p [] f = tt
follows-take G pick side (suc i) p (m ∷ ms) f = (f.0, follows-take G pick side i (G.play p m) ms f.1)
