-- The answers by what code has found: a refusal, or none and the moves.
use Rattle.std.specs.Prelude.{◌≡◌, true, false, [], ℕ, eqb, Err, Ok, Result, refl}
use Rattle.std.proofs.Math.Path.{sym, ap}
use Rattle.std.proofs.Common.{ap₂, ◌∙◌, eq-eqb, ne_eqb}
use Rattle.std.proofs.Math.ListN.{length}
use Rattle.rules.specs.Rules.{all_moves}
use Rattle.position.specs.declared.Position.{Position}
use Rattle.position.specs.Keyed.{board_of}
use Rattle.position.specs.Refusals.{standing_with}
use Rattle.desk_refusals.specs.declared.Refusal.{Refusal}
use Rattle.desk_refusals.specs.Numbers.{number_of, refused}
use Rattle.move_list.specs.declared.MoveList.{MoveList}
use Rattle.move_list.specs.Lists.{list_of}
use Rattle.move_list.proofs.laws.Served.{served-moves}
use Rattle.move_list.specs.Answers.{Listed, listed_as, moves_of, listed, count_answer, Counts}

-- an answer from its two fields
listed-eq : {r r' : ℕ} {l l' : MoveList} → r ≡ r' → l ≡ l'
    → ◌≡◌ {A = Listed} (record { refusal = r; list = l }) (record { refusal = r'; list = l' })
listed-eq p q = ap₂ (λ (x : ℕ) (y : MoveList). record { refusal = x; list = y }) p q

module _ (p : Position) (r : ℕ) (e : r ≡ standing_with p) where
  module _ (n : r ≡ 0 → ⊥) where
    some-refusal : eqb (standing_with p) 0 ≡ false
    some-refusal = ne_eqb (standing_with p) 0 (λ q. n (e ∙ q))

    no-moves : moves_of p ≡ []
    unfolding moves_of
    no-moves = rw some-refusal

    pub refused-list : (l : MoveList) → l ≡ list_of [] → ◌≡◌ {A = Listed} (record { refusal = r; list = l }) (listed p)
    unfolding listed
    refused-list l q = listed-eq e (q ∙ ap list_of (sym no-moves))

    pub refused-count : Counts p (Err r)
    unfolding count_answer
    refused-count = record { answer = rw some-refusal (ap Err e); refusal = e; count = rw no-moves }

  module _ (z : r ≡ 0) where
    no-refusal : eqb (standing_with p) 0 ≡ true
    no-refusal = eq-eqb (standing_with p) 0 (sym e ∙ z)

    all-moves : moves_of p ≡ all_moves (board_of p)
    unfolding moves_of
    all-moves = rw no-refusal (served-moves p (sym e ∙ z))

    pub given-list : (l : MoveList) → l ≡ list_of (all_moves (board_of p))
        → ◌≡◌ {A = Listed} (record { refusal = r; list = l }) (listed p)
    unfolding listed
    given-list l q = listed-eq e (q ∙ ap list_of (sym all-moves))

    pub given-count : (n : ℕ) → n ≡ length (all_moves (board_of p)) → Counts p (Ok n)
    unfolding count_answer
    given-count n q =
        record {
          answer = rw no-refusal (ap Ok (q ∙ ap length (sym (served-moves p (sym e ∙ z)))));
          refusal = sym z
              ∙ e;
          count = rw all-moves q;
        }

-- a refusal handed on, as what the list's answer is by number
pub listed-refused : (p : Position) (r : Result MoveList Refusal) (d : Refusal) → r ≡ Err d → refused r ≡ standing_with p
    → (standing_with p ≡ 0 → ⊥) → listed_as r ≡ listed p
listed-refused p r d f k n =
    let m = sym (ap refused f) ∙ k in
    ap listed_as f ∙ refused-list p (number_of d) m (λ z. n (sym m ∙ z)) (list_of []) refl
