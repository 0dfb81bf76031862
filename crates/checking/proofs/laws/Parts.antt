-- The four tables that a pawn's ending borrows, one after the other: accepted each for its kind.
use Rattle.std.specs.Prelude.{◌≡◌, refl, Bool, true, false, ◌&&◌, List, length, take, drop, Err, Ok, Result}
use Rattle.std.proofs.Common.{sym, ◌∙◌, arith, length-drop}
use Rattle.std.proofs.Math.Path.{ap}
use Prim.Native.Nat.{ℕ, ◌+◌, ◌*◌, ◌-◌, ◌<◌, min}
use Rattle.std.proofs.Math.ListN.{length-take}
use Rattle.finite.specs.Members.{all}
use Rattle.answers.specs.declared.Checked.{Checked}
use Rattle.endings.specs.Answers.{check_of}
use Rattle.endings.proofs.laws.Checking.{accepted-ending}
use Rattle.numbering.specs.declared.Material.{Material}
use Rattle.four_men.specs.Lending.{Lent, part_of}
use Rattle.four_men.specs.Answers.{accepts, parts_accepted, lent_accepted}

-- a part that the run does not hold whole is not accepted
pub part-short : (kind : ℕ) (run : List ℕ) → length run < kind * 59136 + 59136
    → false ≡ accepts (check_of kind (part_of kind run))
part-short kind run h = go (check_of kind (part_of kind run)) refl
  where
    long : length (part_of kind run) ≡ min 59136 (length run - kind * 59136)
    long = unfold part_of in
        length-take 59136 (drop (kind * 59136) run) ∙ ap (λ (n : ℕ). min 59136 n) (length-drop (kind * 59136) run)

    go : (c : Result Checked ℕ) → check_of kind (part_of kind run) ≡ c → false ≡ accepts c
    go (Ok Checked.Accepted) e = let l = (accepted-ending kind (part_of kind run) e).1 in absurd (omega (arith, l, long))
    go (Ok (Checked.Wrong n)) e = refl
    go (Err n) e = refl

-- as the code has it
pub part-whole : (kind : ℕ) (run : List ℕ) (c : Result Checked ℕ) (a : Bool)
    → c ≡ check_of kind (take (kind * 59136 + 59136 - kind * 59136) (drop (kind * 59136) run)) → a ≡ accepts c
    → a ≡ accepts (check_of kind (part_of kind run))
unfolding part_of
part-whole kind run c a h f =
    let e : kind * 59136 + 59136 - kind * 59136 ≡ 59136 = omega arith in
    f ∙ ap accepts (h ∙ ap (λ (i : ℕ). check_of kind (take i (drop (kind * 59136) run))) e)

pub parts-by : (run : List ℕ) (a b c d : Bool) → a ≡ accepts (check_of 0 (part_of 0 run))
    → b ≡ accepts (check_of 1 (part_of 1 run)) → c ≡ accepts (check_of 2 (part_of 2 run))
    → d ≡ accepts (check_of 3 (part_of 3 run))
    → (a && (b && (c && d))) ≡ parts_accepted run
unfolding all
parts-by run a b c d p q r s = rw (p, q, r, s) (ap (λ (x : Bool). accepts (check_of 0 (part_of 0 run))
    && (accepts (check_of 1 (part_of 1 run)) && (accepts (check_of 2 (part_of 2 run)) && x)))
    (ended (accepts (check_of 3 (part_of 3 run)))))
  where
    ended : (x : Bool) → x ≡ (x && true)
    ended true = refl
    ended false = refl

pub parts-lent : (m : Material) (l : Lent) (a : Bool) → m ≡ Material.Pawn → a ≡ parts_accepted l.first
    → a ≡ lent_accepted m l
parts-lent m l a e h = h ∙ sym (ap (λ (x : Material). lent_accepted x l) e)
