-- One man is an instance: what is defined here for both sizes is what stands for one man, on every input.
use Rattle.std.specs.Prelude.{◌≡◌, refl, Bool, true, false, cond, not, ◌&&◌, ◌⊎◌, List, [], ◌++◌, ℕ, ◌≤◌, ◌<◌, T, leb, ltb, eqb, length, Err, None, Ok, Option, Some, Result}
use Rattle.std.proofs.Common.{sym, ap₂, subst, ◌∙◌, inl, inr, arith, le-leb, le-ltb, lt-ltb, leb-false, eqb-true, eq-eqb}
use Rattle.std.proofs.Math.Path.{ap, fun_ext}
use Rattle.std.proofs.lemmas.Bool.{lt-leb}
use Rattle.finite.specs.Truth.{le-or-lt, refuted, and_left}
use Rattle.finite.specs.Members.{any, all}
use Rattle.table_theory.specs.Tables.{Numbering, reads, filled}
use Rattle.table_theory.specs.Lending.{filled_until}
use Rattle.table_theory.specs.declared.Progress.{Progress}
use Rattle.table_theory.proofs.laws.LendingLaws.{filled-same}
use Rattle.table_theory.specs.Steps.{started, step_from}
use Rattle.rules.specs.declared.Piece.{Piece}
use Rattle.rules.specs.Pawn.{pawn}
use Rattle.rules.specs.Rules.{Board, legal}
use Rattle.rules.proofs.laws.Legal.{legal-pawnless}
use Rattle.rules.specs.Chess.{chess}
use Rattle.numbering.specs.Keys.{board_at}
use Rattle.numbering.specs.Number.{number_of, used}
use Rattle.position.specs.declared.Position.{Position}
use Rattle.position.specs.Keyed.{slot_men, board_of, man_in, man_kind, slot_of, keyed}
use Rattle.position.specs.Refusals.{bad_men, bad_man, later_refusal, placing_refusal, standing_refusal}
use Rattle.theory.specs.Required.{required_at}
use Rattle.position.proofs.laws.Legality.{standing-facts}
use Rattle.position.proofs.laws.PlacedLaws.{ending_with}
use Rattle.index.specs.Answers.{position_at, number_answer, placed_at}
use Rattle.index.proofs.laws.AnswerLaws.{board-at, unused-exactly}
use Rattle.index.proofs.laws.AloneLaws as index
use Rattle.endings.specs.Ending.{Lone, table_size, lone_board_at, legal_number, byte_of, ending}
use Rattle.answers.specs.declared.Answer.{Answer}
use Rattle.endings.specs.Answers.{check_of, fill_of, answer_of, chosen_by, chosen, look_up_of}
use Rattle.endings.proofs.laws.Checking.{byte_reads}
use Rattle.numbering.specs.declared.Material.{Material}
use Rattle.numbering.specs.Material.{material_in}
use Rattle.numbering.proofs.laws.MaterialLaws.{one_piece}
use Rattle.index.specs.Endings.{number_in, normal_in, map_in}
use Rattle.four_men.specs.Lending.{Lent}
use Rattle.four_men.specs.Reading.{full, legal_number_of, numbered, holds_depth}
use Rattle.position.specs.Refusals.{bad_men_of, placing_with, standing_with}
use Rattle.index.specs.Answers.{number_with, placed_with}
use Rattle.four_men.specs.Answers.{lengths_fit, check_with, fill_with, look_up_with}
use Rattle.four_men.specs.Steps.{Call, nothing, start_with, step_with}

-- ---- the numbering

live-alone : (kind n : ℕ) → legal_number_of (Material.One kind) n ≡ legal_number kind n
unfolding legal_number_of legal_number lone_board_at
live-alone kind n =
    ap (λ (b : Board). used b && legal b) (sym (board-at kind n))
    ∙ ap (λ (x : Bool). x && legal (board_of (position_at kind n))) (unused-exactly kind n)

at-alone : (kind n : ℕ) → board_at (ending_with kind) n ≡ lone_board_at kind n
unfolding lone_board_at
at-alone kind n = sym (board-at kind n)

pub numbered-alone : (kind : ℕ) (l : Lent) → numbered (Material.One kind) l ≡ ending kind
unfolding numbered ending
numbered-alone kind l =
    ap₂ (λ (at : ℕ → Board) (live : ℕ → Bool). record {
      size = table_size;
      inside = λ b. full (Material.One kind) b.men;
      number = number_of;
      at = at;
      live = live;
      outer = λ b. 1;
    })
    (fun_ext (at-alone kind)) (fun_ext (live-alone kind))

not_known : (kind : ℕ) → not (ltb kind 4) ≡ leb 4 kind
not_known kind = go (le-or-lt 4 kind)
  where
    go : (4 ≤ kind) ⊎ (kind < 4) → not (ltb kind 4) ≡ leb 4 kind
    go (inl h) = rw (le-ltb kind 4 h, le-leb 4 kind h)
    go (inr h) = rw (lt-ltb kind 4 h, lt-leb 4 kind h)

-- nothing is lent
none_lent : ◌≡◌ {A = ℕ → Bool} (holds_depth []) (λ k. false)
unfolding holds_depth any
none_lent = fun_ext (λ k. refl)

module _ (kind : ℕ) (l : Lent) (t : List ℕ) where
  -- ---- checking and filling

  pub check-alone : check_with (Material.One kind) l t ≡ check_of kind t
  unfolding check_with check_of
  check-alone = rw (not_known kind, numbered-alone kind l)

  fill_none : filled_until chess (ending kind) (holds_depth []) t ≡ filled chess (ending kind) t
  fill_none = ap (λ (deeper : ℕ → Bool). filled_until chess (ending kind) deeper t) none_lent
      ∙ filled-same chess (ending kind) t

  pub fill-alone : fill_with (Material.One kind) l t ≡ fill_of kind t
  unfolding fill_with fill_of
  fill-alone = rw (not_known kind, numbered-alone kind l, fill_none)

-- ---- filling in steps

pub start-alone : (kind : ℕ) (t : List ℕ) → start_with (Material.One kind) t
    ≡ cond (leb 4 kind) (Call.refused 1)
    (cond (not (eqb (length t) table_size)) (Call.refused 7) (Call.made (started chess (ending kind) t)))
unfolding start_with
start-alone kind t = rw (not_known kind, numbered-alone kind nothing)

pub step-alone : (kind : ℕ) (l : Lent) (t : List ℕ) (p : Progress) → step_with (Material.One kind) l t p
    ≡ cond (leb 4 kind) (Call.refused 1)
    (cond (not (eqb (length t) table_size)) (Call.refused 7)
    (Call.made (step_from chess (ending kind) (λ k. false) p t)))
unfolding step_with
step-alone kind l t p = rw (not_known kind, numbered-alone kind l, none_lent)

-- ---- looking up, and numbers

bad-alone : (p : Position) → p.second ≡ None → (man_kind p ≡ 4 → ⊥) → bad_men_of p.first p.second ≡ bad_man p
bad-alone p e n = rw e (go p.first n)
  where
    other-kind : (k : ℕ) → (k ≡ 4 → ⊥) → (4 ≤ k) ⊎ (k < 4) → leb 5 k ≡ leb 4 k
    other-kind k n (inl h) = let g : 5 ≤ k = omega arith in rw (le-leb 4 k h, le-leb 5 k g)
    other-kind k n (inr h) = rw (lt-leb 4 k h, lt-leb 5 k (omega arith))

    go : (s : Option Piece) → ((man_in s).kind ≡ 4 → ⊥) → bad_men_of s None ≡ bad_men s None
    go None n = refl
    go (Some m) n = other-kind m.kind n (le-or-lt 4 m.kind)

placing-alone : (p : Position) → p.second ≡ None → (man_kind p ≡ 4 → ⊥) → placing_with p ≡ placing_refusal p
unfolding placing_with placing_refusal
placing-alone p e n = ap (λ (x : Bool). cond x 1 (later_refusal p)) (bad-alone p e n)

-- a piece left alone is no pawn
pub lone-piece : (kind : ℕ) (b : Board) → T (legal b) → Lone kind b → man_kind (keyed b) ≡ 4 → ⊥
unfolding all
lone-piece kind b g w e =
    let t = subst (λ (ms : List Piece). T (all (λ a. not (pawn a)) ms)) w.1.1 (legal-pawnless b g) in
    let k : kind ≡ 4 = sym (ap (λ (ms : List Piece). (man_in (slot_of ms)).kind) w.1.1) ∙ e in
    subst (λ (x : Bool). T (not x)) (eq-eqb kind 4 k) (and_left (not (eqb kind 4)) true t)

-- a pawn alone is refused 1 there
pub standing-alone : (p : Position) → p.second ≡ None → (man_kind p ≡ 4 → ⊥) → standing_with p ≡ standing_refusal p
unfolding standing_with standing_refusal
standing-alone p e n = rw (placing-alone p e n)

pub pawn-refused : (p : Position) → man_kind p ≡ 4 → standing_refusal p ≡ 1
unfolding standing_refusal placing_refusal
pawn-refused p e = rw (bad p.first p.second e)
  where
    bad : (f s : Option Piece) → (man_in f).kind ≡ 4 → bad_men f s ≡ true
    bad None s e = refl
    bad (Some m) None e = le-leb 4 m.kind (omega arith)
    bad (Some m) (Some n) e = refl

pub number-alone : (p : Position) → p.second ≡ None → (man_kind p ≡ 4 → ⊥) → number_with p ≡ number_answer p
unfolding number_with number_answer
number-alone p e n = rw (placing-alone p e n) (go (eqb (placing_refusal p) 0) refl)
  where
    go : (x : Bool) → eqb (placing_refusal p) 0 ≡ x
        → cond x (Ok (number_in (material_in (board_of p).men) (board_of p)))
        (Err (placing_refusal p))
        ≡ cond x (Ok (number_of (board_of p))) (Err (placing_refusal p))
    go true h = ap Ok (index.number-alone p (eqb-true (placing_refusal p) 0 h))
    go false h = refl

pub reads-alone : (kind : ℕ) (l : Lent) (t : List ℕ) → reads chess (numbered (Material.One kind) l) t ≡ byte_of t
reads-alone kind l t = ap (λ (n : Numbering chess). reads chess n t) (numbered-alone kind l) ∙ sym (byte_reads kind t)

-- what is answered where 1 to 6 do not refuse
abbrev rest_of : Lent → List ℕ → Material → Board → Result Answer ℕ
rest_of l t m b =
    let bytes = reads chess (numbered m l) t in
    cond (not (lengths_fit m l t)) (Err 7)
    (cond (not (eqb (bytes b) (required_at chess bytes b))) (Err 11)
    (answer_of (bytes b) (chosen_by (map_in m) (normal_in m) bytes b)))

rest-alone : (kind : ℕ) (l : Lent) (t : List ℕ) (b : Board) → rest_of l t (Material.One kind) b
    ≡ cond (not (eqb (length t) table_size)) (Err 7)
    (cond (not (eqb (byte_of t b) (required_at chess (byte_of t) b))) (Err 11)
    (answer_of (byte_of t b) (chosen (byte_of t) b)))
rest-alone kind l t b = rw (reads-alone kind l t)

-- the ending of one man whom 1 does not refuse
one_in : (f s : Option Piece) → s ≡ None → bad_men f s ≡ false
    → (kind : ℕ) × (material_in (slot_men f ++ slot_men s) ≡ Material.One kind)
one_in None s e z = absurd (refuted z tt)
one_in (Some m) None e z = (m.kind, one_piece m.kind (leb-false 4 m.kind z))
one_in (Some m) (Some n) e z = absurd (refuted z tt)

pub look-up-alone : (l : Lent) (t : List ℕ) (p : Position) → p.second ≡ None → (man_kind p ≡ 4 → ⊥)
    → look_up_with l t p ≡ look_up_of t p
unfolding look_up_with look_up_of
look-up-alone l t p e n = rw (standing-alone p e n) (go (eqb (standing_refusal p) 0) refl)
  where
    go : (x : Bool) → eqb (standing_refusal p) 0 ≡ x
        → cond (not x) (Err (standing_refusal p)) (rest_of l t (material_in (board_of p).men) (board_of p))
        ≡ cond (not x) (Err (standing_refusal p))
        (cond (not (eqb (length t) table_size)) (Err 7)
        (cond (not (eqb (byte_of t (board_of p)) (required_at chess (byte_of t) (board_of p)))) (Err 11)
        (answer_of (byte_of t (board_of p)) (chosen (byte_of t) (board_of p)))))
    go false h = refl
    go true h =
        let w = one_in p.first p.second e (standing-facts p (eqb-true (standing_refusal p) 0 h)).0 in
        let m : material_in (board_of p).men ≡ Material.One w.0 = unfold board_of in w.1 in
        ap (λ (x : Material). rest_of l t x (board_of p)) m ∙ rest-alone w.0 l t (board_of p)

pub placed-alone : (kind n : ℕ) → placed_with (Material.One kind) n ≡ placed_at kind n
placed-alone kind n = index.placed-alone kind n
