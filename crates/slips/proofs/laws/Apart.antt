-- No two different answers have the same slip: a number ends where a byte below "0" stands, and a target's file is never an `x`.
use Rattle.rules.specs.declared.Move.{Move}
use Rattle.std.specs.Prelude.{◌≡◌, refl, Bool, true, false, ◌&&◌, List, [], ◌∷◌, ◌++◌, ℕ, ◌+◌, ◌*◌, ◌-◌, ◌/◌, ◌%◌, ◌<◌, T, leb, eqb, ltb, get_or, None, Option, Some, Err, Ok, Result}
use Rattle.std.proofs.Common.{sym, ap, ap₂, subst, ◌∙◌, append_assoc, arith, eqb→eq, leb→le, ltb→lt}
use Rattle.finite.specs.Truth.{and_left, and_right}
use Rattle.finite.specs.Members.{all}
use Rattle.finite.specs.Below.{all_below, below}
use Rattle.ascii.specs.Bytes.{bytes}
use Rattle.rules.specs.Rules.{move_of, promotion_of}
use Rattle.answers.specs.declared.Answer.{Answer}
use Rattle.slips.specs.Slip.{decimal, square_name, word_and_number, gapped, mark_text, advice_text, answer_text, with_newline, slip_of}
use Rattle.slips.specs.Fits.{AdviceFits, AnswerFits}

-- ---- a number, and what follows it

abbrev is_digit : ℕ → Bool
is_digit x = leb 48 x

-- begins with a byte below "0"
abbrev opens : List ℕ → Bool
opens [] = false
opens (x ∷ xs) = ltb x 48

no_byte : (c : ℕ) → T (ltb c 48) → T (leb 48 c) → ⊥
no_byte c h k = let a = ltb→lt c 48 h in let b = leb→le 48 c k in omega arith

one-run : (ds es xs ys : List ℕ) → T (all is_digit ds) → T (all is_digit es) → T (opens xs) → T (opens ys)
    → ds ++ xs ≡ es ++ ys → (ds ≡ es) × (xs ≡ ys)
unfolding all
one-run [] [] xs ys d e o p q = (refl, q)
one-run [] (c ∷ es) xs ys d e o p q =
    absurd (no_byte c (subst (λ (l : List ℕ). T (opens l)) q o) (and_left (is_digit c) (all is_digit es) e))
one-run (c ∷ ds) [] xs ys d e o p q =
    absurd (no_byte c (subst (λ (l : List ℕ). T (opens l)) (sym q) p) (and_left (is_digit c) (all is_digit ds) d))
one-run (c ∷ ds) (k ∷ es) xs ys d e o p q =
    let head : c ≡ k = cc in
    let tail : ds ++ xs ≡ es ++ ys = cc in
    let r = one-run ds es xs ys (and_right (is_digit c) (all is_digit ds) d) (and_right (is_digit k) (all is_digit es) e) o
    p tail in
    (ap₂ (λ (x : ℕ) (l : List ℕ). x ∷ l) head r.0, r.1)

-- the number that some digits are, behind those read so far
unfoldable value : ℕ → List ℕ → ℕ
value n [] = n
value n (x ∷ xs) = value (10 * n + (x - 48)) xs

unfoldable decimal-right : ℕ → Bool
decimal-right n = eqb (value 0 (decimal n)) n && all is_digit (decimal n)

all-decimals : T (all_below decimal-right 256)
unfolding all_below decimal-right value decimal all
all-decimals = tt

decimal-facts : (n : ℕ) → n < 256 → (value 0 (decimal n) ≡ n) × T (all is_digit (decimal n))
unfolding decimal-right
decimal-facts n h =
    let t = below decimal-right 256 all-decimals n h in
    let same = eqb (value 0 (decimal n)) n in
    let digits = all is_digit (decimal n) in
    (eqb→eq (value 0 (decimal n)) n (and_left same digits t), and_right same digits t)

one_number : (n k : ℕ) (xs ys : List ℕ) → n < 256 → k < 256 → T (opens xs) → T (opens ys)
    → decimal n ++ xs ≡ decimal k ++ ys → (n ≡ k) × (xs ≡ ys)
one_number n k xs ys h j o p q =
    let a = decimal-facts n h in
    let b = decimal-facts k j in
    let r = one-run (decimal n) (decimal k) xs ys a.1 b.1 o p q in
    (sym a.0 ∙ ap (value 0) r.0 ∙ b.0, r.1)

-- ---- a move

one-square : (s u : ℕ) → s < 64 → u < 64 → 97 + s % 8 ≡ 97 + u % 8 → 49 + s / 8 % 8 ≡ 49 + u / 8 % 8 → s ≡ u
one-square s u h k e d = omega arith

moves-apart : (x y : Bool) (f t g u : ℕ) → f < 64 → t < 64 → g < 64 → u < 64
    → with_newline (gapped f ++ mark_text x ++ square_name t) ≡ with_newline (gapped g ++ mark_text y ++ square_name u)
    → move_of f t x ≡ move_of g u y
unfolding gapped mark_text square_name
moves-apart true true f t g u hf ht hg hu e =
    ap₂ (λ (a b : ℕ). move_of a b true) (one-square f g hf hg (cc) (cc)) (one-square t u ht hu (cc) (cc))
moves-apart false false f t g u hf ht hg hu e =
    ap₂ (λ (a b : ℕ). move_of a b false) (one-square f g hf hg (cc) (cc)) (one-square t u ht hu (cc) (cc))
moves-apart true false f t g u hf ht hg hu e = let z : 120 ≡ 97 + u % 8 = cc in absurd (omega arith)
moves-apart false true f t g u hf ht hg hu e = let z : 97 + t % 8 ≡ 120 = cc in absurd (omega arith)

advice-apart : (a c : Option Move) → AdviceFits a → AdviceFits c → with_newline (advice_text a) ≡ with_newline (advice_text c)
    → a ≡ c
unfolding advice_text gapped
advice-apart (Some m) (Some v) h k e =
    ap Some
    (ap (promotion_of m.from m.to m.takes) h.2
    ∙ moves-apart m.takes v.takes m.from m.to v.from v.to h.0 h.1 k.0 k.1 e
    ∙ ap (promotion_of v.from v.to v.takes) (sym k.2))
advice-apart (Some m) None h k e = let z = ap (λ (l : List ℕ). get_or l 0 0) e in absurd (omega arith)
advice-apart None (Some v) h k e = let z = ap (λ (l : List ℕ). get_or l 0 0) e in absurd (omega arith)
advice-apart None None h k e = refl

-- a space or a newline follows a depth
opens-advice : (a : Option Move) → T (opens (with_newline (advice_text a)))
unfolding advice_text gapped
opens-advice (Some m) = tt
opens-advice None = tt

-- ---- a slip

-- a number and a move
value-apart : (n k : ℕ) (a c : Option Move) → n < 256 → k < 256 → AdviceFits a → AdviceFits c
    → with_newline (decimal n ++ advice_text a) ≡ with_newline (decimal k ++ advice_text c) → (n ≡ k) × (a ≡ c)
value-apart n k a c h j f g e =
    let q = sym (append_assoc (decimal n) (advice_text a) (bytes "\n")) ∙ e
    ∙ append_assoc (decimal k) (advice_text c) (bytes "\n") in
    let r = one_number n k (with_newline (advice_text a)) (with_newline (advice_text c)) h j (opens-advice a)
    (opens-advice c) q in
    (r.0, advice-apart a c f g r.1)

-- the first bytes of slips of two kinds
heads-apart : {A : Type 0} (x y : ℕ) (xs ys : List ℕ) → x < y → x ∷ xs ≡ y ∷ ys → A
heads-apart x y xs ys h e = let z : x ≡ y = cc in absurd (omega arith)

pub slips-apart : (a c : Result Answer ℕ) → AnswerFits a → AnswerFits c → slip_of a ≡ slip_of c → a ≡ c
unfolding slip_of answer_text word_and_number
slips-apart (Ok (Answer.Win n a)) (Ok (Answer.Win k c)) h j e =
    let q : with_newline (decimal n ++ advice_text a) ≡ with_newline (decimal k ++ advice_text c) = cc in
    let r = value-apart n k a c h.0 j.0 h.1 j.1 q in
    ap₂ (λ x0 x1. Ok (Answer.Win x0 x1)) r.0 r.1
slips-apart (Ok (Answer.Loss n a)) (Ok (Answer.Loss k c)) h j e =
    let q : with_newline (decimal n ++ advice_text a) ≡ with_newline (decimal k ++ advice_text c) = cc in
    let r = value-apart n k a c h.0 j.0 h.1 j.1 q in
    ap₂ (λ x0 x1. Ok (Answer.Loss x0 x1)) r.0 r.1
slips-apart (Ok (Answer.Draw a)) (Ok (Answer.Draw c)) h j e =
    let q : with_newline (advice_text a) ≡ with_newline (advice_text c) = cc in ap (λ x0. Ok (Answer.Draw x0)) (advice-apart a c h j q)
slips-apart (Err n) (Err k) h j e =
    let q : decimal n ++ bytes "\n" ≡ decimal k ++ bytes "\n" = cc in
    ap Err (one_number n k (bytes "\n") (bytes "\n") h j tt tt q).0
slips-apart (Ok (Answer.Win n a)) (Ok (Answer.Loss k c)) h j e = heads-apart _ _ _ _ (omega arith) (sym e)
slips-apart (Ok (Answer.Win n a)) (Ok (Answer.Draw c)) h j e = heads-apart _ _ _ _ (omega arith) (sym e)
slips-apart (Ok (Answer.Win n a)) (Err k) h j e = heads-apart _ _ _ _ (omega arith) (sym e)
slips-apart (Ok (Answer.Loss n a)) (Ok (Answer.Win k c)) h j e = heads-apart _ _ _ _ (omega arith) e
slips-apart (Ok (Answer.Loss n a)) (Ok (Answer.Draw c)) h j e = heads-apart _ _ _ _ (omega arith) (sym e)
slips-apart (Ok (Answer.Loss n a)) (Err k) h j e = heads-apart _ _ _ _ (omega arith) e
slips-apart (Ok (Answer.Draw a)) (Ok (Answer.Win k c)) h j e = heads-apart _ _ _ _ (omega arith) e
slips-apart (Ok (Answer.Draw a)) (Ok (Answer.Loss k c)) h j e = heads-apart _ _ _ _ (omega arith) e
slips-apart (Ok (Answer.Draw a)) (Err k) h j e = heads-apart _ _ _ _ (omega arith) e
slips-apart (Err n) (Ok (Answer.Win k c)) h j e = heads-apart _ _ _ _ (omega arith) e
slips-apart (Err n) (Ok (Answer.Loss k c)) h j e = heads-apart _ _ _ _ (omega arith) (sym e)
slips-apart (Err n) (Ok (Answer.Draw c)) h j e = heads-apart _ _ _ _ (omega arith) (sym e)
