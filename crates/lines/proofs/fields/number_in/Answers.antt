-- `lines::fields::number_in` meets its contract: what is read so far, read on with what is left, gives the whole.
use Rattle.std.proofs.Common.{◌≡◌, ℕ, ◌<◌, ◌≤◌, ◌+◌, ◌*◌, ◌^◌, List, ◌∙◌, sym, arith, length, get_or, drop, map, drop-cons, add-one}
use Rattle.std.proofs.Math.Nat.{pow-le-pow_right}
use Rattle.std.proofs.Math.Seq.{drop-length}
use Rattle.check_digits.specs.Check.{reading}
use Rattle.lines.specs.Grammar.{digit_of}
use Rattle.lines.proofs.fields.number_in.Goals as goal

-- a power of ten up to the ninth is at most that
power-most : (i : ℕ) → i ≤ 9 → 10 ^ i ≤ 1000000000
power-most i h = pow-le-pow_right {n = 10} (omega arith) h

power-more : (i x d : ℕ) → x < 10 ^ i → d ≤ 9 → x * 10 + d < 10 ^ (i + 1)
power-more i x d h k = rw (add-one i) (omega arith)

read-first : (bytes : List ℕ) (i n : ℕ) → i < length bytes
    → reading n (map digit_of (drop i bytes)) ≡ reading (n * 10 + digit_of (get_or bytes i 0)) (map digit_of (drop (i + 1) bytes))
unfolding reading
read-first bytes i n h = rw (drop-cons bytes i 0 h, add-one i)

room : (i x d n : ℕ) → x < 10 ^ i → i < n → n ≤ 9 → d ≤ 9 → x * 10 + d < 4294967296
room i x d n h k m f =
    let more = power-more i x d h f in
    let most = power-most (i + 1) (omega arith) in
    omega arith

pub overflow_mul-number : goal.overflow_mul-number
overflow_mul-number c =
    let l = c.loop-byte in
    let r = room l.byte-index l.number 0 _ l.invariant.1 c.loop-byte-test.true c.requires (omega arith) in omega arith

pub overflow_add-number : goal.overflow_add-number
overflow_add-number c =
    let l = c.loop-byte in
    let r = room l.byte-index l.number _ _ l.invariant.1 c.loop-byte-test.true c.requires c.digit_value.ensures.1 in omega arith

pub loop-byte-preserved : goal.loop-byte-preserved
loop-byte-preserved c =
    let l = c.loop-byte in
    let i = l.byte-index in (
      rw (c.digit_value.ensures.0) (sym (read-first c.args.bytes.now i l.number c.loop-byte-test.true) ∙ l.invariant.0),
      power-more i l.number _ l.invariant.1 c.digit_value.ensures.1,
    )

pub returns : goal.returns
unfolding reading
returns c =
    let all : c.loop-byte.byte-index ≡ length c.args.bytes.now = omega arith in
    let read : reading c.loop-byte.number (map digit_of (drop c.loop-byte.byte-index c.args.bytes.now)) ≡ c.loop-byte.number = rw (all, drop-length c.args.bytes.now) in
    (sym read ∙ c.loop-byte.invariant.0, rw (← all) c.loop-byte.invariant.1)
