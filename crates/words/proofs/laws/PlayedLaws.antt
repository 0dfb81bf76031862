-- The word of a move played is read back, and what play answers fits it.
use Rattle.std.specs.Prelude.{◌≡◌, refl, Bool, true, false, ◌&&◌, ◌||◌, ◌++◌, ℕ, ◌+◌, ◌*◌, ◌^◌, ◌<◌, T, ltb, None, Option, Some, Err, Ok, Result}
use Rattle.std.proofs.Common.{sym, subst, mod-eq_of_lt, arith, ltb→lt, eqb→eq, ne_eqb}
use Rattle.finite.specs.Truth.{and_left, and_right, of-true}
use Rattle.finite.specs.Members.{all}
use Rattle.rules.specs.declared.Piece.{Piece}
use Rattle.rules.specs.Pawn.{pawn, inner}
use Rattle.rules.specs.Rules.{Board, piece_of, known, known_or_pawn, legal_with_pawn}
use Rattle.rules.proofs.laws.Legal.{legal_of-facts, legal-with-pawn}
use Rattle.numbering.specs.declared.Material.{Material}
use Rattle.numbering.specs.Material.{material_in, legal_in}
use Rattle.position.specs.declared.Position.{Position}
use Rattle.position.specs.Keyed.{slot_men, board_of}
use Rattle.position.specs.Refusals.{standing_with}
use Rattle.position.proofs.laws.BothSizes.{standing-with-most}
use Rattle.playing.specs.Playing.{play_of}
use Rattle.playing.proofs.laws.PlayTrue.{played-true, refused-played}
use Rattle.words.specs.Reading.{bits, Byte, RefusalFits, ReadBack, OneWord}
use Rattle.given_words.specs.Men.{short_man, short_read, ShortFits}
use Rattle.words.specs.Played.{played_word, played_read, AfterFits, PlayedFits}
use Rattle.words.proofs.laws.ReadingLaws.{field, one_word}
use Rattle.words.proofs.laws.AnswersFit.{refusal-fits}

-- ---- a man in 16 bits

short-size : (s : Option Piece) → ShortFits s → short_man s < 2 ^ 16
short-size None f = omega arith
short-size (Some m) f = rw (mod-eq_of_lt f.0, mod-eq_of_lt f.1) (omega (arith, f.0, f.1, f.2))

short-there : (kind colour square : ℕ) → kind < 2 ^ 4 → colour < 2 → square < 2 ^ 8
    → short_read (kind + colour * 2 ^ 4 + 2 ^ 5 + square * 2 ^ 8) ≡ Some (piece_of kind colour square)
short-there k c q hk hc hq =
    let word : ℕ = k + c * 2 ^ 4 + 2 ^ 5 + q * 2 ^ 8 in
    let kind : bits 0 4 word ≡ k =
    field 0 4 0 k (c + 2 + q * 2 ^ 4) word (omega arith) (omega arith) hk in
    let colour : bits 4 1 word ≡ c =
    field 4 1 k c (1 + q * 2 ^ 3) word (omega arith) (omega arith) hc in
    let there : bits 5 1 word ≡ 1 =
    field 5 1 (k + c * 2 ^ 4) 1 (q * 2 ^ 2) word (omega arith) (omega arith) (omega arith) in
    let square : bits 8 8 word ≡ q =
    field 8 8 (k + c * 2 ^ 4 + 2 ^ 5) q 0 word (omega arith) (omega arith) hq in
    rw (there, kind, colour, square)

-- 16 bits give a man back
pub short_back : ReadBack ShortFits short_man short_read
short_back None f = refl
short_back (Some m) f =
    rw (mod-eq_of_lt f.0, mod-eq_of_lt f.1)
    (short-there m.kind m.colour m.square f.0 f.1 f.2)

-- ---- the word

record AfterBits (side white black first second word : ℕ) : Type 0 where
  none : bits 0 8 word ≡ 0
  legal-read : bits 15 1 word ≡ 0
  side-read : bits 8 1 word ≡ side
  white-read : bits 16 8 word ≡ white
  black-read : bits 24 8 word ≡ black
  first_read : bits 32 16 word ≡ first
  second-read : bits 48 16 word ≡ second

after-bits : (s w b f g : ℕ) → s < 2 → Byte w → Byte b → f < 2 ^ 16 → g < 2 ^ 16
    → AfterBits s w b f g (s * 2 ^ 8 + w * 2 ^ 16 + b * 2 ^ 24 + f * 2 ^ 32 + g * 2 ^ 48)
after-bits s w b f g hs hw hb hf hg =
    let word : ℕ = s * 2 ^ 8 + w * 2 ^ 16 + b * 2 ^ 24 + f * 2 ^ 32 + g * 2 ^ 48 in
    record {
      none = field 0 8 0 0 (s + w * 2 ^ 8 + b * 2 ^ 16 + f * 2 ^ 24 + g * 2 ^ 40) word (omega arith) (omega arith)
          (omega arith);
      legal-read = field 15 1 (s * 2 ^ 8) 0 (w + b * 2 ^ 8 + f * 2 ^ 16 + g * 2 ^ 32) word (omega arith) (omega arith)
          (omega arith);
      side-read = field 8 1 0 s (w * 2 ^ 7 + b * 2 ^ 15 + f * 2 ^ 23 + g * 2 ^ 39) word (omega arith) (omega arith) hs;
      white-read = field 16 8 (s * 2 ^ 8) w (b + f * 2 ^ 8 + g * 2 ^ 24) word (omega arith) (omega arith) hw;
      black-read = field 24 8 (s * 2 ^ 8 + w * 2 ^ 16) b (f + g * 2 ^ 16) word (omega arith) (omega arith) hb;
      first_read = field 32 16 (s * 2 ^ 8 + w * 2 ^ 16 + b * 2 ^ 24) f g word (omega arith) (omega arith) hf;
      second-read =
          field 48 16 (s * 2 ^ 8 + w * 2 ^ 16 + b * 2 ^ 24 + f * 2 ^ 32) g 0 word (omega arith) (omega arith) hg;
    }

pub played-read : ReadBack PlayedFits played_word played_read
played-read (Ok (Some p)) h =
    let b = after-bits p.side p.white_king p.black_king (short_man p.first) (short_man p.second)
    h.side h.white h.black (short-size p.first h.first) (short-size p.second h.second) in
    rw (
      b.legal-read,
      b.none,
      b.side-read,
      b.white-read,
      b.black-read,
      b.first_read,
      b.second-read,
      short_back p.first h.first,
      short_back p.second h.second,
    )
played-read (Ok None) h = refl
played-read (Err k) h =
    let legal : bits 15 1 k ≡ 0 = field 15 1 k 0 0 k (omega arith) (omega (arith, h.1)) (omega arith) in
    let low : bits 0 8 k ≡ k = field 0 8 0 k 0 k (omega arith) (omega arith) h.1 in
    rw (legal, low, ne_eqb k 0 (λ z. omega (arith, h.0)))

pub plays-apart : OneWord PlayedFits played_word
plays-apart = one_word PlayedFits played_word played_read played-read

-- ---- what play answers fits

abbrev on : Piece → Bool
on m = ltb m.square 64

-- a piece of either side, or a pawn
man-kind : (m : Piece) → T (known_or_pawn m) → (m.kind < 5) × (m.colour < 2)
man-kind m t = go (known m) refl t
  where
    go : (x : Bool) → known m ≡ x → T (x || (pawn m && ltb m.colour 2 && inner m.square))
        → (m.kind < 5) × (m.colour < 2)
    go true e t =
        let k = of-true {b = known m} e in (
          omega (arith, ltb→lt m.kind 4 (and_left (ltb m.kind 4) (ltb m.colour 2) k)),
          ltb→lt m.colour 2 (and_right (ltb m.kind 4) (ltb m.colour 2) k),
        )
    go false e t =
        let r = and_left (pawn m && ltb m.colour 2) (inner m.square) t in (
          omega (arith, eqb→eq m.kind 4 (and_left (pawn m) (ltb m.colour 2) r)),
          ltb→lt m.colour 2 (and_right (pawn m) (ltb m.colour 2) r),
        )

man-fits : (m : Piece) → T (known_or_pawn m) → T (on m) → ShortFits (Some m)
man-fits m k o =
    let r = man-kind m k in (omega (arith, r.0), r.1, omega (arith, ltb→lt m.square 64 o))

men-fit : (f s : Option Piece) → T (all known_or_pawn (slot_men f ++ slot_men s)) → T (all on (slot_men f ++ slot_men s))
    → ShortFits f × ShortFits s
unfolding all
men-fit None None k o = (tt, tt)
men-fit None (Some n) k o = (tt, man-fits n (and_left (known_or_pawn n) true k) (and_left (on n) true o))
men-fit (Some m) None k o = (man-fits m (and_left (known_or_pawn m) true k) (and_left (on m) true o), tt)
men-fit (Some m) (Some n) k o = (
  man-fits m (and_left (known_or_pawn m) (known_or_pawn n && true) k) (and_left (on m) (on n && true) o),
  man-fits n (and_left (known_or_pawn n) true (and_right (known_or_pawn m) (known_or_pawn n && true) k))
      (and_left (on n) true (and_right (on m) (on n && true) o)),
)

-- legal by the rules of any ending
legal-admitted : (m : Material) (b : Board) → T (legal_in m b) → T (legal_with_pawn b)
legal-admitted (Material.One kind) b t = legal-with-pawn b t
legal-admitted (Material.Two j k r) b t = legal-with-pawn b t
legal-admitted Material.Pawn b t = t

-- a legal board's position fits, whatever its men
after-fits : (p : Position) → T (legal_with_pawn (board_of p)) → AfterFits p
unfolding board_of all
after-fits p t =
    let l = legal_of-facts known_or_pawn (board_of p) t in
    let men = slot_men p.first ++ slot_men p.second in
    let w = ltb p.white_king 64 in
    let k = ltb p.black_king 64 in
    let o = l.squares in
    let m = men-fit p.first p.second l.men (and_right k (all on men) (and_right w (k && all on men) o)) in
    record {
      side = l.side;
      white = omega (arith, ltb→lt p.white_king 64 (and_left w (k && all on men) o));
      black = omega (arith, ltb→lt p.black_king 64 (and_left k (all on men) (and_right w (k && all on men) o)));
      first = m.0;
      second = m.1;
    }

pub played-fits : (p : Position) (from to becomes : ℕ) → PlayedFits (play_of p from to becomes)
played-fits p from to becomes = go (play_of p from to becomes) refl
  where
    go : (a : Result (Option Position) ℕ) → play_of p from to becomes ≡ a → PlayedFits a
    go (Ok (Some q)) e =
        after-fits q
        (legal-admitted (material_in (board_of p).men) (board_of q) (played-true p from to becomes q e).legal-after)
    go (Ok None) e = tt
    go (Err k) e =
        let r = refused-played p from to becomes k e in
        subst RefusalFits (sym r.0) (refusal-fits (standing_with p) 18 r.1 (standing-with-most p) (omega arith))

-- so every field read from the word of a move played is the field of its answer
pub played-told : (p : Position) (from to becomes : ℕ)
    → played_read (played_word (play_of p from to becomes)) ≡ play_of p from to becomes
played-told p from to becomes = played-read (play_of p from to becomes) (played-fits p from to becomes)
