-- Laws of codes that rise.
use Rattle.std.specs.Prelude.{◌≡◌, refl, true, ◌&&◌, List, [], ◌∷◌, ℕ, zero, suc, ◌+◌, ◌<◌, ◌≤◌, T, leb, ltb, length}
use Rattle.std.proofs.Common.{arith, leb→le, ltb→lt, le-leb, lt-ltb}
use Rattle.finite.specs.Truth.{and_left, and_right, of-true, true_of}
use Rattle.sets.specs.Layout.{rising}
use Rattle.sets.proofs.laws.WordLaws.{Bytes}

-- a code that rises, and the others
pub rising-first : (least c : ℕ) (cs : List ℕ) → rising least (c ∷ cs) ≡ true
    → (least ≤ c) × (c < 4) × (rising (c + 1) cs ≡ true)
unfolding rising
rising-first least c cs e =
    let t : T (leb least c && (ltb c 4 && rising (c + 1) cs)) = of-true e in
    let u : T (ltb c 4 && rising (c + 1) cs) = and_right (leb least c) (ltb c 4 && rising (c + 1) cs) t in (
      leb→le least c (and_left (leb least c) (ltb c 4 && rising (c + 1) cs) t),
      ltb→lt c 4 (and_left (ltb c 4) (rising (c + 1) cs) u),
      true_of (and_right (ltb c 4) (rising (c + 1) cs) u),
    )

pub rising-more : (least c : ℕ) (cs : List ℕ) → least ≤ c → c < 4 → rising (c + 1) cs ≡ true
    → rising least (c ∷ cs) ≡ true
unfolding rising
rising-more least c cs h k e = rw (le-leb least c h, lt-ltb c 4 k) e

pub rising-lower : (low least : ℕ) (cs : List ℕ) → low ≤ least → rising least cs ≡ true → rising low cs ≡ true
unfolding rising
rising-lower low least [] h e = refl
rising-lower low least (c ∷ cs) h e =
    let f = rising-first least c cs e in rising-more low c cs (omega (arith, f.0)) f.1 f.2

-- codes that rise are few
pub rising-few : (least : ℕ) (cs : List ℕ) → least ≤ 4 → rising least cs ≡ true → least + length cs ≤ 4
rising-few least [] h e = omega arith
rising-few least (c ∷ cs) h e =
    let f = rising-first least c cs e in omega (arith, f.0, f.1, rising-few (c + 1) cs (omega arith) f.2)

-- and are bytes
pub rising-bytes : (least : ℕ) (cs : List ℕ) → rising least cs ≡ true → Bytes cs
rising-bytes least [] e k = omega arith
rising-bytes least (c ∷ cs) e zero = let f = rising-first least c cs e in omega (arith, f.1)
rising-bytes least (c ∷ cs) e (suc k) = let f = rising-first least c cs e in rising-bytes (c + 1) cs f.2 k
