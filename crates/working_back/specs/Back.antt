-- A pass that works back (02, P11): what it tries. Definitions only.
use Rattle.std.specs.Prelude.{◌≡◌, List, ◌⊎◌, ℕ, ◌+◌, ◌*◌, ◌<◌, ◌≤◌, T, length, get_or}
use Rattle.table_theory.specs.Tables.{reads}
use Rattle.board.specs.Sets.{has}
use Rattle.rules.specs.Chess.{chess}
use Rattle.numbering.specs.Keys.{board_at}
use Rattle.numbering.specs.Number.{number_of}
use Rattle.numbering.specs.Material.{known, men_of}
use Rattle.position.specs.declared.Men.{Men}
use Rattle.position.specs.declared.Place.{Place}
use Rattle.position.specs.Posed.{board_in, material_for, Complete}
use Rattle.numbering.specs.declared.Material.{Material}
use Rattle.four_men.specs.Lending.{lent}
use Rattle.four_men.specs.Reading.{lent_for, legal_number_of}
use Rattle.retracting.specs.Retracting.{Leads, place_before, lone_of, left_place}
use Rattle.working_back.specs.Admitted.{over}
use Rattle.working_back.specs.Trying.{Midway, Went, Tried, Ready}

-- the first man was taken, or the second
abbrev pub Which : ℕ → Type 0
Which taken = (taken ≡ 1) ⊎ (taken ≡ 2)

-- the lent table of the man left alone
abbrev pub lent_of : Men → List ℕ → List ℕ → ℕ → List ℕ
lent_of m first second taken = lent_for m.first (lent first second) (lone_of m taken).first

-- so many were settled at most: bytes went from 1 to 2 + k, and no other way
pub record Few (k most : ℕ) (u v : List ℕ) (did : ℕ) : Type 0 where
  pub long : length v ≡ length u
  pub few : did ≤ most
  pub byte : (n : ℕ) → (get_or v n 0 ≡ get_or u n 0) ⊎ ((get_or u n 0 ≡ 1) × (get_or v n 0 ≡ 2 + k))

-- none of these numbers holds the byte
abbrev pub NoneFrom : List ℕ → ℕ → ℕ → ℕ → Type 0
NoneFrom t byte from to = (i : ℕ) → from ≤ i → i < to → get_or t i 0 ≡ byte → ⊥

-- from `from` on to r no number holds it
pub record Passes (t : List ℕ) (byte from r : ℕ) : Type 0 where
  pub later : from ≤ r
  pub inside : r ≤ length t
  pub none : NoneFrom t byte from r

-- the first number from `from` on that holds the byte, before `end`; `end` where there is none
pub record FirstAt (t : List ℕ) (byte from end r : ℕ) : Type 0 where
  pub passes : Passes t byte from r
  pub upto : r ≤ end
  pub here : r < end → get_or t r 0 ≡ byte

-- what a pass that works back is given: the men are pieces, and below depth k nothing is left to settle
abbrev pub Backwards : Men → List ℕ → List ℕ → ℕ → List ℕ → Type 0
Backwards m first second k t = T (known (material_for m)) × Ready chess (over m first second) k t

module _ (m : Men) (first second : List ℕ) (k : ℕ) where
  -- below depth k nothing is left to settle, and the place's byte is that of depth k - 1
  pub record Ripe (t : List ℕ) (q : Place) : Type 0 where
    pub ready : Ready chess (over m first second) k t
    pub byte : reads chess (over m first second) t (board_in m q) ≡ 1 + k

  -- the number of one position that has a move to q
  abbrev pub TriesPlace : Place → Place → List ℕ → List ℕ → ℕ → Type 0
  TriesPlace q o u v did = Few k 1 u v did
      × ((t : List ℕ) → Midway chess (over m first second) k t u → Ripe t q
      → Went chess (over m first second) k t u v did × Tried chess (over m first second) k t v (number_of (board_in m o)))

  -- from none of these squares anything is settled
  abbrev pub Unsettled : Place → ℕ → ℕ → List ℕ → ℕ → Type 0
  Unsettled q taken to v set =
      (s : ℕ) → s < 64 → T (has set s) → Leads m (place_before q taken s to) s to q → TriesPlace q (place_before q taken s to) v v 0

  -- the numbers of the legal positions with a legal move to this square that leads to q
  abbrev pub TriesTo : Place → ℕ → List ℕ → List ℕ → ℕ → Type 0
  TriesTo q to u v did = Few k 64 u v did
      × ((t : List ℕ) → Midway chess (over m first second) k t u → Ripe t q
      → Went chess (over m first second) k t u v did
      × ((o : Place) (from : ℕ) → Leads m o from to q → Tried chess (over m first second) k t v (number_of (board_in m o))))

  -- .. to any square
  abbrev pub TriesInto : Place → List ℕ → List ℕ → ℕ → Type 0
  TriesInto q u v did = Few k 192 u v did
      × ((t : List ℕ) → Midway chess (over m first second) k t u → Ripe t q
      → Went chess (over m first second) k t u v did
      × ((o : Place) (from to : ℕ) → Leads m o from to q → Tried chess (over m first second) k t v (number_of (board_in m o))))

  -- all have been tried that lead to the place at a number, if that is legal
  abbrev pub TriedAt : List ℕ → List ℕ → ℕ → Type 0
  TriedAt t v j = T (legal_number_of (material_for m) j)
      → (q : Place) × Complete m q × (board_in m q ≡ board_at (men_of (material_for m)) j)
      × ((o : Place) (from to : ℕ) → Leads m o from to q → Tried chess (over m first second) k t v (number_of (board_in m o)))

  -- .. where it holds depth k - 1
  abbrev pub TriesAt : ℕ → List ℕ → List ℕ → ℕ → Type 0
  TriesAt j u v did = Few k 192 u v did
      × ((t : List ℕ) → Midway chess (over m first second) k t u → Ready chess (over m first second) k t
      → Went chess (over m first second) k t u v did × (get_or t j 0 ≡ 1 + k → TriedAt t v j))

  -- ---- captures

  -- all have been tried that lead, by taking that man, to the place at a number there, if that is legal
  abbrev pub TriedLone : List ℕ → List ℕ → ℕ → ℕ → Type 0
  TriedLone t v taken j = T (legal_number_of (Material.One (lone_of m taken).first) j)
      → (q : Place) × Complete (lone_of m taken) q × (board_in (lone_of m taken) q ≡ board_at (men_of (Material.One (lone_of m taken).first)) j)
      × ((o : Place) (from to : ℕ) → Leads m o from to (left_place m taken q)
      → Tried chess (over m first second) k t v (number_of (board_in m o)))

  abbrev pub TriesLone : ℕ → ℕ → List ℕ → List ℕ → ℕ → Type 0
  TriesLone taken j u v did = Few k 192 u v did
      × ((t : List ℕ) → Midway chess (over m first second) k t u → Ready chess (over m first second) k t
      → Went chess (over m first second) k t u v did × (get_or (lent_of m first second taken) j 0 ≡ 1 + k → TriedLone t v taken j))

  -- .. at the numbers below j that hold depth k - 1
  abbrev pub Sweeps : ℕ → ℕ → List ℕ → List ℕ → ℕ → Type 0
  Sweeps taken j u v did = Few k (192 * j) u v did
      × ((t : List ℕ) → Midway chess (over m first second) k t u → Ready chess (over m first second) k t
      → Went chess (over m first second) k t u v did
      × ((i : ℕ) → i < j → get_or (lent_of m first second taken) i 0 ≡ 1 + k → TriedLone t v taken i))

  -- .. at all numbers of both
  abbrev pub SweptAll : List ℕ → List ℕ → Type 0
  SweptAll t v = m.second < 4 → (taken : ℕ) → Which taken → (i : ℕ) → get_or (lent_of m first second taken) i 0 ≡ 1 + k → TriedLone t v taken i

  abbrev pub SweepsAll : List ℕ → List ℕ → ℕ → Type 0
  SweepsAll u v did = Few k 22708224 u v did
      × ((t : List ℕ) → Midway chess (over m first second) k t u → Ready chess (over m first second) k t
      → Went chess (over m first second) k t u v did × SweptAll t v)

  -- ---- this table: the numbers below j
  abbrev pub SweepsOwn : ℕ → List ℕ → List ℕ → ℕ → Type 0
  SweepsOwn j u v did = Few k (192 * j) u v did
      × ((t : List ℕ) → Midway chess (over m first second) k t u → Ready chess (over m first second) k t
      → Went chess (over m first second) k t u v did × ((i : ℕ) → i < j → get_or t i 0 ≡ 1 + k → TriedAt t v i))
