-- What is read in accepted lent tables is true, and a depth read there is one that they hold.
use Rattle.std.specs.Prelude.{◌≡◌, refl, Bool, ◌⊎◌, ℕ, zero, suc, ◌+◌, T, eqb, leb, get_or, Err, Ok, Result}
use Rattle.std.proofs.Common.{sym, ◌∙◌, inl, inr, arith, eqb→eq, le→leb, eq-eqb}
use Rattle.std.proofs.Math.Path.{ap, subst⁻¹}
use Rattle.std.proofs.Math.Bool.{true, false, cond}
use mathlib.Core.List.Memᴰ
use mathlib.Core.List.{List, [], ◌∷◌}
use Rattle.std.proofs.lemmas.Bool.{lt-leb}
use Rattle.finite.specs.Truth.{and_left, and_right, refuted, or_left, or_right}
use Rattle.finite.specs.Members.{◌∈◌, any, any-in}
use Rattle.theory.specs.Value.{DepthIs, TrueByte}
use Rattle.theory.proofs.laws.Consistency.{consistent-true}
use Rattle.theory.proofs.laws.Depth.{draw-is}
use Rattle.theory.proofs.laws.TrueBytes.{byte-is}
use Rattle.table_theory.specs.Tables.{OuterTrue}
use Rattle.rules.specs.declared.Piece.{Piece}
use Rattle.rules.specs.Rules.{Board, empty}
use Rattle.rules.specs.Chess.{chess}
use Rattle.numbering.specs.Number.{number_of}
use Rattle.answers.specs.declared.Checked.{Checked}
use Rattle.endings.specs.Ending.{Lone, Ending, byte_of}
use Rattle.endings.specs.Answers.{check_of}
use Rattle.endings.proofs.laws.EndingDrawn.{ending-closed, bare-drawn}
use Rattle.endings.proofs.laws.LookingUp.{accepted-bytes}
use Rattle.numbering.specs.declared.Material.{Material}
use Rattle.numbering.specs.Material.{known}
use Rattle.four_men.specs.Lending.{Lent, borrowed}
use Rattle.four_men.specs.Reading.{Fewer, Within, full, lent_for, lent_to, lent_byte, numbered, holds_depth}
use Rattle.four_men.specs.Answers.{accepts, lent_accepted}
use Rattle.four_men.specs.Truth.{LentBytes}
use Rattle.four_men.proofs.laws.Captures.{fewer-of}
use Rattle.four_men.proofs.laws.Numbered.{lawful_with}

-- ---- the lent table of a kind

pub accepted-is : (c : Result Checked ℕ) → T (accepts c) → c ≡ Ok Checked.Accepted
accepted-is (Ok Checked.Accepted) t = refl
accepted-is (Ok (Checked.Wrong n)) t = absurd t
accepted-is (Err n) t = absurd t

module _ (j k : ℕ) (r : Bool) (l : Lent) where
  -- a man left alone, of one of the two kinds, or bare kings
  pub record Lower (b : Board) (kind : ℕ) : Type 0 where
    pub kinds : (kind ≡ j) ⊎ (kind ≡ k)
    pub below : Ending kind b

  pub lower_of : (b : Board) → Within (Material.Two j k r) b → Fewer (Material.Two j k r) b → (kind : ℕ) × Lower b kind
  lower_of b d (inl e) = (j, record { kinds = inl refl; below = record { legality = d.legality; men = inl e } })
  lower_of b d (inr (inl w)) = (j, record { kinds = inl refl; below = record { legality = d.legality; men = inr w } })
  lower_of b d (inr (inr w)) = (k, record { kinds = inr refl; below = record { legality = d.legality; men = inr w } })

  -- a board with a man of this kind, or bare kings, is read in his table
  pub lower-byte : (kind : ℕ) (b : Board) → Ending kind b
      → lent_byte (Material.Two j k r) l b ≡ byte_of (lent_for j l kind) b
  lower-byte kind b d = go d.men
    where
      bare : (t : List ℕ) → b.men ≡ [] → byte_of t b ≡ 1
      bare t e = unfold byte_of in ap (λ (men : List Piece). cond (empty men) 1 (get_or t (number_of b) 0)) e

      go : (b.men ≡ []) ⊎ Lone kind b → byte_of (lent_to j l b.men) b ≡ byte_of (lent_for j l kind) b
      go (inl e) = bare (lent_to j l b.men) e ∙ sym (bare (lent_for j l kind) e)
      go (inr w) = ap (λ (men : List Piece). byte_of (lent_to j l men) b) w.1.1

  module _ (ok : T (lent_accepted (Material.Two j k r) l)) where
    -- each kind's table is accepted for it
    pub own-accepted : (kind : ℕ) → (kind ≡ j) ⊎ (kind ≡ k) → check_of kind (lent_for j l kind) ≡ Ok Checked.Accepted
    own-accepted kind s = go (eqb kind j) refl s
      where
        one : check_of j l.first ≡ Ok Checked.Accepted
        one = accepted-is (check_of j l.first)
            (and_left (accepts (check_of j l.first)) (accepts (check_of k l.second)) ok)

        other : check_of k l.second ≡ Ok Checked.Accepted
        other = accepted-is (check_of k l.second)
            (and_right (accepts (check_of j l.first)) (accepts (check_of k l.second)) ok)

        go : (x : Bool) → eqb kind j ≡ x → (kind ≡ j) ⊎ (kind ≡ k)
            → check_of kind (cond x l.first l.second) ≡ Ok Checked.Accepted
        go true e s = ap (λ (i : ℕ). check_of i l.first) (eqb→eq kind j (subst⁻¹ T e tt)) ∙ one
        go false e (inl h) = absurd (refuted e (subst⁻¹ T (eq-eqb kind j h) tt))
        go false e (inr h) = ap (λ (i : ℕ). check_of i l.second) h ∙ other

    pub lower-true : (b : Board) (kind : ℕ) → Lower b kind → TrueByte chess b (lent_byte (Material.Two j k r) l b)
    lower-true b kind w =
        subst⁻¹ (TrueByte chess b) (lower-byte kind b w.below)
        (consistent-true chess (Ending kind) (ending-closed kind) (byte_of (lent_for j l kind))
        (accepted-bytes kind (lent_for j l kind) (own-accepted kind w.kinds)) b w.below)

-- ---- what is read elsewhere is true

pub outer-true-with : (m : Material) (w : T (known m)) (l : Lent) → T (lent_accepted m l)
    → OuterTrue chess (numbered m l) (lawful_with m w l)
unfolding numbered lawful_with
outer-true-with m w l ok b d e = go m w ok d (fewer-of m b d e)
  where
    go : (m : Material) → T (known m) → T (lent_accepted m l) → Within m b → Fewer m b → TrueByte chess b (lent_byte m l b)
    go Material.Pawn w ok d f = absurd w
    go (Material.One kind) w ok d f = TrueByte.draw (bare-drawn b d.legality f) refl
    go (Material.Two j k r) w ok d f = let x = lower_of j k r l b d f in lower-true j k r l ok b x.0 x.1

-- ---- the depths that lent tables hold

-- a byte that a table holds passes a test that 0 does not pass
held : (f : ℕ → Bool) → f 0 ≡ false → (t : List ℕ) (i : ℕ) → T (f (get_or t i 0)) → T (any f t)
unfolding any
held f z [] i h = absurd (refuted z h)
held f z (b ∷ t) zero h = or_left (f b) (any f t) h
held f z (b ∷ t) (suc i) h = or_right (f b) (any f t) (held f z t i h)

pub lent-depth : (tables : List (List ℕ)) (t : List ℕ) (i k : ℕ) → t ∈ tables → get_or t i 0 ≡ 2 + k → T (holds_depth tables k)
unfolding holds_depth
lent-depth tables t i k m e =
    any-in (λ u. any (λ b. leb (2 + k) b) u) m
    (held (λ b. leb (2 + k) b) (lt-leb (2 + k) 0 (omega arith)) t i (le→leb (2 + k) (get_or t i 0) (omega arith)))

lent_one : (j : ℕ) (l : Lent) (kind : ℕ) → lent_for j l kind ∈ (l.first ∷ l.second ∷ [])
lent_one j l kind = go (eqb kind j)
  where
    go : (x : Bool) → cond x l.first l.second ∈ (l.first ∷ l.second ∷ [])
    go true = Memᴰ.head refl
    go false = Memᴰ.tail (Memᴰ.head refl)

-- a position that is read elsewhere has a depth that a lent table holds
pub lent-held : (m : Material) → T (known m) → (l : Lent) → T (lent_accepted m l) → (b : Board) → Within m b → full m b.men ≡ false
    → (k : ℕ) → DepthIs chess k b → T (holds_depth (borrowed m l) k)
lent-held m w l ok b d e n h = go m w ok d (fewer-of m b d e)
  where
    read : (t : List ℕ) → byte_of t b ≡ 2 + n → (i : ℕ) × (get_or t i 0 ≡ 2 + n)
    read t f = unfold byte_of in by (empty b.men) f
      where
        by : (x : Bool) → cond x 1 (get_or t (number_of b) 0) ≡ 2 + n → (i : ℕ) × (get_or t i 0 ≡ 2 + n)
        by true f = absurd (omega arith)
        by false f = (number_of b, f)

    go : (m : Material) → T (known m) → T (lent_accepted m l) → Within m b → Fewer m b → T (holds_depth (borrowed m l) n)
    go Material.Pawn w ok d f = absurd w
    go (Material.One kind) w ok d f = absurd ((draw-is chess b).0 (bare-drawn b d.legality f) n h)
    go (Material.Two j k r) w ok d f =
        let x = lower_of j k r l b d f in
        let t = lent_for j l x.0 in
        let v = read t (sym (lower-byte j k r l x.0 b x.1.below)
        ∙ (byte-is chess b (lent_byte (Material.Two j k r) l b) n (lower-true j k r l ok b x.0 x.1)).1 h) in
        lent-depth (l.first ∷ l.second ∷ []) t v.0 n (lent_one j l x.0) v.1

-- bytes hold no depth of 254
none-held : (f : ℕ → Bool) (t : List ℕ) → ((i : ℕ) → f (get_or t i 0) ≡ false) → any f t ≡ false
unfolding any
none-held f [] h = refl
none-held f (b ∷ t) h = rw (h 0, none-held f t (λ i. h (suc i)))

none-in-any : (f : List ℕ → Bool) (tables : List (List ℕ)) → ((t : List ℕ) → t ∈ tables → f t ≡ false)
    → any f tables ≡ false
unfolding any
none-in-any f [] h = refl
none-in-any f (t ∷ tables) h =
    rw (h t (Memᴰ.head refl), none-in-any f tables (λ u i. h u (Memᴰ.tail i)))

pub bytes-end : (m : Material) (l : Lent) → LentBytes m l → holds_depth (borrowed m l) 254 ≡ false
unfolding holds_depth
bytes-end m l small =
    none-in-any (λ t. any (λ b. leb 256 b) t) (borrowed m l)
    (λ t i. none-held (λ b. leb 256 b) t (λ n. lt-leb 256 (get_or t n 0) (small t i n)))
