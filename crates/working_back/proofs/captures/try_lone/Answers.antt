-- `working_back::try_lone` meets its contract.
use mathlib.Core.Path.{refl, subst⁻¹}
use native.Mathlib.Omega.{arith}
use Rattle.position.specs.declared.Place.{Place}
use Rattle.successors.proofs.laws.NumberLaws.{told-legal, told-nothing}
use Rattle.retracting.specs.Retracting.{LegalLeft, lone_of}
use Rattle.working_back.proofs.laws.Captures.{lone-in, lone-standing, lone-left, lone-tried, lone-nothing, into-at}
use Rattle.working_back.proofs.captures.try_lone.Goals as goal

pub overflow_cast-j : goal.overflow_cast-j
overflow_cast-j c =
    let x = c.args in
    let h = lone-in x.m x.first.now x.second.now x.k _ c.requires.2 c.requires.4 x.taken c.requires.5 x.j _ refl c.requires.6 in
    omega (arith, h)

pub try_into-requires : goal.try_into-requires
try_into-requires c =
    let x = c.args in (
      c.requires.0,
      c.requires.1,
      c.requires.2,
      subst⁻¹ (λ (p : Place). LegalLeft x.m p x.taken) c.left_place-q.ensures
          (lone-left x.m x.first.now x.second.now x.k _ c.requires.2 c.requires.4 x.taken c.requires.5 x.j _
          (told-legal (lone_of x.m x.taken) x.j _ _ c.in-Some.is
          (lone-standing x.m x.first.now x.second.now x.k _ c.requires.2 c.requires.4 x.taken c.requires.5 x.j
          _ refl c.requires.6 _ c.legal_at-standing.result c.lone_men.ensures c.legal_at-standing.ensures))),
      c.requires.3,
    )

pub returns-in-Some : goal.returns-in-Some
returns-in-Some c =
    let x = c.args in
    lone-tried x.m x.first.now x.second.now x.k _ c.requires.2 c.requires.4 x.taken c.requires.5 x.j _
    (told-legal (lone_of x.m x.taken) x.j _ _ c.in-Some.is
    (lone-standing x.m x.first.now x.second.now x.k _ c.requires.2 c.requires.4 x.taken c.requires.5 x.j _ refl c.requires.6 _ c.legal_at-standing.result c.lone_men.ensures c.legal_at-standing.ensures))
    (lone-in x.m x.first.now x.second.now x.k _ c.requires.2 c.requires.4 x.taken c.requires.5 x.j _ refl c.requires.6)
    c.requires.7 _ _
    (into-at x.m x.first.now x.second.now x.k _ _ _ _ _ c.left_place-q.ensures
    c.try_into.ensures)

pub returns-in-None : goal.returns-in-None
returns-in-None c =
    let x = c.args in
    lone-nothing x.m x.first.now x.second.now x.k _ c.requires.2 c.requires.4 x.taken c.requires.5 x.j
    (told-nothing (lone_of x.m x.taken) x.j _ c.in-None.is
    (lone-standing x.m x.first.now x.second.now x.k _ c.requires.2 c.requires.4 x.taken c.requires.5 x.j _ refl c.requires.6 _ c.legal_at-standing.result c.lone_men.ensures c.legal_at-standing.ensures))
