-- `working_back::lose_one` meets its contract.
use mathlib.Core.Path.{sym, ap, ap₂, ◌∙◌}
use mathlib.Core.Bool.{Bool, ◌||◌}
use Rattle.retracting.specs.Retracting.{place_before}
use Rattle.working_back.proofs.laws.Places.{tried_other}
use Rattle.working_back.proofs.laws.Numbers.{holds-legal}
use Rattle.working_back.proofs.laws.BareLost.{bare-at, taking-can, goal-seated, bare-quiet, held-inside, knows-kept}
use Rattle.working_back.proofs.bare.lose_one.Goals as goal

pub still_number-n-requires : goal.still_number-n-requires
still_number-n-requires c =
    let p = c.requires in
    let x = c.args in
    (p.6.square, p.8.base-fits, p.8.unit-fits)

pub returns-then-byte_of-ne1 : goal.returns-then-byte_of-ne1
returns-then-byte_of-ne1 c =
    let p = c.requires in
    let x = c.args in
    let r = c.still_number-n in
    let z = bare-at x.m x.q x.taken x.to x.white x.x x.y p.4 x.s p.6 r.result (r.ensures x.m _ p.8) in (
      tried_other x.m (place_before x.q x.taken x.s x.to) x.q x.first.now x.second.now x.k _ p.3 r.result z
          (λ e. c.if-byte_of-ne1.true (c.byte_of.ensures ∙ e)),
      p.7,
    )

pub lose_taking-settled-requires : goal.lose_taking-settled-requires
lose_taking-settled-requires c =
    let p = c.requires in
    let x = c.args in
    let r = c.still_number-n in
    let z = bare-at x.m x.q x.taken x.to x.white x.x x.y p.4 x.s p.6 r.result (r.ensures x.m _ p.8) in
    let b = c.byte_of in
    let h = held-inside x.table.now r.result b.result b.ensures c.if-byte_of-ne1.false in
    let one = sym b.ensures ∙ c.if-byte_of-ne1.false in
    let l = p.6.legally (holds-legal x.m (place_before x.q x.taken x.s x.to) p.6.complete x.first.now x.second.now x.table.now p.9 r.result z one) in
    let can = taking-can x.m x.q x.taken x.to x.white x.x x.y p.4 x.s l x.first.now x.second.now x.k _ p.3
    p.0 p.2 r.result z h one c.targets.result x.shut c.minus-goals.result c.targets.ensures p.5 c.minus-goals.ensures _ _
    c.has-takes.ensures (ap (λ (e : Bool). c.has-takes.result || e) (sym c.has.ensures) ∙ c.if-takes-has.true) c.again-t.ensures in
    (p.0, p.1, p.3, l, z, h, one, can)

pub returns-then-takes-has : goal.returns-then-takes-has
returns-then-takes-has c =
    let p = c.requires in
    let x = c.args in
    let w = c.lose_taking-settled.ensures in
    (w, knows-kept x.m x.k x.white x.x x.y p.2 x.table.now _ 1 _ x.saving x.harmless w.0 p.7)

pub lose_quiet-requires : goal.lose_quiet-requires
lose_quiet-requires c =
    let p = c.requires in
    let x = c.args in
    let r = c.still_number-n in
    let z = bare-at x.m x.q x.taken x.to x.white x.x x.y p.4 x.s p.6 r.result (r.ensures x.m _ p.8) in
    let b = c.byte_of in
    let h = held-inside x.table.now r.result b.result b.ensures c.if-byte_of-ne1.false in
    let one = sym b.ensures ∙ c.if-byte_of-ne1.false in
    let l = p.6.legally (holds-legal x.m (place_before x.q x.taken x.s x.to) p.6.complete x.first.now x.second.now x.table.now p.9 r.result z one) in (
      p.1,
      h,
      goal-seated x.m x.q x.taken x.to x.white x.x x.y p.4 x.s l x.first.now x.second.now x.k _ p.3
          p.0 p.2 r.result z h one c.targets.result x.shut c.minus-goals.result c.targets.ensures p.5 c.minus-goals.ensures (sym (ap₂ ◌||◌ c.has-takes.ensures c.has.ensures) ∙ c.if-takes-has.false),
      p.7,
      p.8,
    )

pub returns : goal.returns
returns c =
    let p = c.requires in
    let x = c.args in
    let r = c.still_number-n in
    let z = bare-at x.m x.q x.taken x.to x.white x.x x.y p.4 x.s p.6 r.result (r.ensures x.m _ p.8) in
    let b = c.byte_of in
    let h = held-inside x.table.now r.result b.result b.ensures c.if-byte_of-ne1.false in
    let one = sym b.ensures ∙ c.if-byte_of-ne1.false in
    let l = p.6.legally (holds-legal x.m (place_before x.q x.taken x.s x.to) p.6.complete x.first.now x.second.now x.table.now p.9 r.result z one) in
    let q = c.lose_quiet.ensures in
    let w = bare-quiet x.m x.q x.taken x.to x.white x.x x.y p.4 x.s l x.first.now x.second.now x.k _ p.3
    p.0 p.2 r.result z h one c.targets.result x.shut c.minus-goals.result c.targets.ensures p.5 c.minus-goals.ensures (sym (ap₂ ◌||◌ c.has-takes.ensures c.has.ensures) ∙ c.if-takes-has.false) _ _ q.0 in
    (w, knows-kept x.m x.k x.white x.x x.y p.2 x.table.now _ 1 _ _ _ w.0 q.1)
