-- The four directions upward: what was passed over does not fall. Assumes nothing.
use mathlib.Core.Path.{refl, ◌∙◌}
use native.Mathlib.Omega.{arith}
use Rattle.route.specs.Coded.{meant}
use Rattle.route.proofs.Codes.{each_way}
use Rattle.route.proofs.Nodes.{not_channel, channel_below}
use Rattle.route.proofs.Falls.{ending, inside, no_channel, none_passed, pass, found, all_passed, none_falls}
use Rattle.route.proofs.numberings.Numbering.first_after.Goals as goal

pub returns-then-not-exists-clause-first : goal.returns-then-not-exists-clause-first
returns-then-not-exists-clause-first c =
    let x = c.args in
    let b = c.channel_of-from.ensures in
    none_falls (meant x.self.mesh) x.list.now x.incoming refl (no_channel _ _ _ (not_channel _ _ (omega arith) b.start b.way c.exists.ensures c.if-not-exists.true))

pub loop-way-init : goal.loop-way-init
loop-way-init c =
    let b = c.channel_of-from.ensures in
    none_passed _ _ _ (ending (meant c.args.self.mesh) _ (omega arith) b.start b.way c.exists.ensures c.if-not-exists.false c.hop-start.ensures)

pub falls-requires-clause-ends : goal.falls-requires-clause-ends
falls-requires-clause-ends c =
    let b = c.channel_of-from.ensures in
    ending (meant c.args.self.mesh) _ (omega arith) b.start b.way c.exists.ensures c.if-not-exists.false c.hop-start.ensures

pub returns-then-falls-clause-bound : goal.returns-then-falls-clause-bound
returns-then-falls-clause-bound c =
    let b = c.channel_of-from.ensures in
    let e = ending (meant c.args.self.mesh) _ (omega arith) b.start b.way c.exists.ensures c.if-not-exists.false c.hop-start.ensures in
    rw c.number.ensures (channel_below (meant c.args.self.mesh) _ _ (inside _ _ e))

pub returns-then-falls-clause-first : goal.returns-then-falls-clause-first
returns-then-falls-clause-first c =
    let b = c.channel_of-from.ensures in
    let e = ending (meant c.args.self.mesh) _ (omega arith) b.start b.way c.exists.ensures c.if-not-exists.false c.hop-start.ensures in
    c.number.ensures ∙ found _ _ _ e c.loop-way.way-index (omega arith) c.loop-way.invariant (each_way _ _ (omega arith)) c.falls.ensures c.if-falls.true

pub loop-way-preserved : goal.loop-way-preserved
loop-way-preserved c =
    let b = c.channel_of-from.ensures in
    let e = ending (meant c.args.self.mesh) _ (omega arith) b.start b.way c.exists.ensures c.if-not-exists.false c.hop-start.ensures in
    pass _ _ _ e c.loop-way.way-index (omega arith) c.loop-way.invariant (each_way _ _ (omega arith)) c.falls.ensures c.if-falls.false

pub returns-clause-first : goal.returns-clause-first
returns-clause-first c =
    let x = c.args in
    let b = c.channel_of-from.ensures in
    let e = ending (meant x.self.mesh) _ (omega arith) b.start b.way c.exists.ensures c.if-not-exists.false c.hop-start.ensures in
    none_falls (meant x.self.mesh) x.list.now x.incoming refl (all_passed _ _ _ e c.loop-way.way-index (omega arith) c.loop-way.invariant)
