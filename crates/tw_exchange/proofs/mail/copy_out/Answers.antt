use Rattle.std.proofs.Common.{◌+◌, ◌++◌, ◌∙◌, ap, arith, filter, refl, subst, sym}
use Rattle.std.proofs.lemmas.Bool.{eq-eqb, ne_eqb}
use Rattle.std.proofs.lemmas.List.Sums.{length-filter}
use Rattle.tw_exchange.specs.AnyBoard.{is_to}
use Rattle.tw_exchange.proofs.Copies.{IsCopying, all_copied, copies_none, copies_one, has_room}
use Rattle.tw_exchange.proofs.mail.copy_out.Goals as goal
use Rattle.tw_exchange.proofs.mail.copy_out.Goals.{then-dst-router, else-dst-router}

pub loop-message-init : goal.loop-message-init
loop-message-init g c =
    let many = length-filter (is_to g.E.Timed.parts c.args.router) c.args.messages.now in
    let counted = c.count_for.ensures in
    let room = c.in_ok-reserve.ensures.ok in
    record { copied = refl; room = omega arith }

pub push_reserved-requires : goal.push_reserved-requires
push_reserved-requires g c =
    let step = c.loop-message in
    let m = c.message-item.result in
    has_room (is_to g.E.Timed.parts c.args.router) c.reserve.new.self.items c.args.messages.now step.message-index step.to m m step.invariant c.loop-message-test.true c.message-item.is
    (eq-eqb (g.E.Timed.parts.dst m.event) c.args.router (sym c.dst.ensures ∙ c.if-dst-router.true))

pub loop-message-preserved : goal.loop-message-preserved
loop-message-preserved g c =
    let p = is_to g.E.Timed.parts c.args.router in
    let old = c.reserve.new.self.items in
    let xs = c.args.messages.now in
    let step = c.loop-message in
    let i = step.message-index in
    let m = c.message-item.result in
    let more = c.loop-message-test.true in
    elim c.if-dst-router.branch [
      | then-dst-router w ↦ subst (IsCopying p old xs (i + 1)) (sym w.to-is) (copies_one p old xs i step.to w.push_reserved.new.self m m step.invariant more c.message-item.is
          (eq-eqb (g.E.Timed.parts.dst m.event) c.args.router (sym c.dst.ensures ∙ w.if-dst-router.true)) w.push_reserved.ensures.items w.push_reserved.ensures.len w.push_reserved.ensures.capacity)
      | else-dst-router w ↦ subst (IsCopying p old xs (i + 1)) (sym w.to-is) (copies_none p old xs i step.to m m step.invariant more c.message-item.is
          (ne_eqb (g.E.Timed.parts.dst m.event) c.args.router (λ same. w.if-dst-router.false (c.dst.ensures ∙ same))))
    ]

pub returns-clause-ok : goal.returns-clause-ok
returns-clause-ok g c =
    let p = is_to g.E.Timed.parts c.args.router in
    let xs = c.args.messages.now in
    all_copied p c.reserve.new.self.items xs c.loop-message.message-index c.loop-message.to c.loop-message.invariant c.loop-message-test.false ∙ ap (λ old. old ++ filter p xs) c.reserve.ensures.items
