use Rattle.std.proofs.Common.{sym, ◌∙◌, arith}
use Rattle.std.specs.Vec.{vec_len}
use Rattle.std.proofs.lemmas.Bool.{eqb-true}
use Rattle.tw_ordered.proofs.Lists.{in_order_none}
use Rattle.tw_ordered.proofs.Keyed.{empty_events}
use Rattle.tw_held.proofs.sender_table.SenderTable.open.Goals as goal

pub returns-in-Ok : goal.returns-in-Ok
returns-in-Ok c =
    let old = c.self.inside.queues in
    let none = eqb-true (vec_len old) 0 (sym c.if-not-is_empty.ensures) in
    empty_events c.args.routers c.in-Ok.queues.items c.in-Ok.ensures ∙ sym (in_order_none old.items (λ i l. absurd (omega (arith, none, old.ok.0)))) ∙ c.self.view_is
