use Rattle.std.proofs.Common.{◌++◌, ◌∙◌, [], ap, filter, get_or, length, set}
use Rattle.tw_exchange.specs.AnyBoard.{all_mail, is_to, is_to_another, who, without_mail}
use Rattle.tw_exchange.specs.Inside.{board_of}
use Rattle.tw_exchange.specs.Rows.{items}
use Rattle.tw_exchange.proofs.Moves.{board_kept, board_taken, exchange_kept, exchange_taken, taken_from, with_mail}
use Rattle.tw_exchange.proofs.Moving.{none_after, taken_out}
use Rattle.tw_exchange.proofs.Refusals.{on_err}
use Rattle.tw_exchange.proofs.exchange.AnyExchange.take_out_of.Goals as goal

pub invariant_of-self : goal.invariant_of-self
invariant_of-self g c =
    let a = c.self.inside in
    exchange_kept g.E.Timed.parts a c.take_out.new.mail c.take_out.new.soonest_times (c.take_out.auto.mail ∙ ap length c.deref_mut.ensures.value) (c.take_out.auto.soonest_times ∙ ap length c.deref_mut-2.ensures.value)
    (c.in_err-take_out.ensures.err ∙ ap items c.deref_mut.ensures.value) c.take_out.ensures.soonest c.self.invariant

pub returns-in_err-take_out-clause-err : goal.returns-in_err-take_out-clause-err
returns-in_err-take_out-clause-err g c =
    on_err _ c.from_residual.result (board_kept g.E.Timed.parts c.self.inside c.take_out.new.mail c.take_out.new.soonest_times (c.take_out.auto.mail ∙ ap length c.deref_mut.ensures.value)
    (c.in_err-take_out.ensures.err ∙ ap items c.deref_mut.ensures.value) ∙ c.self.view_is)

pub invariant_of-self-2 : goal.invariant_of-self-2
invariant_of-self-2 g c =
    let a = c.self.inside in
    let r = c.args.router in
    let w = c.args.worker in
    exchange_taken g.E.Timed.parts a (with_mail a c.take_out.new.mail c.take_out.new.soonest_times) r w c.self.invariant (ap (λ x. who x r) c.self.view_is ∙ c.requires.whose)
    (taken_from g.E.Timed.parts a r w c.take_out.new.mail c.take_out.new.soonest_times (c.take_out.auto.mail ∙ ap length c.deref_mut.ensures.value) (c.take_out.auto.soonest_times ∙ ap length c.deref_mut-2.ensures.value)
    (c.in_ok-take_out.ensures.ok ∙ ap (λ rows. set (items rows) w (filter (is_to_another g.E.Timed.parts r) (get_or (items rows) w []))) c.deref_mut.ensures.value) c.take_out.ensures.soonest)

pub returns-clause-mail : goal.returns-clause-mail
returns-clause-mail g c =
    let a = c.self.inside in
    let r = c.args.router in
    let w = c.args.worker in
    board_taken g.E.Timed.parts a (with_mail a c.take_out.new.mail c.take_out.new.soonest_times) r w c.self.invariant (ap (λ x. who x r) c.self.view_is ∙ c.requires.whose)
    (taken_from g.E.Timed.parts a r w c.take_out.new.mail c.take_out.new.soonest_times (c.take_out.auto.mail ∙ ap length c.deref_mut.ensures.value) (c.take_out.auto.soonest_times ∙ ap length c.deref_mut-2.ensures.value)
    (c.in_ok-take_out.ensures.ok ∙ ap (λ rows. set (items rows) w (filter (is_to_another g.E.Timed.parts r) (get_or (items rows) w []))) c.deref_mut.ensures.value) c.take_out.ensures.soonest)
    ∙ ap (without_mail g.E.Timed.parts r) c.self.view_is

pub returns-clause-taken : goal.returns-clause-taken
returns-clause-taken g c =
    let a = c.self.inside in
    let r = c.args.router in
    let w = c.args.worker in
    c.in_ok-take_out.ensures.taken
    ∙ ap (λ xs. c.args.to.now.items ++ xs) (ap (λ rows. filter (is_to g.E.Timed.parts r) (get_or (items rows) w [])) c.deref_mut.ensures.value
    ∙ (taken_out g.E.Timed.parts r w (board_of a) c.self.invariant.board (ap (λ x. who x r) c.self.view_is ∙ c.requires.whose) ∙ ap (λ x. filter (is_to g.E.Timed.parts r) (all_mail x)) c.self.view_is))

pub returns-clause-whole : goal.returns-clause-whole
returns-clause-whole g c =
    let a = c.self.inside in
    let r = c.args.router in
    let w = c.args.worker in
    (exchange_taken g.E.Timed.parts a (with_mail a c.take_out.new.mail c.take_out.new.soonest_times) r w c.self.invariant (ap (λ x. who x r) c.self.view_is ∙ c.requires.whose)
    (taken_from g.E.Timed.parts a r w c.take_out.new.mail c.take_out.new.soonest_times (c.take_out.auto.mail ∙ ap length c.deref_mut.ensures.value) (c.take_out.auto.soonest_times ∙ ap length c.deref_mut-2.ensures.value)
    (c.in_ok-take_out.ensures.ok ∙ ap (λ rows. set (items rows) w (filter (is_to_another g.E.Timed.parts r) (get_or (items rows) w []))) c.deref_mut.ensures.value) c.take_out.ensures.soonest)).board

pub returns-clause-none : goal.returns-clause-none
returns-clause-none g c =
    let a = c.self.inside in
    let r = c.args.router in
    let w = c.args.worker in
    none_after g.E.Timed.parts r (board_of a) _ (board_taken g.E.Timed.parts a (with_mail a c.take_out.new.mail c.take_out.new.soonest_times) r w c.self.invariant (ap (λ x. who x r) c.self.view_is ∙ c.requires.whose)
    (taken_from g.E.Timed.parts a r w c.take_out.new.mail c.take_out.new.soonest_times (c.take_out.auto.mail ∙ ap length c.deref_mut.ensures.value) (c.take_out.auto.soonest_times ∙ ap length c.deref_mut-2.ensures.value)
    (c.in_ok-take_out.ensures.ok ∙ ap (λ rows. set (items rows) w (filter (is_to_another g.E.Timed.parts r) (get_or (items rows) w []))) c.deref_mut.ensures.value) c.take_out.ensures.soonest))
