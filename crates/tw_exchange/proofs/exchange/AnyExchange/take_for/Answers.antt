use Rattle.std.proofs.Common.{arith, ◌≤◌, ◌++◌, ap, sym, ◌∙◌, append-nil}
use Rattle.tw_exchange.specs.AnyBoard.{who, workers}
use Rattle.tw_exchange.proofs.Moving.{none_after, none_left, none_taken}
use Rattle.tw_exchange.proofs.exchange.AnyExchange.take_for.Goals as goal

pub returns-in-None-clause-mail : goal.returns-in-None-clause-mail
returns-in-None-clause-mail g c =
    let x = c.args.self.now in
    let past = c.in-None.ensures.value in
    let far : workers x ≤ who x c.args.router = omega arith in
    sym (none_left g.E.Timed.parts c.args.router x c.in-None.ensures.board far)

pub returns-in-None-clause-taken : goal.returns-in-None-clause-taken
returns-in-None-clause-taken g c =
    let x = c.args.self.now in
    let past = c.in-None.ensures.value in
    let far : workers x ≤ who x c.args.router = omega arith in
    sym (ap (λ xs. c.args.to.now.items ++ xs) (none_taken g.E.Timed.parts c.args.router x c.in-None.ensures.board far) ∙ append-nil c.args.to.now.items)

pub returns-in-None-clause-none : goal.returns-in-None-clause-none
returns-in-None-clause-none g c =
    let x = c.args.self.now in
    let past = c.in-None.ensures.value in
    let far : workers x ≤ who x c.args.router = omega arith in
    none_after g.E.Timed.parts c.args.router x x (sym (none_left g.E.Timed.parts c.args.router x c.in-None.ensures.board far))
