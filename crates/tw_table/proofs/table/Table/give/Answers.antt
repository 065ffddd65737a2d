use Rattle.std.proofs.Common.{ap, subst, sym, ◌∙◌}
use Rattle.crossbeam_queue.specs.Passes.{view}
use Rattle.tw_exchange.specs.Board.{IsBoard, new_board, report_of, workers}
use Rattle.tw_table.proofs.Seats.{one_alone, one_read, worker_of}
use Rattle.tw_table.proofs.Views.{finds_empty, gives}
use Rattle.tw_table.specs.Seats.{exchange_of, share_of, taken_by}
use Rattle.tw_table.specs.declared.rule.View.{View}
use Rattle.tw_table.specs.Shares.{no_share, share}
use Rattle.tw_table.specs.Views.{IsVisitedBy}
use Rattle.tw_table.proofs.table.Table.give.Goals as goal

pub push-requires-clause-keeps : goal.push-requires-clause-keeps
push-requires-clause-keeps g c =
    let held = c.args.held in
    let v = view held.pass in
    gives _ v (taken_by held) held.exchange.value (share_of held) (share c.args.shard.now c.args.hand.now) held.holds.begun
    (one_alone (λ x. workers x) (new_board 0 0 0) v.workers v.held held.holds.one)
    (one_alone worker_of no_share held.worker v.shares held.holds.share) (subst IsBoard c.deref.ensures c.bound-bound.ensures.board)
    (subst (λ w. IsVisitedBy w (taken_by held) held.exchange.value) (sym (one_read worker_of no_share held.worker v.shares held.holds.share)) held.visited) c.requires.fair

pub push-requires-clause-learns : goal.push-requires-clause-learns
push-requires-clause-learns g c =
    let held = c.args.held in
    let v = view held.pass in
    finds_empty _ v (taken_by held) held.holds.begun (one_alone (λ x. workers x) (new_board 0 0 0) v.workers v.held held.holds.one)

pub push-requires-clause-means : goal.push-requires-clause-means
push-requires-clause-means g c = λ v x w is. is

pub returns-clause-report : goal.returns-clause-report
returns-clause-report g c =
    ap (λ (v : View). v.report) c.push.ensures.view ∙ ap (λ w. report_of w (exchange_of c.args.held)) c.requires.fair.worker
