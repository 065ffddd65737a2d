use Rattle.std.proofs.Common.{◌≡◌, ap, sym, ◌∙◌, subst}
use Rattle.tw_exchange.specs.Board.{Board}
use Rattle.tw_table.specs.Seats.{exchange_of, share_at, share_of, taken_by}
use Rattle.tw_table.specs.Shares.{MayBeGiven, Share, board_of, share}
use Rattle.tw_workers.proofs.Visits.{stayed_given}
use Rattle.tw_workers.specs.Work.{PreservesShare, Worker}
use Rattle.tw_workers.proofs.worker.Worker.leave.Goals as goal

pub give-requires-clause-held : goal.give-requires-clause-held
give-requires-clause-held g c = c.halt_all.ensures.same.table _ c.take-taken.ensures.held

pub give-requires-clause-fair : goal.give-requires-clause-fair
give-requires-clause-fair g c =
    let seat = c.args.seat in
    let held = c.take-taken.result in
    let told = c.take-taken.ensures in
    let inside = c.self.inside in
    let t = share inside.shard inside.hand in
    let kept = subst (λ (w : Worker). PreservesShare w.stop (share_at seat) w.share) (sym c.self.view_is) c.requires.preserved in
    let stop = told.stop ∙ (c.requires.stop ∙ ap (λ (w : Worker). w.stop) (sym c.self.view_is)) in
    let board : board_of (exchange_of c.halt_all.new.held) ≡ board_of (taken_by held) = c.halt_all.ensures.board ∙ ap board_of told.exchange in
    let may = stayed_given (taken_by held) (exchange_of c.halt_all.new.held) inside.stop (share_at seat) t told.met stop kept board in
    let mine = subst (λ (s : Share). MayBeGiven (taken_by held) s (exchange_of c.halt_all.new.held) t) (sym (c.halt_all.ensures.same.share ∙ told.share)) may in
    subst (λ (x : Board). MayBeGiven x (share_of c.halt_all.new.held) (exchange_of c.halt_all.new.held) t) (sym c.halt_all.ensures.same.taken) mine
