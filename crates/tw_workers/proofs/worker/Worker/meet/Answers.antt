use Rattle.std.proofs.Common.{rules, ◌∙◌, ◌<◌, ap, length, subst}
use Rattle.std.proofs.lemmas.Result.{on_err_weaker, on_ok_weaker}
use Rattle.tw_exchange.specs.Board.{Board, report_of, workers}
use Rattle.tw_table.specs.Seats.{exchange_of, owners_on, workers_at}
use Rattle.tw_table.specs.Shares.{Share}
use Rattle.tw_workers.proofs.Visits.{dealt_there, homeless_there}
use Rattle.tw_workers.proofs.worker.Worker.meet.Goals as goal

pub visit-leaving-requires-clause-dealt : goal.visit-leaving-requires-clause-dealt
visit-leaving-requires-clause-dealt g c =
    let t = c.args.table.now in
    let taken = c.take-held.ensures in
    let x = exchange_of c.take-held.result in
    record {
      dealt = on_ok_weaker c.deal-dealt.result (λ is. dealt_there x (owners_on t) (workers_at t) c.deref.result.now c.self.inside.hand.out.items c.deal-dealt.new.parcels
          (ap (λ (y : Board). y.owners) taken.exchange ∙ taken.owners) (ap (λ (y : Board). workers y) taken.exchange ∙ taken.workers) c.deref.ensures.value is) c.deal-dealt.ensures.dealt;
      wanted = on_err_weaker c.deal-dealt.result (λ some. subst (λ ms. 0 < length ms) c.deref.ensures.value some) c.deal-dealt.ensures.wanted;
      no_router = λ why.
          homeless_there x (owners_on t) (workers_at t) c.deref.result.now c.self.inside.hand.out.items
          (ap (λ (y : Board). y.owners) taken.exchange ∙ taken.owners) (ap (λ (y : Board). workers y) taken.exchange ∙ taken.workers) c.deref.ensures.value (c.deal-dealt.ensures.no_router.0 why);
      no_worker = search rules;
      early = search rules;
    }

pub give-seat-requires-clause-held : goal.give-seat-requires-clause-held
give-seat-requires-clause-held g c = c.visit-leaving.ensures.seat.table _ c.take-held.ensures.held

pub returns-clause-told : goal.returns-clause-told
returns-clause-told g c = λ taken.
    let y = exchange_of c.visit-leaving.new.held in
    let told = c.visit-leaving.ensures.told taken in
    record {
      bound = search rules;
      sent = search rules;
      report = c.give-seat.ensures.report ∙ (ap (λ (s : Share). report_of s.shard.terms.worker y) c.visit-leaving.ensures.seat.share ∙ told.report);
    }
