use Rattle.std.proofs.Common.{rules, ◌≡◌, ◌++◌, sym, ◌∙◌, subst}
use Rattle.tw_table.specs.Shares.{share}
use Rattle.tw_workers.proofs.Moves.{kept_sent}
use Rattle.tw_workers.proofs.Places.{kept_both}
use Rattle.tw_workers.specs.Work.{PreservesShare, Worker}
use Rattle.tw_workers.proofs.worker.Worker.send_rest.Goals as goal

pub returns-clause-preserved : goal.returns-clause-preserved
returns-clause-preserved c = λ since before.
    let inside = c.self.inside in
    let s = share inside.shard inside.hand in
    let t = share c.swap_outgoing.new.self (record inside.hand { out = c.extend_from_slice.new.self }) in
    let items : c.extend_from_slice.new.self.items ≡ inside.hand.out.items ++ inside.shard.outgoing = search rules in
    let shard = c.swap_outgoing.ensures.put ∙ (λ i. record s.shard { outgoing = c.self.invariant.none i }) in
    let sent : PreservesShare inside.stop s t
    = subst (PreservesShare inside.stop s) (λ i. record { shard = sym shard i; mail = s.mail; unsent = sym items i }) (kept_sent inside.stop s c.self.invariant.work) in
    kept_both inside.stop since s t (subst (λ (w : Worker). PreservesShare w.stop since w.share) (sym c.self.view_is) before) sent
