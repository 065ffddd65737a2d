use Rattle.std.proofs.Common.{◌≡◌, [], drop, ap, sym, ◌∙◌, subst}
use Rattle.std.specs.List.{list_all}
use Rattle.tw_shard.specs.Shard.{owns}
use Rattle.tw_table.specs.Shares.{Share, share}
use Rattle.tw_workers.proofs.Moves.{kept_taken}
use Rattle.tw_workers.proofs.Places.{drop_none, kept_both, work_kept}
use Rattle.tw_workers.specs.Work.{PreservesShare, Worker}
use Rattle.tw_workers.proofs.worker.Worker.take_own.Goals as goal

-- what the call keeps of its share
taken : (c : goal.After-swap_outgoing) → PreservesShare c.self.inside.stop (share c.self.inside.shard c.self.inside.hand) (share c.swap_outgoing.new.self (record c.self.inside.hand { mail = c.swap_outgoing.new.messages; next = 0 }))
taken c =
    let inside = c.self.inside in
    let s = share inside.shard inside.hand in
    let none = ap (λ (w : Worker). w.share.mail) c.self.view_is ∙ c.requires.mail in
    let own = ap (λ (w : Worker). list_all (λ m. owns w.share.shard m.event.dst) w.share.shard.outgoing) c.self.view_is ∙ c.requires.own in
    let made : Share = record { shard = record s.shard { outgoing = [] }; mail = s.shard.outgoing; unsent = s.unsent } in
    let shard = c.swap_outgoing.ensures.put ∙ (λ i. record s.shard { outgoing = c.clear.ensures.items i }) in
    let mail : drop 0 c.swap_outgoing.new.messages.items ≡ s.shard.outgoing = drop_none c.swap_outgoing.new.messages.items ∙ c.swap_outgoing.ensures.taken in
    let same : share c.swap_outgoing.new.self (record inside.hand { mail = c.swap_outgoing.new.messages; next = 0 }) ≡ made
    = λ i. record { shard = shard i; mail = mail i; unsent = s.unsent } in
    subst (PreservesShare inside.stop s) (sym same) (kept_taken inside.stop s c.self.invariant.work none own)

pub invariant_of-self : goal.invariant_of-self
invariant_of-self c =
    let inside = c.self.inside in
    record {
      work = work_kept inside.stop (share inside.shard inside.hand) (share c.swap_outgoing.new.self (record inside.hand { mail = c.swap_outgoing.new.messages; next = 0 })) c.self.invariant.work (taken c);
      stop = c.self.invariant.stop;
      none = c.self.invariant.none;
    }

pub returns-clause-preserved : goal.returns-clause-preserved
returns-clause-preserved c = λ since before.
    let inside = c.self.inside in
    kept_both inside.stop since (share inside.shard inside.hand) (share c.swap_outgoing.new.self (record inside.hand { mail = c.swap_outgoing.new.messages; next = 0 }))
    (subst (λ (w : Worker). PreservesShare w.stop since w.share) (sym c.self.view_is) before) (taken c)
