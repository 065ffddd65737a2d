use Rattle.std.proofs.Common.{◌≡◌, [], ◌++◌, drop, filter, not, ap, sym, ◌∙◌, subst}
use Rattle.tw_table.specs.Shares.{Share, share}
use Rattle.tw_workers.proofs.Moves.{is_own, kept_sorted}
use Rattle.tw_workers.proofs.Places.{drop_none, kept_both, work_kept}
use Rattle.tw_workers.specs.Work.{PreservesShare, Worker}
use Rattle.tw_workers.proofs.worker.Worker.sort_out.Goals as goal

-- what the call keeps of its share
sorted : (c : goal.After-clear-2) → PreservesShare c.self.inside.stop (share c.self.inside.shard c.self.inside.hand) (share c.swap_outgoing.new.self c.sort.new.hand)
sorted c =
    let inside = c.self.inside in
    let s = share inside.shard inside.hand in
    let none = ap (λ (w : Worker). w.share.mail) c.self.view_is ∙ c.requires in
    let own = filter (is_own s.shard) s.shard.outgoing in
    let rest = filter (λ x. not (is_own s.shard x)) s.shard.outgoing in
    let made : Share = record { shard = record s.shard { outgoing = [] }; mail = s.mail ++ own; unsent = s.unsent ++ rest } in
    let shard = c.swap_outgoing.ensures.put ∙ (λ i. record s.shard { outgoing = c.self.invariant.none i }) in
    let mail : drop c.sort.new.hand.next c.sort.new.hand.mail.items ≡ s.mail ++ own
    = ap (λ n. drop n c.sort.new.hand.mail.items) c.sort.ensures.next ∙ (drop_none c.sort.new.hand.mail.items
    ∙ (c.sort.ensures.mail ∙ (ap (λ l. l ++ own) c.clear.ensures.items ∙ ap (λ l. l ++ own) (sym none)))) in
    let unsent = c.sort.ensures.out ∙ ap (λ l. l ++ rest) c.in_ok-reserve-2.ensures.items in
    let same : share c.swap_outgoing.new.self c.sort.new.hand ≡ made = λ i. record { shard = shard i; mail = mail i; unsent = unsent i } in
    subst (PreservesShare inside.stop s) (sym same) (kept_sorted inside.stop s c.self.invariant.work)

pub invariant_of-self-2 : goal.invariant_of-self-2
invariant_of-self-2 c =
    let inside = c.self.inside in
    record {
      work = work_kept inside.stop (share inside.shard inside.hand) (share c.swap_outgoing.new.self c.sort.new.hand) c.self.invariant.work (sorted c);
      stop = c.self.invariant.stop;
      none = c.clear-2.ensures.items;
    }

pub returns-clause-preserved : goal.returns-clause-preserved
returns-clause-preserved c = λ since before.
    let inside = c.self.inside in
    kept_both inside.stop since (share inside.shard inside.hand) (share c.swap_outgoing.new.self c.sort.new.hand)
    (subst (λ (w : Worker). PreservesShare w.stop since w.share) (sym c.self.view_is) before) (sorted c)
