use Rattle.smallvec.proofs.SmallVecLemmas.{items-with_items}
use Rattle.smallvec.specs.SmallVec.{with_items}
use Rattle.std.proofs.Common.{◌≡◌, ◌<◌, ◌∙◌, [], ap, false, length, map, replicate, subst, sym}
use Rattle.std.proofs.lemmas.Result.{on_ok_weaker}
use Rattle.tw_exchange.specs.AnyBoard.{any_homeless, followed, worker_for}
use Rattle.tw_exchange.specs.Owners.{list_of}
use Rattle.tw_exchange.specs.Rows.{items, soonest_of}
use Rattle.tw_exchange.proofs.Dealt.{dealt_new}
use Rattle.tw_exchange.proofs.Rooms.{length_items}
use Rattle.tw_exchange.proofs.parcels.AnyParcels.put_rows.Goals as goal

pub deposit-requires-clause-some : goal.deposit-requires-clause-some
deposit-requires-clause-some g c =
    let many = ap length c.deref_mut.ensures.value ∙ (sym (length_items c.self.inside.lists.items) ∙ ap length c.self.view_is) in
    subst (λ n. 0 < n) (sym many) c.requires.some

pub deposit-requires-clause-home : goal.deposit-requires-clause-home
deposit-requires-clause-home g c =
    let many = ap length c.deref_mut.ensures.value ∙ (sym (length_items c.self.inside.lists.items) ∙ ap length c.self.view_is) in
    subst (λ n. any_homeless g.E.Timed.parts (list_of c.args.owners.now) n c.args.messages.now ≡ false) (sym many) c.requires.home

pub deposit-requires-clause-soonest : goal.deposit-requires-clause-soonest
deposit-requires-clause-soonest g c =
    c.deref_mut-2.ensures.value ∙ (c.self.invariant.soonest ∙ ap (λ rows. map (soonest_of g.E.Timed.parts) (items rows)) (sym c.deref_mut.ensures.value))

pub invariant_of-self : goal.invariant_of-self
invariant_of-self g c =
    let a = c.self.inside in
    let put = items-with_items a.lists c.deposit.new.mail (c.deposit.auto.mail ∙ ap length c.deref_mut.ensures.value) in
    record {
      soonest = items-with_items a.soonest c.deposit.new.soonest (c.deposit.auto.soonest ∙ ap length c.deref_mut-2.ensures.value)
          ∙ (c.deposit.ensures.soonest ∙ ap (λ rows. map (soonest_of g.E.Timed.parts) (items rows)) (sym put));
    }

pub returns-clause-dealt : goal.returns-clause-dealt
returns-clause-dealt g c =
    let a = c.self.inside in
    let owners = list_of c.args.owners.now in
    let out = c.args.messages.now in
    let rows = c.deref_mut.ensures.value in
    let many : length c.deref_mut.result.now ≡ length c.args.self.now = ap length rows ∙ (sym (length_items a.lists.items) ∙ ap length c.self.view_is) in
    let none : items c.deref_mut.result.now ≡ replicate (length c.args.self.now) [] = ap items rows ∙ (c.self.view_is ∙ c.requires.none) in
    let put = items-with_items a.lists c.deposit.new.mail (c.deposit.auto.mail ∙ ap length c.deref_mut.ensures.value) in
    on_ok_weaker c.deposit.result (λ ok. dealt_new g.E.Timed.parts owners (length c.args.self.now) out (items (with_items a.lists c.deposit.new.mail).items) c.requires.home
    (ap items put ∙ (ok ∙ λ i. followed g.E.Timed.parts (worker_for owners (many i)) 0 out (none i)))) c.deposit.ensures.ok
