use Rattle.std.proofs.Common.{◌≡◌, ◌∷◌, [], ◌++◌, ap₂, sym, ◌∙◌, arith}
use Rattle.std.proofs.lemmas.List.FromFn.{map-range_with_len_more}
use Rattle.tw_exchange.specs.AnyBoard.{who}
use Rattle.tw_exchange.proofs.exchange.AnyExchange.workers_of.Goals as goal

pub push_reserved-requires : goal.push_reserved-requires
push_reserved-requires g c = (
    let len = c.loop-router.invariant.len in let room = c.loop-router.invariant.room in let more = c.loop-router-test.true in omega arith)

pub loop-router-preserved : goal.loop-router-preserved
loop-router-preserved g c =
    let r = c.loop-router.router in
    let here : c.in-Some.worker ≡ who c.args.self.now r = c.in-Some.ensures.value.1 in
    record {
      items = c.push_reserved.ensures.items ∙ (ap₂ (λ l y. l ++ y ∷ []) c.loop-router.invariant.items here ∙ sym (map-range_with_len_more (who c.args.self.now) 0 r r (omega arith)));
      len = (let len = c.loop-router.invariant.len in let more = c.push_reserved.ensures.len in omega arith);
      room = (let room = c.loop-router.invariant.room in let same = c.push_reserved.ensures.capacity in omega arith);
    }
