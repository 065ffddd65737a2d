use Rattle.std.proofs.Common.{◌≡◌, ℕ, ◌+◌, List, [], ◌∷◌, ◌++◌, map, ap, sym, ◌∙◌, ap₂, arith}
use Rattle.std.specs.List.{range_with_len}
use Rattle.std.proofs.lemmas.List.FromFn.{map-range_with_len_more}
use Rattle.tw_model.specs.Net.{Net}
use Rattle.tw_model.specs.State.{Router, opening}
use Rattle.tw_seq.specs.Run.{router_after}
use Rattle.tw_elimination.proofs.standing.opening_routers.Goals as goal

one_more : (f : ℕ → Router) (n : ℕ) (xs ys : List Router) (x : Router) → ys ≡ xs ++ x ∷ [] → xs ≡ map f (range_with_len 0 n) → x ≡ f n → ys ≡ map f (range_with_len 0 (n + 1))
one_more f n xs ys x pushed old new = pushed ∙ (ap₂ (λ l y. l ++ y ∷ []) old new ∙ sym (map-range_with_len_more f 0 n n (omega arith)))

pub loop-node-preserved : goal.loop-node-preserved
loop-node-preserved c =
    one_more (router_after c.args.case.now []) c.loop-node.node c.loop-node.routers.items c.push.new.self.items c.in_ok-new.field-0 c.in_ok-push.ensures.items c.loop-node.invariant
    (c.in_ok-new.ensures ∙ ap (λ (net : Net). record { net = net; node = c.loop-node.node; state = opening net c.loop-node.node }) c.instance-instance.ensures.value)
