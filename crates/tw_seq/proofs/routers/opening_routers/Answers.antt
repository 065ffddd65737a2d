use Rattle.std.proofs.Common.{◌≡◌, ℕ, ◌+◌, List, [], ◌∷◌, ◌++◌, map, sym, ◌∙◌, ap₂, arith}
use Rattle.std.specs.List.{range_with_len}
use Rattle.std.proofs.lemmas.List.FromFn.{map-range_with_len_more}
use Rattle.tw_model.specs.State.{Router, opening}
use Rattle.tw_seq.proofs.routers.opening_routers.Goals as goal

one_more : (f : ℕ → Router) (n : ℕ) (xs ys : List Router) (x : Router) → ys ≡ xs ++ x ∷ [] → xs ≡ map f (range_with_len 0 n) → x ≡ f n → ys ≡ map f (range_with_len 0 (n + 1))
one_more f n xs ys x pushed old new = pushed ∙ (ap₂ (λ l y. l ++ y ∷ []) old new ∙ sym (map-range_with_len_more f 0 n n (omega arith)))

pub loop-node-preserved : goal.loop-node-preserved
loop-node-preserved c =
    one_more (λ r. record { net = c.args.instance.now; node = r; state = opening c.args.instance.now r }) c.loop-node.node c.loop-node.routers.items _
    c.in_ok-new.field-0 c.in_ok-push.ensures.items c.loop-node.invariant c.in_ok-new.ensures
