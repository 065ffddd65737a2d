use Rattle.std.proofs.Common.{ℕ, List, ◌+◌, ◌∷◌, ◌++◌, [], length, map, Some, ap, append_assoc, arith, subst, sym, ◌∙◌, ◌≤◌}
use Rattle.tw_event.specs.declared.event.PathNo.{PathNo}
use Rattle.tw_instance.proofs.Chained.{ahead, before_at, chain, last_at, row_begins, row_goes_on}
use Rattle.tw_instance.proofs.chains.Chains.push_row.Goals as goal

pub loop-next-init : goal.loop-next-init
loop-next-init c =
    let a = c.args.self.now in
    let xs = a.rests.items in
    let is = last_at xs (length xs + 1) (length xs) c.args.rest a.last.items a.before.items c.index-next.result.now a.chained (omega arith) c.index-next.ensures in
    let begins = row_begins xs c.args.rest c.index-next.result.now is in
    record { within = begins.0; rest = ap (λ ys. c.args.numbers.now.items ++ ys) begins.1 }

pub loop-next-smaller : goal.loop-next-smaller
loop-next-smaller c =
    let a = c.args.self.now in
    let xs = a.rests.items in
    let j = c.in-Some.number in
    let at : ahead (Some j) ≤ length xs = subst (λ y. ahead y ≤ length xs) c.in-Some.is c.loop-next.invariant.within in
    let is = before_at xs (length xs + 1) (length xs) j a.last.items a.before.items c.index-next-in-Some.result.now a.chained (omega arith) c.index-next-in-Some.ensures in
    let on = (row_goes_on xs j c.index-next-in-Some.result.now is).0 in
    rw c.in-Some.is (omega arith)

pub loop-next-preserved : goal.loop-next-preserved
loop-next-preserved c =
    let a = c.args.self.now in
    let xs = a.rests.items in
    let j = c.in-Some.number in
    let at : ahead (Some j) ≤ length xs = subst (λ y. ahead y ≤ length xs) c.in-Some.is c.loop-next.invariant.within in
    let is = before_at xs (length xs + 1) (length xs) j a.last.items a.before.items c.index-next-in-Some.result.now a.chained (omega arith) c.index-next-in-Some.ensures in
    let on = row_goes_on xs j c.index-next-in-Some.result.now is in
    let numbers = λ (ks : List ℕ). map (λ k. let q : PathNo = record { 0 = k } in q) ks in
    let before = c.loop-next.numbers.items in
    let q : PathNo = record { 0 = j } in
    record {
      within = let low = on.0 in omega arith;
      rest = ap (λ ys. ys ++ numbers (chain xs c.index-next-in-Some.result.now)) c.in_ok-push.ensures.items
          ∙ (append_assoc before (q ∷ []) (numbers (chain xs c.index-next-in-Some.result.now))
          ∙ (ap (λ ks. before ++ numbers ks) on.1
          ∙ (ap (λ y. before ++ numbers (chain xs y)) (sym c.in-Some.is) ∙ c.loop-next.invariant.rest)));
    }
