use Rattle.std.proofs.Common.{◌∷◌, ◌++◌, [], ◌+◌, ap, arith, length, refl, subst, sym, ◌∙◌}
use Rattle.std.proofs.lemmas.List.{length-append}
use Rattle.tw_instance.specs.Chains.{AreRows, row_of}
use Rattle.tw_instance.proofs.Chained.{no_rows, none_below, row_counted, row_push, rows_fit}
use Rattle.tw_instance.proofs.chains.Chains.rows.Goals as goal

pub loop-rest-preserved : goal.loop-rest-preserved
loop-rest-preserved c =
    let xs = c.args.self.now.rests.items in
    let k = c.loop-rest.rest in
    let n = c.len-in-loop-rest.result in
    let before = c.loop-rest.numbers.items in
    let starts = c.loop-rest.starts.items in
    let row = row_of xs k in
    let long = c.len-in-loop-rest.ensures ∙ (c.push_row.new.numbers.ok.0 ∙ ap length c.in_ok-push_row.ensures) in
    let more = row_push xs k n starts before row c.loop-rest.invariant.rows refl long in
    record {
      rows = subst (λ ss. AreRows xs (k + 1) ss c.push_row.new.numbers.items) (sym c.in_ok-push-2.ensures.items)
          (subst (AreRows xs (k + 1) (starts ++ n ∷ [])) (sym c.in_ok-push_row.ensures) more);
      counted = ap length c.in_ok-push_row.ensures ∙ (length-append before row ∙ row_counted xs k (length before) c.loop-rest.invariant.counted);
    }

pub loop-rest-init : goal.loop-rest-init
loop-rest-init c =
    let xs = c.args.self.now.rests.items in
    let starts = c.in_ok-push.ensures.items ∙ ap (λ ss. ss ++ 0 ∷ []) c.in_ok-starts.ensures.items in
    record {
      rows = no_rows xs c.push.new.self.items c.in_ok-numbers.numbers.items starts c.in_ok-numbers.ensures.items;
      counted = ap length c.in_ok-numbers.ensures.items ∙ sym (none_below xs (length xs));
    }

pub overflow_cast-len : goal.overflow_cast-len
overflow_cast-len c =
    let xs = c.args.self.now.rests.items in
    let k = c.loop-rest.rest in
    let before = c.loop-rest.numbers.items in
    let long = c.len-in-loop-rest.ensures ∙ (c.push_row.new.numbers.ok.0 ∙ ap length c.in_ok-push_row.ensures) in
    let sum = length-append before (row_of xs k) in
    let fit = rows_fit xs k (length before) c.loop-rest.invariant.counted in
    let few = c.args.self.now.few in
    omega arith
