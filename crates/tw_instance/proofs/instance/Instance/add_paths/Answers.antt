use Rattle.std.proofs.Common.{◌≤◌, ◌+◌, ◌++◌, ℕ, length, drop, take, refl, ap, subst, sym, ◌∙◌, arith}
use Rattle.std.proofs.lemmas.List.{at_drop_all, length_push}
use Rattle.std.proofs.lemmas.List.FromFn.{length-enumerate_from}
use Rattle.std.proofs.lemmas.Iterator.Adapters.{YieldsList-from_vec}
use Rattle.std.proofs.lemmas.Iterator.Consumers.{YieldsList-end, YieldsList-from_enumerate, YieldsList-turn}
use Rattle.tw_model.specs.Rules.{path_fault}
use Rattle.tw_instance.specs.Build.{judged_paths}
use Rattle.tw_instance.specs.declared.refusal.At.{At}
use Rattle.tw_instance.specs.declared.refusal.Item.TheVariants.{Path}
use Rattle.tw_instance.proofs.Told.{Covers, after_path, covers_end, covers_here, first_path, turn_of}
use Rattle.tw_instance.proofs.instance.Instance.add_paths.Goals as goal

pub returns-in-Err-clause-told : goal.returns-in-Err-clause-told
returns-in-Err-clause-told c =
    let all = c.args.paths.items in
    let net = c.loop-i.self in
    let n = length c.loop-i.yielded in
    let p = c.in-Some.path in
    let chain = YieldsList-from_enumerate {s = c.into_iter-i-iterator.result} (YieldsList-from_vec all (cc) (cc)) (cc) in
    let t = turn_of all n c.in-Some.i p (YieldsList-turn chain c.loop-i.yielded _ c.loop-i.yielded_by _ c.next.new.self (c.in-Some.i, p) c.in-Some.is c.next.ensures.steps) in
    let at = λ (i : ℕ). (let made : At = record { item = Path (i + 1); fault = c.in-Err.fault } in made) in
    covers_here _ _ _ (path_fault net p) (Path (n + 1)) c.in-Err.fault (at c.in-Some.i) refl c.loop-i.invariant.covers (first_path net all n p t.0 t.2) c.in-Err.ensures.rule (ap at t.1)

pub returns-clause-told : goal.returns-clause-told
returns-clause-told c =
    let all = c.args.paths.items in
    let n = length c.loop-i.yielded in
    let chain = YieldsList-from_enumerate {s = c.into_iter-i-iterator.result} (YieldsList-from_vec all (cc) (cc)) (cc) in
    let end = YieldsList-end chain c.loop-i.yielded _ c.loop-i.yielded_by _ c.next.new.self c.in-None.is c.next.ensures.steps in
    let past : length all ≤ n = (let long = length-enumerate_from 0 all in let same = end.1 in omega arith) in
    covers_end _ _ c.loop-i.invariant.covers (at_drop_all (judged_paths c.loop-i.self (n + 1)) all n past)

pub loop-i-preserved : goal.loop-i-preserved
loop-i-preserved c =
    let all = c.args.paths.items in
    let net = c.loop-i.self in
    let n = length c.loop-i.yielded in
    let p = c.in-Some.path in
    let old = c.args.self.now in
    let chain = YieldsList-from_enumerate {s = c.into_iter-i-iterator.result} (YieldsList-from_vec all (cc) (cc)) (cc) in
    let t = turn_of all n c.in-Some.i p (YieldsList-turn chain c.loop-i.yielded _ c.loop-i.yielded_by _ c.next.new.self (c.in-Some.i, p) c.in-Some.is c.next.ensures.steps) in
    let more = c.add_path.new.self in
    let after = after_path net more old all n p t.0 t.2 c.in_default.ensures.ok c.in_default.ensures.kept c.loop-i.invariant.taken c.loop-i.invariant.covers in
    let next = length_push c.loop-i.yielded (c.in-Some.i, p) in
    record {
      taken = after.0 ∙ ap (λ m. record old { permitted = old.permitted ++ take m all }) (sym next);
      covers = subst (λ m. Covers (judged_paths more (m + 1) (drop m all)) (judged_paths old 1 all)) (sym next) after.1;
    }
